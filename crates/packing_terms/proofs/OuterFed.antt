-- Outer tokens that leave no open node are a refutation, and a refutation is fed whole.
use Rattle.std.proofs.Common.{◌≡◌, ℕ, zero, suc, pred, ◌<◌, ◌≤◌, refl, sym, ap, subst, ◌∙◌, arith, List, [], ◌∷◌, ◌++◌}
use Rattle.std.proofs.Common.{map, length, append_assoc, Some, None}
use Rattle.std.proofs.lemmas.List.{map-append}
use Rattle.packing_terms.specs.declared.Exclusion.{Exclusion}
use Rattle.packing_terms.specs.Packing.{PlainInstance}
use Rattle.packing_terms.specs.Goals.{subset}
use Rattle.packing_terms.specs.Tokens.{PlainToken}
use Rattle.packing_terms.specs.Tokens.PlainToken.{Apart, Order, Rules, TooLarge, Scales, Assign, Choose, SetRefuted}
use Rattle.packing_terms.specs.Tokens.PlainToken.{ValueShort, GlobalScales}
use Rattle.packing_terms.specs.Feeding.{FeedsBy, Accepts, children, Feeds}
use Rattle.packing_terms.specs.OuterRefutation.{Bins, bin_named, placements, RefutesBins, Choice, with_taken, with_left}
use Rattle.packing_terms.specs.OuterRefutation.{RefutesValue}
use Rattle.packing_terms.specs.OuterRefutation.{none_left, by_scales, by_value, by_set, by_box}
use Rattle.packing_terms.specs.OuterFeeding.{OpenNode, Outer, Inner, AcceptsBins, bin_children, FeedsBins, AcceptsValue}
use Rattle.packing_terms.specs.OuterFeeding.{choice_children, FeedsValue}
use Rattle.packing_terms.proofs.Fed.{feeds_append, fed, fed_refutes}

-- the tokens of an inner tree, fed to the open nodes of an outer one
module _ {Node : Type 0} (instance : PlainInstance) (Takes : OpenNode Node → PlainToken → Type 0)
    (below : OpenNode Node → PlainToken → List (OpenNode Node))
    (into : (keep : List ℕ) (es : List Exclusion) (t : PlainToken) → Accepts (subset instance keep) es t
    → Takes (Inner keep es) t)
    (back : (keep : List ℕ) (es : List Exclusion) (t : PlainToken) → Takes (Inner keep es) t
    → Accepts (subset instance keep) es t)
    (same : (keep : List ℕ) (es : List Exclusion) (t : PlainToken)
    → below (Inner keep es) t ≡ map (λ fs. Inner keep fs) (children es t)) where
  abbrev inner : List ℕ → List (List Exclusion) → List (OpenNode Node)
  inner keep nodes = map (λ es. Inner keep es) nodes

  step : (keep : List ℕ) (es : List Exclusion) (t : PlainToken) (nodes : List (List Exclusion))
      (behind : List (OpenNode Node))
      → below (Inner keep es) t ++ (inner keep nodes ++ behind) ≡ inner keep (children es t ++ nodes) ++ behind
  step keep es t nodes behind =
      ap (λ l. l ++ (inner keep nodes ++ behind)) (same keep es t)
      ∙ (sym (append_assoc (inner keep (children es t)) (inner keep nodes) behind)
      ∙ ap (λ l. l ++ behind) (sym (map-append (λ fs. Inner keep fs) (children es t) nodes)))

  pub inner_fed : (keep : List ℕ) (nodes : List (List Exclusion)) (x : List PlainToken) (left : List (List Exclusion))
      (behind : List (OpenNode Node))
      → Feeds (subset instance keep) nodes x left
      → FeedsBy Takes below (inner keep nodes ++ behind) x (inner keep left ++ behind)
  inner_fed keep nodes [] left behind h = ap (λ l. inner keep l ++ behind) h
  inner_fed keep [] (t ∷ x) left behind h = absurd h
  inner_fed keep (es ∷ nodes) (t ∷ x) left behind h = (
    into keep es t h.0,
    subst (λ l. FeedsBy Takes below l x (inner keep left ++ behind)) (sym (step keep es t nodes behind))
        (inner_fed keep (children es t ++ nodes) x left behind h.1),
  )

  -- the tokens of the inner nodes, and those of the nodes behind them
  pub record Parts (keep : List ℕ) (nodes : List (List Exclusion)) (z : List PlainToken)
      (behind : List (OpenNode Node)) : Type 0 where
    pub own : List PlainToken
    pub rest : List PlainToken
    pub joined : z ≡ own ++ rest
    pub shorter : length rest ≤ length z
    pub feeds : Feeds (subset instance keep) nodes own []
    pub rest_feeds : FeedsBy Takes below behind rest []

  pub inner_parts : (keep : List ℕ) (nodes : List (List Exclusion)) (z : List PlainToken)
      (behind : List (OpenNode Node))
      → FeedsBy Takes below (inner keep nodes ++ behind) z [] → Parts keep nodes z behind
  inner_parts keep [] z behind h =
      record { own = []; rest = z; joined = refl; shorter = omega arith; feeds = refl; rest_feeds = h }
  inner_parts keep (es ∷ nodes) [] behind h = absurd (cc)
  inner_parts keep (es ∷ nodes) (t ∷ z) behind h =
      let p = inner_parts keep (children es t ++ nodes) z behind
      (subst (λ l. FeedsBy Takes below l z []) (step keep es t nodes behind) h.1) in
      record {
        own = t ∷ p.own;
        rest = p.rest;
        joined = ap (λ l. t ∷ l) p.joined;
        shorter = (let l = p.shorter in omega (arith, l));
        feeds = (back keep es t h.0, p.feeds);
        rest_feeds = p.rest_feeds;
      }

module _ (instance : PlainInstance) (k : ℕ) where
  abbrev outer_bins : List Bins → List (OpenNode Bins)
  outer_bins nodes = map (λ n. Outer n) nodes

  pub bins_fed : {nodes : List Bins} {z : List PlainToken} → RefutesBins instance k nodes z
      → FeedsBins instance k (outer_bins nodes) z []
  bins_fed none_left = refl
  bins_fed (by_scales h rest) = (h, bins_fed rest)
  bins_fed (by_set {bins = bins} {nodes = nodes} {b = b} {x = x} {y = y} used inside e rest) = (
    used,
    subst (λ z. FeedsBins instance k (Inner (bin_named bins b) [] ∷ outer_bins nodes) z []) (sym e)
        (feeds_append (AcceptsBins instance k) (bin_children k) _ x y (outer_bins nodes) []
        (inner_fed instance (AcceptsBins instance k) (bin_children k) (λ keep es t h. h) (λ keep es t h. h)
        (λ keep es t. refl)
        (bin_named bins b) ([] ∷ []) x [] (outer_bins nodes) (fed (subset instance (bin_named bins b)) inside []))
        (bins_fed rest)),
  )
  bins_fed (by_box {bins = bins} {nodes = nodes} {v = v} {z = z} free rest) = (
    free,
    subst (λ l. FeedsBins instance k l z []) (map-append (λ n. Outer n) (placements k bins (pred v)) nodes)
        (bins_fed rest),
  )

  fed_bins : (n : ℕ) (z : List PlainToken) (nodes : List Bins) → length z < n
      → FeedsBins instance k (outer_bins nodes) z [] → RefutesBins instance k nodes z
  fed_bins zero z nodes l h = absurd (omega arith)
  fed_bins (suc n) [] [] l h = none_left
  fed_bins (suc n) [] (bins ∷ nodes) l h = absurd (cc)
  fed_bins (suc n) (t ∷ z) [] l h = absurd h
  fed_bins (suc n) (GlobalScales fs ∷ z) (bins ∷ nodes) l h = by_scales h.0 (fed_bins n z nodes (omega arith) h.1)
  fed_bins (suc n) (SetRefuted (Some b) ∷ z) (bins ∷ nodes) l h =
      let p = inner_parts instance (AcceptsBins instance k) (bin_children k) (λ keep es t h. h) (λ keep es t h. h)
      (λ keep es t. refl)
      (bin_named bins b) ([] ∷ []) z (outer_bins nodes) h.1 in
      by_set h.0 (fed_refutes (subset instance (bin_named bins b)) [] p.own p.feeds) p.joined
      (fed_bins n p.rest nodes (let s = p.shorter in omega (arith, l, s)) p.rest_feeds)
  fed_bins (suc n) (Assign v ∷ z) (bins ∷ nodes) l h =
      by_box h.0 (fed_bins n z (placements k bins (pred v) ++ nodes) (omega arith)
      (subst (λ m. FeedsBins instance k m z [])
      (sym (map-append (λ x. Outer x) (placements k bins (pred v)) nodes)) h.1))
  fed_bins (suc n) (SetRefuted None ∷ z) (bins ∷ nodes) l h = absurd h.0
  fed_bins (suc n) (Apart i u v ∷ z) (bins ∷ nodes) l h = absurd h.0
  fed_bins (suc n) (Order i u v ∷ z) (bins ∷ nodes) l h = absurd h.0
  fed_bins (suc n) (Rules ∷ z) (bins ∷ nodes) l h = absurd h.0
  fed_bins (suc n) (TooLarge v i ∷ z) (bins ∷ nodes) l h = absurd h.0
  fed_bins (suc n) (Scales fs ∷ z) (bins ∷ nodes) l h = absurd h.0
  fed_bins (suc n) (Choose v ∷ z) (bins ∷ nodes) l h = absurd h.0
  fed_bins (suc n) (ValueShort ∷ z) (bins ∷ nodes) l h = absurd h.0

  pub fed_refutes_bins : (z : List PlainToken) (nodes : List Bins) → FeedsBins instance k (outer_bins nodes) z []
      → RefutesBins instance k nodes z
  fed_refutes_bins z nodes h = fed_bins (suc (length z)) z nodes (omega arith) h

module _ (instance : PlainInstance) (goal : ℕ) where
  abbrev outer_choices : List Choice → List (OpenNode Choice)
  outer_choices nodes = map (λ n. Outer n) nodes

  pub value_fed : {nodes : List Choice} {z : List PlainToken} → RefutesValue instance goal nodes z
      → FeedsValue instance goal (outer_choices nodes) z []
  value_fed none_left = refl
  value_fed (by_value h rest) = (h, value_fed rest)
  value_fed (by_set {c = c} {nodes = nodes} {x = x} {y = y} some inside e rest) = (
    some,
    subst (λ z. FeedsValue instance goal (Inner c.taken [] ∷ outer_choices nodes) z []) (sym e)
        (feeds_append (AcceptsValue instance goal) choice_children _ x y (outer_choices nodes) []
        (inner_fed instance (AcceptsValue instance goal) choice_children (λ keep es t h. h) (λ keep es t h. h)
        (λ keep es t. refl)
        c.taken ([] ∷ []) x [] (outer_choices nodes) (fed (subset instance c.taken) inside []))
        (value_fed rest)),
  )
  value_fed (by_box free rest) = (free, value_fed rest)

  fed_value : (n : ℕ) (z : List PlainToken) (nodes : List Choice) → length z < n
      → FeedsValue instance goal (outer_choices nodes) z [] → RefutesValue instance goal nodes z
  fed_value zero z nodes l h = absurd (omega arith)
  fed_value (suc n) [] [] l h = none_left
  fed_value (suc n) [] (c ∷ nodes) l h = absurd (cc)
  fed_value (suc n) (t ∷ z) [] l h = absurd h
  fed_value (suc n) (ValueShort ∷ z) (c ∷ nodes) l h = by_value h.0 (fed_value n z nodes (omega arith) h.1)
  fed_value (suc n) (SetRefuted None ∷ z) (c ∷ nodes) l h =
      let p = inner_parts instance (AcceptsValue instance goal) choice_children (λ keep es t h. h) (λ keep es t h. h)
      (λ keep es t. refl)
      c.taken ([] ∷ []) z (outer_choices nodes) h.1 in
      by_set h.0 (fed_refutes (subset instance c.taken) [] p.own p.feeds) p.joined
      (fed_value n p.rest nodes (let s = p.shorter in omega (arith, l, s)) p.rest_feeds)
  fed_value (suc n) (Choose v ∷ z) (c ∷ nodes) l h =
      by_box h.0 (fed_value n z (with_taken c (pred v) ∷ with_left c (pred v) ∷ nodes) (omega arith) h.1)
  fed_value (suc n) (SetRefuted (Some b) ∷ z) (c ∷ nodes) l h = absurd h.0
  fed_value (suc n) (Apart i u v ∷ z) (c ∷ nodes) l h = absurd h.0
  fed_value (suc n) (Order i u v ∷ z) (c ∷ nodes) l h = absurd h.0
  fed_value (suc n) (Rules ∷ z) (c ∷ nodes) l h = absurd h.0
  fed_value (suc n) (TooLarge v i ∷ z) (c ∷ nodes) l h = absurd h.0
  fed_value (suc n) (Scales fs ∷ z) (c ∷ nodes) l h = absurd h.0
  fed_value (suc n) (Assign v ∷ z) (c ∷ nodes) l h = absurd h.0
  fed_value (suc n) (GlobalScales fs ∷ z) (c ∷ nodes) l h = absurd h.0

  pub fed_refutes_value : (z : List PlainToken) (nodes : List Choice)
      → FeedsValue instance goal (outer_choices nodes) z [] → RefutesValue instance goal nodes z
  fed_refutes_value z nodes h = fed_value (suc (length z)) z nodes (omega arith) h
