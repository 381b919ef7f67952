-- Tokens of a bounded refutation that leave no open node are a refutation, and a refutation is fed
-- whole.
use Rattle.std.proofs.Common.{◌≡◌, ℕ, zero, suc, pred, ◌<◌, ◌≤◌, refl, sym, ap, subst, ◌∙◌, arith, List, [], ◌∷◌, ◌++◌}
use Rattle.std.proofs.Common.{map, length, append_assoc, Some, None}
use Rattle.std.proofs.lemmas.List.{map-append}
use Rattle.packing_terms.specs.declared.Exclusion.{Exclusion}
use Rattle.packing_terms.specs.Packing.{PlainInstance}
use Rattle.packing_terms.specs.Goals.{subset}
use Rattle.packing_terms.specs.Tokens.{PlainToken}
use Rattle.packing_terms.specs.Tokens.PlainToken.{Apart, Order, Rules, TooLarge, Scales, Assign, Choose, SetRefuted}
use Rattle.packing_terms.specs.Tokens.PlainToken.{ValueShort, GlobalScales}
use Rattle.packing_terms.specs.Feeding.{children, Feeds}
use Rattle.packing_terms.specs.OuterRefutation.{Choice, with_taken, with_left}
use Rattle.packing_terms.specs.OuterFeeding.{OpenNode, Outer, Inner}
use Rattle.packing_terms.proofs.Fed.{fed, fed_refutes}
use Rattle.verdict_terms.specs.BoundedRefutation.{BoundedToken, Plain, PricedOut, Exchange, RefutesBounded, none_left}
use Rattle.verdict_terms.specs.BoundedRefutation.{by_value, by_price, by_exchange, by_set, by_box}
use Rattle.verdict_terms.specs.BoundedFeeding.{FeedsBounded, bounded_children}

module _ (instance : PlainInstance) (goal : ℕ) where
  abbrev as_bounded : List PlainToken → List BoundedToken
  as_bounded x = map (λ t. Plain t) x

  abbrev inner : List ℕ → List (List Exclusion) → List (OpenNode Choice)
  inner keep nodes = map (λ es. Inner keep es) nodes

  -- tokens are fed in parts
  pub bounded_append : (nodes between : List (OpenNode Choice)) (x y : List BoundedToken) (left : List (OpenNode Choice))
      → FeedsBounded instance goal nodes x between → FeedsBounded instance goal between y left
      → FeedsBounded instance goal nodes (x ++ y) left
  bounded_append nodes between [] y left h k = subst (λ l. FeedsBounded instance goal l y left) (sym h) k
  bounded_append [] between (t ∷ x) y left h k = absurd h
  bounded_append (n ∷ nodes) between (t ∷ x) y left h k =
      (h.0, bounded_append (bounded_children n t ++ nodes) between x y left h.1 k)

  pub bounded_part : (nodes : List (OpenNode Choice)) (x y : List BoundedToken) (left : List (OpenNode Choice))
      → FeedsBounded instance goal nodes (x ++ y) left
      → (between : List (OpenNode Choice)) × FeedsBounded instance goal nodes x between
      × FeedsBounded instance goal between y left
  bounded_part nodes [] y left h = (nodes, refl, h)
  bounded_part [] (t ∷ x) y left h = absurd h
  bounded_part (n ∷ nodes) (t ∷ x) y left h =
      let rest = bounded_part (bounded_children n t ++ nodes) x y left h.1 in (rest.0, (h.0, rest.1), rest.2)

  step : (keep : List ℕ) (es : List Exclusion) (t : PlainToken) (nodes : List (List Exclusion))
      (behind : List (OpenNode Choice))
      → inner keep (children es t) ++ (inner keep nodes ++ behind) ≡ inner keep (children es t ++ nodes) ++ behind
  step keep es t nodes behind =
      sym (append_assoc (inner keep (children es t)) (inner keep nodes) behind)
      ∙ ap (λ l. l ++ behind) (sym (map-append (λ fs. Inner keep fs) (children es t) nodes))

  -- the tokens of an inner tree, fed to its nodes
  inner_fed : (keep : List ℕ) (nodes : List (List Exclusion)) (x : List PlainToken) (left : List (List Exclusion))
      (behind : List (OpenNode Choice)) → Feeds (subset instance keep) nodes x left
      → FeedsBounded instance goal (inner keep nodes ++ behind) (as_bounded x) (inner keep left ++ behind)
  inner_fed keep nodes [] left behind h = ap (λ l. inner keep l ++ behind) h
  inner_fed keep [] (t ∷ x) left behind h = absurd h
  inner_fed keep (es ∷ nodes) (t ∷ x) left behind h = (
    h.0,
    subst (λ l. FeedsBounded instance goal l (as_bounded x) (inner keep left ++ behind))
        (sym (step keep es t nodes behind))
        (inner_fed keep (children es t ++ nodes) x left behind h.1),
  )

  -- the tokens of the inner nodes, and those of the nodes behind them
  record Parts (keep : List ℕ) (nodes : List (List Exclusion)) (z : List BoundedToken)
      (behind : List (OpenNode Choice)) : Type 0 where
    own : List PlainToken
    rest : List BoundedToken
    joined : z ≡ as_bounded own ++ rest
    shorter : length rest ≤ length z
    feeds : Feeds (subset instance keep) nodes own []
    rest_feeds : FeedsBounded instance goal behind rest []

  inner_parts : (keep : List ℕ) (nodes : List (List Exclusion)) (z : List BoundedToken)
      (behind : List (OpenNode Choice))
      → FeedsBounded instance goal (inner keep nodes ++ behind) z [] → Parts keep nodes z behind
  inner_parts keep [] z behind h =
      record { own = []; rest = z; joined = refl; shorter = omega arith; feeds = refl; rest_feeds = h }
  inner_parts keep (es ∷ nodes) [] behind h = absurd (cc)
  inner_parts keep (es ∷ nodes) (PricedOut q p fs ∷ z) behind h = absurd h.0
  inner_parts keep (es ∷ nodes) (Exchange u v ∷ z) behind h = absurd h.0
  inner_parts keep (es ∷ nodes) (Plain t ∷ z) behind h =
      let p = inner_parts keep (children es t ++ nodes) z behind
      (subst (λ l. FeedsBounded instance goal l z []) (step keep es t nodes behind) h.1) in
      record {
        own = t ∷ p.own;
        rest = p.rest;
        joined = ap (λ l. Plain t ∷ l) p.joined;
        shorter = (let l = p.shorter in omega (arith, l));
        feeds = (h.0, p.feeds);
        rest_feeds = p.rest_feeds;
      }

  abbrev outer : List Choice → List (OpenNode Choice)
  outer nodes = map (λ n. Outer n) nodes

  pub bounded_fed : {nodes : List Choice} {z : List BoundedToken} → RefutesBounded instance goal nodes z
      → FeedsBounded instance goal (outer nodes) z []
  bounded_fed none_left = refl
  bounded_fed (by_value h rest) = (h, bounded_fed rest)
  bounded_fed (by_price h rest) = (h, bounded_fed rest)
  bounded_fed (by_exchange h rest) = (h, bounded_fed rest)
  bounded_fed (by_set {c = c} {nodes = nodes} {x = x} {y = y} some inside e rest) = (
    some,
    subst (λ z. FeedsBounded instance goal (Inner c.taken [] ∷ outer nodes) z []) (sym e)
        (bounded_append (Inner c.taken [] ∷ outer nodes) (outer nodes) (as_bounded x) y []
        (inner_fed c.taken ([] ∷ []) x [] (outer nodes) (fed (subset instance c.taken) inside []))
        (bounded_fed rest)),
  )
  bounded_fed (by_box free rest) = (free, bounded_fed rest)

  fed_bounded : (n : ℕ) (z : List BoundedToken) (nodes : List Choice) → length z < n
      → FeedsBounded instance goal (outer nodes) z [] → RefutesBounded instance goal nodes z
  fed_bounded zero z nodes l h = absurd (omega arith)
  fed_bounded (suc n) [] [] l h = none_left
  fed_bounded (suc n) [] (c ∷ nodes) l h = absurd (cc)
  fed_bounded (suc n) (t ∷ z) [] l h = absurd h
  fed_bounded (suc n) (PricedOut q p fs ∷ z) (c ∷ nodes) l h = by_price h.0 (fed_bounded n z nodes (omega arith) h.1)
  fed_bounded (suc n) (Exchange u v ∷ z) (c ∷ nodes) l h = by_exchange h.0 (fed_bounded n z nodes (omega arith) h.1)
  fed_bounded (suc n) (Plain ValueShort ∷ z) (c ∷ nodes) l h = by_value h.0 (fed_bounded n z nodes (omega arith) h.1)
  fed_bounded (suc n) (Plain (SetRefuted None) ∷ z) (c ∷ nodes) l h =
      let p = inner_parts c.taken ([] ∷ []) z (outer nodes) h.1 in
      by_set h.0 (fed_refutes (subset instance c.taken) [] p.own p.feeds) p.joined
      (fed_bounded n p.rest nodes (let s = p.shorter in omega (arith, l, s)) p.rest_feeds)
  fed_bounded (suc n) (Plain (Choose v) ∷ z) (c ∷ nodes) l h =
      by_box h.0 (fed_bounded n z (with_taken c (pred v) ∷ with_left c (pred v) ∷ nodes) (omega arith) h.1)
  fed_bounded (suc n) (Plain (SetRefuted (Some b)) ∷ z) (c ∷ nodes) l h = absurd h.0
  fed_bounded (suc n) (Plain (Apart i u v) ∷ z) (c ∷ nodes) l h = absurd h.0
  fed_bounded (suc n) (Plain (Order i u v) ∷ z) (c ∷ nodes) l h = absurd h.0
  fed_bounded (suc n) (Plain Rules ∷ z) (c ∷ nodes) l h = absurd h.0
  fed_bounded (suc n) (Plain (TooLarge v i) ∷ z) (c ∷ nodes) l h = absurd h.0
  fed_bounded (suc n) (Plain (Scales fs) ∷ z) (c ∷ nodes) l h = absurd h.0
  fed_bounded (suc n) (Plain (Assign v) ∷ z) (c ∷ nodes) l h = absurd h.0
  fed_bounded (suc n) (Plain (GlobalScales fs) ∷ z) (c ∷ nodes) l h = absurd h.0

  pub fed_refutes_bounded : (z : List BoundedToken) (nodes : List Choice) → FeedsBounded instance goal (outer nodes) z []
      → RefutesBounded instance goal nodes z
  fed_refutes_bounded z nodes h = fed_bounded (suc (length z)) z nodes (omega arith) h
