-- The outcome of an outer search is right.
use Rattle.std.proofs.Common.{◌≡◌, ℕ, suc, pred, ◌+◌, ◌<◌, sym, ap, subst, ◌∙◌, arith, List, [], ◌∷◌, ◌++◌, length}
use Rattle.std.proofs.Common.{get_or, append_assoc, append-nil}
use Rattle.packing_terms.specs.Packing.{PlainInstance}
use Rattle.packing_terms.specs.Tokens.{PlainToken}
use Rattle.packing_terms.specs.Tokens.PlainToken.{Assign, Choose}
use Rattle.packing_terms.specs.OuterRefutation.{Bins, placements, RefutesBins, Choice, with_taken, with_left}
use Rattle.packing_terms.specs.OuterRefutation.{RefutesValue, none_left, by_scales, by_value, by_set, by_box, IsOpenBox}
use Rattle.tree_terms.specs.Trees.{SearchTree, Settled, Refuted, Split, Verdict, Yes, No, no_tokens, join, join_from}
use Rattle.tree_terms.specs.Trees.{outcome}
use Rattle.tree_terms.specs.OuterSearch.{AreBinNumbers, IsBinSearch, IsBinRight, IsChoiceSearch, IsChoiceRight}
use Rattle.tree_terms.proofs.Joins.{join_next}

module _ (instance : PlainInstance) (k : ℕ) where
  -- refutations of some nodes and of others, one after another
  pub bins_append : {xs ys : List Bins} {x y : List PlainToken} → RefutesBins instance k xs x
      → RefutesBins instance k ys y → RefutesBins instance k (xs ++ ys) (x ++ y)
  bins_append none_left rest = rest
  bins_append (by_scales h more) rest = by_scales h (bins_append more rest)
  bins_append {y = y} (by_set {x = a} {y = b} used inner e more) rest =
      by_set used inner (ap (λ z. z ++ y) e ∙ append_assoc a b y) (bins_append more rest)
  bins_append {ys = ys} {y = y} (by_box {bins = bins} {nodes = nodes} {v = v} {z = z} free more) rest =
      by_box free (subst (λ (l : List Bins). RefutesBins instance k l (z ++ y))
      (append_assoc (placements k bins (pred v)) nodes ys) (bins_append more rest))

  -- the verdicts of some nodes, joined
  abbrev AllRight : List Bins → Verdict → Type 0
  AllRight nodes (Yes numbers count) = AreBinNumbers instance k numbers
  AllRight nodes (No tokens count) = RefutesBins instance k nodes tokens

  joined_right : (nodes : List Bins) (f : ℕ → Verdict) (from : ℕ)
      → ((b : ℕ) → b < length nodes → IsBinRight instance k (get_or nodes b []) (f (from + b)))
      → AllRight nodes (join_from from (length nodes) f)
  joined_right [] f from h = none_left
  joined_right (bins ∷ nodes) f from h =
      subst (λ (v : Verdict). AllRight (bins ∷ nodes) v) (sym (join_next from (length nodes) f))
      (go (f from) (join_from (from + 1) (length nodes) f)
      (let e : from + 0 ≡ from = omega arith in
      subst (λ (m : ℕ). IsBinRight instance k bins (f m)) e (h 0 (omega arith)))
      (joined_right nodes f (from + 1) (λ b l. let e : from + suc b ≡ from + 1 + b = omega arith in
      subst (λ (m : ℕ). IsBinRight instance k (get_or nodes b []) (f m)) e (h (suc b) (omega (arith, l))))))
    where
      go : (v w : Verdict) → IsBinRight instance k bins v → AllRight nodes w → AllRight (bins ∷ nodes) (join v w)
      go (Yes ns c) w a b = a
      go (No ts c) (Yes ns d) a b = b
      go (No ts c) (No us d) a b = bins_append a b

  pub bins_right : (tree : SearchTree) (bins : Bins) → IsBinSearch instance k bins tree
      → IsBinRight instance k bins (outcome tree)
  bins_right (Settled numbers own) bins h = h
  bins_right (Refuted tokens own) bins h = h
  bins_right (Split token own n child) bins h =
      go (joined_right (placements k bins (pred h.0)) (λ b. outcome (child b)) 0 (λ b l.
      let e : 0 + b ≡ b = omega arith in
      rw e (bins_right (child b) (get_or (placements k bins (pred h.0)) b [])
      (h.4 b (let c = h.3 in omega (arith, l, c))))))
    where
      last : (v : Verdict) → AllRight (placements k bins (pred h.0)) v
          → IsBinRight instance k bins (join (No (Assign h.0 ∷ []) own) v)
      last (Yes ns c) r = r
      last (No ts c) r = by_box h.2 (subst (λ (l : List Bins). RefutesBins instance k l ts)
          (sym (append-nil (placements k bins (pred h.0)))) r)

      go : AllRight (placements k bins (pred h.0))
          (join_from 0 (length (placements k bins (pred h.0))) (λ b. outcome (child b)))
          → IsBinRight instance k bins (join (No (token ∷ []) own) (join_from 0 n (λ b. outcome (child b))))
      go r =
          subst (λ (t : PlainToken). IsBinRight instance k bins
          (join (No (t ∷ []) own) (join_from 0 n (λ b. outcome (child b))))) (sym h.1)
          (subst (λ (m : ℕ). IsBinRight instance k bins
          (join (No (Assign h.0 ∷ []) own) (join_from 0 m (λ b. outcome (child b))))) (sym h.3)
          (last (join_from 0 (length (placements k bins (pred h.0))) (λ b. outcome (child b))) r))

module _ (instance : PlainInstance) (goal : ℕ) where
  pub value_append : {xs ys : List Choice} {x y : List PlainToken} → RefutesValue instance goal xs x
      → RefutesValue instance goal ys y
      → RefutesValue instance goal (xs ++ ys) (x ++ y)
  value_append none_left rest = rest
  value_append (by_value h more) rest = by_value h (value_append more rest)
  value_append {y = y} (by_set {x = a} {y = b} some inner e more) rest =
      by_set some inner (ap (λ z. z ++ y) e ∙ append_assoc a b y) (value_append more rest)
  value_append (by_box free more) rest = by_box free (value_append more rest)

  two_right : (c : Choice) (v own : ℕ) → IsOpenBox instance c v → (a b : Verdict)
      → IsChoiceRight instance goal (with_taken c (pred v)) a → IsChoiceRight instance goal (with_left c (pred v)) b
      → IsChoiceRight instance goal c (join (No (Choose v ∷ []) own)
      (elim a [
        | Yes ns d ↦ Yes ns d
        | No ts d ↦
            join (No ts d) (elim b [ Yes ns e ↦ Yes ns e | No us e ↦ join (No us e) no_tokens ])
      ]))
  two_right c v own free (Yes ns d) b ha hb = ha
  two_right c v own free (No ts d) (Yes ns e) ha hb = hb
  two_right c v own free (No ts d) (No us e) ha hb =
      by_box free (subst (λ (z : List PlainToken). RefutesValue instance goal
      (with_taken c (pred v) ∷ with_left c (pred v) ∷ []) (ts ++ z)) (sym (append-nil us)) (value_append ha hb))

  pub value_right : (tree : SearchTree) (c : Choice) → IsChoiceSearch instance goal c tree
      → IsChoiceRight instance goal c (outcome tree)
  value_right (Settled numbers own) c h = h
  value_right (Refuted tokens own) c h = h
  value_right (Split token own n child) c h =
      go (two_right c h.0 own h.2 (outcome (child 0)) (outcome (child 1))
      (value_right (child 0) (with_taken c (pred h.0)) h.4) (value_right (child 1) (with_left c (pred h.0)) h.5))
    where
      go : IsChoiceRight instance goal c (join (No (Choose h.0 ∷ []) own) (join_from 0 2 (λ b. outcome (child b))))
          → IsChoiceRight instance goal c (join (No (token ∷ []) own) (join_from 0 n (λ b. outcome (child b))))
      go r =
          subst (λ (t : PlainToken). IsChoiceRight instance goal c
          (join (No (t ∷ []) own) (join_from 0 n (λ b. outcome (child b))))) (sym h.1)
          (subst (λ (m : ℕ). IsChoiceRight instance goal c
          (join (No (Choose h.0 ∷ []) own) (join_from 0 m (λ b. outcome (child b))))) (sym h.3) r)
