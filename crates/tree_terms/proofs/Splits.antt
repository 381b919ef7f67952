-- At an unsettled pair of a closure without conflict there is a dimension to split in.
use Rattle.std.proofs.Common.{◌≡◌, ℕ, ◌<◌, ◌≤◌, refl, sym, ◌∙◌, arith, Bool, true, false, not, ◌&&◌, ◌||◌, List, None}
use Rattle.std.specs.List.{find}
use Rattle.std.proofs.lemmas.Bool.{true≢false}
use Rattle.packing_terms.specs.declared.Rel.TheVariants.{Overlap, Before, After}
use Rattle.packing_terms.specs.declared.Exclusion.{Exclusion}
use Rattle.packing_terms.specs.Packing.{PlainInstance, dims, box_count}
use Rattle.packing_terms.specs.Exclusions.{excludes, IsJoined}
use Rattle.packing_terms.specs.Rules.{Apart, by_rule}
use Rattle.packing_terms.proofs.Members.{IsIn, any_from, in_range, range_in}
use Rattle.packing_terms.proofs.Found.{find_none, any_false}
use Rattle.packing_terms.specs.Rounds.{closure, has_empty_mask}
use Rattle.packing_terms.specs.Sums.{below}
use Rattle.packing_terms.proofs.RoundsLemmas.{closure_stable}
use Rattle.tree_terms.specs.InnerTree.{is_settled, is_apart_somewhere, has_order_mask, has_apart_mask}
use Rattle.packing_terms.proofs.Conflicts.{all_three}

-- facts of three tests
unsettled : (o b a : Bool) → o ≡ true → (o && not b && not a) ≡ false → (o && (b || a) && not (b && a)) ≡ false
    → (b ≡ true) × (a ≡ true)
unsettled true true true h f g = (refl, refl)
unsettled true true false h f g = absurd (true≢false g)
unsettled true false true h f g = absurd (true≢false g)
unsettled true false false h f g = absurd (true≢false f)
unsettled false b a h f g = absurd (true≢false (sym h))

both_shut : (o b a : Bool) → o ≡ false → (not o && (not b || not a)) ≡ false → (b ≡ true) × (a ≡ true)
both_shut false true true h f = (refl, refl)
both_shut false true false h f = absurd (true≢false f)
both_shut false false a h f = absurd (true≢false f)
both_shut true b a h f = absurd (true≢false h)

module _ (instance : PlainInstance) where
  -- a pair that is apart somewhere and unsettled has a dimension with before and after
  pub order_there : (es : List Exclusion) (p : ℕ × ℕ) → p.0 < p.1 → p.1 < box_count instance
      → has_empty_mask (excludes (closure instance es)) (dims instance) (box_count instance) ≡ false
      → is_settled (excludes (closure instance es)) (dims instance) p ≡ false
      → is_apart_somewhere (excludes (closure instance es)) (dims instance) p ≡ true
      → find (has_order_mask (excludes (closure instance es)) p) (below (dims instance)) ≡ None → ⊥
  order_there es p huv hv no_conflict unsettled_pair e f =
      let a = any_from (λ i. excludes (closure instance es) i p.0 p.1 Overlap) (below (dims instance)) e in
      let r = range_in 0 (dims instance) a.item a.is_in in
      let hi : a.item < dims instance = omega (arith, r) in
      let k = find_none (has_order_mask (excludes (closure instance es)) p) (below (dims instance)) f a.item a.is_in in
      let l = any_false (λ i. excludes (closure instance es) i p.0 p.1 Overlap
      && (excludes (closure instance es) i p.0 p.1 Before || excludes (closure instance es) i p.0 p.1 After)
      && not (excludes (closure instance es) i p.0 p.1 Before && excludes (closure instance es) i p.0 p.1 After)) a.item
      (below (dims instance)) unsettled_pair a.is_in in
      let both = unsettled _ _ _ a.passes k l in
      true≢false (sym (all_three (excludes (closure instance es)) (dims instance) (box_count instance) a.item p.0 p.1 hi
      huv hv a.passes both.0 both.1) ∙ no_conflict)

  -- a pair that is apart nowhere has a dimension with overlap and another relation, by APART
  pub apart_there : 1 ≤ dims instance → (es : List Exclusion) (p : ℕ × ℕ) → p.0 < p.1 → p.1 < box_count instance
      → is_apart_somewhere (excludes (closure instance es)) (dims instance) p ≡ false
      → find (has_apart_mask (excludes (closure instance es)) p) (below (dims instance)) ≡ None → ⊥
  apart_there some_dim es p huv hv e g =
      let joined : (k : ℕ) → k < dims instance → IsJoined (excludes (closure instance es)) k p.0 p.1 = λ k l.
      both_shut _ _ _ (any_false (λ m. excludes (closure instance es) m p.0 p.1 Overlap) k (below (dims instance)) e
      (shut_in k l))
      (find_none (has_apart_mask (excludes (closure instance es)) p) (below (dims instance)) g k (shut_in k l)) in
      let apart : excludes (closure instance es) 0 p.0 p.1 Overlap ≡ true =
      closure_stable instance es 0 p.0 p.1 Overlap (by_rule (Apart 0 p.0 p.1) Overlap
      (omega arith, (omega arith, ((λ q. (omega (arith, q))), tt), (hv, tt, tt))) (λ k l ne. joined k l) refl) in
      true≢false (sym apart ∙ any_false (λ m. excludes (closure instance es) m p.0 p.1 Overlap) 0
      (below (dims instance)) e (shut_in 0 (omega arith)))
    where
      shut_in : (i : ℕ) → i < dims instance → IsIn i (below (dims instance))
      shut_in i h = in_range 0 (dims instance) i (omega arith) (omega arith)
