-- What the answer for a strip says, from where the run of heights ended.
use Rattle.std.proofs.Common.{◌≡◌, ℕ, ◌+◌, ◌-◌, ◌*◌, ◌/◌, ◌^◌, ◌≤◌, refl, sym, ap, subst, ◌∙◌, arith, Bool, true, false}
use Rattle.std.proofs.Common.{List}
use Rattle.std.proofs.lemmas.Bool.{true≢false}
use Rattle.packing_terms.specs.declared.Exclusion.{Exclusion}
use Rattle.packing_terms.specs.Packing.{PlainInstance, IsPacking, Fits, dims, box_count}
use Rattle.packing_terms.specs.Goals.{with_last_side, HasTooWideBox, IsLeastHeight}
use Rattle.packing_terms.specs.Limits.{IsInternalInstance, max_height}
use Rattle.packing_terms.specs.TooLarge.{IsFirstTooWide}
use Rattle.packing_terms.specs.Refutation.{Refutes}
use Rattle.packing_terms.proofs.Neighbours.{fits_higher}
use Rattle.packing_terms.proofs.TooLarge.{too_wide}
use Rattle.tree_terms.specs.Levels.{PlainReached, HasBothCertificates, first_heights}
use Rattle.tree_terms.specs.RunEnds.{IsRisingEnd}
use Rattle.tree_terms.proofs.Optima.{stack_small}
use Rattle.tree_terms.specs.Heights.{height_run_from, DecideHeights}
use Rattle.tree_terms.proofs.Heights.{keeps_from, least_from, end_from, spent_from, enough_from}
use Rattle.strip_solver.specs.declared.strip.Strip.{Strip}
use Rattle.strip_solver.specs.declared.strip.Strip.TheVariants.{Least, Between, NoneFits}
use Rattle.strip_solver.specs.Strips.{Tells, IsAnswerFrom, IsTrueStripFrom, IsSpentExactlyFrom, IsFinal}

-- the first box that is too wide is one
has_wide : (instance : PlainInstance) (v i : ℕ) → IsFirstTooWide instance v i → HasTooWideBox instance
has_wide instance v i h = record {
  box_no = v;
  dim = i;
  there = h.there;
  not_last = (let r = h.in_range in omega (arith, r));
  large = h.large;
}

pub none_at_all : (instance : PlainInstance) (v i : ℕ) → IsFirstTooWide instance v i → (h : ℕ)
    → ¬ Fits (with_last_side instance h)
none_at_all instance v i w h = too_wide instance h (has_wide instance v i w)

module _ (start : List Exclusion) (instance : PlainInstance) (limits : IsInternalInstance instance)
    (decide : DecideHeights instance start) (narrow : ¬ HasTooWideBox instance)
    (budget : ℕ) (scales : Bool) (r : PlainReached) (run : r ≡ height_run_from start instance budget scales) where
  pub answer_told : (s : Strip) → Tells r s → IsAnswerFrom start instance budget scales s
  answer_told (Least height places tokens) t = (narrow, sym run ∙ t)
  answer_told (Between refuted tokens height places) t = (narrow, sym run ∙ t)
  answer_told (NoneFits v i) t = absurd t

  abbrev Both : PlainReached → Type 0
  Both x = HasBothCertificates (λ h ns. IsPacking (with_last_side instance h) ns)
      (λ h ts. Refutes (with_last_side instance h) start ts) x

  both : (x : PlainReached) → r ≡ x → Both x
  both x e = subst (λ (y : PlainReached). Both y) (sym run ∙ e)
      (keeps_from instance limits start decide narrow budget scales)

  least_at : (x : PlainReached) → r ≡ x → x.spent ≡ false → IsLeastHeight instance x.placed
  least_at x e u =
      let f : height_run_from start instance budget scales ≡ x = sym run ∙ e in
      subst (λ (y : PlainReached). IsLeastHeight instance y.placed) f
      (least_from instance limits start decide narrow budget scales (ap (λ (y : PlainReached). y.spent) f ∙ u))

  -- where the run ends
  pub ended : IsRisingEnd (first_heights instance) r
  ended = subst (λ (y : PlainReached). IsRisingEnd (first_heights instance) y) (sym run)
      (end_from instance start budget scales limits)

  pub placed_small : r.placed ≤ max_height
  placed_small = let a = ended.high in let b = stack_small instance limits in omega (arith, a, b)

  pub true_told : (s : Strip) → Tells r s → IsTrueStripFrom start instance s
  true_told (Least height places tokens) t =
      let k = both _ t in
      record { least = least_at _ t refl; packed = k.1; refuted = k.0 }
  true_told (Between refuted tokens height places) t =
      let order = ended.order in
      let k = both _ t in
      let a : r.refuted ≡ refuted = ap (λ (y : PlainReached). y.refuted) t in
      let b : r.placed ≡ height = ap (λ (y : PlainReached). y.placed) t in
      record {
        order = omega (arith, a, b, order);
        none_fits = (λ h l f. decide.refuted refuted tokens k.0
            (fits_higher instance h refuted l f));
        packed = k.1;
        refutes = k.0;
      }
  true_told (NoneFits v i) t = absurd t

  spent_run : (b : Bool) → r.spent ≡ b → (height_run_from start instance budget scales).spent ≡ b
  spent_run b e = sym (ap (λ (y : PlainReached). y.spent) run) ∙ e

  pub spent_told : (s : Strip) → Tells r s → IsSpentExactlyFrom start instance budget scales s
  spent_told (Least height places tokens) t =
      (λ large. true≢false (sym ((spent_from instance start budget scales).1 large)
      ∙ spent_run false (ap (λ (y : PlainReached). y.spent) t)))
  spent_told (Between refuted tokens height places) t =
      (spent_from instance start budget scales).0 (spent_run true (ap (λ (y : PlainReached). y.spent) t))
  spent_told (NoneFits v i) t = tt

  pub final_told : 3 ^ (dims instance * box_count instance * (box_count instance - 1) / 2) ≤ budget + 1 → (s : Strip)
      → Tells r s → IsFinal s
  final_told l (Least height places tokens) t = tt
  final_told l (Between refuted tokens height places) t =
      true≢false (sym (spent_run true (ap (λ (y : PlainReached). y.spent) t))
      ∙ enough_from instance start budget scales limits l)
  final_told l (NoneFits v i) t = tt
