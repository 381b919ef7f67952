-- What the answer for a value says, from where the run of values ended.
use Rattle.std.proofs.Common.{◌≡◌, ℕ, ◌+◌, ◌-◌, ◌*◌, ◌/◌, ◌^◌, ◌≤◌, refl, sym, ap, subst, ◌∙◌, arith, Bool, true, false}
use Rattle.std.proofs.lemmas.Bool.{true≢false}
use Rattle.packing_terms.specs.Packing.{PlainInstance, dims, box_count}
use Rattle.packing_terms.specs.Goals.{IsGreatestValue}
use Rattle.packing_terms.specs.Limits.{IsInternalInstance}
use Rattle.packing_terms.specs.OuterRefutation.{IsValueRefutation}
use Rattle.packing_terms.proofs.Internal.{internal_sides}
use Rattle.packing_terms.proofs.Neighbours.{reaches_lower}
use Rattle.packing_terms.proofs.ValueRefuted.{none_reaches}
use Rattle.packing_terms.proofs.Excess.{excess_law}
use Rattle.tree_terms.specs.OuterSearch.{AreTakenNumbers}
use Rattle.tree_terms.specs.Levels.{PlainReached, HasBothCertificates, first_values, value_run}
use Rattle.tree_terms.specs.RunEnds.{IsFallingEnd}
use Rattle.tree_terms.proofs.Optima.{values_keep, value_optimum}
use Rattle.tree_terms.proofs.SpentRuns.{value_spent, value_end, value_enough}
use Rattle.bin_knapsack.specs.declared.choice.Choice.{Choice}
use Rattle.bin_knapsack.specs.declared.choice.Choice.TheVariants.{Greatest, Between}
use Rattle.bin_knapsack.specs.Choices.{Tells, IsTrueChoice, IsSpentExactly, IsFinal}

module _ (instance : PlainInstance) (limits : IsInternalInstance instance) (budget : ℕ) (scales : Bool)
    (r : PlainReached) (run : r ≡ value_run instance budget scales) where
  abbrev Both : PlainReached → Type 0
  Both x = HasBothCertificates (λ k ns. AreTakenNumbers instance k ns) (λ k ts. IsValueRefutation instance k ts) x

  both : (x : PlainReached) → r ≡ x → Both x
  both x e = subst (λ (y : PlainReached). Both y) (sym run ∙ e) (values_keep instance limits budget scales)

  greatest_at : (x : PlainReached) → r ≡ x → x.spent ≡ false → IsGreatestValue instance x.placed
  greatest_at x e u =
      let f : value_run instance budget scales ≡ x = sym run ∙ e in
      subst (λ (y : PlainReached). IsGreatestValue instance y.placed) f
      (value_optimum instance limits excess_law budget scales (ap (λ (y : PlainReached). y.spent) f ∙ u))

  -- where the run ends
  pub ended : IsFallingEnd (first_values instance) r
  ended = subst (λ (y : PlainReached). IsFallingEnd (first_values instance) y) (sym run)
      (value_end instance budget scales)

  pub true_told : (c : Choice) → Tells r c → IsTrueChoice instance c
  true_told (Greatest value numbers tokens) t =
      let k = both _ t in
      record { greatest = greatest_at _ t refl; packed = k.1; refuted = k.0 }
  true_told (Between placed numbers refuted tokens) t =
      let order = ended.order in
      let k = both _ t in
      let a : r.refuted ≡ refuted = ap (λ (y : PlainReached). y.refuted) t in
      let b : r.placed ≡ placed = ap (λ (y : PlainReached). y.placed) t in
      record {
        order = omega (arith, a, b, order);
        none_reaches = (λ j l f. none_reaches excess_law instance (internal_sides instance limits) refuted
            tokens k.0
            (reaches_lower instance refuted j l f));
        packed = k.1;
        refutes = k.0;
      }

  spent_run : (b : Bool) → r.spent ≡ b → (value_run instance budget scales).spent ≡ b
  spent_run b e = sym (ap (λ (y : PlainReached). y.spent) run) ∙ e

  pub spent_told : (c : Choice) → Tells r c → IsSpentExactly instance budget scales c
  spent_told (Greatest value numbers tokens) t =
      (λ large. true≢false (sym ((value_spent instance budget scales).1 large)
      ∙ spent_run false (ap (λ (y : PlainReached). y.spent) t)))
  spent_told (Between placed numbers refuted tokens) t =
      (value_spent instance budget scales).0 (spent_run true (ap (λ (y : PlainReached). y.spent) t))

  pub final_told : 3 ^ (dims instance * box_count instance * (box_count instance - 1) / 2)
      * (2 ^ (box_count instance + 1) - 2) ≤ budget
      → (c : Choice) → Tells r c → IsFinal c
  final_told l (Greatest value numbers tokens) t = tt
  final_told l (Between placed numbers refuted tokens) t =
      true≢false (sym (spent_run true (ap (λ (y : PlainReached). y.spent) t))
      ∙ value_enough instance limits budget scales l)
