-- A whole refutation by one priced leaf: four squares of value 5, of which one fits, aren't worth 6.
use Rattle.std.proofs.Common.{ℕ, zero, suc, ◌<◌, refl, arith, [], ◌∷◌}
use Rattle.std.proofs.lemmas.Bool.{ltb-true}
use Rattle.packing_terms.specs.Packing.{container_side}
use Rattle.packing_terms.specs.Scales.{IsLegalScale, function_at}
use Rattle.packing_terms.specs.OuterRefutation.{no_choice}
use Rattle.verdict_terms.specs.Shares.{IsPricedOut}
use Rattle.verdict_terms.specs.BoundedRefutation.{PricedOut, IsBoundedRefutation, none_left, by_price}
use Rattle.verdict_terms.proofs.BoundedRows.{squares, halves}

legal_halves : (i : ℕ) → i < 2 → IsLegalScale (function_at halves i) (container_side squares i)
legal_halves zero l = (omega arith, omega arith, omega arith)
legal_halves (suc zero) l = (omega arith, omega arith, omega arith)
legal_halves (suc (suc i)) l = absurd (omega (arith, l))

root_is_priced_out : IsPricedOut squares 6 halves 1000000000 5 no_choice
root_is_priced_out = record {
  tuple = record { count = refl; legal = legal_halves };
  fit = tt;
  more = ltb-true 5000000000 6000000000 refl;
}

squares_below_6 : IsBoundedRefutation squares 6 (PricedOut 1000000000 5 halves ∷ [])
squares_below_6 = by_price root_is_priced_out none_left
