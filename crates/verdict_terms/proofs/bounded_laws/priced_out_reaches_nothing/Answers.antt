use Rattle.std.proofs.Common.{◌≡◌, ℕ, ◌⊎◌, inl, inr, arith, true, false, ◌||◌}
use Rattle.std.proofs.lemmas.Bool.{or_cases}
use Rattle.packing_terms.specs.OuterRefutation.{has_box}
use Rattle.packing_terms.proofs.Members.{IsIn, in_append}
use Rattle.packing_terms.proofs.Boxes.{each_in, found}
use Rattle.packing_terms.proofs.Excess.{excess_law}
use Rattle.packing_terms.proofs.Agreeing.{set_boxes}
use Rattle.verdict_terms.proofs.PricedSets.{worth_less, node_worth_less}
use Rattle.verdict_terms.proofs.bounded_laws.priced_out_reaches_nothing.Goals as goal

pub returns-clause-lists : goal.returns-clause-lists
returns-clause-lists c instance least q p fs taken others keep out taken_boxes aside set within covers enough fits =
    let less = worth_less excess_law instance least q p fs taken others keep taken_boxes
    (set_boxes instance keep set) (each_in (λ v. has_box v taken ≡ false) others aside)
    (λ v i. found v keep (each_in (λ u. has_box u keep ≡ true) taken within v i))
    (λ v i. in_append v taken others (pick v (or_cases (has_box v taken) (has_box v others)
    (each_in (λ u. (has_box u taken || has_box u others) ≡ true) keep covers v i)))) fits out in
    omega (arith, less, enough)
  where
    pick : (v : ℕ) → (has_box v taken ≡ true) ⊎ (has_box v others ≡ true) → IsIn v taken ⊎ IsIn v others
    pick v (inl k) = inl (found v taken k)
    pick v (inr k) = inr (found v others k)

pub returns-clause-nodes : goal.returns-clause-nodes
returns-clause-nodes c instance least q p fs node keep out set agrees enough fits =
    let less = node_worth_less excess_law instance least q p fs node keep out set agrees fits in
    omega (arith, less, enough)
