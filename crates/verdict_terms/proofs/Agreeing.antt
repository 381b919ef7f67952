-- An undecided box isn't in.
use Rattle.std.proofs.Common.{◌≡◌, ℕ, false, not, ◌||◌}
use Rattle.std.specs.List.{range_with_len}
use Rattle.std.proofs.lemmas.Bool.{or_parts, not-true}
use Rattle.packing_terms.specs.Packing.{PlainInstance, box_count}
use Rattle.packing_terms.specs.OuterRefutation.{Choice, has_box, undecided}
use Rattle.packing_terms.proofs.Members.{IsIn, filter_in}

pub undecided_aside : (instance : PlainInstance) (c : Choice) (v : ℕ) → IsIn v (undecided instance c)
    → has_box v c.taken ≡ false
undecided_aside instance c v i =
    let open_test = (filter_in (λ u. not (has_box u c.taken || has_box u c.left)) v
    (range_with_len 0 (box_count instance)) i).1 in
    (or_parts _ _ (not-true _ open_test)).0
