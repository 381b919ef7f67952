-- Sets of boxes by rising number, with one box more.
use Rattle.std.proofs.Common.{◌≡◌, ℕ, ◌*◌, ap, ◌∙◌, List, length, get_or}
use Rattle.std.proofs.lemmas.List.{length-map}
use Rattle.packing_terms.specs.Packing.{PlainInstance, IsPacking, dims, box_count, no_box}
use Rattle.packing_terms.specs.Rules.{AreBoxes}
use Rattle.packing_terms.specs.Goals.{subset, IsBoxSet}
use Rattle.packing_terms.specs.Rising.{AreRising}
use Rattle.tree_terms.proofs.ChoiceSearch.{rising_index, below_at}

pub box_set : (instance : PlainInstance) (vs : List ℕ) → AreBoxes instance vs → AreRising vs → IsBoxSet instance vs
box_set instance vs b r = record { there = below_at (box_count instance) vs b; rising = rising_index vs r }

-- as many coordinates as the boxes of a set have
pub places_count : (instance : PlainInstance) (keep numbers : List ℕ) → IsPacking (subset instance keep) numbers
    → length numbers ≡ length keep * dims instance
places_count instance keep numbers p =
    p.count ∙ ap (λ n. n * dims instance) (length-map keep (λ v. get_or instance.boxes v no_box))
