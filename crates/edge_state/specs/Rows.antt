-- Masks over whole rows.
use Rattle.std.specs.Prelude.{Bool, ◌&&◌, ◌||◌}
use Rattle.packing_terms.specs.declared.Rel.{Rel}
use Rattle.packing_terms.specs.declared.Rel.TheVariants.{Overlap, Before, After}

-- three tests, one for each relation
abbrev pub in_each_relation : Bool → Bool → Bool → Rel → Bool
in_each_relation o b a Overlap = o
in_each_relation o b a Before = b
in_each_relation o b a After = a

-- whether some relation of the first mask and some of the second compose to this one, written out
-- over three rows
abbrev pub may : Rel → (Rel → Bool) → (Rel → Bool) → Bool
may Overlap q s = (((s Overlap || s Before) || s After) && q Overlap || (s Overlap || s After) && q Before)
    || (s Overlap || s Before) && q After
may Before q s = ((s Overlap || s Before) && q Overlap || ((s Overlap || s Before) || s After) && q Before)
    || s Before && q After
may After q s = ((s Overlap || s After) && q Overlap || s After && q Before)
    || ((s Overlap || s Before) || s After) && q After
