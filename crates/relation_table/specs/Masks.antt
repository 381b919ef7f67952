-- Sets of relations as masks: numbers below 8, with bit 1 for overlap, bit 2 for before and bit 4
-- for after.
use Rattle.std.specs.Prelude.{ℕ, ◌/◌, ◌%◌, ◌==◌, Bool, IsTrue}
use Rattle.packing_terms.specs.declared.Rel.{Rel}
use Rattle.packing_terms.specs.declared.Rel.TheVariants.{Overlap, Before, After}
use Rattle.packing_terms.specs.Relations.{allows}

-- the bit of a relation
abbrev pub bit_of : Rel → ℕ
bit_of Overlap = 1
bit_of Before = 2
bit_of After = 4

-- whether the relation is in the mask
abbrev pub mask_has : ℕ → Rel → Bool
mask_has m r = m / bit_of r % 2 == 1

-- the relation is in the composition of the masks: some relation in a and some in b allow it
abbrev pub IsComposed : ℕ → ℕ → Rel → Type 0
IsComposed a b r = (q s : Rel) × IsTrue (mask_has a q) × IsTrue (mask_has b s) × IsTrue (allows q s r)
