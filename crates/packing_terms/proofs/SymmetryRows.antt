-- Symmetry facts of small instances, computed from the definitions.
use Rattle.std.proofs.Common.{◌≡◌, ℕ, refl, List, [], ◌∷◌}
use Rattle.packing_terms.specs.declared.Rel.TheVariants.{After}
use Rattle.packing_terms.specs.declared.Exclusion.{Exclusion}
use Rattle.packing_terms.specs.Packing.{PlainInstance, PlainBox}
use Rattle.packing_terms.specs.Exclusions.{exclusion_at}
use Rattle.packing_terms.specs.Facts.{symmetry_facts}

abbrev pub box : ℕ → ℕ → PlainBox
box a b = record { sides = a ∷ b ∷ []; value = 1 }

-- one box
abbrev one : PlainInstance
one = record { container = 1 ∷ 1 ∷ []; kerfs = 0 ∷ 0 ∷ []; boxes = box 1 1 ∷ [] }

one_has_none : symmetry_facts one ≡ []
one_has_none = refl

-- two boxes without a twin
abbrev pub two : PlainInstance
two = record { container = 10 ∷ 10 ∷ []; kerfs = 0 ∷ 0 ∷ []; boxes = box 6 4 ∷ box 6 6 ∷ [] }

two_facts : symmetry_facts two ≡ exclusion_at 0 0 1 After ∷ exclusion_at 1 0 1 After ∷ []
two_facts = refl

-- four twins
abbrev pub row_of_four : PlainInstance
row_of_four = record {
  container = 10 ∷ 10 ∷ [];
  kerfs = 0 ∷ 0 ∷ [];
  boxes = box 3 6 ∷ box 3 6 ∷ box 3 6
      ∷ box 3 6 ∷ [];
}

abbrev four_facts : List Exclusion
four_facts =
    exclusion_at 0 0 1 After ∷ exclusion_at 0 0 2 After ∷ exclusion_at 0 0 3 After ∷ exclusion_at 0 1 2 After
    ∷ exclusion_at 0 1 3 After ∷ exclusion_at 0 2 3 After
    ∷ exclusion_at 1 0 1 After ∷ []

four_has_these : symmetry_facts row_of_four ≡ four_facts
four_has_these = refl

-- the first two boxes by rank, 1 and 3, are twins; the first two without one are 2 and 0
abbrev mixed : PlainInstance
mixed = record { container = 10 ∷ 10 ∷ []; kerfs = 1 ∷ 0 ∷ []; boxes = box 2 2 ∷ box 3 6 ∷ box 6 3 ∷ box 3 6 ∷ [] }

mixed_facts : symmetry_facts mixed ≡ exclusion_at 0 1 3 After ∷ exclusion_at 0 0 2 After ∷ exclusion_at 1 1 3 After ∷ []
mixed_facts = refl

-- equal sides in another order are no twins, and three dimensions have two mirrors more
abbrev turned : PlainInstance
turned = record {
  container = 4 ∷ 4 ∷ 4 ∷ [];
  kerfs = 0 ∷ 0 ∷ 0 ∷ [];
  boxes = record { sides = 1 ∷ 2 ∷ 3 ∷ []; value = 1 } ∷ record { sides = 3 ∷ 2 ∷ 1 ∷ []; value = 7 }
      ∷ record { sides = 3 ∷ 2 ∷ 1 ∷ []; value = 1 } ∷ [];
}

turned_facts : symmetry_facts turned ≡ exclusion_at 0 1 2 After ∷ exclusion_at 1 0 1 After
    ∷ exclusion_at 2 0 1 After ∷ []
turned_facts = refl
