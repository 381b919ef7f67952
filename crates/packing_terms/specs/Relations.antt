-- The three relations of the projections of two boxes on one dimension, their mirrors and their
-- compositions.
--
--     u  |-----|                u  |-----|             u          |-----|
--     v          |----|         v     |----|           v  |----|
--        u Before v                u Overlap v             u After v
--
-- Touching counts as Before or After. Of two boxes whose sides are at least 1, exactly one relation
-- holds (law `one_relation_holds`).
-- Source: the component graph of Fekete, Schepers and van der Veen (2007) joins the pairs that
-- overlap; the other pairs are oriented here.
use Rattle.std.specs.Prelude.{ℕ, ◌+◌, ◌<◌, ◌≤◌, List, [], ◌∷◌, Bool, true, false}
use Rattle.packing_terms.specs.declared.Rel.{Rel}
use Rattle.packing_terms.specs.declared.Rel.TheVariants.{Overlap, Before, After}
use Rattle.packing_terms.specs.Packing.{PlainInstance, place, side}

-- the relation of v, u where that of u, v is given
abbrev pub mirror : Rel → Rel
mirror Overlap = Overlap
mirror Before = After
mirror After = Before

-- the projection from p, of length w, has this relation to that from q, of length x
abbrev pub AreRelated : (p w q x : ℕ) → Rel → Type 0
AreRelated p w q x Before = p + w ≤ q
AreRelated p w q x After = q + x ≤ p
AreRelated p w q x Overlap = (p < q + x) × (q < p + w)

-- in dimension i boxes u and v have this relation
abbrev pub Holds : PlainInstance → List ℕ → ℕ → ℕ → ℕ → Rel → Type 0
Holds instance places i u v r =
    AreRelated (place instance places u i) (side instance u i) (place instance places v i) (side instance v i) r

-- The composition table, entry by entry: the relations that u and x may have where u, v have the
-- first and v, x the second.
abbrev pub compositions : Rel → Rel → List Rel
compositions Before Before = Before ∷ []
compositions Before Overlap = Before ∷ Overlap ∷ []
compositions Before After = Before ∷ Overlap ∷ After ∷ []
compositions Overlap Before = Before ∷ Overlap ∷ []
compositions Overlap Overlap = Before ∷ Overlap ∷ After ∷ []
compositions Overlap After = Overlap ∷ After ∷ []
compositions After Before = Before ∷ Overlap ∷ After ∷ []
compositions After Overlap = Overlap ∷ After ∷ []
compositions After After = After ∷ []

-- whether u and x may have this relation where u, v have the first and v, x the second: the same
-- table as a test
abbrev pub allows : Rel → Rel → Rel → Bool
allows Before Before Before = true
allows Before Before _ = false
allows Before Overlap After = false
allows Before Overlap _ = true
allows Before After _ = true
allows Overlap Before After = false
allows Overlap Before _ = true
allows Overlap Overlap _ = true
allows Overlap After Before = false
allows Overlap After _ = true
allows After Before _ = true
allows After Overlap Before = false
allows After Overlap _ = true
allows After After After = true
allows After After _ = false

-- Three projections that show a composition: the relations of the first and second, of the second
-- and third, and of the first and third.
pub record ShowsComposition (a b r : Rel) : Type 0 where
  pub starts : ℕ × ℕ × ℕ
  pub lengths : ℕ × ℕ × ℕ
  pub long : (1 ≤ lengths.0) × (1 ≤ lengths.1) × (1 ≤ lengths.2)
  pub first : AreRelated starts.0 lengths.0 starts.1 lengths.1 a
  pub second : AreRelated starts.1 lengths.1 starts.2 lengths.2 b
  pub outer : AreRelated starts.0 lengths.0 starts.2 lengths.2 r
