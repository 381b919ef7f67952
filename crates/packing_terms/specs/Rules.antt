-- The seven propagation rules. Each is in one dimension i, of distinct boxes; w is a box's side
-- there and W the container's.
--
--     PAIR     w(u) + w(v) > W: u, v overlap.
--     APART    u, v are joined in every other dimension: they don't overlap in this one.
--     TRIPLE   u, x are apart, v, x are apart, and w(u) + w(v) + w(x) > W: u, v overlap.
--     CHAIN    a chain that ends in u and one that starts in v are together longer than W: u isn't before v.
--     COMPOSE  u, x have no relation that no composition of the masks of u, v and of v, x allows.
-- CYCLE    a, b, then b, c, then c, d, then d, a are joined and a, c are apart: b, d overlap (a
-- cycle of four needs a chord).
--     ORDER    a is surely before b, c is surely before d, and a isn't before d: c is before b.
--
-- Sources: Fekete, Schepers and van der Veen (2007) for edges that are forced by width, by cliques
-- and by cycles of four; interval orders have no two chains that cross (Fishburn, 1970), which is
-- ORDER; COMPOSE is path consistency over the table of compositions (Allen, 1983).
use Rattle.std.specs.Prelude.{ℕ, ◌+◌, ◌<◌, ◌≡◌, ◌≢◌, List, [], ◌∷◌, ◌++◌, false, IsTrue}
use Rattle.std.specs.List.{sum_by, AllByRecursion}
use Rattle.packing_terms.specs.declared.Rel.{Rel}
use Rattle.packing_terms.specs.declared.Rel.TheVariants.{Overlap, Before}
use Rattle.packing_terms.specs.Packing.{PlainInstance, dims, box_count, container_side, side}
use Rattle.packing_terms.specs.Relations.{allows, mirror}
use Rattle.packing_terms.specs.Exclusions.{Exclusions, IsApart, IsJoined, IsSurelyBefore}

-- An instance of a rule. Numbers stand in the order of the rule's text. Of CHAIN, one chain is
-- `before` and then u, the other v and then `after`.
pub data Rule : Type 0 where
  Pair : (i u v : ℕ) → Rule
  Apart : (i u v : ℕ) → Rule
  Triple : (i u v x : ℕ) → Rule
  Chain : (i : ℕ) (before : List ℕ) (u v : ℕ) (after : List ℕ) → Rule
  Compose : (i u v x : ℕ) → Rule
  Cycle : (i a b c d : ℕ) → Rule
  Order : (i a b c d : ℕ) → Rule

-- each box of the list is surely before the next
abbrev pub IsChain : Exclusions → ℕ → List ℕ → Type 0
IsChain X i [] = Unit {0}
IsChain X i (u ∷ []) = Unit {0}
IsChain X i (u ∷ v ∷ vs) = IsSurelyBefore X i u v × IsChain X i (v ∷ vs)

-- the weight of a chain: the sum of the sides
abbrev pub weight : PlainInstance → ℕ → List ℕ → ℕ
weight instance i vs = sum_by (λ v. side instance v i) vs

-- distinct boxes of the first `n`
abbrev pub AreBoxesAmong : ℕ → List ℕ → Type 0
AreBoxesAmong n [] = Unit {0}
AreBoxesAmong n (v ∷ vs) = (v < n) × AllByRecursion (λ u. v ≢ u) vs × AreBoxesAmong n vs

-- boxes that are there, and distinct
abbrev pub AreBoxes : PlainInstance → List ℕ → Type 0
AreBoxes instance vs = AreBoxesAmong (box_count instance) vs

-- the dimension and the boxes are there, and the boxes are distinct
abbrev pub IsRuleInstance : PlainInstance → Rule → Type 0
IsRuleInstance instance (Pair i u v) = (i < dims instance) × AreBoxes instance (u ∷ v ∷ [])
IsRuleInstance instance (Apart i u v) = (i < dims instance) × AreBoxes instance (u ∷ v ∷ [])
IsRuleInstance instance (Triple i u v x) = (i < dims instance) × AreBoxes instance (u ∷ v ∷ x ∷ [])
IsRuleInstance instance (Chain i before u v after) =
    (i < dims instance) × AreBoxes instance (before ++ u ∷ []) × AreBoxes instance (v ∷ after) × (u ≢ v)
IsRuleInstance instance (Compose i u v x) = (i < dims instance) × AreBoxes instance (u ∷ v ∷ x ∷ [])
IsRuleInstance instance (Cycle i a b c d) = (i < dims instance) × AreBoxes instance (a ∷ b ∷ c ∷ d ∷ [])
IsRuleInstance instance (Order i a b c d) = (i < dims instance) × AreBoxes instance (a ∷ b ∷ c ∷ d ∷ [])

-- what the rule asks of the instance and of the exclusions. No premise reads the edge at which the
-- rule excludes.
abbrev pub Premises : PlainInstance → Exclusions → Rule → Type 0
Premises instance X (Pair i u v) = container_side instance i < side instance u i + side instance v i
Premises instance X (Apart i u v) = (j : ℕ) → j < dims instance → j ≢ i → IsJoined X j u v
Premises instance X (Triple i u v x) =
    IsApart X i u x × IsApart X i v x
    × (container_side instance i < side instance u i + side instance v i + side instance x i)
Premises instance X (Chain i before u v after) =
    IsChain X i (before ++ u ∷ []) × IsChain X i (v ∷ after)
    × (container_side instance i < weight instance i (before ++ u ∷ []) + weight instance i (v ∷ after))
Premises instance X (Compose i u v x) = Unit {0}
Premises instance X (Cycle i a b c d) =
    IsJoined X i a b × IsJoined X i b c × IsJoined X i c d × IsJoined X i d a × IsApart X i a c
Premises instance X (Order i a b c d) = IsSurelyBefore X i a b × IsSurelyBefore X i c d × IsTrue (X i a d Before)

-- the edge at which the rule excludes: its dimension
abbrev pub dim_of : Rule → ℕ
dim_of (Pair i u v) = i
dim_of (Apart i u v) = i
dim_of (Triple i u v x) = i
dim_of (Chain i before u v after) = i
dim_of (Compose i u v x) = i
dim_of (Cycle i a b c d) = i
dim_of (Order i a b c d) = i

-- its first box
abbrev pub first_of : Rule → ℕ
first_of (Pair i u v) = u
first_of (Apart i u v) = u
first_of (Triple i u v x) = u
first_of (Chain i before u v after) = u
first_of (Compose i u v x) = u
first_of (Cycle i a b c d) = b
first_of (Order i a b c d) = c

-- its second box
abbrev pub second_of : Rule → ℕ
second_of (Pair i u v) = v
second_of (Apart i u v) = v
second_of (Triple i u v x) = v
second_of (Chain i before u v after) = v
second_of (Compose i u v x) = x
second_of (Cycle i a b c d) = d
second_of (Order i a b c d) = b

-- what the rule excludes there
abbrev pub Concludes : Exclusions → Rule → Rel → Type 0
Concludes X (Pair i u v) r = r ≢ Overlap
Concludes X (Apart i u v) r = r ≡ Overlap
Concludes X (Triple i u v x) r = r ≢ Overlap
Concludes X (Chain i before u v after) r = r ≡ Before
Concludes X (Compose i u v x) r =
    (q s : Rel) → X i u v q ≡ false → X i v x s ≡ false → allows q s r ≡ false
Concludes X (Cycle i a b c d) r = r ≢ Overlap
Concludes X (Order i a b c d) r = r ≢ Before

-- some instance of a rule excludes this relation, in this dimension at this pair or at its mirror
pub data Follows (instance : PlainInstance) (X : Exclusions) : ℕ → ℕ → ℕ → Rel → Type 0 where
  by_rule : (rule : Rule) (r : Rel) → IsRuleInstance instance rule → Premises instance X rule → Concludes X rule r
      → Follows instance X (dim_of rule) (first_of rule) (second_of rule) r
  mirrored : (rule : Rule) (r : Rel) → IsRuleInstance instance rule → Premises instance X rule → Concludes X rule r
      → Follows instance X (dim_of rule) (second_of rule) (first_of rule) (mirror r)
