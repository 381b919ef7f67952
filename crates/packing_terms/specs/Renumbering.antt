-- The boxes of a set, renumbered: box k of the set is the box that its list names at k. Rules of
-- the set's instance are those rules of the whole instance all of whose boxes are in the set.
use Rattle.std.specs.Prelude.{ℕ, ◌<◌, List, [], ◌∷◌, ◌++◌, map, length, slice_index, nat_lt, ◌&&◌, IsTrue, ◌⊎◌}
use Rattle.std.specs.List.{AllByRecursion}
use Rattle.packing_terms.specs.declared.Rel.{Rel}
use Rattle.packing_terms.specs.declared.Exclusion.{Exclusion}
use Rattle.packing_terms.specs.Packing.{PlainInstance}
use Rattle.packing_terms.specs.Relations.{mirror}
use Rattle.packing_terms.specs.Exclusions.{Exclusions, excludes}
use Rattle.packing_terms.specs.Rules.{Rule, Pair, Apart, Triple, Chain, Compose, Cycle, Order, IsRuleInstance, Premises}
use Rattle.packing_terms.specs.Rules.{Concludes, dim_of, first_of, second_of}

-- the box that the set has at an index
abbrev pub named : List ℕ → ℕ → ℕ
named keep k = slice_index keep k

-- the boxes of a rule instance
abbrev pub rule_boxes : Rule → List ℕ
rule_boxes (Pair i u v) = u ∷ v ∷ []
rule_boxes (Apart i u v) = u ∷ v ∷ []
rule_boxes (Triple i u v x) = u ∷ v ∷ x ∷ []
rule_boxes (Chain i before u v after) = (before ++ u ∷ []) ++ v ∷ after
rule_boxes (Compose i u v x) = u ∷ v ∷ x ∷ []
rule_boxes (Cycle i a b c d) = a ∷ b ∷ c ∷ d ∷ []
rule_boxes (Order i a b c d) = a ∷ b ∷ c ∷ d ∷ []

-- a rule instance of boxes of the set, as one of the whole instance
abbrev pub renamed_rule : List ℕ → Rule → Rule
renamed_rule keep (Pair i u v) = Pair i (named keep u) (named keep v)
renamed_rule keep (Apart i u v) = Apart i (named keep u) (named keep v)
renamed_rule keep (Triple i u v x) = Triple i (named keep u) (named keep v) (named keep x)
renamed_rule keep (Chain i before u v after) =
    Chain i (map (named keep) before) (named keep u) (named keep v) (map (named keep) after)
renamed_rule keep (Compose i u v x) = Compose i (named keep u) (named keep v) (named keep x)
renamed_rule keep (Cycle i a b c d) = Cycle i (named keep a) (named keep b) (named keep c) (named keep d)
renamed_rule keep (Order i a b c d) = Order i (named keep a) (named keep b) (named keep c) (named keep d)

-- an exclusion at boxes of the set, as one of the whole instance
abbrev pub renamed : List ℕ → Exclusion → Exclusion
renamed keep e = record e { u = named keep e.u; v = named keep e.v }

-- each exclusion of the list is at boxes of the set, by their indices
abbrev pub AreAmongKept : List ℕ → List Exclusion → Type 0
AreAmongKept keep [] = Unit {0}
AreAmongKept keep (e ∷ es) = (e.u < length keep) × (e.v < length keep) × AreAmongKept keep es

-- the exclusions of the whole instance at boxes of the set, by their indices
abbrev pub restricted : List ℕ → Exclusions → Exclusions
restricted keep X i u v r = (nat_lt u (length keep) && nat_lt v (length keep)) && X i (named keep u) (named keep v) r

-- Some rule instance of the whole instance, all of whose boxes are in the set, excludes this
-- relation at the boxes at these indices, or at its mirror.
pub data FollowsAmong (instance : PlainInstance) (keep : List ℕ) (X : Exclusions) : ℕ → ℕ → ℕ → Rel → Type 0 where
  by_kept : (rule : Rule) (r : Rel) → AllByRecursion (λ k. k < length keep) (rule_boxes rule)
      → IsRuleInstance instance (renamed_rule keep rule)
      → Premises instance X (renamed_rule keep rule) → Concludes X (renamed_rule keep rule) r
      → FollowsAmong instance keep X (dim_of rule) (first_of rule) (second_of rule) r
  kept_mirrored : (rule : Rule) (r : Rel) → AllByRecursion (λ k. k < length keep) (rule_boxes rule)
      → IsRuleInstance instance (renamed_rule keep rule)
      → Premises instance X (renamed_rule keep rule) → Concludes X (renamed_rule keep rule) r
      → FollowsAmong instance keep X (dim_of rule) (second_of rule) (first_of rule) (mirror r)

-- a derivation in the whole instance by rules of boxes of the set alone; its exclusions are given
-- by their indices
abbrev pub IsDerivationAmong : PlainInstance → List ℕ → Exclusions → List Exclusion → Type 0
IsDerivationAmong instance keep E [] = Unit {0}
IsDerivationAmong instance keep E (e ∷ es) =
    (IsTrue (restricted keep E e.dim e.u e.v e.rel)
    ⊎ FollowsAmong instance keep (excludes (map (renamed keep) es)) e.dim e.u e.v e.rel)
    × IsDerivationAmong instance keep E es

-- the exclusion at boxes of the set has such a derivation
pub record IsDerivedAmong (instance : PlainInstance) (keep : List ℕ) (E : Exclusions) (i u v : ℕ) (r : Rel) :
    Type 0 where
  pub steps : List Exclusion
  pub derivation : IsDerivationAmong instance keep E steps
  pub stands : IsTrue (restricted keep (excludes (map (renamed keep) steps)) i u v r)
