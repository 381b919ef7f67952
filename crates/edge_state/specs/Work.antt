-- Going along a list of exclusions: rule instances that are applied one after another, and what is
-- then covered.
--
-- The worklist is the newer part of the state's own list of exclusions; `seen` is the older part,
-- which is propagated. Each instance of a rule other than CHAIN that could add something by all
-- exclusions has a premise at an edge of the newer part; so once that is empty, no such instance
-- adds anything. CHAIN can add something in a dimension only where a pair of it became ordered.
use Rattle.std.specs.Prelude.{ℕ, ◌≡◌, ◌≢◌, ◌⊎◌, ◌+◌, ◌<◌, List, Bool, true, false, IsTrue}
use Rattle.packing_terms.specs.declared.Rel.{Rel}
use Rattle.packing_terms.specs.declared.Rel.TheVariants.{Overlap, Before, After}
use Rattle.packing_terms.specs.declared.Exclusion.{Exclusion}
use Rattle.packing_terms.specs.Packing.{PlainInstance, dims}
use Rattle.packing_terms.specs.Relations.{mirror}
use Rattle.packing_terms.specs.Exclusions.{Exclusions, excludes}
use Rattle.packing_terms.specs.Rules.{Rule, Pair, Apart, Triple, Chain, Compose, Cycle, Order}
use Rattle.packing_terms.specs.Applied.{Adds, Extends}
use Rattle.packing_terms.specs.Places.{HasNoEmptyMask}
use Rattle.edge_state.specs.Edges.{PlainEdges}
use Rattle.edge_state.specs.BitRows.{row_has}
use Rattle.edge_state.specs.States.{HasEmptyMask}

-- a rule other than CHAIN
abbrev pub IsLocal : Rule → Type 0
IsLocal (Chain i before u v after) = ⊥
IsLocal _ = Unit {0}

-- CHAIN in this dimension
abbrev pub IsChainIn : ℕ → Rule → Type 0
IsChainIn i (Chain j before u v after) = j ≡ i
IsChainIn i _ = ⊥

-- The instance of the rule reads the mask of the edge, in this order of the boxes, where these
-- relations of the edge are newly excluded: if it asks there that one relation alone is excluded,
-- that one is new.
abbrev pub ReadsEdge : (fresh : Rel → Bool) → Rule → ℕ → ℕ → ℕ → Type 0
ReadsEdge fresh (Pair i u v) j p q = ⊥
ReadsEdge fresh (Apart i u v) j p q = (j ≢ i) × (u ≡ p) × (v ≡ q)
ReadsEdge fresh (Triple i u v x) j p q =
    ((i ≡ j) × (((u ≡ p) × (x ≡ q)) ⊎ ((v ≡ p) × (x ≡ q)))) × (fresh Overlap ≡ true)
ReadsEdge fresh (Chain i before u v after) j p q = ⊥
ReadsEdge fresh (Compose i u v x) j p q = (i ≡ j) × (((u ≡ p) × (v ≡ q)) ⊎ ((v ≡ p) × (x ≡ q)))
ReadsEdge fresh (Cycle i a b c d) j p q =
    (i ≡ j) × (((a ≡ p) × (b ≡ q))
    ⊎ (((b ≡ p) × (c ≡ q)) ⊎ (((c ≡ p) × (d ≡ q)) ⊎ (((d ≡ p) × (a ≡ q))
    ⊎ (((a ≡ p) × (c ≡ q)) × (fresh Overlap ≡ true))))))
ReadsEdge fresh (Order i a b c d) j p q =
    (i ≡ j) × (((a ≡ p) × (b ≡ q))
    ⊎ (((c ≡ p) × (d ≡ q)) ⊎ (((a ≡ p) × (d ≡ q)) × (fresh Before ≡ true))))

-- The instance is one of those that are to be applied for the edge, in this order of the boxes. The
-- others that read it add the same as one of these do.
abbrev pub IsAppliedAt : ℕ → ℕ → ℕ → Rule → Type 0
IsAppliedAt j p q (Pair i u v) = ⊥
IsAppliedAt j p q (Apart i u v) = (j ≢ i) × (u ≡ p) × (v ≡ q)
IsAppliedAt j p q (Triple i u v x) = (i ≡ j) × (u ≡ p) × (x ≡ q)
IsAppliedAt j p q (Chain i before u v after) = ⊥
IsAppliedAt j p q (Compose i u v x) = (i ≡ j) × (u ≡ p) × (v ≡ q)
IsAppliedAt j p q (Cycle i a b c d) = (i ≡ j) × (((a ≡ p) × (b ≡ q)) ⊎ ((a ≡ p) × (c ≡ q)))
IsAppliedAt j p q (Order i a b c d) = (i ≡ j) × (((a ≡ p) × (b ≡ q)) ⊎ (((c ≡ p) × (d ≡ q)) ⊎ ((a ≡ p) × (d ≡ q))))

-- Like `IsAppliedAt`, where these relations of the edge are newly excluded: an instance that asks
-- there that one relation alone is excluded is due only if that one is new.
abbrev pub IsDueAt : (fresh : Rel → Bool) → ℕ → ℕ → ℕ → Rule → Type 0
IsDueAt fresh j p q (Pair i u v) = ⊥
IsDueAt fresh j p q (Apart i u v) = (j ≢ i) × (u ≡ p) × (v ≡ q)
IsDueAt fresh j p q (Triple i u v x) = ((i ≡ j) × (u ≡ p) × (x ≡ q)) × (fresh Overlap ≡ true)
IsDueAt fresh j p q (Chain i before u v after) = ⊥
IsDueAt fresh j p q (Compose i u v x) = (i ≡ j) × (u ≡ p) × (v ≡ q)
IsDueAt fresh j p q (Cycle i a b c d) =
    (i ≡ j) × (((a ≡ p) × (b ≡ q)) ⊎ (((a ≡ p) × (c ≡ q)) × (fresh Overlap ≡ true)))
IsDueAt fresh j p q (Order i a b c d) =
    (i ≡ j) × (((a ≡ p) × (b ≡ q))
    ⊎ (((c ≡ p) × (d ≡ q)) ⊎ (((a ≡ p) × (d ≡ q)) × (fresh Before ≡ true))))

-- the same in both orders of the boxes
abbrev pub IsDue : (fresh : Rel → Bool) → ℕ → ℕ → ℕ → Rule → Type 0
IsDue fresh j p q rule = IsDueAt fresh j p q rule ⊎ IsDueAt (λ r. fresh (mirror r)) j q p rule

-- Whether an instance is needed for a relation, as long as this is excluded. ORDER is only for
-- overlap, while overlap is left of its first and its last box, of its second and its last, and of
-- its first and its third: all else that it adds, COMPOSE adds too (`order_by_compose`). Overlap
-- doesn't come back, so an instance that isn't needed is never needed again.
abbrev pub IsNeeded : Exclusions → Rule → Rel → Type 0
IsNeeded X (Order i a b c d) r =
    (r ≡ Overlap) × (X i a d Overlap ≡ false) × (X i b d Overlap ≡ false) × (X i a c Overlap ≡ false)
IsNeeded X _ r = Unit {0}

-- what the instance adds by the exclusions that were looked at is excluded, as far as it is needed
pub record IsCovered (instance : PlainInstance) (seen : Exclusions) (es : List Exclusion) (rule : Rule) : Type 0 where
  pub holds : (i u v : ℕ) (r : Rel) → Adds instance seen rule i u v r → IsNeeded (excludes es) rule r
      → IsTrue (excludes es i u v r)

-- the instance adds nothing
abbrev pub IsExhausted : PlainInstance → List Exclusion → Rule → Type 0
IsExhausted instance es rule = IsCovered instance (excludes es) es rule

-- The state grew by what follows. Where `emptied` is true, a mask is empty; else these
-- instances cover what they add by the old exclusions.
pub record HasApplied (instance : PlainInstance) (old new : PlainEdges) (emptied : Bool) (Rules : Rule → Type 0) :
    Type 0 where
  pub same_dims : new.dims ≡ old.dims
  pub same_boxes : new.boxes ≡ old.boxes
  pub same_box_capacity : new.room ≡ old.room
  pub extends : Extends instance old.trail new.trail
  pub empty : IsTrue emptied → HasEmptyMask instance (excludes new.trail)
  pub done : emptied ≡ false → (rule : Rule) → Rules rule → IsCovered instance (excludes old.trail) new.trail rule

-- The invariant of the worklist: all that an instance of a rule other than CHAIN derives from the
-- propagated exclusions is excluded, and no mask is empty by them.
pub record IsUpToDate (instance : PlainInstance) (seen es : List Exclusion) : Type 0 where
  pub covered : (rule : Rule) → IsLocal rule → IsCovered instance (excludes seen) es rule
  pub full : HasNoEmptyMask instance (excludes seen)

-- Like `IsUpToDate`, if no mask is empty by the whole list. An empty mask is found when its own
-- exclusions are propagated, so no instance has to find it earlier.
pub record IsPropagated (instance : PlainInstance) (seen es : List Exclusion) : Type 0 where
  pub covered : HasNoEmptyMask instance (excludes es) → (rule : Rule) → IsLocal rule
      → IsCovered instance (excludes seen) es rule
  pub full : HasNoEmptyMask instance (excludes seen)

-- all that CHAIN derives in this dimension from the propagated exclusions is excluded
pub record IsChainUpToDate (instance : PlainInstance) (i : ℕ) (seen es : List Exclusion) : Type 0 where
  pub covered : (rule : Rule) → IsChainIn i rule → IsCovered instance (excludes seen) es rule

-- neither box of the exclusion is surely before the other
pub record IsUnordered (X : Exclusions) (e : Exclusion) : Type 0 where
  pub forth : IsTrue (X e.dim e.u e.v Overlap) → IsTrue (X e.dim e.u e.v After) → ⊥
  pub back : IsTrue (X e.dim e.v e.u Overlap) → IsTrue (X e.dim e.v e.u After) → ⊥

-- the position after the next exclusion, which is of a fresh relation
pub record IsNextMark (mark : ℕ) (e : Exclusion) (fresh : Rel → Bool) (next : ℕ) : Type 0 where
  pub counted : next ≡ mark + 1
  pub new : fresh e.rel ≡ true

-- The worklist is drained: no rule derives anything from the propagated exclusions but CHAIN in the
-- dimensions of `dirty`.
pub record IsWorklistDone (instance : PlainInstance) (seen es : List Exclusion) (dirty : List ℕ) : Type 0 where
  pub settled : IsPropagated instance seen es
  pub chained : (i : ℕ) → i < dims instance → row_has dirty i ≡ false → IsChainUpToDate instance i seen es
  pub within : (i : ℕ) → row_has dirty i ≡ true → i < dims instance
