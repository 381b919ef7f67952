-- A state after a relation was excluded at a box and each box of a row.
use Rattle.std.proofs.Common.{◌≡◌, ℕ, ◌<◌, ◌⊎◌, inl, inr, refl, sym, ap, ◌∙◌, Bool, true, false, not, ◌&&◌, ◌||◌, eqb, ltb, List}
use Rattle.std.proofs.lemmas.Bool.{true≢false, and_parts, and_cases, ltb-true, cases_Bool}
use Rattle.packing_terms.specs.declared.Rel.{Rel}
use Rattle.packing_terms.specs.declared.Rel.TheVariants.{Overlap, Before, After}
use Rattle.packing_terms.specs.declared.Exclusion.{Exclusion}
use Rattle.packing_terms.specs.Packing.{PlainInstance, dims, box_count}
use Rattle.packing_terms.specs.Exclusions.{Exclusions, excludes, IsEdge}
use Rattle.packing_terms.specs.Rules.{Follows}
use Rattle.edge_state.specs.Edges.{PlainEdges, is_other_box}
use Rattle.edge_state.specs.RowExclusions.{with_row, HasEmptyAt, taken_at}
use Rattle.edge_state.proofs.Kept.{row_shut}
use Rattle.edge_state.proofs.RowDerived.{row_extends}
use Rattle.edge_state.proofs.RowExclusions.{row_keeps, row_takes}
use Rattle.edge_state.proofs.RowSteps.{edge_of, box_apart}
use Rattle.edge_state.specs.States.{IsSized, HasEmptyMask}
use Rattle.edge_state.specs.Work.{HasApplied}
use Rattle.rule_passes.specs.Reached.{NoRule}

-- another box is there
pub other_there : (n u v : ℕ) → is_other_box n u v ≡ true → v < n
other_there n u v h = ltb-true v n (and_parts (ltb v n) (not (eqb v u)) h).0

-- the mask of the box and some member is empty
pub empty_at : (instance : PlainInstance) (X : Exclusions) (i u : ℕ) (row : ℕ → Bool) → i < dims instance
    → u < box_count instance → ((v : ℕ) → row v ≡ true → is_other_box (box_count instance) u v ≡ true)
    → HasEmptyAt X i u row → HasEmptyMask instance X
empty_at instance X i u row hi hu other h = record {
  dim = i;
  u = u;
  v = h.box;
  edge = edge_of (dims instance) (box_count instance) i u h.box hi hu (other h.box h.member);
  each = each;
}
  where
    parts : ((X i u h.box Overlap && X i u h.box Before) ≡ true) × (X i u h.box After ≡ true)
    parts = and_parts _ _ h.empty

    each : (r : Rel) → X i u h.box r ≡ true
    each Overlap = (and_parts _ _ parts.0).0
    each Before = (and_parts _ _ parts.0).1
    each After = parts.1

-- the state grew by what follows
pub row_worked : (instance : PlainInstance) (a b : PlainEdges) (i u : ℕ) (r : Rel) (row : ℕ → Bool) (lost : Bool)
    → b ≡ record a { trail = with_row a.trail i u r row a.boxes } → IsSized instance a i → u < box_count instance
    → ((v : ℕ) → row v ≡ true → is_other_box (box_count instance) u v ≡ true)
    → ((v : ℕ) → row v ≡ true → Follows instance (excludes a.trail) i u v r)
    → (lost ≡ true → HasEmptyAt (excludes b.trail) i u row) → HasApplied instance a b lost NoRule
row_worked instance a b i u r row lost e sizes hu other follows empty = record {
  same_dims = ap (λ (s : PlainEdges). s.dims) e;
  same_boxes = ap (λ (s : PlainEdges). s.boxes) e;
  same_box_capacity = ap (λ (s : PlainEdges). s.room) e;
  extends = rw e (row_extends instance a.trail i u r row a.boxes (λ v l on. (edge v on, follows v on)));
  empty = λ h. empty_at instance (excludes b.trail) i u row sizes.there hu other (empty h);
  done = λ h rule none. absurd none;
}
  where
    edge : (v : ℕ) → row v ≡ true → IsEdge instance i u v
    edge v on = edge_of (dims instance) (box_count instance) i u v sizes.there hu (other v on)

-- the relation is excluded at each member of a row, where it was at all but those that were taken
pub row_all_shut : (n i u : ℕ) (r : Rel) (es : List Exclusion) (row free left : ℕ → Bool)
    → ((v : ℕ) → row v ≡ true → is_other_box n u v ≡ true)
    → ((v : ℕ) → free v ≡ is_other_box n u v && not (excludes es i u v r))
    → ((v : ℕ) → left v ≡ row v && free v) → (v : ℕ) → row v ≡ true
    → excludes (with_row es i u r left n) i u v r ≡ true
row_all_shut n i u r es row free left other is both v on = go (cases_Bool (left v))
  where
    there : v < n
    there = other_there n u v (other v on)

    off : (row v ≡ false) ⊎ (free v ≡ false) → excludes es i u v r ≡ true
    off (inl f) = absurd (true≢false (sym on ∙ f))
    off (inr f) = row_shut n i u v (excludes es) r (free v) there (box_apart n u v (other v on)) (is v) f

    go : (left v ≡ true) ⊎ (left v ≡ false) → excludes (with_row es i u r left n) i u v r ≡ true
    go (inl h) = row_takes i u r es left n i u v r (taken_at v there h)
    go (inr h) = row_keeps i u r es left n i u v r (off (and_cases _ _ (sym (both v) ∙ h)))

-- where none of them is left, nothing is to be taken
pub row_none_left : (n i u : ℕ) (r : Rel) (es : List Exclusion) (row free left : ℕ → Bool)
    → ((v : ℕ) → row v ≡ true → is_other_box n u v ≡ true)
    → ((v : ℕ) → free v ≡ is_other_box n u v && not (excludes es i u v r))
    → ((v : ℕ) → left v ≡ row v && free v) → ((v : ℕ) → left v ≡ false) → (v : ℕ) → row v ≡ true
    → excludes es i u v r ≡ true
row_none_left n i u r es row free left other is both none v on = off (and_cases _ _ (sym (both v) ∙ none v))
  where
    off : (row v ≡ false) ⊎ (free v ≡ false) → excludes es i u v r ≡ true
    off (inl f) = absurd (true≢false (sym on ∙ f))
    off (inr f) =
        row_shut n i u v (excludes es) r (free v) (other_there n u v (other v on)) (box_apart n u v (other v on)) (is v) f

-- a box of two rows is another one
pub either_other : (n u v : ℕ) (a b x y e : Bool) → a ≡ is_other_box n u v && x → b ≡ is_other_box n u v && y
    → e ≡ a || b → e ≡ true → is_other_box n u v ≡ true
either_other n u v true b x y e ha hb he h = (and_parts _ _ (sym ha)).0
either_other n u v false b x y e ha hb he h = (and_parts _ _ (sym hb ∙ (sym he ∙ h))).0

pub not_true : (x : Bool) → not x ≡ true → x ≡ false
not_true true h = absurd (true≢false (sym h))
not_true false h = refl

-- what is in one of two rows and not in both isn't in the other
pub off_with : (a b : Bool) → a ≡ true → (a && b) ≡ false → b ≡ false
off_with true b on h = h
off_with false b on h = absurd (true≢false (sym on))
