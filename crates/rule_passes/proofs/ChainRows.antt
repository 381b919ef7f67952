-- CHAIN at a box and all boxes of a row.
use Rattle.std.proofs.Common.{◌≡◌, ◌≢◌, ℕ, ◌+◌, ◌<◌, ◌⊎◌, inl, inr, refl, sym, ap, ◌∙◌, arith, Bool, true, false, not, ltb, ◌&&◌}
use Rattle.std.proofs.Common.{List, slice_index, subst, IsTrue}
use Rattle.std.proofs.lemmas.Bool.{true≢false, and_parts, cases_Bool, lt-ltb, ltb-true}
use Rattle.std.proofs.Math.Bool.{and-true}
use Rattle.packing_terms.specs.declared.Rel.{Rel}
use Rattle.packing_terms.specs.declared.Rel.TheVariants.{Overlap, Before, After}
use Rattle.packing_terms.specs.declared.Exclusion.{Exclusion}
use Rattle.packing_terms.specs.Packing.{PlainInstance, box_count, container_side}
use Rattle.packing_terms.specs.Exclusions.{Exclusions, excludes, IsEdge}
use Rattle.packing_terms.specs.Rules.{Chain, Follows, Premises, by_rule, mirrored}
use Rattle.packing_terms.specs.Applied.{Extends}
use Rattle.packing_terms.proofs.Sets.{excludes_symmetric}
use Rattle.packing_terms.specs.Runs.{HasHead, HasTail, AreHeads, AreTails}
use Rattle.edge_state.specs.Edges.{PlainEdges, is_other_box}
use Rattle.edge_state.specs.RowExclusions.{with_row, taken_at, HasEmptyAt}
use Rattle.edge_state.proofs.Kept.{row_shut}
use Rattle.edge_state.proofs.RowDerived.{row_extends}
use Rattle.edge_state.proofs.RowExclusions.{row_keeps, row_takes}
use Rattle.edge_state.proofs.RowSteps.{box_apart}
use Rattle.edge_state.specs.States.{IsSized, HasEmptyMask}
use Rattle.edge_state.specs.Passes.{IsPass, IsChainChecked}
use Rattle.edge_state.proofs.Passes.{pass_none}

-- two chains that are too long together
module _ (instance : PlainInstance) (X : Exclusions) (i u v h t : ℕ) (edge : IsEdge instance i u v)
    (head : HasHead instance X i u h) (tail : HasTail instance X i v t) (wide : container_side instance i < h + t) where
  heavy : container_side instance i < h + t
      → Premises instance X (Chain i head.before u v tail.after)
  heavy wide = (head.chain, tail.chain, (let a = head.heavy in let b = tail.heavy in omega (arith, a, b, wide)))

  pub row_follows : Follows instance X i u v Before
  row_follows = by_rule (Chain i head.before u v tail.after) Before (edge.dim, head.boxes, tail.boxes, edge.distinct)
      (heavy wide) refl

  pub column_follows : Follows instance X i v u After
  column_follows = mirrored (Chain i head.before u v tail.after) Before (edge.dim, head.boxes, tail.boxes, edge.distinct)
      (heavy wide) refl

-- One relation of u and each box of a row beside which something is too far: what is done is that the
-- relation is excluded there. The members `out` are those of the row that are too far.
module _ (instance : PlainInstance) (a : PlainEdges) (i u : ℕ) (r : Rel) (row far out : ℕ → Bool)
    (sizes : IsSized instance a i) (hu : u < box_count instance)
    (is : (v : ℕ) → row v ≡ is_other_box a.boxes u v && not (excludes a.trail i u v r))
    (beyond : (v : ℕ) → out v ≡ row v && far v) where
  -- the members are other boxes that are there
  pub member : (v : ℕ) → out v ≡ true → is_other_box a.boxes u v ≡ true
  member v on = (and_parts _ _ (sym (is v) ∙ (and_parts _ _ (sym (beyond v) ∙ on)).0)).0

  pub edge : (v : ℕ) → out v ≡ true → IsEdge instance i u v
  edge v on = record {
    dim = sizes.there;
    first = hu;
    second = (let l = ltb-true v a.boxes (and_parts _ _ (member v on)).0 in omega (arith, l, sizes.same_boxes));
    distinct = box_apart a.boxes u v (member v on);
  }

  pub is_far : (v : ℕ) → out v ≡ true → far v ≡ true
  is_far v on = (and_parts _ _ (sym (beyond v) ∙ on)).1

  abbrev pub IsShut : List Exclusion → Type 0
  IsShut es = (v : ℕ) → v < box_count instance → u ≢ v → far v ≡ true → IsTrue (excludes es i u v r)

  -- a box that isn't a member has nothing to be excluded
  off_shut : (v : ℕ) → v < box_count instance → u ≢ v → far v ≡ true → out v ≡ false
      → IsTrue (excludes a.trail i u v r)
  off_shut v hv ne wide off = row_shut a.boxes i u v (excludes a.trail) r (row v) (omega (arith, hv, sizes.same_boxes)) ne
      (is v) (sym (and-true (row v)) ∙ (ap (λ (b : Bool). row v && b) (sym wide) ∙ (sym (beyond v) ∙ off)))

  -- without members all is done
  pub no_row : ((v : ℕ) → out v ≡ false) → IsPass instance a a IsShut
  no_row none = pass_none instance a IsShut (λ v hv ne wide. off_shut v hv ne wide (none v))

  -- the members follow from what was there before the row
  pub whole_row : (b : PlainEdges) → ((v : ℕ) → out v ≡ true → Follows instance (excludes a.trail) i u v r)
      → b ≡ record a { trail = with_row a.trail i u r out a.boxes } → IsPass instance a b IsShut
  whole_row b at e = record {
    same_dims = ap (λ (q : PlainEdges). q.dims) e;
    same_boxes = ap (λ (q : PlainEdges). q.boxes) e;
    same_box_capacity = ap (λ (q : PlainEdges). q.room) e;
    extends = subst (λ (es : List Exclusion). Extends instance a.trail es) (sym trail_is)
        (row_extends instance a.trail i u r out a.boxes (λ v l on. (edge v on, at v on)));
    done = subst IsShut (sym trail_is) (λ v hv ne wide. excluded v hv ne wide (cases_Bool (out v)));
  }
    where
      trail_is : b.trail ≡ with_row a.trail i u r out a.boxes
      trail_is = ap (λ (q : PlainEdges). q.trail) e

      excluded : (v : ℕ) → v < box_count instance → u ≢ v → far v ≡ true → (out v ≡ true) ⊎ (out v ≡ false)
          → IsTrue (excludes (with_row a.trail i u r out a.boxes) i u v r)
      excluded v hv ne wide (inl on) = row_takes i u r a.trail out a.boxes i u v r
          (taken_at v (omega (arith, hv, sizes.same_boxes)) on)
      excluded v hv ne wide (inr off) = row_keeps i u r a.trail out a.boxes i u v r (off_shut v hv ne wide off)

  three : (x y z : Bool) → x && y && z ≡ true → (x ≡ true) × (y ≡ true) × (z ≡ true)
  three true true true h = (refl, refl, refl)
  three true true false h = absurd (true≢false (sym h))
  three true false z h = absurd (true≢false (sym h))
  three false y z h = absurd (true≢false (sym h))

  -- an empty mask at a member is one
  pub empty_row : (X : Exclusions) → HasEmptyAt X i u out → HasEmptyMask instance X
  empty_row X h = record { dim = i; u = u; v = h.box; edge = edge h.box h.member; each = λ q. each q }
    where
      each : (q : Rel) → X i u h.box q ≡ true
      each Overlap = (three (X i u h.box Overlap) (X i u h.box Before) (X i u h.box After) h.empty).0
      each Before = (three (X i u h.box Overlap) (X i u h.box Before) (X i u h.box After) h.empty).1
      each After = (three (X i u h.box Overlap) (X i u h.box Before) (X i u h.box After) h.empty).2

-- CHAIN at a row and at a column is that the relation is excluded where two weights are beyond the limit
module _ (instance : PlainInstance) (i limit : ℕ) (head tail : List ℕ) (same : limit ≡ container_side instance i) where
  abbrev far : ℕ → ℕ → Bool
  far u v = ltb limit (slice_index head u + slice_index tail v)

  is_wide : (u v : ℕ) → far u v ≡ true → container_side instance i < slice_index head u + slice_index tail v
  is_wide u v h = let l = ltb-true limit (slice_index head u + slice_index tail v) h in omega (arith, l, same)

  wide_is : (u v : ℕ) → container_side instance i < slice_index head u + slice_index tail v → far u v ≡ true
  wide_is u v wide = lt-ltb limit (slice_index head u + slice_index tail v) (omega (arith, wide, same))

  pub row_checked : (u : ℕ) (es : List Exclusion)
      → ((v : ℕ) → v < box_count instance → u ≢ v → far u v ≡ true → IsTrue (excludes es i u v Before))
      → (v : ℕ) → v < box_count instance → IsChainChecked instance i head tail u v es
  row_checked u es shut v hv = record { shut = λ ne wide. shut v hv ne (wide_is u v wide) }

  pub column_checked : (v : ℕ) (es : List Exclusion)
      → ((u : ℕ) → u < box_count instance → v ≢ u → far u v ≡ true → IsTrue (excludes es i v u After))
      → (u : ℕ) → u < box_count instance → IsChainChecked instance i head tail u v es
  column_checked v es shut u hu = record {
    shut = λ ne wide. excludes_symmetric es i v u After (shut u hu (λ e. ne (sym e)) (wide_is u v wide));
  }

  module _ (X : Exclusions) (heads : AreHeads instance X i head) (tails : AreTails instance X i tail) where
    pub row_follow : (u v : ℕ) → IsEdge instance i u v → far u v ≡ true → Follows instance X i u v Before
    row_follow u v edge wide = row_follows instance X i u v _ _ edge (heads u edge.first) (tails v edge.second)
        (is_wide u v wide)

    pub column_follow : (v u : ℕ) → IsEdge instance i v u → far u v ≡ true → Follows instance X i v u After
    column_follow v u edge wide = column_follows instance X i u v _ _
        (record { dim = edge.dim; first = edge.second; second = edge.first; distinct = λ e. edge.distinct (sym e) })
        (heads u edge.second) (tails v edge.first) (is_wide u v wide)
