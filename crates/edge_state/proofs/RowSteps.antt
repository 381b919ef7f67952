-- The steps in which a state excludes a row.
use Rattle.std.proofs.Common.{◌≡◌, ℕ, ◌<◌, refl, sym, ap, ◌∙◌, Bool, true, false, not, eqb, ltb, ◌&&◌, List, ◌∷◌}
use Rattle.std.proofs.lemmas.Bool.{true≢false, and_parts, ltb-true, eq-eqb}
use Rattle.packing_terms.specs.declared.Rel.{Rel}
use Rattle.packing_terms.specs.declared.Exclusion.{Exclusion}
use Rattle.packing_terms.specs.Exclusions.{excludes, exclusion_at, IsEdgeAmong}
use Rattle.edge_state.specs.Edges.{PlainEdges, is_other_box}
use Rattle.edge_state.specs.RowExclusions.{with_row}
use Rattle.edge_state.proofs.Kept.{row_open, with_new}
use Rattle.edge_state.proofs.Tables.{is_of_first}
use Rattle.edge_state.proofs.RowExclusions.{row_none, row_next, row_left}

not_true : (x : Bool) → not x ≡ true → x ≡ false
not_true true h = absurd (true≢false (sym h))
not_true false h = refl

pub box_apart : (n u v : ℕ) → is_other_box n u v ≡ true → u ≡ v → ⊥
box_apart n u v h e =
    true≢false (sym (eq-eqb v u (sym e)) ∙ not_true (eqb v u) (and_parts (ltb v n) (not (eqb v u)) h).1)

-- an edge is another box that is there
pub edge_of : (d n i u v : ℕ) → i < d → u < n → is_other_box n u v ≡ true → IsEdgeAmong d n i u v
edge_of d n i u v hi hu h = record {
  dim = hi;
  first = hu;
  second = ltb-true v n (and_parts _ _ h).0;
  distinct = box_apart n u v h;
}

without_others : (m o x : Bool) → (m ≡ true → o ≡ true) → m && (o && not x) ≡ m && not x
without_others true o x h = rw (h refl) refl
without_others false o x h = refl

-- only the members that aren't excluded are gone through
pub begun : (es : List Exclusion) (n i u : ℕ) (r : Rel) (row left rest : ℕ → Bool)
    → ((v : ℕ) → row v ≡ true → is_other_box n u v ≡ true)
    → ((v : ℕ) → left v ≡ is_other_box n u v && not (excludes es i u v r)) → ((v : ℕ) → rest v ≡ row v && left v)
    → (with_row es i u r rest n ≡ with_row es i u r row n)
    × ((v : ℕ) → rest v ≡ true → is_other_box n u v ≡ true)
    × ((v : ℕ) → rest v ≡ true → excludes es i u v r ≡ false)
begun es n i u r row left rest members is both = (
  row_left i u r es row rest n (λ v l. both v ∙ (ap (λ b. row v && b) (is v)
      ∙ without_others (row v) (is_other_box n u v) (excludes es i u v r) (members v))),
  λ v h. members v (and_parts _ _ (sym (both v) ∙ h)).0,
  λ v h. row_open n i u v (excludes es) r (left v) (is v) (and_parts _ _ (sym (both v) ∙ h)).1,
)

-- the least of them is taken
pub state_next : (s b c : PlainEdges) (es : List Exclusion) → b ≡ record s { trail = b.trail }
    → c ≡ record b { trail = es } → c ≡ record s { trail = c.trail }
state_next s b c es e f = rw f (rw e refl)

pub taken_next : (es now next : List Exclusion) (n i u v : ℕ) (r : Rel) (row rest less : ℕ → Bool)
    → with_row now i u r rest n ≡ with_row es i u r row n → ((x : ℕ) → rest x ≡ true → is_other_box n u x ≡ true)
    → ((x : ℕ) → rest x ≡ true → excludes now i u x r ≡ false)
    → rest v ≡ true → ((x : ℕ) → x < v → rest x ≡ false) → ((x : ℕ) → less x ≡ rest x && not (eqb x v))
    → next ≡ exclusion_at i u v r ∷ now
    → (with_row next i u r less n ≡ with_row es i u r row n)
    × ((x : ℕ) → less x ≡ true → is_other_box n u x ≡ true)
    × ((x : ℕ) → less x ≡ true → excludes next i u x r ≡ false)
taken_next es now next n i u v r row rest less still others left on least less_is e = (
  rw e (ap (λ gs. with_row gs i u r less n) (sym (with_new now (exclusion_at i u v r) (left v on)))
      ∙ (sym (row_next i u r now rest less v n there on least less_is) ∙ still)),
  λ x h. others x (and_parts _ _ (sym (less_is x) ∙ h)).0,
  λ x h. let both = and_parts _ _ (sym (less_is x) ∙ h) in
      rw (e, is_of_first i u v x r distinct, not_true (eqb x v) both.1) (left x both.0),
)
  where
    there : v < n
    there = ltb-true v n (and_parts (ltb v n) (not (eqb v u)) (others v on)).0

    distinct : u ≡ v → ⊥
    distinct = box_apart n u v (others v on)

-- none is left
pub row_done : (s b : PlainEdges) (i u : ℕ) (r : Rel) (row rest : ℕ → Bool) → b ≡ record s { trail = b.trail }
    → with_row b.trail i u r rest s.boxes ≡ with_row s.trail i u r row s.boxes → ((x : ℕ) → rest x ≡ false)
    → b ≡ record s { trail = with_row s.trail i u r row s.boxes }
row_done s b i u r row rest e still none =
    let f : b.trail ≡ with_row s.trail i u r row s.boxes =
    sym (row_none i u r b.trail rest s.boxes (λ v l. none v)) ∙ still in
    e ∙ ap (λ (es : List Exclusion). record s { trail = es }) f

-- the sizes are as before
pub same_boxes : (s b : PlainEdges) → b ≡ record s { trail = b.trail } → b.boxes ≡ s.boxes
same_boxes s b e = ap (λ (q : PlainEdges). q.boxes) e

pub same_dims : (s b : PlainEdges) → b ≡ record s { trail = b.trail } → b.dims ≡ s.dims
same_dims s b e = ap (λ (q : PlainEdges). q.dims) e
