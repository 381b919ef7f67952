-- Working sides as they are written: in a row, and row by row.
use Rattle.std.proofs.Common.{◌≡◌, ℕ, ◌+◌, ◌<◌, ◌≤◌, ◌⊎◌, inl, inr, List, [], length, get_or, slice_set, arith, ap, sym}
use Rattle.std.proofs.Common.{◌∙◌}
use Rattle.std.proofs.lemmas.Bool.{cases_eq}
use Rattle.std.proofs.lemmas.List.{length-set, get_or-set_same, get_or-set_other}
use Rattle.packing_terms.specs.Packing.{PlainInstance, PlainBox, no_box, dims, box_count, side}
use Rattle.packing_terms.specs.Limits.{IsBox}
use Rattle.box_instances.specs.Working.{IsHeld}
use Rattle.box_instances.proofs.Replaced.{box_replaced}

-- one side more
pub row_next : (row sides kerf : List ℕ) (k x : ℕ) → k < length row → x ≡ get_or sides k 0 + get_or kerf k 0
    → ((j : ℕ) → j < k → get_or row j 0 ≡ get_or sides j 0 + get_or kerf j 0)
    → (j : ℕ) → j < k + 1 → get_or (slice_set row k x) j 0 ≡ get_or sides j 0 + get_or kerf j 0
row_next row sides kerf k x there e h j l = go (cases_eq j k)
  where
    go : (j ≡ k) ⊎ (j ≡ k → ⊥) → get_or (slice_set row k x) j 0 ≡ get_or sides j 0 + get_or kerf j 0
    go (inl same) = rw same (get_or-set_same row k x 0 there ∙ e)
    go (inr ne) = get_or-set_other row k j x 0 ne ∙ h j (omega (arith, l, ne))

-- one box more
pub rows_next : (rows : List (List ℕ)) (row kerf : List ℕ) (boxes : List PlainBox) (other : PlainBox) (k d : ℕ)
    → k < length rows
    → ((i : ℕ) → i < d → get_or row i 0 ≡ get_or (get_or boxes k other).sides i 0 + get_or kerf i 0)
    → ((v i : ℕ) → v < k → i < d → get_or (get_or rows v []) i 0
    ≡ get_or (get_or boxes v other).sides i 0 + get_or kerf i 0)
    → (v i : ℕ) → v < k + 1 → i < d → get_or (get_or (slice_set rows k row) v []) i 0
    ≡ get_or (get_or boxes v other).sides i 0 + get_or kerf i 0
rows_next rows row kerf boxes other k d there e h v i l m = go (cases_eq v k)
  where
    go : (v ≡ k) ⊎ (v ≡ k → ⊥) → get_or (get_or (slice_set rows k row) v []) i 0
        ≡ get_or (get_or boxes v other).sides i 0 + get_or kerf i 0
    go (inl same) = rw same (ap (λ (r : List ℕ). get_or r i 0) (get_or-set_same rows k row [] there) ∙ e i m)
    go (inr ne) = ap (λ (r : List ℕ). get_or r i 0) (get_or-set_other rows k v row [] ne)
        ∙ h v i (omega (arith, l, ne)) m

-- one box is replaced by another, with its row
pub held_replaced : (instance : PlainInstance) (at : ℕ) (b : PlainBox) (limits : List ℕ) (working : List (List ℕ))
    (row longest longer : List ℕ) → IsHeld instance limits working longest
    → IsBox (dims instance) instance.kerfs b → at < length instance.boxes
    → ((i : ℕ) → i < dims instance → get_or row i 0 ≡ get_or b.sides i 0 + get_or instance.kerfs i 0)
    → ((i : ℕ) → i < 4 → get_or longest i 0 ≤ get_or longer i 0) → ((i : ℕ) → i < 4 → get_or row i 0 ≤ get_or longer i 0)
    → IsHeld (record instance { boxes = slice_set instance.boxes at b }) limits (slice_set working at row) longer
held_replaced instance at b limits working row longest longer h good there e old new = record {
  within = box_replaced instance at b h.within good;
  room = length-set working at row ∙ h.room;
  container = λ i l. h.container i l;
  sides = λ v i l m. let k : v < box_count instance = (let f = length-set instance.boxes at b in omega (arith, f, l)) in
      go v i k m (cases_eq v at);
  bound = λ v i l m. let k : v < box_count instance = (let f = length-set instance.boxes at b in omega (arith, f, l)) in
      most v i k m (cases_eq v at);
}
  where
    few : at < length working
    few = let n = h.within.boxes.count in omega (arith, n, there, h.room)

    after : PlainInstance
    after = record instance { boxes = slice_set instance.boxes at b }

    four : (i : ℕ) → i < dims instance → i < 4
    four i m = let few = h.within.container.dimensions in omega (arith, few, m)

    most : (v i : ℕ) → v < box_count instance → i < dims instance → (v ≡ at) ⊎ (v ≡ at → ⊥)
        → side after v i ≤ get_or longer i 0
    most v i l m (inl same) =
        let is : side after v i ≡ get_or row i 0 =
        rw same (ap (λ (c : PlainBox). get_or c.sides i 0 + get_or instance.kerfs i 0)
        (get_or-set_same instance.boxes at b no_box there) ∙ sym (e i m)) in
        let below = new i (four i m) in omega (arith, is, below)
    most v i l m (inr ne) =
        let is : side after v i ≡ side instance v i =
        ap (λ (c : PlainBox). get_or c.sides i 0 + get_or instance.kerfs i 0)
        (get_or-set_other instance.boxes at v b no_box ne) in
        let before = h.bound v i l m in let below = old i (four i m) in omega (arith, is, before, below)

    go : (v i : ℕ) → v < box_count instance → i < dims instance → (v ≡ at) ⊎ (v ≡ at → ⊥)
        → get_or (get_or (slice_set working at row) v []) i 0 ≡ side after v i
    go v i l m (inl same) =
        rw same (ap (λ (r : List ℕ). get_or r i 0) (get_or-set_same working at row [] few)
        ∙ (e i m ∙ sym (ap (λ (c : PlainBox). get_or c.sides i 0 + get_or instance.kerfs i 0)
        (get_or-set_same instance.boxes at b no_box there))))
    go v i l m (inr ne) =
        ap (λ (r : List ℕ). get_or r i 0) (get_or-set_other working at v row [] ne)
        ∙ (h.sides v i l m ∙ sym (ap (λ (c : PlainBox). get_or c.sides i 0 + get_or instance.kerfs i 0)
        (get_or-set_other instance.boxes at v b no_box ne)))

-- one number more that isn't above another one
pub above_next : (first row : List ℕ) (k x : ℕ) → k < length row → get_or first k 0 ≤ x
    → ((j : ℕ) → j < k → get_or first j 0 ≤ get_or row j 0)
    → (j : ℕ) → j < k + 1 → get_or first j 0 ≤ get_or (slice_set row k x) j 0
above_next first row k x there e h j l = go (cases_eq j k)
  where
    go : (j ≡ k) ⊎ (j ≡ k → ⊥) → get_or first j 0 ≤ get_or (slice_set row k x) j 0
    go (inl same) = rw same (rw (get_or-set_same row k x 0 there) e)
    go (inr ne) = rw (get_or-set_other row k j x 0 ne) (h j (omega (arith, l, ne)))

-- one row more within a bound
pub bound_next : (rows : List (List ℕ)) (longest longer : List ℕ) (k : ℕ)
    → ((i : ℕ) → i < 4 → get_or longest i 0 ≤ get_or longer i 0)
    → ((i : ℕ) → i < 4 → get_or (get_or rows k []) i 0 ≤ get_or longer i 0)
    → ((u i : ℕ) → u < k → i < 4 → get_or (get_or rows u []) i 0 ≤ get_or longest i 0)
    → (u i : ℕ) → u < k + 1 → i < 4 → get_or (get_or rows u []) i 0 ≤ get_or longer i 0
bound_next rows longest longer k old new h u i l m = go (cases_eq u k)
  where
    go : (u ≡ k) ⊎ (u ≡ k → ⊥) → get_or (get_or rows u []) i 0 ≤ get_or longer i 0
    go (inl same) = rw same (new i m)
    go (inr ne) = let before = h u i (omega (arith, l, ne)) m in let below = old i m in omega (arith, before, below)
