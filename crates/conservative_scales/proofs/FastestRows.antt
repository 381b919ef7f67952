-- The functions of dimension 0 and what they make of the boxes, put one after another.
use Rattle.std.proofs.Common.{◌≡◌, ℕ, zero, suc, ◌+◌, ◌*◌, ◌<◌, ◌≤◌, ◌⊎◌, inl, inr, refl, sym, ap, ◌∙◌, arith}
use Rattle.std.proofs.Common.{List, [], ◌∷◌, ◌++◌, length, length-set, get_or, set, take, append-nil, Option, Some, None}
use Rattle.std.proofs.Common.{get_or-set_same, get_or-set_other}
use Rattle.std.specs.Prelude.{IfSome}
use Rattle.std.proofs.lemmas.Bool.{cases_eq}
use Rattle.std.proofs.lemmas.List.{length-append, length-take-le, take_more_set}
use Rattle.packing_terms.specs.declared.ScaleFn.{ScaleFn}
use Rattle.packing_terms.specs.declared.ScaleFn.TheVariants.{Id}
use Rattle.packing_terms.specs.Packing.{PlainInstance, box_count, container_side, side}
use Rattle.packing_terms.specs.Scales.{IsLegalScale, scale_image, function_at}
use Rattle.packing_terms.specs.Tuples.{functions_after, functions_of}
use Rattle.conservative_scales.specs.Within.{from_next}
use Rattle.conservative_scales.specs.Rows.{AreRows, AreAllRows, HasRoomForAll}
use Rattle.conservative_scales.proofs.FewFunctions.{few_functions}

-- the functions before the next one stand there
pub record IsFilling (instance : PlainInstance) (count : ℕ) (fs : List ScaleFn) (images_of : List ℕ) (next : Option ScaleFn) :
    Type 0 where
  pub rows : AreRows instance count fs images_of
  pub all : functions_of instance 0 ≡ take count fs ++ from_next instance 0 next
  pub few : count ≤ length fs
  pub legal : IfSome next (λ g. IsLegalScale g (container_side instance 0))

pub filling_none : (instance : PlainInstance) (count : ℕ) (fs : List ScaleFn) (xs : List ℕ) → count ≡ 0
    → IsFilling instance count fs xs (Some Id)
filling_none instance zero fs xs e = record {
  rows = record {
    legal = λ j l. absurd (omega arith);
    images = λ j v l. absurd (omega arith);
  };
  all = refl;
  few = omega arith;
  legal = tt;
}
filling_none instance (suc n) fs xs e = absurd (omega arith)

pub filling_all : (instance : PlainInstance) (count : ℕ) (fs : List ScaleFn) (xs : List ℕ)
    → IsFilling instance count fs xs None → AreAllRows instance count fs xs
filling_all instance count fs xs h = record { rows = h.rows; all = h.all ∙ append-nil _; few = h.few }

-- a place is free where a function is left
pub filling_room : (instance : PlainInstance) (count : ℕ) (fs : List ScaleFn) (xs : List ℕ) (f : ScaleFn)
    (most places : ℕ) → IsFilling instance count fs xs (Some f) → HasRoomForAll instance most places → count < most
filling_room instance count fs xs f most places h room =
    let all = ap length h.all in
    let parts = length-append (take count fs) (f ∷ functions_after instance 0 f) in
    let first = length-take-le count fs h.few in
    let few = few_functions instance 0 in
    let each = room.each in
    omega (arith, all, parts, first, few, each)

-- a row stands in its place
pub row_place : (n j v count : ℕ) → j < count → v < n → j * n + v < count * n
row_place n j v count l m = grind (arith, l, m)

-- one function more
module _ (instance : PlainInstance) (count : ℕ) (fs : List ScaleFn) (xs new : List ℕ) (f : ScaleFn)
    (h : IsFilling instance count fs xs (Some f)) (room : count < length fs)
    (kept : (k : ℕ) → k < count * box_count instance → get_or new k 0 ≡ get_or xs k 0)
    (images : (v : ℕ) → v < box_count instance
    → get_or new (count * box_count instance + v) 0
    ≡ scale_image f (container_side instance 0) (side instance v 0)) where
  same : function_at (set fs count f) count ≡ f
  same = get_or-set_same fs count f Id room

  other : (j : ℕ) → j < count → function_at (set fs count f) j ≡ function_at fs j
  other j l = get_or-set_other fs count j f Id (λ e. absurd (omega (arith, e, l)))

  pub more_rows : AreRows instance (count + 1) (set fs count f) new
  more_rows = record { legal = legal_of; images = image_of }
    where
      legal_of : (j : ℕ) → j < count + 1
          → IsLegalScale (function_at (set fs count f) j) (container_side instance 0)
      legal_of j l = go (cases_eq j count)
        where
          go : (j ≡ count) ⊎ (j ≡ count → ⊥)
              → IsLegalScale (function_at (set fs count f) j) (container_side instance 0)
          go (inl e) = rw (e, same) h.legal
          go (inr e) = rw (other j (omega (arith, e))) (h.rows.legal j (omega (arith, e)))

      image_of : (j v : ℕ) → j < count + 1 → v < box_count instance
          → get_or new (j * box_count instance + v) 0
          ≡ scale_image (function_at (set fs count f) j) (container_side instance 0) (side instance v 0)
      image_of j v l m = go (cases_eq j count)
        where
          go : (j ≡ count) ⊎ (j ≡ count → ⊥)
              → get_or new (j * box_count instance + v) 0
              ≡ scale_image (function_at (set fs count f) j) (container_side instance 0) (side instance v 0)
          go (inl e) = rw (e, same) (images v m)
          go (inr e) = let k : j < count = omega (arith, e) in
              rw (other j k) (kept (j * box_count instance + v) (row_place (box_count instance) j v count k m)
              ∙ h.rows.images j v k m)

  pub filling_more : (next : Option ScaleFn) → functions_after instance 0 f ≡ from_next instance 0 next
      → IfSome next (λ g. IsLegalScale g (container_side instance 0))
      → IsFilling instance (count + 1) (set fs count f) new next
  filling_more next after legal = record {
    rows = more_rows;
    all = h.all ∙ joined (take count fs) _ _ _ after ∙ ap (λ z. z ++ from_next instance 0 next)
        (sym (take_more_set fs count f room));
    few = rw length-set (omega (arith, room));
    legal = legal;
  }
    where
      joined : (front after later : List ScaleFn) (g : ScaleFn) → after ≡ later
          → front ++ g ∷ after ≡ (front ++ g ∷ []) ++ later
      joined [] after later g e = ap (λ z. g ∷ z) e
      joined (x ∷ front) after later g e = ap (λ z. x ∷ z) (joined front after later g e)

-- one image more in a row
pub put_image : (xs : List ℕ) (at n x : ℕ) (made : ℕ → ℕ) → at + n < length xs
    → ((v : ℕ) → v < n → get_or xs (at + v) 0 ≡ made v) → x ≡ made n
    → (v : ℕ) → v < n + 1 → get_or (set xs (at + n) x) (at + v) 0 ≡ made v
put_image xs at n x made l before e v k = go (cases_eq v n)
  where
    go : (v ≡ n) ⊎ (v ≡ n → ⊥) → get_or (set xs (at + n) x) (at + v) 0 ≡ made v
    go (inl same) = rw same (get_or-set_same xs (at + n) x 0 l ∙ e)
    go (inr other) = get_or-set_other xs (at + n) (at + v) x 0 (λ d. other (omega (arith, d)))
        ∙ before v (omega (arith, other))

-- the same with a name for what a call leaves
pub filling_left : (instance : PlainInstance) (count : ℕ) (fs gs : List ScaleFn) (xs new : List ℕ)
    (f : ScaleFn) (next : Option ScaleFn) → IsFilling instance count fs xs (Some f) → count < length fs
    → gs ≡ set fs count f
    → ((k : ℕ) → k < count * box_count instance → get_or new k 0 ≡ get_or xs k 0)
    → ((v : ℕ) → v < box_count instance → get_or new (count * box_count instance + v) 0
    ≡ scale_image f (container_side instance 0) (side instance v 0))
    → functions_after instance 0 f ≡ from_next instance 0 next
    → IfSome next (λ g. IsLegalScale g (container_side instance 0))
    → IsFilling instance (count + 1) gs new next
filling_left instance count fs gs xs new f next h room functions kept images after legal =
    rw functions (filling_more instance count fs xs new f h room kept images next after legal)
