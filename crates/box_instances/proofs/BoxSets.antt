-- The instances that a set of boxes holds.
use Rattle.std.proofs.Common.{◌≡◌, ℕ, ◌+◌, ◌-◌, ◌<◌, ◌≤◌, ◌⊎◌, inl, inr, refl, sym, ap, subst, ◌∙◌, arith, List, []}
use Rattle.std.proofs.Common.{◌∷◌, ◌++◌, length, get_or, slice_set}
use Rattle.std.proofs.lemmas.Bool.{cases_lt, cases_eq}
use Rattle.std.proofs.lemmas.List.{length-map, length-set, length-append, get_or_default, get_or_append_left}
use Rattle.std.proofs.lemmas.List.{get_or-set_same, get_or-set_other}
use Rattle.std.proofs.Math.Seq.{get_or-append_seam}
use Rattle.std.proofs.lemmas.List.FromFn.{length-range_with_len}
use Rattle.std.specs.List.{range_with_len}
use Rattle.packing_terms.specs.Packing.{PlainInstance, no_box, box_count}
use Rattle.packing_terms.specs.Goals.{subset, IsBoxSet}
use Rattle.box_instances.specs.Sets.{PlainBoxSet, no_instance, IsPart, AreFirstSets, IsHeldSet}
use Rattle.box_instances.proofs.Ranges.{range_set}
use Rattle.box_instances.proofs.Subsets.{few}

-- one number more
pub sets_more : (whole : PlainInstance) (k : ℕ) (sets new : List PlainInstance) (set : PlainInstance)
    → AreFirstSets whole k sets
    → set ≡ subset whole (range_with_len 0 (k + 1)) → new ≡ sets ++ set ∷ [] → AreFirstSets whole (k + 1) new
sets_more whole k sets new set h e f = record {
  many = rw f (let l = length-append sets (set ∷ []) in omega (arith, l, h.many));
  each = λ at l. rw f (go at l (cases_lt at k));
}
  where
    go : (at : ℕ) → at < k + 1 → (at < k) ⊎ (k ≤ at)
        → get_or (sets ++ set ∷ []) at no_instance ≡ subset whole (range_with_len 0 (at + 1))
    go at l (inl m) = get_or_append_left sets (set ∷ []) no_instance at (omega (arith, m, h.many)) ∙ h.each at m
    go at l (inr m) =
        let last : at ≡ length sets = omega (arith, l, m, h.many) in
        let same : at ≡ k = omega (arith, l, m) in
        rw last (get_or-append_seam sets set [] no_instance) ∙ (e ∙ rw same refl)

-- the instance of a set is a part of the whole
pub set_part : (whole : PlainInstance) (keep : List ℕ) (k : ℕ) → length keep ≡ k → IsPart whole k (subset whole keep)
set_part whole keep k e = record {
  same_count = length-map keep (λ v. get_or whole.boxes v no_box) ∙ e;
  container = refl;
  kerfs = refl;
}

-- a set has no more boxes than the whole
pub set_few : (whole : PlainInstance) (keep : List ℕ) → IsBoxSet whole keep → length keep ≤ box_count whole
set_few whole keep set = go (cases_lt 0 (length keep))
  where
    go : (0 < length keep) ⊎ (length keep ≤ 0) → length keep ≤ box_count whole
    go (inl some) = few whole keep set (omega (arith, some))
    go (inr none) = omega (arith, none)

-- at first the set is that of all boxes
pub held_all : (whole : PlainInstance) (keep : List ℕ) (sets : List PlainInstance) (capacity : ℕ) → 1 ≤ box_count whole
    → keep ≡ range_with_len 0 (box_count whole)
    → box_count whole ≤ capacity → AreFirstSets whole (box_count whole) sets → IsHeldSet whole keep sets capacity
held_all whole keep sets capacity some e room first = record {
  some = omega (arith, some, count);
  set = rw e (range_set whole (box_count whole) (omega arith));
  room = room;
  parts = record {
    many = first.many;
    each = λ at l. rw (first.each at (omega (arith, l, first.many)))
        (set_part whole (range_with_len 0 (at + 1)) (at + 1) (length-range_with_len 0 (at + 1)));
  };
  shown = λ at f. let m : at + 1 ≡ box_count whole = omega (arith, f, count) in
      first.each at (omega (arith, m)) ∙ rw (m, e) refl;
}
  where
    count : length keep ≡ box_count whole
    count = rw e (length-range_with_len 0 (box_count whole))

-- the set was set to other boxes
pub held_set : (whole : PlainInstance) (old keep : List ℕ) (sets new : List PlainInstance) (k capacity more : ℕ)
    → IsHeldSet whole old sets capacity → 1 ≤ length keep
    → IsBoxSet whole keep → k + 1 ≡ length keep → new ≡ slice_set sets k (subset whole keep) → more ≡ capacity
    → IsHeldSet whole keep new more
held_set whole old keep sets new k capacity more held some set e f same = record {
  some = some;
  set = set;
  room = rw same held.room;
  parts = record {
    many = rw f (length-set sets k (subset whole keep) ∙ held.parts.many);
    each = λ at l. rw f (let m = length-set sets k (subset whole keep) in
        part at (omega (arith, l, ap length f, m)) (cases_eq at k));
  };
  shown = λ at g. let m : at ≡ k = omega (arith, e, g) in
      rw (f, m) (get_or-set_same sets k (subset whole keep) no_instance there);
}
  where
    there : k < length sets
    there = omega (arith, held.parts.many, e, set_few whole keep set)

    part : (at : ℕ) → at < length sets → (at ≡ k) ⊎ (at ≡ k → ⊥)
        → IsPart whole (at + 1) (get_or (slice_set sets k (subset whole keep)) at no_instance)
    part at l (inl m) = rw m (rw (get_or-set_same sets k (subset whole keep) no_instance there)
        (set_part whole keep (k + 1) (sym e)))
    part at l (inr ne) = rw (get_or-set_other sets k at (subset whole keep) no_instance ne) (held.parts.each at l)

-- the boxes are a set of the instance that is kept
pub set_of : {seen known : PlainBoxSet} {keep : List ℕ} → seen ≡ known → IsBoxSet known.whole keep
    → IsBoxSet seen.whole keep
set_of e set = rw e set

-- the instance for as many boxes as `keep` has
pub part_there : (whole : PlainInstance) (old : List ℕ) (sets : List PlainInstance) (capacity : ℕ) (keep : List ℕ)
    (part : PlainInstance) → IsHeldSet whole old sets capacity
    → IsBoxSet whole keep → 1 ≤ length keep → part ≡ get_or sets (length keep - 1) part
    → IsPart whole (length keep) part
part_there whole old sets capacity keep part held set some e =
    let there : length keep - 1 < length sets = omega (arith, held.parts.many, some, set_few whole keep set) in
    let count : length keep - 1 + 1 ≡ length keep = omega (arith, some) in
    subst (λ (k : ℕ). IsPart whole k part) count
    (subst (λ (i : PlainInstance). IsPart whole (length keep - 1 + 1) i)
    (sym (e ∙ get_or_default sets (length keep - 1) part no_instance there))
    (held.parts.each (length keep - 1) there))
