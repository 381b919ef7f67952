-- The tables of masks, tested at every entry.
use Rattle.std.proofs.Common.{◌≡◌, ℕ, ◌-◌, ◌*◌, ◌/◌, ◌%◌, ◌<◌, refl, sym, ◌∙◌, inl, inr, arith, Bool, true, false, not}
use Rattle.std.proofs.Common.{◌&&◌, eqb, List, [], ◌∷◌, get_or, IsTrue, ◌↔◌, bit_and, bit_or, ltb}
use Rattle.std.specs.List.{list_any, list_all, range_with_len}
use Rattle.std.proofs.lemmas.Bool.{true≢false, and_parts, and_from}
use Rattle.packing_terms.specs.declared.Rel.{Rel}
use Rattle.packing_terms.specs.declared.Rel.TheVariants.{Overlap, Before, After}
use Rattle.packing_terms.specs.Relations.{allows, mirror}
use Rattle.packing_terms.specs.Exclusions.{is_same_rel}
use Rattle.packing_terms.proofs.Members.{IsIn, any_at, any_from, all_at, in_range}
use Rattle.relation_table.specs.Masks.{bit_of, mask_has, IsComposed}
use Rattle.relation_table.specs.declared.mask.TheConstants.{COMPOSE}

abbrev pub rels : List Rel
rels = Overlap ∷ Before ∷ After ∷ []

abbrev pub below : ℕ → List ℕ
below n = range_with_len 0 n

-- whether two tests agree
abbrev pub agree : Bool → Bool → Bool
agree true y = y
agree false y = not y

pub agreed : (x y : Bool) → agree x y ≡ true → x ≡ y
agreed true y h = sym h
agreed false false h = refl
agreed false true h = absurd (true≢false (sym h))

pub is_rel : (r : Rel) → IsIn r rels
is_rel Overlap = inl refl
is_rel Before = inr (inl refl)
is_rel After = inr (inr (inl refl))

-- a test that passes at every mask and relation
pub each : (p : ℕ → Rel → Bool) → list_all (λ m. list_all (p m) rels) (below 8) ≡ true → (m : ℕ) → m < 8 → (r : Rel)
    → p m r ≡ true
each p h m l r = all_at (p m) r rels
    (all_at (λ x. list_all (p x) rels) m (below 8) h (in_range 0 8 m (omega arith) (omega arith))) (is_rel r)

each_two : (p : ℕ → ℕ → Rel → Bool) → list_all (λ m. list_all (λ n. list_all (p m n) rels) (below 8)) (below 8) ≡ true
    → (m n : ℕ) → m < 8 → n < 8 → (r : Rel) → p m n r ≡ true
each_two p h m n l k r =
    each (p m) (all_at (λ x. list_all (λ y. list_all (p x y) rels) (below 8)) m (below 8) h
    (in_range 0 8 m (omega arith) (omega arith))) n k r

pub has_bit : (m : ℕ) → m < 8 → (r : Rel) → not (eqb (bit_and m (bit_of r)) 0) ≡ mask_has m r
has_bit m l r = agreed _ _ (each (λ x s. agree (not (eqb (bit_and x (bit_of s)) 0)) (mask_has x s)) refl m l r)

pub without_bit : (m : ℕ) → m < 8 → (q r : Rel) → mask_has (bit_and m (7 - bit_of q)) r ≡ mask_has m r
    && not (is_same_rel q r)
without_bit m l q r =
    agreed _ _ (all_at (λ s. agree (mask_has (bit_and m (7 - bit_of q)) s)
    (mask_has m s && not (is_same_rel q s))) r rels
    (each (λ x t. list_all (λ s. agree (mask_has (bit_and x (7 - bit_of t)) s) (mask_has x s && not (is_same_rel t s)))
    rels) refl m l q) (is_rel r))

abbrev pub swapped : ℕ → ℕ
swapped m = bit_or (bit_or (bit_and m 1) (bit_and (m / 2) 2)) (bit_and m 2 * 2 % 256)

pub flip_bits : (m : ℕ) → m < 8 → (r : Rel) → mask_has (swapped m) r ≡ mask_has m (mirror r)
flip_bits m l r = agreed _ _ (each (λ x s. agree (mask_has (swapped x) s) (mask_has x (mirror s))) refl m l r)

-- the composition as a test
abbrev composed : ℕ → ℕ → Rel → Bool
composed a b r = list_any (λ q. list_any (λ s. mask_has a q && (mask_has b s && allows q s r)) rels) rels

composed_from : (a b : ℕ) (r : Rel) → IsComposed a b r → composed a b r ≡ true
composed_from a b r (q, s, h, k, l) =
    any_at (λ x. list_any (λ y. mask_has a x && (mask_has b y && allows x y r)) rels) q rels (is_rel q)
    (any_at (λ y. mask_has a q && (mask_has b y && allows q y r)) s rels (is_rel s) (and_from _ _ h (and_from _ _ k l)))

composed_is : (a b : ℕ) (r : Rel) → composed a b r ≡ true → IsComposed a b r
composed_is a b r h =
    let f = any_from (λ x. list_any (λ y. mask_has a x && (mask_has b y && allows x y r)) rels) rels h in
    let g = any_from (λ y. mask_has a f.item && (mask_has b y && allows f.item y r)) rels f.passes in
    let k = and_parts _ _ g.passes in
    let l = and_parts _ _ k.1 in
    (f.item, g.item, k.0, l.0, l.1)

abbrev entry : ℕ → ℕ → ℕ
entry a b = get_or (get_or COMPOSE a []) b 0

-- each of the 64 entries, at each relation
pub compose_exact : (a b : ℕ) → a < 8 → b < 8 → (r : Rel) → IsTrue (mask_has (entry a b) r) ↔ IsComposed a b r
compose_exact a b l k r =
    let e : mask_has (entry a b) r ≡ composed a b r =
    agreed _ _ (each_two (λ x y s. agree (mask_has (entry x y) s) (composed x y s)) refl a b l k r) in
    ((λ h. composed_is a b r (sym e ∙ h)), (λ h. e ∙ composed_from a b r h))

-- and each entry is a mask
abbrev is_small : ℕ → Rel → Bool
is_small m r = ltb (swapped m) 8

pub flip_small : (m : ℕ) → m < 8 → ltb (swapped m) 8 ≡ true
flip_small m l = each is_small refl m l Overlap
