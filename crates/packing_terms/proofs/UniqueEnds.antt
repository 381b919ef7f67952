-- Places that are the greatest ends of the boxes before are the only ones.
use Rattle.std.proofs.Common.{◌≡◌, ℕ, zero, suc, ◌+◌, ◌*◌, ◌/◌, ◌%◌, ◌<◌, ◌≤◌, ◌⊎◌, inl, inr, sym, ◌∙◌, arith, List}
use Rattle.std.proofs.Common.{length, get_or}
use Rattle.std.proofs.lemmas.Nat.{div-add-mod', mod_below, div_below}
use Rattle.std.proofs.lemmas.Grind.{same_number_lists}
use Rattle.packing_terms.specs.Packing.{PlainInstance, HasPositiveSides, dims, box_count, side, place}
use Rattle.packing_terms.specs.Exclusions.{Exclusions, IsSurelyBefore}
use Rattle.packing_terms.specs.Places.{IsGreatestEnd}

module _ (instance : PlainInstance) (sides : HasPositiveSides instance) (X : Exclusions) where
  module _ (i : ℕ) (hi : i < dims instance) where
    abbrev HasEnds : List ℕ → Type 0
    HasEnds ps = (v : ℕ) → v < box_count instance → IsGreatestEnd instance X ps i v

    -- by how far the box starts
    no_later : (ps qs : List ℕ) → HasEnds ps → HasEnds qs → (n v : ℕ) → v < box_count instance
        → place instance ps v i < n
        → place instance ps v i ≤ place instance qs v i
    no_later ps qs p q zero v hv l = absurd (omega (arith, l))
    no_later ps qs p q (suc n) v hv l = go (p v hv).reached (λ u hu m. no_later ps qs p q n u hu m)
      where
        go : (place instance ps v i ≡ 0) ⊎ ((u : ℕ) × (u < box_count instance) × IsSurelyBefore X i u v
            × (place instance ps v i ≡ place instance ps u i + side instance u i))
            → ((u : ℕ) → u < box_count instance → place instance ps u i < n
            → place instance ps u i ≤ place instance qs u i)
            → place instance ps v i ≤ place instance qs v i
        go (inl e) rest = omega (arith, e)
        go (inr (u, hu, b, e)) rest =
            let s = sides u i hu hi in
            let r = rest u hu (omega (arith, s, e, l)) in
            let a = (q v hv).above u hu b in
            omega (arith, r, a, e)

    pub same_place : (ps qs : List ℕ) → HasEnds ps → HasEnds qs → (v : ℕ) → v < box_count instance
        → place instance ps v i ≡ place instance qs v i
    same_place ps qs p q v hv =
        let a = no_later ps qs p q (suc (place instance ps v i)) v hv (omega arith) in
        let b = no_later qs ps q p (suc (place instance qs v i)) v hv (omega arith) in
        omega (arith, a, b)

  -- and so are whole lists
  pub same_ends : 0 < dims instance → (ps qs : List ℕ) → length ps ≡ box_count instance * dims instance
      → length qs ≡ box_count instance * dims instance
      → ((v i : ℕ) → v < box_count instance → i < dims instance → IsGreatestEnd instance X ps i v)
      → ((v i : ℕ) → v < box_count instance → i < dims instance → IsGreatestEnd instance X qs i v) → ps ≡ qs
  same_ends some_dim ps qs cp cq p q = same_number_lists ps qs (cp ∙ sym cq) (λ k l. same_at k (rw cp at l))
    where
      same_at : (k : ℕ) → k < box_count instance * dims instance → get_or ps k 0 ≡ get_or qs k 0
      same_at k l =
          let hi = mod_below k (dims instance) some_dim in
          let hv = div_below k (dims instance) (box_count instance) some_dim l in
          let e = div-add-mod' k (dims instance) in
          let s = same_place (k % dims instance) hi ps qs (λ v h. p v (k % dims instance) h hi)
          (λ v h. q v (k % dims instance) h hi)
          (k / dims instance) hv in
          rw e at s
