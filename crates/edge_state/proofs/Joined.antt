-- The words of a row joined to one: it is 0 exactly where the row has no member.
use Rattle.std.proofs.Common.{◌≡◌, ℕ, ◌+◌, ◌*◌, ◌^◌, ◌<◌, ◌⊎◌, inl, inr, refl, arith, true, List, slice_index}
use Rattle.std.proofs.Common.{bit_or}
use Rattle.std.proofs.lemmas.Nat.{le_or_l, le_or_r}
use Rattle.std.proofs.Math.Nat.{eq-zero-or-pos}
use Rattle.std.proofs.lemmas.Bool.{cases_eq}
use Rattle.std.specs.Int.{trailing_zeros, w64}
use Rattle.edge_state.specs.BitRows.{row_has}
use Rattle.edge_state.proofs.RowBits.{word_has}

-- the first words are joined
pub record AreJoined (all : ℕ) (ws : List ℕ) (i : ℕ) : Type 0 where
  pub none : all ≡ 0 → (j : ℕ) → j < i → slice_index ws j ≡ 0
  pub some : (all ≡ 0) ⊎ ((x : ℕ) × (row_has ws x ≡ true))

pub joined_start : (ws : List ℕ) → AreJoined 0 ws 0
joined_start ws = record { none = λ e j h. absurd (omega arith); some = inl refl }

pub joined_next : (all : ℕ) (ws : List ℕ) (i : ℕ) → AreJoined all ws i → slice_index ws i < 2 ^ 64
    → AreJoined (bit_or all (slice_index ws i)) ws (i + 1)
joined_next all ws i before fits = record { none = none; some = some (eq-zero-or-pos (slice_index ws i)) before.some }
  where
    none : bit_or all (slice_index ws i) ≡ 0 → (j : ℕ) → j < i + 1 → slice_index ws j ≡ 0
    none e j h = go (cases_eq j i)
      where
        go : (j ≡ i) ⊎ (j ≡ i → ⊥) → slice_index ws j ≡ 0
        go (inl f) = rw f (omega (arith, e, le_or_r all (slice_index ws i)))
        go (inr f) = before.none (omega (arith, e, le_or_l all (slice_index ws i))) j (omega (arith, f))

    some : (slice_index ws i ≡ 0) ⊎ (0 < slice_index ws i) → (all ≡ 0) ⊎ ((x : ℕ) × (row_has ws x ≡ true))
        → (bit_or all (slice_index ws i) ≡ 0) ⊎ ((x : ℕ) × (row_has ws x ≡ true))
    some (inl e) (inl f) = inl (rw (e, f) refl)
    some (inl e) (inr member) = inr member
    some (inr more) _ = inr (64 * i + trailing_zeros w64 (slice_index ws i), word_has ws i more fits)
