-- What leaving only some relations at a pair takes out.
use Rattle.std.specs.Prelude.{ℕ, ◌≡◌, Bool, false}
use Rattle.packing_terms.specs.declared.Rel.{Rel}
use Rattle.packing_terms.specs.Relations.{mirror}

-- the edge is this one or its mirror, and the relation isn't one to be kept there
pub data IsTakenOut (i u v : ℕ) (keep : Rel → Bool) : ℕ → ℕ → ℕ → Rel → Type 0 where
  taken : (r : Rel) → keep r ≡ false → IsTakenOut i u v keep i u v r
  mirror_taken : (r : Rel) → keep r ≡ false → IsTakenOut i u v keep i v u (mirror r)
