-- A packing that respects the exclusions before a rule is applied respects those after.
use Rattle.std.proofs.Common.{ℕ, ◌⊎◌, inl, inr, Bool, List, IsTrue}
use Rattle.packing_terms.specs.declared.Rel.{Rel}
use Rattle.packing_terms.specs.declared.Exclusion.{Exclusion}
use Rattle.packing_terms.specs.Packing.{PlainInstance, IsPacking, HasPositiveSides}
use Rattle.packing_terms.specs.Relations.{Holds}
use Rattle.packing_terms.specs.Exclusions.{excludes, Respects}
use Rattle.packing_terms.specs.Rules.{Rule, by_rule, mirrored}
use Rattle.packing_terms.specs.Applied.{Adds, added, mirror_added, IsApplied, IsAppliedAmong, KeepsPackingsAmong}
use Rattle.packing_terms.proofs.Soundness.{follows_sound}

pub applied_sound : (instance : PlainInstance) (places : List ℕ) (rule : Rule) (old new : List Exclusion)
    (changed : Bool) → HasPositiveSides instance → IsPacking instance places
    → IsApplied instance rule old new changed → Respects instance places (excludes old)
    → Respects instance places (excludes new)
applied_sound instance places rule old new changed sides packing applied respects i u v r h =
    go i u v r ((applied.exact i u v r).0 h)
  where
    go : (i u v : ℕ) (r : Rel) → IsTrue (excludes old i u v r) ⊎ Adds instance (excludes old) rule i u v r
        → ¬ Holds instance places i u v r
    go i u v r (inl k) = respects i u v r k
    go _ _ _ _ (inr (added r is p c)) =
        follows_sound instance places (excludes old) sides packing respects _ _ _ r (by_rule rule r is p c)
    go _ _ _ _ (inr (mirror_added r is p c)) =
        follows_sound instance places (excludes old) sides packing respects _ _ _ _ (mirrored rule r is p c)

-- in every instance with `d` dimensions and `n` boxes
pub applied_sound_among : (d n : ℕ) (rule : Rule) (old new : List Exclusion) (changed : Bool)
    → IsAppliedAmong d n rule old new changed
    → KeepsPackingsAmong d n old new
applied_sound_among d n rule old new changed applied instance hd hn places sides packing respects =
    applied_sound instance places rule old new changed sides packing (applied instance hd hn) respects
