-- Entries of a memory beside their plain data.
use Rattle.std.proofs.Common.{◌≡◌, ℕ, ◌<◌, refl, sym, ap, ◌∙◌, Bool, true, false, not, nat_eq, List, length, map}
use Rattle.std.proofs.Common.{get_or}
use Rattle.std.specs.Cmp.Lexicographic.{pointwise, same_text}
use Rattle.std.proofs.lemmas.Bool.{true≢false}
use Rattle.std.specs.List.{Contains}
use Rattle.std.proofs.lemmas.List.{get_or-map, length-map}
use Rattle.set_search.specs.declared.cache.Entry.{Entry}
use Rattle.set_search.specs.Entries.{plain_entry}

-- what is read of a list of entries is among them
pub entry_there : (items : List Entry) (k : ℕ) (e : Entry) → k < length items → e ≡ get_or items k e
    → Contains (map plain_entry items) (plain_entry e)
entry_there items k e l h = (
  k,
  rw (length-map items plain_entry) l,
  get_or-map plain_entry items k e (plain_entry e) l
      ∙ ap plain_entry (sym h),
)

-- rows that don't differ are the same
pub same_row : (xs ys : List ℕ) (b : Bool) → b ≡ not (pointwise nat_eq xs ys) → b ≡ false → xs ≡ ys
same_row xs ys b e h = same_text xs ys (go (pointwise nat_eq xs ys) (sym e ∙ h))
  where
    go : (p : Bool) → not p ≡ false → true ≡ p
    go true _ = refl
    go false f = absurd (true≢false f)
