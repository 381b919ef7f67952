-- A child of an outer tree whose set grew, by the verdict on the set.
use Rattle.std.specs.Prelude.{ℕ, ◌+◌, ◌≤◌, ◌≡◌, List, ◌∷◌, ◌++◌, length, Bool, Option}
use Rattle.packing_terms.specs.Packing.{PlainInstance, IsPacking}
use Rattle.packing_terms.specs.Goals.{subset, IsBoxSet}
use Rattle.packing_terms.specs.Tokens.{PlainToken}
use Rattle.packing_terms.specs.Tokens.PlainToken.{SetRefuted}
use Rattle.tree_terms.specs.Trees.{Verdict, Yes, No, count_of}
use Rattle.tree_terms.specs.OuterTrees.{set_verdict}
use Rattle.tree_terms.specs.Paths.{max_budget}
use Rattle.set_search.specs.declared.child.Child.{Child}
use Rattle.set_search.specs.declared.child.Child.TheVariants.{Past, Refuted, Fits}

-- the set of a bin, or of the boxes that are in, is refuted, and that is appended to the tokens, with
-- what refutes it; the child counts 1 and what that cost, which is at most what is left
pub record IsRefuted (verdict : Verdict) (left : ℕ) (bin : Option ℕ) (old new : List PlainToken) (own : ℕ) :
    Type 0 where
  pub tokens : List PlainToken
  pub cost : ℕ
  pub is : verdict ≡ No tokens cost
  pub counted : own ≡ 1 + cost
  pub within : own ≤ left
  pub appended : new ≡ old ++ SetRefuted bin ∷ tokens

-- the set fits by these numbers, with the same count
pub record DoesFit (instance : PlainInstance) (verdict : Verdict) (left : ℕ) (set keep numbers : List ℕ) (own : ℕ) :
    Type 0 where
  pub same : keep ≡ set
  pub cost : ℕ
  pub is : verdict ≡ Yes numbers cost
  pub counted : own ≡ 1 + cost
  pub within : own ≤ left
  pub packing : IsPacking (subset instance set) numbers

-- what a child comes to, beside the tokens before and now, which are the same where the set isn't
-- refuted
abbrev pub IsChild : PlainInstance → Bool → ℕ → List ℕ → Option ℕ → List PlainToken → List PlainToken → Child → Type 0
IsChild instance scales left set bin old new Past =
    (left ≤ count_of (set_verdict instance scales set)) × (new ≡ old)
IsChild instance scales left set bin old new (Refuted own) =
    IsRefuted (set_verdict instance scales set) left bin old new own
IsChild instance scales left set bin old new (Fits keep numbers own) =
    DoesFit instance (set_verdict instance scales set) left set keep.items numbers.items own × (new ≡ old)

-- yes, with a count within the greatest budget
abbrev pub IsFound : Verdict → Type 0
IsFound (Yes numbers count) = count ≤ max_budget
IsFound (No tokens count) = ⊥

-- a set of boxes that is found to fit within the greatest budget
pub record IsFoundSet (instance : PlainInstance) (scales : Bool) (set : List ℕ) : Type 0 where
  pub some : 1 ≤ length set
  pub boxes : IsBoxSet instance set
  pub found : IsFound (set_verdict instance scales set)
