-- The choice tree as its callers see it, and its nodes.
use Rattle.std.specs.Prelude.{ℕ, ◌+◌, ◌*◌, ◌<◌, ◌≤◌, ◌≡◌, List, ◌∷◌, ◌++◌, length, drop, refl, Bool, true, false, None}
use Rattle.std.specs.List.{AllByRecursion}
use Rattle.packing_terms.specs.Packing.{PlainInstance, dims}
use Rattle.packing_terms.specs.Rules.{AreBoxes}
use Rattle.packing_terms.specs.OuterRefutation.{has_box, insert_box}
use Rattle.packing_terms.specs.Tokens.{PlainToken}
use Rattle.packing_terms.specs.Tokens.PlainToken.{SetRefuted}
use Rattle.packing_terms.specs.Rank.{ranked}
use Rattle.tree_terms.specs.Trees.{SearchTree, Verdict, Yes, No}
use Rattle.tree_terms.specs.OuterTrees.{is_reached, is_short, set_verdict, choice_tree}
use Rattle.packing_terms.specs.Rising.{AreRising}
use Rattle.set_search.specs.Children.{DoesFit}
use Rattle.choice_search.specs.declared.node.Chosen.{Chosen}
use Rattle.choice_search.specs.declared.node.NodeKind.{NodeKind}
use Rattle.choice_search.specs.declared.node.NodeKind.TheVariants.{Reached, Short, Divided}
use Rattle.choice_search.specs.declared.node.Opened.{Opened}
use Rattle.choice_search.specs.declared.node.Opened.TheVariants.{Past, Refuted, Entered}

-- the instance, the value that is asked for, and the choice of scales
pub record PlainChoiceTree : Type 0 where
  pub instance : PlainInstance
  pub goal : ℕ
  pub scales : Bool

-- the tree of the definition
abbrev pub shape : PlainChoiceTree → SearchTree
shape t = choice_tree t.instance t.goal t.scales

-- the same parts give the same tree
pub same_trees : (t u : PlainChoiceTree) → t ≡ u → shape t ≡ shape u
same_trees t u e = rw e refl

-- the first `decided` boxes by rank are decided; those that are in rise, none of them is left, and
-- their answer has as many numbers as their coordinates
pub record IsChosen (instance : PlainInstance) (decided : ℕ) (taken numbers : List ℕ) : Type 0 where
  pub there : decided ≤ length (ranked instance)
  pub rest : AreBoxes instance (drop decided (ranked instance))
  pub apart : AllByRecursion (λ v. has_box v taken ≡ false) (drop decided (ranked instance))
  pub boxes : AreBoxes instance taken
  pub rising : AreRising taken
  pub count : length numbers ≡ length taken * dims instance

-- the kind of the node at which `decided` boxes are decided and those in `taken` are in
abbrev pub IsMet : PlainInstance → ℕ → ℕ → List ℕ → NodeKind → Type 0
IsMet instance goal decided taken Reached = is_reached instance goal taken ≡ true
IsMet instance goal decided taken Short =
    (is_reached instance goal taken ≡ false) × (is_short instance goal taken (drop decided (ranked instance)) ≡ true)
IsMet instance goal decided taken (Divided v) =
    (is_reached instance goal taken ≡ false) × (is_short instance goal taken (drop decided (ranked instance)) ≡ false)
    × (drop decided (ranked instance) ≡ v ∷ drop (decided + 1) (ranked instance))

-- what the count rises by up to the next node: the first child counts 1 and what its set costs, and
-- the second, behind a refuted set, 1 more
abbrev pub rise_of : Verdict → ℕ
rise_of (Yes numbers cost) = 1 + cost
rise_of (No tokens cost) = 2 + cost

-- the set of the first child is refuted, which is appended to the tokens, with what refutes it; and
-- there is room for the second child
pub record IsLeftOut (verdict : Verdict) (left : ℕ) (old new : List PlainToken) (own : ℕ) : Type 0 where
  pub tokens : List PlainToken
  pub cost : ℕ
  pub is : verdict ≡ No tokens cost
  pub counted : own ≡ 2 + cost
  pub within : own ≤ left
  pub appended : new ≡ old ++ SetRefuted None ∷ tokens

-- the first child is this node, where the second is the one before
pub record IsEntered (instance : PlainInstance) (scales : Bool) (c : Chosen) (v left : ℕ) (d : Chosen) (own : ℕ) :
    Type 0 where
  pub decided : d.decided ≡ c.decided
  pub fits : DoesFit instance (set_verdict instance scales (insert_box v c.taken.items)) left
      (insert_box v c.taken.items) d.taken.items d.numbers.items own

-- what a split by a box leads to, whose second child is this node, beside the tokens before and now,
-- which are the same where the first child is entered
abbrev pub IsOpened : PlainInstance → Bool → Chosen → ℕ → ℕ → List PlainToken → List PlainToken → Opened → Type 0
IsOpened instance scales c v left old new Past =
    left < rise_of (set_verdict instance scales (insert_box v c.taken.items))
IsOpened instance scales c v left old new (Refuted own) =
    IsLeftOut (set_verdict instance scales (insert_box v c.taken.items)) left old new own
IsOpened instance scales c v left old new (Entered d own) = IsEntered instance scales c v left d own × (new ≡ old)
