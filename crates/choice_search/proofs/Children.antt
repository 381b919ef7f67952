-- The children of a node that is split: their first one by the verdict on its set.
use Rattle.std.proofs.Common.{◌≡◌, ℕ, suc, ◌+◌, ◌*◌, ◌<◌, ◌≤◌, refl, sym, ap, ◌∙◌, arith, Bool, true, false, List, []}
use Rattle.std.proofs.Common.{◌∷◌, length, drop, None}
use Rattle.std.proofs.lemmas.Bool.{lt-ltb}
use Rattle.packing_terms.specs.Packing.{PlainInstance, dims}
use Rattle.packing_terms.specs.Rules.{AreBoxes}
use Rattle.packing_terms.specs.Goals.{IsBoxSet}
use Rattle.packing_terms.specs.Tokens.{PlainToken}
use Rattle.packing_terms.specs.Tokens.PlainToken.{Choose, SetRefuted, ValueShort}
use Rattle.packing_terms.specs.OuterRefutation.{insert_box}
use Rattle.packing_terms.specs.Rank.{ranked}
use Rattle.tree_terms.specs.Trees.{SearchTree, Refuted, Split, Verdict, Yes, No, Decided, Past, outcome, under_budget, count_of}
use Rattle.tree_terms.specs.OuterTrees.{set_verdict, taken_child, choice_of, is_reached, is_short, choice_numbers}
use Rattle.tree_terms.specs.OuterTrees.{choice_node}
use Rattle.tree_terms.specs.Paths.{max_budget, Leaf, node_view}
use Rattle.tree_terms.proofs.UnderBudget.{over_budget}
use Rattle.tree_terms.proofs.Joins.{count_join_no}
use Rattle.set_search.proofs.Verdicts.{finished}
use Rattle.set_search.proofs.Reaching.{next_box}
use Rattle.choice_search.specs.Choices.{PlainChoiceTree, IsChosen}
use Rattle.choice_search.specs.Paths.{class_answer, IsAbove, box_at, child_tree}
use Rattle.choice_search.proofs.Choosing.{more_boxes, more_set, inside_chosen, outside_chosen}
use Rattle.choice_search.proofs.NodeOutcomes.{own_first, inside_counts}

-- a node whose own count is past every budget is reported as a leaf
past_told : (instance : PlainInstance) (scales : Bool) (goal : ℕ) (rest taken numbers : List ℕ) (own : ℕ)
    → max_budget < own
    → node_view (choice_node instance scales goal rest taken numbers own) ≡ Leaf
past_told instance scales goal [] taken numbers own l = go (is_reached instance goal taken)
  where
    go : (b : Bool) → node_view (choice_of b true (choice_numbers instance taken numbers) own
        (Refuted (ValueShort ∷ []) own)) ≡ Leaf
    go true = refl
    go false = refl
past_told instance scales goal (v ∷ vs) taken numbers own l =
    go (is_reached instance goal taken) (is_short instance goal taken (v ∷ vs)) _
  where
    go : (b s : Bool) (f : ℕ → SearchTree)
        → node_view (choice_of b s (choice_numbers instance taken numbers) own (Split (Choose (suc v)) own 2 f)) ≡ Leaf
    go true s f = refl
    go false true f = refl
    go false false f = rw (lt-ltb max_budget own l) refl

-- a node that isn't split is reported as a leaf
pub reached_told : (instance : PlainInstance) (scales : Bool) (goal : ℕ) (rest taken numbers : List ℕ) (own : ℕ)
    → is_reached instance goal taken ≡ true
    → node_view (choice_node instance scales goal rest taken numbers own) ≡ Leaf
reached_told instance scales goal [] taken numbers own e = rw e refl
reached_told instance scales goal (v ∷ vs) taken numbers own e = rw e refl

pub short_told : (instance : PlainInstance) (scales : Bool) (goal : ℕ) (rest taken numbers : List ℕ) (own : ℕ)
    → is_reached instance goal taken ≡ false
    → is_short instance goal taken rest ≡ true
    → node_view (choice_node instance scales goal rest taken numbers own) ≡ Leaf
short_told instance scales goal [] taken numbers own e f = rw e refl
short_told instance scales goal (v ∷ vs) taken numbers own e f = rw (e, f) refl

module _ (t : PlainChoiceTree) (decided : ℕ) (taken : List ℕ) (a : IsAbove t.instance t.scales decided taken) where
  here : drop decided (ranked t.instance) ≡ box_at t.instance decided ∷ drop (decided + 1) (ranked t.instance)
  here = next_box (ranked t.instance) decided a.there

  pub first_set : IsBoxSet t.instance (insert_box (box_at t.instance decided) taken)
  first_set = more_set t.instance decided taken (class_answer t.instance t.scales taken) a.chosen
      (box_at t.instance decided) here

  pub first_boxes : AreBoxes t.instance (insert_box (box_at t.instance decided) taken)
  first_boxes = more_boxes t.instance decided taken (class_answer t.instance t.scales taken) a.chosen
      (box_at t.instance decided) here

  pub first_chosen : (ns : List ℕ) → length ns ≡ length (insert_box (box_at t.instance decided) taken) * dims t.instance
      → IsChosen t.instance (decided + 1) (insert_box (box_at t.instance decided) taken) ns
  first_chosen = inside_chosen t.instance decided taken (class_answer t.instance t.scales taken) a.chosen
      (box_at t.instance decided) here

  pub second_chosen : IsChosen t.instance (decided + 1) taken (class_answer t.instance t.scales taken)
  second_chosen = outside_chosen t.instance decided taken (class_answer t.instance t.scales taken) a.chosen
      (box_at t.instance decided) here

  abbrev set : Verdict
  set = set_verdict t.instance t.scales (insert_box (box_at t.instance decided) taken)

  abbrev below : Verdict → SearchTree
  below w = taken_child w (λ ns count. choice_node t.instance t.scales t.goal (drop (decided + 1) (ranked t.instance))
      (insert_box (box_at t.instance decided) taken) ns count)

  pub first_past : (cap : ℕ) → cap ≤ count_of set → Past ≡ under_budget cap (outcome (child_tree t decided taken 0))
  first_past cap l =
      let k = inside_counts t.instance t.scales t.goal (box_at t.instance decided)
      (drop (decided + 1) (ranked t.instance)) taken set in
      sym (over_budget cap (outcome (child_tree t decided taken 0)) (omega (arith, k, l)))

  pub first_refuted : (cap : ℕ) (ts : List PlainToken) (cost own : ℕ) → set ≡ No ts cost → own ≡ 1 + cost → own ≤ cap
      → Decided (No (SetRefuted None ∷ ts) own) ≡ under_budget cap (outcome (child_tree t decided taken 0))
  first_refuted cap ts cost own e f l =
      finished cap (No (SetRefuted None ∷ ts) own) (outcome (child_tree t decided taken 0))
      (ap (λ n. No (SetRefuted None ∷ ts) n) f ∙ ap (λ w. outcome (below w)) (sym e)) l

  pub first_fits : (ns : List ℕ) (cost own : ℕ) → set ≡ Yes ns cost → own ≡ 1 + cost
      → choice_node t.instance t.scales t.goal (drop (decided + 1) (ranked t.instance))
      (insert_box (box_at t.instance decided) taken) ns own ≡ child_tree t decided taken 0
  first_fits ns cost own e f =
      ap (λ n. choice_node t.instance t.scales t.goal (drop (decided + 1) (ranked t.instance))
      (insert_box (box_at t.instance decided) taken) ns n) f ∙ ap below (sym e)

  pub first_past_told : max_budget ≤ count_of set → Leaf ≡ node_view (child_tree t decided taken 0)
  first_past_told l = sym (go set l)
    where
      go : (w : Verdict) → max_budget ≤ count_of w → node_view (below w) ≡ Leaf
      go (No ts n) m = refl
      go (Yes ns n) m = past_told t.instance t.scales t.goal (drop (decided + 1) (ranked t.instance))
          (insert_box (box_at t.instance decided) taken) ns (1 + n) (omega (arith, m))

  pub first_refuted_told : (ts : List PlainToken) (cost : ℕ) → set ≡ No ts cost
      → Leaf ≡ node_view (child_tree t decided taken 0)
  first_refuted_told ts cost e = sym (ap (λ w. node_view (below w)) e)

  pub second_past : 0 < count_of (outcome (child_tree t decided taken 1))
  second_past =
      let k = ap count_of (own_first t.instance t.scales t.goal (drop (decided + 1) (ranked t.instance)) taken
      (class_answer t.instance t.scales taken) 1) in
      let l = count_join_no [] 1 (outcome
      (choice_node t.instance t.scales t.goal (drop (decided + 1) (ranked t.instance)) taken
      (class_answer t.instance t.scales taken) 0)) in
      omega (arith, k, l)
