-- A child at the end of a path, by the verdict on its changed bin; and what is reported of nodes.
use Rattle.std.proofs.Common.{◌≡◌, ℕ, suc, ◌+◌, ◌<◌, ◌≤◌, ◌⊎◌, inl, inr, refl, sym, ap, ◌∙◌, arith, Bool, true, false}
use Rattle.std.proofs.Common.{List, [], ◌∷◌, ◌++◌, length, drop, get_or, Some, ltb, if◌then◌else◌}
use Rattle.std.proofs.lemmas.Bool.{cases_Bool, ltb-true, lt-ltb}
use Rattle.packing_terms.specs.Packing.{PlainInstance, IsPacking}
use Rattle.packing_terms.specs.Limits.{IsInternalInstance}
use Rattle.packing_terms.specs.Goals.{subset, IsBoxSet}
use Rattle.packing_terms.specs.Tokens.{PlainToken}
use Rattle.packing_terms.specs.Tokens.PlainToken.{Assign, SetRefuted}
use Rattle.packing_terms.specs.OuterRefutation.{Bins, with_box, placements}
use Rattle.packing_terms.proofs.WithBoxes.{child_is}
use Rattle.packing_terms.specs.Rank.{ranked}
use Rattle.tree_terms.specs.Trees.{SearchTree, Verdict, Yes, No, Decided, Past, outcome, under_budget, count_of}
use Rattle.tree_terms.specs.OuterTrees.{set_verdict, with_answer, bin_child, bin_node}
use Rattle.tree_terms.specs.Paths.{max_budget, Leaf, Splits, node_view}
use Rattle.tree_terms.proofs.UnderBudget.{over_budget}
use Rattle.set_search.proofs.Reaching.{next_box}
use Rattle.set_search.proofs.Verdicts.{finished}
use Rattle.bin_search.specs.Nodes.{AreInBins}
use Rattle.bin_search.specs.Trees.{PlainBinTree}
use Rattle.bin_search.specs.Paths.{box_at, grown, answers_of, IsAbove, child_tree}
use Rattle.bin_search.proofs.Placements.{few_children}
use Rattle.bin_search.proofs.Placing.{grown_set, next_placed}
use Rattle.bin_search.proofs.Walking.{child_counts}

-- a node whose own count is past every budget is reported as a leaf, and so is one with no box left
past_told : (instance : PlainInstance) (scales : Bool) (k : ℕ) (rest : List ℕ) (bins : Bins) (answers : List (List ℕ))
    (own : ℕ) → max_budget < own
    → node_view (bin_node instance scales k rest bins answers own) ≡ Leaf
past_told instance scales k [] bins answers own l = refl
past_told instance scales k (v ∷ vs) bins answers own l = rw (lt-ltb max_budget own l) refl

-- a node with a box left is reported as a split
pub split_told : (instance : PlainInstance) (scales : Bool) (k placed : ℕ) (bins : Bins) (answers : List (List ℕ))
    (own : ℕ) → placed < length (ranked instance) → own ≤ max_budget
    → Splits (Assign (suc (box_at instance placed))) own (length (placements k bins (box_at instance placed)))
    ≡ node_view (bin_node instance scales k (drop placed (ranked instance)) bins answers own)
split_told instance scales k placed bins answers own there l =
    sym (go (cases_Bool (ltb max_budget own)))
    ∙ ap (λ us. node_view (bin_node instance scales k us bins answers own))
    (sym (next_box (ranked instance) placed there))
  where
    go : (ltb max_budget own ≡ true) ⊎ (ltb max_budget own ≡ false)
        → (if ltb max_budget own then Leaf else Splits (Assign (suc (box_at instance placed))) own
        (length (placements k bins (box_at instance placed))))
        ≡ Splits (Assign (suc (box_at instance placed))) own (length (placements k bins (box_at instance placed)))
    go (inl e) = absurd (let m = ltb-true max_budget own e in omega (arith, l, m))
    go (inr e) = rw e refl

module _ (t : PlainBinTree) (limits : IsInternalInstance t.instance) (placed : ℕ) (bins : Bins)
    (a : IsAbove t placed bins) (b : ℕ)
    (near : b < length (placements t.bins bins (box_at t.instance placed))) where
  pub step_set : IsBoxSet t.instance (grown bins (box_at t.instance placed) b)
  step_set = grown_set t.instance limits t.bins placed bins (answers_of t.instance t.scales bins) a.node a.there b

  pub step_used : b ≤ length bins
  step_used = go (child_is t.bins bins [] (box_at t.instance placed) b near)
    where
      go : ((b < length bins) × (get_or (placements t.bins bins (box_at t.instance placed)) b []
          ≡ with_box bins b (box_at t.instance placed)))
          ⊎ ((b ≡ length bins) × (length bins < t.bins)
          × (get_or (placements t.bins bins (box_at t.instance placed)) b [] ≡ bins
          ++ (box_at t.instance placed ∷ []) ∷ []))
          → b ≤ length bins
      go (inl (m, e)) = omega (arith, m)
      go (inr (f, m, e)) = omega (arith, f)

  pub step_few : b < t.bins
  step_few = let n = a.node in let few = few_children t.bins bins (box_at t.instance placed) n.few in
      omega (arith, few, near)

  abbrev set : Verdict
  set = set_verdict t.instance t.scales (grown bins (box_at t.instance placed) b)

  abbrev below : Verdict → SearchTree
  below w = bin_child b w (λ numbers count. bin_node t.instance t.scales t.bins (drop (placed + 1) (ranked t.instance))
      (with_answer bins b (grown bins (box_at t.instance placed) b))
      (with_answer (answers_of t.instance t.scales bins) b numbers) count)

  pub step_past : (cap : ℕ) → cap ≤ count_of set → Past ≡ under_budget cap (outcome (child_tree t placed bins b))
  step_past cap l =
      let k = child_counts t.instance t.scales t.bins (drop (placed + 1) (ranked t.instance))
      (with_answer bins b (grown bins (box_at t.instance placed) b)) (answers_of t.instance t.scales bins) b set in
      sym (over_budget cap (outcome (child_tree t placed bins b)) (omega (arith, k, l)))

  pub step_refuted : (cap : ℕ) (ts : List PlainToken) (cost own : ℕ) → set ≡ No ts cost → own ≡ 1 + cost → own ≤ cap
      → Decided (No (SetRefuted (Some (suc b)) ∷ ts) own) ≡ under_budget cap (outcome (child_tree t placed bins b))
  step_refuted cap ts cost own e f l =
      finished cap (No (SetRefuted (Some (suc b)) ∷ ts) own) (outcome (child_tree t placed bins b))
      (ap (λ n. No (SetRefuted (Some (suc b)) ∷ ts) n) f ∙ ap (λ w. outcome (below w)) (sym e)) l

  pub step_fits : (ns : List ℕ) (cost own : ℕ) → set ≡ Yes ns cost → own ≡ 1 + cost
      → bin_node t.instance t.scales t.bins (drop (placed + 1) (ranked t.instance))
      (with_answer bins b (grown bins (box_at t.instance placed) b))
      (with_answer (answers_of t.instance t.scales bins) b ns) own ≡ child_tree t placed bins b
  step_fits ns cost own e f =
      ap (λ n. bin_node t.instance t.scales t.bins (drop (placed + 1) (ranked t.instance))
      (with_answer bins b (grown bins (box_at t.instance placed) b))
      (with_answer (answers_of t.instance t.scales bins) b ns) n) f ∙ ap below (sym e)

  pub step_placed : (ns : List ℕ) → IsPacking (subset t.instance (grown bins (box_at t.instance placed) b)) ns
      → AreInBins t.instance t.bins (placed + 1) (with_answer bins b (grown bins (box_at t.instance placed) b))
      (with_answer (answers_of t.instance t.scales bins) b ns)
  step_placed ns pack = next_placed t.instance limits t.bins placed bins (answers_of t.instance t.scales bins) a.node
      a.there b near ns pack

  pub step_past_told : max_budget ≤ count_of set → Leaf ≡ node_view (child_tree t placed bins b)
  step_past_told l = sym (go set l)
    where
      go : (w : Verdict) → max_budget ≤ count_of w → node_view (below w) ≡ Leaf
      go (No ts n) m = refl
      go (Yes ns n) m = past_told t.instance t.scales t.bins (drop (placed + 1) (ranked t.instance))
          (with_answer bins b (grown bins (box_at t.instance placed) b))
          (with_answer (answers_of t.instance t.scales bins) b ns) (1 + n) (omega (arith, m))

  pub step_refuted_told : (ts : List PlainToken) (cost : ℕ) → set ≡ No ts cost
      → Leaf ≡ node_view (child_tree t placed bins b)
  step_refuted_told ts cost e = sym (ap (λ w. node_view (below w)) e)
