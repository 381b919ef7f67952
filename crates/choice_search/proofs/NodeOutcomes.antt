-- The nodes of a choice tree, kind by kind.
use Rattle.std.proofs.Common.{◌≡◌, ℕ, zero, suc, ◌+◌, ◌≤◌, refl, sym, ap, ◌∙◌, arith, Bool, true, false, List, [], ◌∷◌}
use Rattle.std.proofs.Common.{add-zero}
use Rattle.packing_terms.specs.Packing.{PlainInstance}
use Rattle.packing_terms.specs.Tokens.{PlainToken}
use Rattle.packing_terms.specs.Tokens.PlainToken.{Choose, ValueShort}
use Rattle.packing_terms.specs.OuterRefutation.{insert_box}
use Rattle.tree_terms.specs.Trees.{SearchTree, Refuted, Split, Verdict, Yes, No, join, join_from, outcome, count_of}
use Rattle.tree_terms.specs.OuterTrees.{set_verdict, taken_child, choice_of, is_reached, is_short, choice_numbers}
use Rattle.tree_terms.specs.OuterTrees.{choice_node}
use Rattle.tree_terms.proofs.Joins.{join_assoc, join_nothing, split_joins, count_join_no}

-- the own count of a split moves out
split_own : (token : PlainToken) (own : ℕ) (x : Verdict)
    → join (No (token ∷ []) own) x ≡ join (No [] own) (join (No (token ∷ []) 0) x)
split_own token own x = ap (λ n. join (No (token ∷ []) n) x) (sym (add-zero own))
    ∙ join_assoc (No [] own) (No (token ∷ []) 0) x

module _ (instance : PlainInstance) (scales : Bool) (goal : ℕ) where
  -- what the child gives that takes the next box in
  abbrev pub inside_verdict : ℕ → List ℕ → List ℕ → Verdict → Verdict
  inside_verdict v vs taken set =
      outcome (taken_child set (λ ns count. choice_node instance scales goal vs (insert_box v taken) ns count))

  -- a node's own count moves out
  pub own_first : (rest taken numbers : List ℕ) (own : ℕ)
      → outcome (choice_node instance scales goal rest taken numbers own)
      ≡ join (No [] own) (outcome (choice_node instance scales goal rest taken numbers 0))
  own_first [] taken numbers own = go (is_reached instance goal taken)
    where
      go : (b : Bool) → outcome (choice_of b true (choice_numbers instance taken numbers) own
          (Refuted (ValueShort ∷ []) own))
          ≡ join (No [] own) (outcome (choice_of b true (choice_numbers instance taken numbers) 0
          (Refuted (ValueShort ∷ []) 0)))
      go true = ap (λ n. Yes (choice_numbers instance taken numbers) n) (sym (add-zero own))
      go false = ap (λ n. No (ValueShort ∷ []) n) (sym (add-zero own))
  own_first (v ∷ vs) taken numbers own =
      go (is_reached instance goal taken) (is_short instance goal taken (v ∷ vs)) (λ k. elim k [
        | zero ↦ taken_child (set_verdict instance scales (insert_box v taken))
            (λ ns count. choice_node instance scales goal vs (insert_box v taken) ns count)
        | suc _ ↦ choice_node instance scales goal vs taken numbers 1
      ])
    where
      go : (b s : Bool) (child : ℕ → SearchTree)
          → outcome (choice_of b s (choice_numbers instance taken numbers) own (Split (Choose (suc v)) own 2 child))
          ≡ join (No [] own) (outcome (choice_of b s (choice_numbers instance taken numbers) 0
          (Split (Choose (suc v)) 0 2 child)))
      go true s child = ap (λ n. Yes (choice_numbers instance taken numbers) n) (sym (add-zero own))
      go false true child = ap (λ n. No (ValueShort ∷ []) n) (sym (add-zero own))
      go false false child = split_own (Choose (suc v)) own (join_from 0 2 (λ k. outcome (child k)))

  pub reached_node : (rest taken numbers : List ℕ) → is_reached instance goal taken ≡ true
      → outcome (choice_node instance scales goal rest taken numbers 0) ≡ Yes (choice_numbers instance taken numbers) 0
  reached_node [] taken numbers e = rw e refl
  reached_node (v ∷ vs) taken numbers e = rw e refl

  pub short_node : (rest taken numbers : List ℕ) → is_reached instance goal taken ≡ false
      → is_short instance goal taken rest ≡ true
      → outcome (choice_node instance scales goal rest taken numbers 0) ≡ No (ValueShort ∷ []) 0
  short_node [] taken numbers e f = rw e refl
  short_node (v ∷ vs) taken numbers e f = rw (e, f) refl

  pub split_node : (v : ℕ) (vs taken numbers : List ℕ) → is_reached instance goal taken ≡ false
      → is_short instance goal taken (v ∷ vs) ≡ false
      → outcome (choice_node instance scales goal (v ∷ vs) taken numbers 0)
      ≡ join (No (Choose (suc v) ∷ []) 0)
      (join (inside_verdict v vs taken (set_verdict instance scales (insert_box v taken)))
      (outcome (choice_node instance scales goal vs taken numbers 1)))
  split_node v vs taken numbers e f = rw (e, f) (
      split_joins (Choose (suc v)) 0 2 (λ k. elim k [
        | zero ↦ taken_child (set_verdict instance scales (insert_box v taken))
            (λ ns count. choice_node instance scales goal vs (insert_box v taken) ns count)
        | suc _ ↦ choice_node instance scales goal vs taken numbers 1
      ])
      ∙ ap (λ x. join (No (Choose (suc v) ∷ []) 0)
      (join (inside_verdict v vs taken (set_verdict instance scales (insert_box v taken))) x))
      (join_nothing (outcome (choice_node instance scales goal vs taken numbers 1))))

  -- the child that takes the box in counts 1 and what the decision of its set cost
  pub inside_counts : (v : ℕ) (vs taken : List ℕ) (set : Verdict)
      → 1 + count_of set ≤ count_of (inside_verdict v vs taken set)
  inside_counts v vs taken (Yes ns n) =
      let e = ap count_of (own_first vs (insert_box v taken) ns (1 + n)) in
      let f = count_join_no [] (1 + n) (outcome (choice_node instance scales goal vs (insert_box v taken) ns 0)) in
      omega (arith, e, f)
  inside_counts v vs taken (No ts n) = omega arith
