-- Each turn of the walk through a choice tree leaves what is still to be given.
use Rattle.std.proofs.Common.{◌≡◌, ℕ, suc, ◌+◌, ◌*◌, ◌<◌, ◌≤◌, refl, sym, ap, ap₂, subst, ◌∙◌, arith, true, false, List}
use Rattle.std.proofs.Common.{[], ◌∷◌, ◌++◌, length, drop, None, add-zero}
use Rattle.packing_terms.specs.Packing.{dims}
use Rattle.packing_terms.specs.Tokens.{PlainToken}
use Rattle.packing_terms.specs.Tokens.PlainToken.{Choose, SetRefuted, ValueShort}
use Rattle.packing_terms.specs.OuterRefutation.{insert_box}
use Rattle.packing_terms.specs.Rank.{ranked}
use Rattle.tree_terms.specs.Trees.{Verdict, Yes, No, join, outcome, count_of}
use Rattle.tree_terms.specs.OuterTrees.{set_verdict, is_reached, is_short, choice_numbers, choice_node}
use Rattle.tree_terms.proofs.Joins.{join_assoc, join_nothing, count_join_no, count_left}
use Rattle.choice_search.specs.declared.node.Chosen.{Chosen}
use Rattle.choice_search.specs.Choices.{PlainChoiceTree, IsChosen, rise_of}
use Rattle.choice_search.specs.Walks.{node_verdict, waiting_verdict, IsLeft}
use Rattle.set_search.proofs.Verdicts.{advance, advance_count, advance_leaf}
use Rattle.choice_search.proofs.Choosing.{inside_chosen, outside_chosen}
use Rattle.choice_search.proofs.NodeOutcomes.{inside_verdict, own_first, reached_node, short_node, split_node}
use Rattle.choice_search.proofs.NodeOutcomes.{inside_counts}

module _ (t : PlainChoiceTree) where
  pub node_own : (c : Chosen) (own : ℕ) → node_verdict t c own ≡ join (No [] own) (node_verdict t c 0)
  node_own c own = own_first t.instance t.scales t.goal (drop c.decided (ranked t.instance)) c.taken.items
      c.numbers.items own

  -- at the start nothing waits
  pub starts : (c : Chosen) (own : ℕ) → IsChosen t.instance c.decided c.taken.items c.numbers.items
      → IsLeft t (node_verdict t c own) [] own c []
  starts c own h = record {
    joined = ap (λ v. join (No [] own) v) (join_nothing (node_verdict t c 0))
        ∙ sym (node_own c own);
    node = h;
    waits = tt;
  }

  -- a child that waits counts 1 more
  waiting_next : (whole : Verdict) (tokens : List PlainToken) (count : ℕ) (w : Chosen) (v : Verdict)
      → join (No tokens count) (join (node_verdict t w 1) v) ≡ whole
      → join (No tokens (count + 1)) (join (node_verdict t w 0) v) ≡ whole
  waiting_next whole tokens count w v e =
      sym (advance_count tokens count 1 (node_verdict t w 0) v)
      ∙ (ap (λ x. join (No tokens count) (join x v)) (sym (node_own w 1)) ∙ e)

  waiting_past : (whole : Verdict) (tokens : List PlainToken) (count : ℕ) (w : Chosen) (v : Verdict)
      → join (No tokens count) (join (node_verdict t w 1) v) ≡ whole → count < count_of whole
  waiting_past whole tokens count w v e =
      let f = ap count_of (waiting_next whole tokens count w v e) in
      let g = count_join_no tokens (count + 1) (join (node_verdict t w 0) v) in
      omega (arith, f, g)

  module _ (whole : Verdict) (tokens : List PlainToken) (count : ℕ) (c : Chosen) where
    pub reached_last : (ws : List Chosen) → IsLeft t whole tokens count c ws
        → is_reached t.instance t.goal c.taken.items ≡ true
        → Yes (choice_numbers t.instance c.taken.items c.numbers.items) count ≡ whole
    reached_last ws left e =
        ap (λ n. Yes (choice_numbers t.instance c.taken.items c.numbers.items) n) (sym (add-zero count))
        ∙ (ap (λ v. join (No tokens count) (join v (waiting_verdict t ws)))
        (sym (reached_node t.instance t.scales t.goal (drop c.decided (ranked t.instance)) c.taken.items c.numbers.items
        e)) ∙ left.joined)

    -- a node that falls short
    module _ (e : is_reached t.instance t.goal c.taken.items ≡ false)
        (f : is_short t.instance t.goal c.taken.items (drop c.decided (ranked t.instance)) ≡ true) where
      short_joined : (ws : List Chosen) → IsLeft t whole tokens count c ws
          → join (No (tokens ++ ValueShort ∷ []) count) (waiting_verdict t ws) ≡ whole
      short_joined ws left =
          ap (λ n. join (No (tokens ++ ValueShort ∷ []) n) (waiting_verdict t ws)) (sym (add-zero count))
          ∙ (sym (advance_leaf tokens (ValueShort ∷ []) count 0 (waiting_verdict t ws))
          ∙ (ap (λ v. join (No tokens count) (join v (waiting_verdict t ws)))
          (sym (short_node t.instance t.scales t.goal (drop c.decided (ranked t.instance)) c.taken.items c.numbers.items
          e f)) ∙ left.joined))

      pub short_last : IsLeft t whole tokens count c [] → No (tokens ++ ValueShort ∷ []) count ≡ whole
      short_last left = sym (join_nothing (No (tokens ++ ValueShort ∷ []) count)) ∙ short_joined [] left

      pub short_past : (w : Chosen) (ws : List Chosen) → IsLeft t whole tokens count c (w ∷ ws) → count < count_of whole
      short_past w ws left = waiting_past whole (tokens ++ ValueShort ∷ []) count w (waiting_verdict t ws)
          (short_joined (w ∷ ws) left)

      pub short_next : (w : Chosen) (ws : List Chosen) → IsLeft t whole tokens count c (w ∷ ws)
          → IsLeft t whole (tokens ++ ValueShort ∷ []) (count + 1) w ws
      short_next w ws left = record {
        joined = waiting_next whole (tokens ++ ValueShort ∷ []) count w (waiting_verdict t ws)
            (short_joined (w ∷ ws) left);
        node = left.waits.0;
        waits = left.waits.1;
      }

    -- a node that is split by its next box
    module _ (ws : List Chosen) (left : IsLeft t whole tokens count c ws) (v : ℕ)
        (e : is_reached t.instance t.goal c.taken.items ≡ false)
        (f : is_short t.instance t.goal c.taken.items (drop c.decided (ranked t.instance)) ≡ false)
        (g : drop c.decided (ranked t.instance) ≡ v ∷ drop (c.decided + 1) (ranked t.instance)) where
      -- the node with that box out
      abbrev pub outside : Chosen
      outside = record c { decided = c.decided + 1 }

      abbrev set : Verdict
      set = set_verdict t.instance t.scales (insert_box v c.taken.items)

      abbrev inside : Verdict → Verdict
      inside = inside_verdict t.instance t.scales t.goal v (drop (c.decided + 1) (ranked t.instance)) c.taken.items

      split_joined : join (No (tokens ++ Choose (suc v) ∷ []) count)
          (join (inside set) (join (node_verdict t outside 1) (waiting_verdict t ws))) ≡ whole
      split_joined =
          ap₂ (λ n x. join (No (tokens ++ Choose (suc v) ∷ []) n) x) (sym (add-zero count))
          (sym (join_assoc (inside set) (node_verdict t outside 1) (waiting_verdict t ws)))
          ∙ (sym (advance tokens (Choose (suc v) ∷ []) count 0 (join (inside set) (node_verdict t outside 1))
          (waiting_verdict t ws))
          ∙ (ap (λ x. join (No tokens count) (join x (waiting_verdict t ws)))
          (sym (ap (λ us. outcome (choice_node t.instance t.scales t.goal us c.taken.items c.numbers.items 0)) g
          ∙ split_node t.instance t.scales t.goal v (drop (c.decided + 1) (ranked t.instance)) c.taken.items
          c.numbers.items e
          (subst (λ us. is_short t.instance t.goal c.taken.items us ≡ false) g f))) ∙ left.joined))

      split_past : count + 1 + count_of set ≤ count_of whole
      split_past =
          let k = inside_counts t.instance t.scales t.goal v (drop (c.decided + 1) (ranked t.instance))
          c.taken.items set in
          let l = count_left (inside set) (join (node_verdict t outside 1) (waiting_verdict t ws)) in
          let m = ap count_of split_joined in
          let n = count_join_no (tokens ++ Choose (suc v) ∷ []) count
          (join (inside set) (join (node_verdict t outside 1) (waiting_verdict t ws))) in
          omega (arith, k, l, m, n)

      -- the set with that box fits
      pub inside_next : (ns : List ℕ) (cost : ℕ) → set ≡ Yes ns cost → (d : Chosen) → d.decided ≡ c.decided + 1
          → d.taken.items ≡ insert_box v c.taken.items → d.numbers.items ≡ ns
          → length ns ≡ length (insert_box v c.taken.items) * dims t.instance
          → IsLeft t whole (tokens ++ Choose (suc v) ∷ []) (count + (1 + cost)) d (outside ∷ ws)
      inside_next ns cost y d at taken numbers size = record {
        joined =
            ap (λ x. join (No (tokens ++ Choose (suc v) ∷ []) (count + (1 + cost)))
            (join x (waiting_verdict t (outside ∷ ws)))) same
            ∙ (sym (advance_count (tokens ++ Choose (suc v) ∷ []) count (1 + cost) _ _)
            ∙ (ap (λ x. join (No (tokens ++ Choose (suc v) ∷ []) count)
            (join x (join (node_verdict t outside 1) (waiting_verdict t ws))))
            (sym (ap inside y ∙ own_first t.instance t.scales t.goal (drop (c.decided + 1) (ranked t.instance))
            (insert_box v c.taken.items) ns (1 + cost))) ∙ split_joined));
        node = rw (at, taken, numbers)
            (inside_chosen t.instance c.decided c.taken.items c.numbers.items left.node v g ns size);
        waits = (outside_chosen t.instance c.decided c.taken.items c.numbers.items left.node v g, left.waits);
      }
        where
          same : node_verdict t d 0 ≡ outcome
              (choice_node t.instance t.scales t.goal (drop (c.decided + 1) (ranked t.instance))
              (insert_box v c.taken.items) ns 0)
          same = rw (at, taken, numbers) refl

      -- it doesn't fit
      module _ (us : List PlainToken) (cost : ℕ) (y : set ≡ No us cost) where
        refuted_joined : join (No ((tokens ++ Choose (suc v) ∷ []) ++ SetRefuted None ∷ us) (count + (1 + cost)))
            (join (node_verdict t outside 1) (waiting_verdict t ws)) ≡ whole
        refuted_joined =
            sym (advance_leaf (tokens ++ Choose (suc v) ∷ []) (SetRefuted None ∷ us) count (1 + cost)
            (join (node_verdict t outside 1) (waiting_verdict t ws)))
            ∙ (ap (λ x. join (No (tokens ++ Choose (suc v) ∷ []) count)
            (join x (join (node_verdict t outside 1) (waiting_verdict t ws)))) (sym (ap inside y)) ∙ split_joined)

        refuted_past : count + (1 + cost) < count_of whole
        refuted_past = waiting_past whole ((tokens ++ Choose (suc v) ∷ []) ++ SetRefuted None ∷ us) (count + (1 + cost))
            outside (waiting_verdict t ws) refuted_joined

        pub outside_next : IsLeft t whole ((tokens ++ Choose (suc v) ∷ []) ++ SetRefuted None ∷ us)
            (count + (1 + cost) + 1) outside ws
        outside_next = record {
          joined = waiting_next whole ((tokens ++ Choose (suc v) ∷ []) ++ SetRefuted None ∷ us) (count + (1 + cost))
              outside (waiting_verdict t ws) refuted_joined;
          node = outside_chosen t.instance c.decided c.taken.items c.numbers.items left.node v g;
          waits = left.waits;
        }

      -- the next node is counted too
      pub opened_past : count + rise_of set ≤ count_of whole
      opened_past = go set refl
        where
          go : (x : Verdict) → set ≡ x → count + rise_of x ≤ count_of whole
          go (Yes ns cost) y = let p = split_past in let q = ap count_of y in omega (arith, p, q)
          go (No us cost) y = let p = refuted_past us cost y in omega (arith, p)
