-- Each turn of the walk through a bin tree leaves what is still to be given.
use Rattle.std.proofs.Common.{◌≡◌, ℕ, suc, pred, ◌+◌, ◌-◌, ◌<◌, ◌≤◌, refl, sym, ap, ◌∙◌, arith, Bool, List, [], ◌∷◌}
use Rattle.std.proofs.Common.{◌++◌, length, get_or, drop, Some}
use Rattle.packing_terms.specs.Packing.{PlainInstance}
use Rattle.packing_terms.specs.Limits.{IsInternalInstance}
use Rattle.packing_terms.specs.Tokens.{PlainToken}
use Rattle.packing_terms.specs.Tokens.PlainToken.{Assign, SetRefuted}
use Rattle.packing_terms.specs.OuterRefutation.{Bins, placements}
use Rattle.packing_terms.specs.Rank.{ranked}
use Rattle.tree_terms.specs.Trees.{SearchTree, Verdict, Yes, No, no_tokens, join, join_from, outcome, count_of}
use Rattle.tree_terms.specs.OuterTrees.{set_verdict, with_answer, bin_numbers, bin_child, bin_node}
use Rattle.tree_terms.proofs.Joins.{join_assoc, join_nothing, nothing_join, join_next, count_join_no, count_left}
use Rattle.set_search.specs.Children.{DoesFit}
use Rattle.set_search.proofs.Reaching.{next_box}
use Rattle.set_search.proofs.Verdicts.{advance, advance_leaf}
use Rattle.bin_search.specs.Nodes.{AreInBins, PlainPlaced, PlainChange, nodes_above, box_of, grown_bin, IsEntered}
use Rattle.bin_search.specs.Trees.{PlainBinTree}
use Rattle.bin_search.specs.Walks.{later_boxes, next_bins, child_of, width, rest_verdict, waiting_verdict, IsSplit}
use Rattle.bin_search.specs.Walks.{IsLeft}
use Rattle.bin_search.proofs.Placements.{placed_at, changed_at}
use Rattle.bin_search.proofs.Placing.{next_placed}

-- a node counts no less than its own count
pub node_counts : (instance : PlainInstance) (scales : Bool) (k : ℕ) (rest : List ℕ) (bins : Bins)
    (answers : List (List ℕ)) (own : ℕ)
    → own ≤ count_of (outcome (bin_node instance scales k rest bins answers own))
node_counts instance scales k [] bins answers own = omega arith
node_counts instance scales k (v ∷ vs) bins answers own =
    count_left (No (Assign (suc v) ∷ []) own) (join_from 0 (length (placements k bins v)) (λ b. outcome (
    let next = get_or (placements k bins v) b [] in
    bin_child b (set_verdict instance scales (get_or next b []))
    (λ numbers count. bin_node instance scales k vs next (with_answer answers b numbers) count))))

-- a child counts no less than 1 and what the decision of its changed bin cost
pub child_counts : (instance : PlainInstance) (scales : Bool) (k : ℕ) (rest : List ℕ) (bins : Bins)
    (answers : List (List ℕ)) (b : ℕ) (set : Verdict)
    → 1 + count_of set ≤ count_of (outcome
    (bin_child b set (λ numbers n. bin_node instance scales k rest bins (with_answer answers b numbers) n)))
child_counts instance scales k rest bins answers b (Yes ns n) =
    node_counts instance scales k rest bins (with_answer answers b ns) (1 + n)
child_counts instance scales k rest bins answers b (No ts n) = omega arith

-- what stands above a node has no part in which of its children were visited
pub same_above : (c : PlainPlaced) (n : ℕ) (hs : List PlainChange)
    → nodes_above (record c { visited = n }) hs ≡ nodes_above c hs
same_above c n [] = refl
same_above c n (h ∷ hs) = refl

module _ (t : PlainBinTree) where
  -- the node with one child more visited
  abbrev pub visited_next : PlainPlaced → PlainPlaced
  visited_next c = record c { visited = c.visited + 1 }

  -- the verdict on the set of the child that comes next
  abbrev pub next_set : PlainPlaced → Verdict
  next_set c = set_verdict t.instance t.scales (grown_bin t.instance c)

  -- a node that is entered, with its token and its own count, joined with its children
  pub entered_all : (d : PlainPlaced) (own : ℕ) → d.placed < length (ranked t.instance) → d.visited ≡ 0
      → join (No (Assign (suc (box_of t.instance d)) ∷ []) own) (rest_verdict t d)
      ≡ outcome (bin_node t.instance t.scales t.bins (drop d.placed (ranked t.instance)) d.bins d.answers own)
  entered_all d own there none =
      ap (λ x. join (No (Assign (suc (box_of t.instance d)) ∷ []) own) x) rest_all
      ∙ ap (λ us. outcome (bin_node t.instance t.scales t.bins us d.bins d.answers own))
      (sym (next_box (ranked t.instance) d.placed there))
    where
      rest_all : rest_verdict t d ≡ join_from 0 (width t d) (λ b. outcome (child_of t d b))
      rest_all = ap (λ k. join_from k (width t d - k) (λ b. outcome (child_of t d b))) none
          ∙ ap (λ n. join_from 0 n (λ b. outcome (child_of t d b)))
          (let z : width t d - 0 ≡ width t d = omega arith in z)

  -- the start
  pub starts : (d : PlainPlaced) (own : ℕ) → d.placed < length (ranked t.instance) → d.visited ≡ 0
      → AreInBins t.instance t.bins d.placed d.bins d.answers
      → IsLeft t (outcome (bin_node t.instance t.scales t.bins (drop d.placed (ranked t.instance)) d.bins
      d.answers own))
      (Assign (suc (box_of t.instance d)) ∷ []) own d []
  starts d own there none h = record {
    joined = ap (λ x. join (No (Assign (suc (box_of t.instance d)) ∷ []) own) x) (join_nothing (rest_verdict t d))
        ∙ entered_all d own there none;
    node = record { there = there; node = h; visited = omega (arith, none) };
    waits = tt;
  }

  -- the child that comes next, where its changed bin fits
  pub fitting : (c d : PlainPlaced) (left own : ℕ) (keep numbers : List ℕ)
      → DoesFit t.instance (next_set c) left (grown_bin t.instance c) keep numbers own
      → d ≡ record {
        placed = c.placed + 1;
        bins = with_answer c.bins (pred (c.visited + 1)) keep;
        answers = with_answer c.answers (pred (c.visited + 1)) numbers;
        visited = 0;
      }
      → IsEntered t.instance t.scales c left d own
  fitting c d left own keep numbers h e = record {
    numbers = numbers;
    cost = h.cost;
    is = h.is;
    counted = h.counted;
    within = h.within;
    packing = h.packing;
    placed = ap (λ (x : PlainPlaced). x.placed) e;
    bins = ap (λ (x : PlainPlaced). x.bins) e
        ∙ (ap (λ b. with_answer c.bins b keep) last ∙ ap (λ us. with_answer c.bins c.visited us) h.same);
    answers = ap (λ (x : PlainPlaced). x.answers) e ∙ ap (λ b. with_answer c.answers b numbers) last;
    fresh = ap (λ (x : PlainPlaced). x.visited) e;
  }
    where
      last : pred (c.visited + 1) ≡ c.visited
      last = omega arith

  module _ (whole : Verdict) (tokens : List PlainToken) (count : ℕ) (c : PlainPlaced) where
    -- all children are visited
    module _ (all : c.visited ≡ width t c) where
      none_left : rest_verdict t c ≡ no_tokens
      none_left =
          let e : width t c - c.visited ≡ 0 = omega (arith, all) in
          ap (λ n. join_from c.visited n (λ b. outcome (child_of t c b))) e

      pub pop_last : IsLeft t whole tokens count c [] → No tokens count ≡ whole
      pop_last h = sym (join_nothing (No tokens count))
          ∙ (ap (λ x. join (No tokens count) x) (sym (ap (λ x. join x no_tokens) none_left)) ∙ h.joined)

      pub pop_next : (w : PlainPlaced) (ws : List PlainPlaced) → IsLeft t whole tokens count c (w ∷ ws)
          → IsLeft t whole tokens count w ws
      pop_next w ws h = record {
        joined = ap (λ x. join (No tokens count) x) (sym (nothing_join (join (rest_verdict t w) (waiting_verdict t ws)))
            ∙ ap (λ x. join x (join (rest_verdict t w) (waiting_verdict t ws))) (sym none_left)) ∙ h.joined;
        node = h.waits.0;
        waits = h.waits.1;
      }

    -- a child comes next
    module _ (ws : List PlainPlaced) (h : IsLeft t whole tokens count c ws) (more : c.visited < width t c) where
      rest_is : rest_verdict t c ≡ join (outcome (child_of t c c.visited)) (rest_verdict t (visited_next c))
      rest_is =
          let e : width t c - c.visited ≡ suc (width t c - (c.visited + 1)) = omega (arith, more) in
          ap (λ n. join_from c.visited n (λ b. outcome (child_of t c b))) e
          ∙ join_next c.visited (width t c - (c.visited + 1)) (λ b. outcome (child_of t c b))

      -- the child by the verdict on its changed bin
      abbrev child : Verdict → SearchTree
      child set = bin_child c.visited set
          (λ numbers n. bin_node t.instance t.scales t.bins (later_boxes t c) (next_bins t c c.visited)
          (with_answer c.answers c.visited numbers) n)

      child_is : child_of t c c.visited ≡ child (next_set c)
      child_is = ap (λ us. child (set_verdict t.instance t.scales us))
          (changed_at t.bins c.bins (box_of t.instance c) c.visited more)

      child_joined : join (No tokens count)
          (join (outcome (child (next_set c))) (join (rest_verdict t (visited_next c)) (waiting_verdict t ws))) ≡ whole
      child_joined =
          ap (λ x. join (No tokens count)
          (join (outcome x) (join (rest_verdict t (visited_next c)) (waiting_verdict t ws)))) (sym child_is)
          ∙ (ap (λ x. join (No tokens count) x)
          (sym (join_assoc (outcome (child_of t c c.visited)) (rest_verdict t (visited_next c)) (waiting_verdict t ws))
          ∙ ap (λ x. join x (waiting_verdict t ws)) (sym rest_is)) ∙ h.joined)

      visited_split : IsSplit t (visited_next c)
      visited_split = let n = h.node in record { there = n.there; node = n.node; visited = omega (arith, more) }

      pub child_past : count + 1 + count_of (next_set c) ≤ count_of whole
      child_past =
          let k = child_counts t.instance t.scales t.bins (later_boxes t c) (next_bins t c c.visited) c.answers
          c.visited (next_set c) in
          let l = count_left (outcome (child (next_set c)))
          (join (rest_verdict t (visited_next c)) (waiting_verdict t ws)) in
          let m = ap count_of child_joined in
          let n = count_join_no tokens count
          (join (outcome (child (next_set c))) (join (rest_verdict t (visited_next c)) (waiting_verdict t ws))) in
          omega (arith, k, l, m, n)

      -- the changed bin doesn't fit
      pub refuted_next : (cost : ℕ) (us : List PlainToken) (own : ℕ) → next_set c ≡ No us cost
          → own ≡ 1 + cost
          → IsLeft t whole (tokens ++ SetRefuted (Some (suc c.visited)) ∷ us) (count + own) (visited_next c) ws
      refuted_next cost us own is counted = record {
        joined =
            sym (advance_leaf tokens (SetRefuted (Some (suc c.visited)) ∷ us) count own
            (join (rest_verdict t (visited_next c)) (waiting_verdict t ws)))
            ∙ (ap (λ x. join (No tokens count) (join x (join (rest_verdict t (visited_next c)) (waiting_verdict t ws))))
            (ap (λ n. No (SetRefuted (Some (suc c.visited)) ∷ us) n) counted ∙ sym (ap (λ s. outcome (child s)) is))
            ∙ child_joined);
        node = visited_split;
        waits = h.waits;
      }

      -- it fits
      module _ (left : ℕ) (d : PlainPlaced) (own : ℕ) (i : IsEntered t.instance t.scales c left d own) where
        child_node : child (next_set c) ≡ bin_node t.instance t.scales t.bins (drop d.placed (ranked t.instance)) d.bins
            d.answers own
        child_node =
            ap child i.is
            ∙ (ap (λ n. bin_node t.instance t.scales t.bins (later_boxes t c) (next_bins t c c.visited)
            (with_answer c.answers c.visited i.numbers) n) (sym i.counted)
            ∙ (ap (λ bs. bin_node t.instance t.scales t.bins (later_boxes t c) bs
            (with_answer c.answers c.visited i.numbers) own)
            (placed_at t.bins c.bins (box_of t.instance c) c.visited more ∙ sym i.bins)
            ∙ (ap (λ ns. bin_node t.instance t.scales t.bins (later_boxes t c) d.bins ns own) (sym i.answers)
            ∙ ap (λ k. bin_node t.instance t.scales t.bins (drop k (ranked t.instance)) d.bins d.answers own)
            (sym i.placed))))

        entered : join (No tokens count)
            (join (outcome (bin_node t.instance t.scales t.bins (drop d.placed (ranked t.instance)) d.bins d.answers own))
            (join (rest_verdict t (visited_next c)) (waiting_verdict t ws))) ≡ whole
        entered = ap (λ x. join (No tokens count)
            (join (outcome x) (join (rest_verdict t (visited_next c)) (waiting_verdict t ws)))) (sym child_node)
            ∙ child_joined

        pub entered_placed : IsInternalInstance t.instance → AreInBins t.instance t.bins d.placed d.bins d.answers
        entered_placed limits =
            rw (i.placed, i.bins, i.answers)
            (next_placed t.instance limits t.bins c.placed c.bins c.answers h.node.node h.node.there c.visited more
            i.numbers i.packing)

        pub entered_last : drop d.placed (ranked t.instance) ≡ []
            → Yes (bin_numbers t.instance d.bins d.answers) (count + own) ≡ whole
        entered_last e =
            ap (λ us. join (No tokens count)
            (join (outcome (bin_node t.instance t.scales t.bins us d.bins d.answers own))
            (join (rest_verdict t (visited_next c)) (waiting_verdict t ws)))) (sym e) ∙ entered

        pub entered_next : IsInternalInstance t.instance → d.placed < length (ranked t.instance)
            → IsLeft t whole (tokens ++ Assign (suc (box_of t.instance d)) ∷ []) (count + own) d (visited_next c ∷ ws)
        entered_next limits there = record {
          joined =
              sym (advance tokens (Assign (suc (box_of t.instance d)) ∷ []) count own (rest_verdict t d)
              (join (rest_verdict t (visited_next c)) (waiting_verdict t ws)))
              ∙ (ap (λ x. join (No tokens count)
              (join x (join (rest_verdict t (visited_next c)) (waiting_verdict t ws))))
              (entered_all d own there i.fresh) ∙ entered);
          node = record {
            there = there;
            node = entered_placed limits;
            visited = (let f = i.fresh in omega (arith, f));
          };
          waits = (visited_split, h.waits);
        }
