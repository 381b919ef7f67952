-- The counts of the outer trees: each visited child costs at most one class tree, and a node has at
-- most k children, or two.
use Rattle.std.proofs.Common.{◌≡◌, ℕ, zero, suc, ◌+◌, ◌-◌, ◌*◌, ◌/◌, ◌^◌, ◌<◌, ◌≤◌, ◌⊎◌, inl, inr, refl, sym, ap, subst}
use Rattle.std.proofs.Common.{◌∙◌, arith, Bool, true, false, ltb, if◌then◌else◌, List, [], ◌∷◌, ◌++◌, map, length}
use Rattle.std.proofs.Common.{get_or, Option, Some, None}
use Rattle.std.specs.List.{range_with_len}
use Rattle.std.proofs.Math.Nat.{mul-le-mul_left, pow-le-pow_right, pow-succ', pow-zero}
use Rattle.std.proofs.lemmas.Bool.{cases_Bool, cases_lt, ltb-true}
use Rattle.std.proofs.lemmas.List.{length-map, length-append}
use Rattle.std.proofs.lemmas.List.FromFn.{length-map-range_with_len}
use Rattle.packing_terms.specs.declared.ScaleFn.{ScaleFn}
use Rattle.packing_terms.specs.Packing.{PlainInstance, IsPacking, HasPositiveSides, no_box, dims, box_count}
use Rattle.packing_terms.specs.Rules.{AreBoxes}
use Rattle.packing_terms.specs.Sums.{sum_below}
use Rattle.packing_terms.specs.Goals.{subset}
use Rattle.packing_terms.specs.OuterRefutation.{Bins, with_box, placements}
use Rattle.packing_terms.proofs.Boxes.{each_from, boxes_few}
use Rattle.packing_terms.specs.Tokens.PlainToken.{Assign}
use Rattle.tree_terms.specs.Trees.{SearchTree, Verdict, Yes, No, join, join_from, outcome, count_of}
use Rattle.packing_terms.specs.Rank.{ranked}
use Rattle.tree_terms.specs.Search.{IsRightUnder}
use Rattle.tree_terms.specs.OuterTrees.{set_verdict, with_answer, bin_child, bin_node, bin_root, bin_tree}
use Rattle.tree_terms.specs.ClassTree.{first_exceeding}
use Rattle.tree_terms.proofs.Joins.{join_next}
use Rattle.packing_terms.proofs.RankLemmas.{ranked_are_boxes, in_ranked}
use Rattle.tree_terms.proofs.Counts.{class_count, times_le}
use Rattle.tree_terms.proofs.BinSearch.{Holds, next_holds, next_is, set_right}

-- k + k * k + .. + k ^ r
pub powers : ℕ → ℕ → ℕ
powers k r = sum_below r (λ j. k ^ (j + 1))

-- what they are
pub powers_are : (k r : ℕ) → powers k r ≡ sum_below r (λ j. k ^ (j + 1))
unfolding powers
powers_are k r = refl

pub powers_next : (k r : ℕ) → powers k (suc r) ≡ k * (1 + powers k r)
unfolding powers
powers_next k zero =
    let e : k ^ 1 ≡ k * k ^ 0 = pow-succ' k 0 in
    let f : k ^ 0 ≡ 1 = pow-zero k in
    let g : k * k ^ 0 ≡ k * 1 = ap (λ x. k * x) f in
    omega (arith, e, g)
powers_next k (suc r) =
    let rest : sum_below r (λ j. k ^ (j + 1)) + k ^ (r + 1) ≡ k * (1 + sum_below r (λ j. k ^ (j + 1))) =
    powers_next k r in
    let e : suc r + 1 ≡ suc (r + 1) = omega arith in
    let f : k ^ (suc r + 1) ≡ k * k ^ (r + 1) = ap (λ x. k ^ x) e ∙ pow-succ' k (r + 1) in
    let g : k * (1 + (sum_below r (λ j. k ^ (j + 1)) + k ^ (r + 1))) ≡ k * (1 + sum_below r (λ j. k ^ (j + 1))) + k * k
    ^ (r + 1) = grind arith in
    omega (arith, rest, f, g)

-- verdicts that count at most so much each, joined
pub count_join : (v w : Verdict) → count_of (join v w) ≤ count_of v + count_of w
count_join (Yes ns c) w = omega arith
count_join (No ts c) (Yes ns d) = omega arith
count_join (No ts c) (No us d) = omega arith

count_joined : (most from n : ℕ) (f : ℕ → Verdict) → ((b : ℕ) → b < n → count_of (f (from + b)) ≤ most)
    → count_of (join_from from n f) ≤ n * most
count_joined most from zero f h = omega arith
count_joined most from (suc n) f h =
    let e : from + 0 ≡ from = omega arith in
    let first : count_of (f from) ≤ most = subst (λ (x : ℕ). count_of (f x) ≤ most) e (h 0 (omega arith)) in
    let rest = count_joined most (from + 1) n f
    (λ b l. let g : from + suc b ≡ from + 1 + b = omega arith in
    subst (λ (x : ℕ). count_of (f x) ≤ most) g (h (suc b) (omega (arith, l)))) in
    let two = count_join (f from) (join_from (from + 1) n f) in
    let all : count_of (join_from from (suc n) f) ≤ count_of (f from) + count_of (join_from (from + 1) n f)
    = subst (λ (v : Verdict). count_of v ≤ count_of (f from) + count_of (join_from (from + 1) n f))
    (sym (join_next from n f)) two in
    let d : suc n * most ≡ most + n * most = grind arith in
    omega (arith, first, rest, all, d)

module _ (instance : PlainInstance) (sides : HasPositiveSides instance) (some_dim : 1 ≤ dims instance)
    (scales : Bool) where
  pub most : ℕ
  most = 3 ^ (dims instance * box_count instance * (box_count instance - 1) / 2)

  pub most_is : most ≡ 3 ^ (dims instance * box_count instance * (box_count instance - 1) / 2)
  unfolding most
  most_is = refl

  pairs_less : (m n : ℕ) → m ≤ n → dims instance * m * (m - 1) / 2 ≤ dims instance * n * (n - 1) / 2
  pairs_less m n l =
      let a : dims instance * m ≤ dims instance * n = mul-le-mul_left (dims instance) l in
      let b : dims instance * m * (m - 1) ≤ dims instance * n * (n - 1) =
      times_le (dims instance * m) (m - 1) (dims instance * n) (n - 1) a (omega (arith, l)) in
      half_less (dims instance * m * (m - 1)) (dims instance * n * (n - 1)) b
    where
      half_less : (x y : ℕ) → x ≤ y → x / 2 ≤ y / 2
      half_less x y h = omega arith

  -- the decision of a set costs less than the most
  pub set_count : (keep : List ℕ) → AreBoxes instance keep → 1 + count_of (set_verdict instance scales keep) ≤ most
  unfolding most
  set_count keep boxes =
      let few = boxes_few (box_count instance) keep boxes in
      let size : box_count (subset instance keep) ≤ box_count instance =
      (let e = length-map keep (λ v. get_or instance.boxes v no_box) in omega (arith, few, e)) in
      let small = class_count (subset instance keep) some_dim [] scales in
      let bound : 3 ^ (dims instance * box_count (subset instance keep) * (box_count (subset instance keep) - 1) / 2)
      ≤ 3 ^ (dims instance * box_count instance * (box_count instance - 1) / 2) =
      pow-le-pow_right (omega arith) (pairs_less (box_count (subset instance keep)) (box_count instance) size) in
      omega (arith, small, bound)

  pub most_some : 1 ≤ most
  unfolding most
  most_some = let h = set_count [] tt in omega (arith, h)

  -- a node of the bin tree
  module _ (k : ℕ) where
    few_children : (bins : Bins) (v : ℕ) → length bins ≤ k → length (placements k bins v) ≤ k
    few_children bins v l = go (cases_Bool (ltb (length bins) k))
      where
        all : length (placements k bins v)
            ≡ length bins + length (if ltb (length bins) k then (bins ++ (v ∷ []) ∷ []) ∷ [] else [])
        all = length-append (map (λ c. with_box bins c v) (range_with_len 0 (length bins)))
            (if ltb (length bins) k then (bins ++ (v ∷ []) ∷ []) ∷ [] else [])
            ∙ ap (λ n. n + length (if ltb (length bins) k then (bins ++ (v ∷ []) ∷ []) ∷ [] else []))
            (length-map-range_with_len (λ c. with_box bins c v) 0 (length bins))

        go : (ltb (length bins) k ≡ true) ⊎ (ltb (length bins) k ≡ false) → length (placements k bins v) ≤ k
        go (inl t) =
            let n : length (if ltb (length bins) k then (bins ++ (v ∷ []) ∷ []) ∷ [] else []) ≡ 1 = (rw t refl) in
            let m = ltb-true _ _ t in omega (arith, all, n, m)
        go (inr f) =
            let n : length (if ltb (length bins) k then (bins ++ (v ∷ []) ∷ []) ∷ [] else []) ≡ 0 = (rw f refl) in
            omega (arith, all, n, l)

    child_count : (b : ℕ) (keep : List ℕ) (w : Verdict) → IsRightUnder (subset instance keep) [] w
        → 1 + count_of w ≤ most → (rest : List ℕ → ℕ → SearchTree) (r : ℕ)
        → ((ns : List ℕ) → IsPacking (subset instance keep) ns → (c : ℕ)
        → count_of (outcome (rest ns c)) ≤ c + most * powers k r)
        → count_of (outcome (bin_child b w rest)) ≤ most * (1 + powers k r)
    child_count b keep (Yes ns c) right small rest r h =
        let x = h ns right (1 + c) in
        let d : most * (1 + powers k r) ≡ most + most * powers k r = grind arith in
        omega (arith, x, small, d)
    child_count b keep (No ts c) right small rest r h =
        let d : most * (1 + powers k r) ≡ most + most * powers k r = grind arith in
        omega (arith, small, d)

    bin_node_count : (rest : List ℕ) (bins : Bins) (answers : List (List ℕ)) (own : ℕ)
        → Holds instance sides some_dim scales k rest bins answers
        → count_of (outcome (bin_node instance scales k rest bins answers own)) ≤ own + most * powers k (length rest)
    bin_node_count [] bins answers own h = omega arith
    bin_node_count (v ∷ rest) bins answers own h =
        let few = few_children bins v h.few in
        let each = count_joined (most * (1 + powers k (length rest))) 0 (length (placements k bins v))
        (λ b. outcome (bin_child b (set_verdict instance scales (get_or (get_or (placements k bins v) b []) b []))
        (λ ns c. bin_node instance scales k rest (get_or (placements k bins v) b []) (with_answer answers b ns) c)))
        (λ b l. let z : 0 + b ≡ b = omega arith in
        rw z (child b l (λ next given c g. bin_node_count rest next given c g))) in
        let all = count_join (No (Assign (suc v) ∷ []) own) (join_from 0 (length (placements k bins v))
        (λ b. outcome (bin_child b (set_verdict instance scales (get_or (get_or (placements k bins v) b []) b []))
        (λ ns c. bin_node instance scales k rest (get_or (placements k bins v) b []) (with_answer answers b ns) c)))) in
        let widest : length (placements k bins v) * (most * (1 + powers k (length rest))) ≤ k
        * (most * (1 + powers k (length rest)))
        = times_le (length (placements k bins v)) (most * (1 + powers k (length rest))) k
        (most * (1 + powers k (length rest))) few (omega arith) in
        let d : most * (k * (1 + powers k (length rest))) ≡ k * (most * (1 + powers k (length rest))) = grind arith in
        let e : most * powers k (suc (length rest)) ≡ most * (k * (1 + powers k (length rest))) =
        ap (λ x. most * x) (powers_next k (length rest)) in
        omega (arith, all, each, widest, d, e)
      where
        child : (b : ℕ) → b < length (placements k bins v)
            → ((next : Bins) (given : List (List ℕ)) (c : ℕ) → Holds instance sides some_dim scales k rest next given
            → count_of (outcome (bin_node instance scales k rest next given c)) ≤ c + most * powers k (length rest))
            → count_of (outcome (bin_child b
            (set_verdict instance scales (get_or (get_or (placements k bins v) b []) b []))
            (λ ns c. bin_node instance scales k rest (get_or (placements k bins v) b []) (with_answer answers b ns) c)))
            ≤ most * (1 + powers k (length rest))
        child b l later =
            let n = next_is instance sides some_dim scales k rest bins answers v h b l in
            child_count b (get_or (get_or (placements k bins v) b []) b [])
            (set_verdict instance scales (get_or (get_or (placements k bins v) b []) b []))
            (set_right instance sides some_dim scales k (get_or (get_or (placements k bins v) b []) b []) n.changed.0
            n.changed.1)
            (set_count (get_or (get_or (placements k bins v) b []) b []) n.changed.0)
            (λ ns c. bin_node instance scales k rest (get_or (placements k bins v) b []) (with_answer answers b ns) c)
            (length rest)
            (λ ns pack c. later (get_or (placements k bins v) b []) (with_answer answers b ns) c
            (next_holds instance sides some_dim scales k rest bins answers v h b
            (get_or (placements k bins v) b []) n ns pack))

    pub powers_more : (r s : ℕ) → r ≤ s → powers k r ≤ powers k s
    unfolding powers
    powers_more r zero l = let e : r ≡ 0 = omega (arith, l) in rw e (omega arith)
    powers_more r (suc s) l = go (cases_lt s r) (λ m. powers_more r s m)
      where
        go : (s < r) ⊎ (r ≤ s) → (r ≤ s → sum_below r (λ j. k ^ (j + 1)) ≤ sum_below s (λ j. k ^ (j + 1)))
            → sum_below r (λ j. k ^ (j + 1)) ≤ sum_below s (λ j. k ^ (j + 1)) + k ^ (s + 1)
        go (inl m) rest = let e : r ≡ suc s = omega (arith, l, m) in rw e (omega arith)
        go (inr m) rest = let h = rest m in omega (arith, h)

    root_holds : Holds instance sides some_dim scales k (ranked instance) [] []
    root_holds = record {
      boxes = ranked_are_boxes instance;
      unplaced = each_from (λ v. false ≡ false) (ranked instance) (λ v i. refl);
      covered = (λ v l. inl (in_ranked instance v l));
      few = omega arith;
      lengths = refl;
      sets = (λ b l. absurd (omega (arith, l)));
      packs = (λ b l. absurd (omega (arith, l)));
    }

    pub bin_count : count_of (outcome (bin_tree instance k scales))
        ≤ 3 ^ (dims instance * box_count instance * (box_count instance - 1) / 2) * sum_below (box_count instance)
        (λ j. k ^ (j + 1))
    unfolding most powers
    bin_count = go (first_exceeding instance k scales)
      where
        go : (o : Option (List ScaleFn))
            → count_of (outcome (bin_root o (bin_node instance scales k (ranked instance) [] [] 0)))
            ≤ 3 ^ (dims instance * box_count instance * (box_count instance - 1) / 2) * sum_below (box_count instance)
            (λ j. k ^ (j + 1))
        go (Some fs) = omega arith
        go None =
            let all = bin_node_count (ranked instance) [] [] 0 root_holds in
            let few = boxes_few (box_count instance) (ranked instance) (ranked_are_boxes instance) in
            let more : most * powers k (length (ranked instance)) ≤ most * powers k (box_count instance)
            = mul-le-mul_left most (powers_more (length (ranked instance)) (box_count instance) few) in
            omega (arith, all, more)
