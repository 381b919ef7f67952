-- The child at the end of a path, as a child of the node above it.
use Rattle.std.proofs.Common.{◌≡◌, ◌≢◌, ℕ, zero, suc, ◌+◌, ◌<◌, ◌≤◌, refl, sym, ap, ap₂, subst, ◌∙◌, arith, Bool, true}
use Rattle.std.proofs.Common.{false, List, [], ◌∷◌, ◌++◌, length, take, drop, get_or, Option, Some, None, IsSome}
use Rattle.packing_terms.specs.Rules.{AreBoxes}
use Rattle.packing_terms.specs.Limits.{IsInternalInstance}
use Rattle.packing_terms.specs.Tokens.PlainToken.{Choose, SetRefuted, ValueShort}
use Rattle.packing_terms.specs.OuterRefutation.{insert_box}
use Rattle.packing_terms.proofs.Internal.{internal_sides, some_dimension}
use Rattle.packing_terms.specs.Rank.{ranked}
use Rattle.tree_terms.specs.Search.{IsRightUnder}
use Rattle.packing_terms.specs.Goals.{subset}
use Rattle.packing_terms.proofs.WithBoxes.{inserted_some}
use Rattle.tree_terms.specs.Trees.{SearchTree, Refuted, Split, Verdict, Yes, No, node_at}
use Rattle.tree_terms.specs.OuterTrees.{set_verdict, yes_numbers, taken_child, choice_of, is_reached, is_short}
use Rattle.tree_terms.specs.OuterTrees.{choice_numbers, choice_node}
use Rattle.tree_terms.specs.Paths.{max_budget, own_of, IsReachable}
use Rattle.tree_terms.proofs.BinSearch.{set_right}
use Rattle.set_search.specs.Children.{IsFound}
use Rattle.set_search.proofs.Sets.{places_count}
use Rattle.choice_search.specs.Choices.{PlainChoiceTree, shape, IsChosen}
use Rattle.choice_search.specs.Paths.{taken_along, class_answer, AreFitting, IsAbove, box_at, child_tree}
use Rattle.choice_search.proofs.Choosing.{nothing_chosen, more_boxes, inside_chosen, outside_chosen}
use Rattle.set_search.proofs.Reaching.{next_box, path_ends, past_leaf, refuted_leaf, own_within, reach_child}
use Rattle.class_search.proofs.Lists.{first_left}

module _ (t : PlainChoiceTree) (limits : IsInternalInstance t.instance) where
  -- what is known of the child at the end of a path: it is a child of a node with these boxes in
  pub record IsChild (decided : ℕ) (taken : List ℕ) (k : ℕ) (node : Option SearchTree) : Type 0 where
    pub above : IsAbove t.instance t.scales decided taken
    pub is : node ≡ Some (child_tree t decided taken k)

  -- the answer of what is in
  answered : (v : ℕ) (taken ns : List ℕ) (cost : ℕ) → set_verdict t.instance t.scales (insert_box v taken) ≡ Yes ns cost
      → class_answer t.instance t.scales (insert_box v taken) ≡ ns
  answered v taken ns cost e = go (insert_box v taken) (inserted_some v taken) e
    where
      go : (us : List ℕ) → 1 ≤ length us → set_verdict t.instance t.scales us ≡ Yes ns cost
          → class_answer t.instance t.scales us ≡ ns
      go [] l h = absurd (omega (arith, l))
      go (u ∷ us) l h = ap yes_numbers h

  fitting : (v : ℕ) (taken ns : List ℕ) (cost : ℕ) → set_verdict t.instance t.scales (insert_box v taken) ≡ Yes ns cost
      → cost ≤ max_budget
      → AreFitting t.instance t.scales (insert_box v taken)
  fitting v taken ns cost e l = go (insert_box v taken) e
    where
      go : (us : List ℕ) → set_verdict t.instance t.scales us ≡ Yes ns cost → AreFitting t.instance t.scales us
      go [] h = tt
      go (u ∷ us) h = subst IsFound (sym h) l

  -- what a step into a child comes to
  record IsInto (rest taken numbers : List ℕ) (own decided j : ℕ) (path : List ℕ) : Type 0 where
    there : decided < length (ranked t.instance)
    within : own ≤ max_budget
    is : node_at (Some (choice_node t.instance t.scales t.goal rest taken numbers own)) (j ∷ path)
        ≡ node_at (Some (child_tree t decided taken j)) path
    reached : IsReachable (child_tree t decided taken j) path

  module _ (decided : ℕ) (taken numbers : List ℕ) (own j : ℕ) (path : List ℕ)
      (answer : numbers ≡ class_answer t.instance t.scales taken) where
    same_child : (v : ℕ) (vs : List ℕ) → get_or (ranked t.instance) decided 0 ≡ v
        → drop (decided + 1) (ranked t.instance) ≡ vs → (k : ℕ)
        → (elim k [
          | zero ↦ taken_child (set_verdict t.instance t.scales (insert_box v taken))
              (λ ns count. choice_node t.instance t.scales t.goal vs (insert_box v taken) ns count)
          | suc _ ↦ choice_node t.instance t.scales t.goal vs taken numbers 1
        ]) ≡ child_tree t decided taken k
    same_child v vs e f zero =
        ap₂ (λ w ws. taken_child (set_verdict t.instance t.scales (insert_box w taken))
        (λ ns count. choice_node t.instance t.scales t.goal ws (insert_box w taken) ns count)) (sym e) (sym f)
    same_child v vs e f (suc k) = ap₂ (λ ws ns. choice_node t.instance t.scales t.goal ws taken ns 1) (sym f) answer

    into : IsReachable (choice_node t.instance t.scales t.goal (drop decided (ranked t.instance)) taken numbers
        own) (j ∷ path)
        → IsInto (drop decided (ranked t.instance)) taken numbers own decided j path
    into = go (drop decided (ranked t.instance)) refl
      where
        go : (us : List ℕ) → drop decided (ranked t.instance) ≡ us
            → IsReachable (choice_node t.instance t.scales t.goal us taken numbers own) (j ∷ path)
            → IsInto us taken numbers own decided j path
        go [] e r = none (is_reached t.instance t.goal taken) r.there
          where
            none : {P : Type 0} (b : Bool)
                → IsSome (node_at (Some (choice_of b true (choice_numbers t.instance taken numbers) own
                (Refuted (ValueShort ∷ []) own))) (j ∷ path)) → P
            none true h = past_leaf path h
            none false h = past_leaf path h
        go (v ∷ vs) e r = split (is_reached t.instance t.goal taken) refl
            (is_short t.instance t.goal taken (v ∷ vs)) refl r
          where
            next : (decided < length (ranked t.instance)) × (get_or (ranked t.instance) decided 0 ≡ v)
                × (drop (decided + 1) (ranked t.instance) ≡ vs)
            next = first_left (ranked t.instance) decided v vs e

            split : (b : Bool) → is_reached t.instance t.goal taken ≡ b → (s : Bool)
                → is_short t.instance t.goal taken (v ∷ vs) ≡ s
                → IsReachable (choice_of b s (choice_numbers t.instance taken numbers) own
                (Split (Choose (suc v)) own 2 (λ k. elim k [
                  | zero ↦ taken_child (set_verdict t.instance t.scales (insert_box v taken))
                      (λ ns count. choice_node t.instance t.scales t.goal vs (insert_box v taken) ns count)
                  | suc _ ↦ choice_node t.instance t.scales t.goal vs taken numbers 1
                ]))) (j ∷ path) → IsInto (v ∷ vs) taken numbers own decided j path
            split true f s g h = past_leaf path h.there
            split false f true g h = past_leaf path h.there
            split false f false g h =
                let k = reach_child (Choose (suc v)) own 2 _ j path h in
                let same = same_child v vs next.1 next.2 j in
                record {
                  there = next.0;
                  within = k.0;
                  is = (rw (f, g) (k.2 ∙ ap (λ (x : SearchTree). node_at (Some x) path) same));
                  reached = subst (λ (x : SearchTree). IsReachable x path) same k.3;
                }

  own_is : (rest taken numbers : List ℕ) (own : ℕ)
      → own_of (choice_node t.instance t.scales t.goal rest taken numbers own) ≡ own
  own_is [] taken numbers own = go (is_reached t.instance t.goal taken)
    where
      go : (b : Bool) → own_of (choice_of b true (choice_numbers t.instance taken numbers) own
          (Refuted (ValueShort ∷ []) own)) ≡ own
      go true = refl
      go false = refl
  own_is (v ∷ vs) taken numbers own =
      go (is_reached t.instance t.goal taken) (is_short t.instance t.goal taken (v ∷ vs)) _
    where
      go : (b s : Bool) (f : ℕ → SearchTree)
          → own_of (choice_of b s (choice_numbers t.instance taken numbers) own (Split (Choose (suc v)) own 2 f)) ≡ own
      go true s f = refl
      go false true f = refl
      go false false f = refl

  come : (above : List ℕ) (k decided : ℕ) (taken numbers : List ℕ) (own : ℕ) → IsChosen t.instance decided taken numbers
      → numbers ≡ class_answer t.instance t.scales taken → AreFitting t.instance t.scales taken
      → IsReachable (choice_node t.instance t.scales t.goal (drop decided (ranked t.instance)) taken numbers own)
      (above ++ k ∷ [])
      → (end : ℕ) → end ≡ length above + decided
      → IsChild end (taken_along taken (drop decided (ranked t.instance)) above) k
      (node_at (Some (choice_node t.instance t.scales t.goal (drop decided (ranked t.instance)) taken numbers own))
      (above ++ k ∷ []))
  come [] k decided taken numbers own c a f r end at =
      let i = into decided taken numbers own k [] a r in
      let e : decided ≡ end = omega (arith, at) in
      subst (λ (m : ℕ). IsChild m taken k
      (node_at (Some (choice_node t.instance t.scales t.goal (drop decided (ranked t.instance)) taken numbers own))
      (k ∷ []))) e (record {
        above = record {
          there = i.there;
          chosen = subst (λ (ns : List ℕ). IsChosen t.instance decided taken ns) a c;
          fitting = f;
        };
        is = i.is;
      })
  come (j ∷ above) k decided taken numbers own c a f r end at =
      let i = into decided taken numbers own j (above ++ k ∷ []) a r in
      let e = next_box (ranked t.instance) decided i.there in
      let n : end ≡ length above + (decided + 1) = omega (arith, at) in
      subst (λ (x : Option SearchTree). IsChild end (taken_along taken (drop decided (ranked t.instance)) (j ∷ above)) k
      x) (sym i.is)
      (subst (λ (us : List ℕ). IsChild end (taken_along taken us (j ∷ above)) k
      (node_at (Some (child_tree t decided taken j)) (above ++ k ∷ []))) (sym e)
      (step j e i.reached (λ ns cost c' a' f' r'. come above k (decided + 1)
      (insert_box (box_at t.instance decided) taken) ns (1 + cost) c' a' f' r' end n)
      (λ c' a' f' r'. come above k (decided + 1) taken (class_answer t.instance t.scales taken) 1 c' a' f' r' end n)))
    where
      Goes : (taken' numbers' : List ℕ) (own' : ℕ) → Type 0
      Goes taken' numbers' own' = IsChosen t.instance (decided + 1) taken' numbers'
          → numbers' ≡ class_answer t.instance t.scales taken' → AreFitting t.instance t.scales taken'
          → IsReachable (choice_node t.instance t.scales t.goal (drop (decided + 1) (ranked t.instance)) taken' numbers'
          own') (above ++ k ∷ [])
          → IsChild end (taken_along taken' (drop (decided + 1) (ranked t.instance)) above) k
          (node_at (Some (choice_node t.instance t.scales t.goal (drop (decided + 1) (ranked t.instance)) taken'
          numbers' own')) (above ++ k ∷ []))

      step : (i : ℕ) → drop decided (ranked t.instance) ≡ box_at t.instance decided
          ∷ drop (decided + 1) (ranked t.instance)
          → IsReachable (child_tree t decided taken i) (above ++ k ∷ [])
          → ((ns : List ℕ) (cost : ℕ) → Goes (insert_box (box_at t.instance decided) taken) ns (1 + cost))
          → Goes taken (class_answer t.instance t.scales taken) 1
          → IsChild end (taken_along taken (box_at t.instance decided ∷ drop (decided + 1) (ranked t.instance))
          (i ∷ above)) k
          (node_at (Some (child_tree t decided taken i)) (above ++ k ∷ []))
      step zero e h first second = go
          (set_verdict t.instance t.scales (insert_box (box_at t.instance decided) taken)) refl h
        where
          more : AreBoxes t.instance (insert_box (box_at t.instance decided) taken)
          more = more_boxes t.instance decided taken numbers c (box_at t.instance decided) e

          right : IsRightUnder (subset t.instance (insert_box (box_at t.instance decided) taken)) []
              (set_verdict t.instance t.scales (insert_box (box_at t.instance decided) taken))
          right = set_right t.instance (internal_sides t.instance limits) (some_dimension t.instance limits) t.scales 0
              (insert_box (box_at t.instance decided) taken) more
              (inserted_some (box_at t.instance decided) taken)

          go : (w : Verdict) → set_verdict t.instance t.scales (insert_box (box_at t.instance decided) taken) ≡ w
              → IsReachable (taken_child w (λ ns count. choice_node t.instance t.scales t.goal
              (drop (decided + 1) (ranked t.instance))
              (insert_box (box_at t.instance decided) taken) ns count)) (above ++ k ∷ [])
              → IsChild end (taken_along (insert_box (box_at t.instance decided) taken)
              (drop (decided + 1) (ranked t.instance)) above) k
              (node_at (Some (taken_child w (λ ns count. choice_node t.instance t.scales t.goal
              (drop (decided + 1) (ranked t.instance))
              (insert_box (box_at t.instance decided) taken) ns count))) (above ++ k ∷ []))
          go (No ts cost) is g = refuted_leaf (SetRefuted None ∷ ts) (1 + cost) above k g
          go (Yes ns cost) is g =
              let own = own_within _ above k g in
              let o = own_is (drop (decided + 1) (ranked t.instance)) (insert_box (box_at t.instance decided) taken) ns
              (1 + cost) in
              first ns cost
              (inside_chosen t.instance decided taken numbers c (box_at t.instance decided) e ns
              (places_count t.instance (insert_box (box_at t.instance decided) taken) ns
              (subst (λ (w : Verdict). IsRightUnder (subset t.instance (insert_box (box_at t.instance decided) taken))
              [] w) is right)))
              (sym (answered (box_at t.instance decided) taken ns cost is))
              (fitting (box_at t.instance decided) taken ns cost is (omega (arith, own, o))) g
      step (suc i) e h first second =
          second (subst (λ (ns : List ℕ). IsChosen t.instance (decided + 1) taken ns) a
          (outside_chosen t.instance decided taken numbers c (box_at t.instance decided) e)) refl f h

  -- the child at the end of a path from the root
  pub child_is : (above : List ℕ) (k : ℕ) → IsReachable (shape t) (above ++ k ∷ [])
      → IsChild (length above) (taken_along [] (ranked t.instance) above) k (node_at (Some (shape t)) (above ++ k ∷ []))
  child_is above k r = come above k 0 [] [] 0 (nothing_chosen t.instance) refl tt r (length above) (omega arith)

  -- the child at the end of a path, by its last step
  pub end_is : (path : List ℕ) (last : ℕ) → last + 1 ≡ length path → IsReachable (shape t) path
      → IsChild (length (take last path)) (taken_along [] (ranked t.instance) (take last path)) (get_or path last 0)
      (node_at (Some (shape t)) path)
  end_is path last e r =
      let p = path_ends path last e in
      subst (λ (l : List ℕ). IsChild (length (take last path)) (taken_along [] (ranked t.instance) (take last path))
      (get_or path last 0) (node_at (Some (shape t)) l)) (sym p)
      (child_is (take last path) (get_or path last 0) (subst (λ (l : List ℕ). IsReachable (shape t) l) p r))

  module _ (decided : ℕ) (taken : List ℕ) where
    pub at_first : (k : ℕ) (node : Option SearchTree) → IsChild decided taken k node → k ≡ 0
        → node ≡ Some (child_tree t decided taken 0)
    at_first zero found c e = c.is
    at_first (suc k) found c e = absurd (omega (arith, e))

    pub at_second : (k : ℕ) (node : Option SearchTree) → IsChild decided taken k node → k ≢ 0
        → node ≡ Some (child_tree t decided taken 1)
    at_second zero found c e = absurd (e refl)
    at_second (suc k) found c e = c.is
