-- The choice tree is a search for a set of boxes of a value.
use Rattle.std.proofs.Common.{◌≡◌, ◌≢◌, ℕ, zero, suc, ◌+◌, ◌<◌, ◌≤◌, ◌⊎◌, inl, inr, refl, sym, subst, ◌∙◌, arith, Bool}
use Rattle.std.proofs.Common.{true, false, not, ◌||◌, eqb, ltb, if◌then◌else◌, nat_le, List, [], ◌∷◌, length, get_or}
use Rattle.std.proofs.Common.{append-nil}
use Rattle.std.specs.List.{range_with_len, AllByRecursion, All}
use Rattle.std.specs.List.Sorted.{IsStrictlyIncreasing}
use Rattle.std.proofs.lemmas.Bool.{true≢false, cases_lt, eq-eqb, ne_eqb, ltb-true, lt-ltb}
use Rattle.std.proofs.lemmas.Bool.Decides.{nat_tests}
use Rattle.packing_terms.specs.Packing.{PlainInstance, IsPacking, HasPositiveSides, no_box, dims, box_count}
use Rattle.packing_terms.specs.Rules.{AreBoxes, AreBoxesAmong}
use Rattle.packing_terms.specs.Goals.{subset, worth}
use Rattle.packing_terms.specs.Tokens.PlainToken.{Choose, ValueShort}
use Rattle.packing_terms.specs.OuterRefutation.{insert_box, has_box, Choice, no_choice, undecided, with_taken}
use Rattle.packing_terms.specs.OuterRefutation.{with_left, none_left, by_value, by_set}
use Rattle.packing_terms.proofs.Sets.{or_true}
use Rattle.packing_terms.proofs.Members.{IsIn, in_filter, filter_in, range_in}
use Rattle.packing_terms.proofs.Boxes.{each_in, each_from, insert_each, insert_boxes, not_found, sum_within}
use Rattle.packing_terms.proofs.Neighbours.{none_packed}
use Rattle.packing_terms.proofs.WithBoxes.{has_inserted, inserted_some}
use Rattle.tree_terms.specs.Trees.{SearchTree, Refuted, Split, Verdict, Yes, No}
use Rattle.packing_terms.specs.Rank.{ranked}
use Rattle.tree_terms.specs.Search.{IsRightUnder}
use Rattle.tree_terms.specs.OuterTrees.{set_verdict, taken_child, choice_of, is_reached, is_short, choice_numbers}
use Rattle.tree_terms.specs.OuterTrees.{choice_node, choice_tree}
use Rattle.tree_terms.specs.OuterSearch.{AreTakenNumbers, IsChoiceSearch}
use Rattle.packing_terms.proofs.RankLemmas.{ranked_are_boxes, in_ranked}
use Rattle.tree_terms.proofs.BinNumbers.{filter_boxes, range_boxes}
use Rattle.tree_terms.proofs.BinSearch.{set_right}
use Rattle.packing_terms.specs.Rising.{AreRising}

pub insert_rising : (v : ℕ) (us : List ℕ) → AllByRecursion (λ u. v ≢ u) us → AreRising us → AreRising (insert_box v us)
insert_rising v [] away r = (tt, tt)
insert_rising v (u ∷ us) away r = go (ltb v u) refl (insert_rising v us away.1 r.1)
  where
    above : v < u → AllByRecursion (λ x. v < x) us
    above l = each_from (λ x. v < x) us (λ x i. let m = each_in (λ y. u < y) us r.0 x i in omega (arith, l, m))

    not_less : ltb v u ≡ false → u < v
    not_less e = pick (cases_lt u v)
      where
        pick : (u < v) ⊎ (v ≤ u) → u < v
        pick (inl l) = l
        pick (inr l) = absurd (true≢false (sym (lt-ltb v u (let ne = away.0 in omega (arith, l, ne))) ∙ e))

    go : (b : Bool) → ltb v u ≡ b → AreRising (insert_box v us)
        → AreRising (if b then v ∷ u ∷ us else u ∷ insert_box v us)
    go true e rest = let l = ltb-true v u e in ((l, above l), r)
    go false e rest = (insert_each (λ x. u < x) v us (not_less e) r.0, rest)

pub rising_index : (vs : List ℕ) → AreRising vs → IsStrictlyIncreasing vs
rising_index [] r k l = absurd (omega (arith, l))
rising_index (v ∷ []) r k l = absurd (omega (arith, l))
rising_index (v ∷ u ∷ us) r zero l = r.0.0
rising_index (v ∷ u ∷ us) r (suc k) l =
    let e : suc k + 1 ≡ suc (k + 1) = omega arith in
    let m : get_or (u ∷ us) k 0 < get_or (u ∷ us) (k + 1) 0 = rising_index (u ∷ us) r.1 k (omega (arith, l)) in
    subst (λ (x : ℕ). get_or (u ∷ us) k 0 < get_or (v ∷ u ∷ us) x 0) (sym e) m

pub below_at : (n : ℕ) (vs : List ℕ) → AreBoxesAmong n vs → All (λ v. v < n) vs
below_at n [] b k d l = absurd (omega (arith, l))
below_at n (v ∷ vs) b zero d l = b.0
below_at n (v ∷ vs) b (suc k) d l = below_at n vs b.2 k d (omega (arith, l))

not_either : (a b : Bool) → not (a || b) ≡ true → (a ≡ false) × (b ≡ false)
not_either false false h = (refl, refl)
not_either true b h = absurd (true≢false (sym h))
not_either false true h = absurd (true≢false (sym h))

module _ (instance : PlainInstance) (sides : HasPositiveSides instance) (some_dim : 1 ≤ dims instance) (scales : Bool)
    (goal : ℕ) where
  -- what holds of a node: the boxes left are those that are neither in nor out, and the answer is a
  -- packing of those that are in
  pub record Holds (rest : List ℕ) (c : Choice) (numbers : List ℕ) : Type 0 where
    pub boxes : AreBoxes instance rest
    pub not_taken : AllByRecursion (λ v. has_box v c.taken ≡ false) rest
    pub not_left : AllByRecursion (λ v. has_box v c.left ≡ false) rest
    pub free : (v : ℕ) → IsIn v (undecided instance c) → IsIn v rest
    pub taken : AreBoxes instance c.taken
    pub rising : AreRising c.taken
    pub packs : IsPacking (subset instance c.taken) numbers

  undecided_boxes : (c : Choice) → AreBoxes instance (undecided instance c)
  undecided_boxes c = filter_boxes (box_count instance) (λ v. not (has_box v c.taken || has_box v c.left))
      (range_with_len 0 (box_count instance))
      (range_boxes (box_count instance) 0 (box_count instance) (omega arith))

  worth_left : (rest : List ℕ) (c : Choice) (numbers : List ℕ) → Holds rest c numbers
      → worth instance (undecided instance c) ≤ worth instance rest
  worth_left rest c numbers h = sum_within (λ v. (get_or instance.boxes v no_box).value) (box_count instance)
      (undecided instance c) rest (undecided_boxes c) h.free

  settled : (rest : List ℕ) (c : Choice) (numbers : List ℕ) → Holds rest c numbers
      → is_reached instance goal c.taken ≡ true
      → AreTakenNumbers instance goal (choice_numbers instance c.taken numbers)
  settled rest c numbers h t = record {
    taken = c.taken;
    places = numbers;
    set = record { there = below_at (box_count instance) c.taken h.taken; rising = rising_index c.taken h.rising };
    reached = le_true goal (worth instance c.taken) t;
    packing = h.packs;
    written = refl;
  }
    where
      le_true : (a b : ℕ) → nat_le a b ≡ true → a ≤ b
      le_true a b e = grind (arith, nat_tests, e)

  not_reached : (taken : List ℕ) → is_reached instance goal taken ≡ false → worth instance taken < goal
  not_reached taken e = le_false goal (worth instance taken) e
    where
      le_false : (a b : ℕ) → nat_le a b ≡ false → b < a
      le_false a b f = grind (arith, nat_tests, f)

  -- a box more that is in, and one more that is out
  pub taken_holds : (v : ℕ) (rest : List ℕ) (c : Choice) (numbers : List ℕ) → Holds (v ∷ rest) c numbers → (ns : List ℕ)
      → IsPacking (subset instance (insert_box v c.taken)) ns → Holds rest (with_taken c v) ns
  taken_holds v rest c numbers h ns pack = record {
    boxes = h.boxes.2;
    not_taken = each_from (λ u. has_box u (insert_box v c.taken) ≡ false) rest (λ u i. has_inserted u v c.taken
        ∙ none (eqb v u) (has_box u c.taken) (ne_eqb v u (each_in (λ x. v ≢ x) rest h.boxes.1 u i))
        (each_in (λ x. has_box x c.taken ≡ false) rest h.not_taken.1 u i));
    not_left = h.not_left.1;
    free = (λ u i. still u i);
    taken = insert_boxes (box_count instance) v c.taken h.boxes.0 (not_found v c.taken h.not_taken.0) h.taken;
    rising = insert_rising v c.taken (not_found v c.taken h.not_taken.0) h.rising;
    packs = pack;
  }
    where
      none : (x y : Bool) → x ≡ false → y ≡ false → (x || y) ≡ false
      none false false e f = refl
      none true y e f = absurd (true≢false e)
      none false true e f = absurd (true≢false f)

      still : (u : ℕ) → IsIn u (undecided instance (with_taken c v)) → IsIn u rest
      still u i = pick (h.free u (again q.0 q.1)) q.0
        where
          k : IsIn u (range_with_len 0 (box_count instance))
              × (not (has_box u (insert_box v c.taken) || has_box u c.left) ≡ true)
          k = filter_in (λ x. not (has_box x (insert_box v c.taken) || has_box x c.left)) u
              (range_with_len 0 (box_count instance)) i

          q : (has_box u (insert_box v c.taken) ≡ false) × (has_box u c.left ≡ false)
          q = not_either _ _ k.1

          outside : (x y : Bool) → (x || y) ≡ false → (x ≡ false) × (y ≡ false)
          outside false false e = (refl, refl)
          outside true y e = absurd (true≢false e)
          outside false true e = absurd (true≢false e)

          again : has_box u (insert_box v c.taken) ≡ false → has_box u c.left ≡ false → IsIn u (undecided instance c)
          again e f = in_filter (λ x. not (has_box x c.taken || has_box x c.left)) u
              (range_with_len 0 (box_count instance)) k.0
              (open_test (has_box u c.taken) (has_box u c.left)
              (outside (eqb v u) (has_box u c.taken) (sym (has_inserted u v c.taken) ∙ e)).1 f)
            where
              open_test : (x y : Bool) → x ≡ false → y ≡ false → not (x || y) ≡ true
              open_test false false a b = refl
              open_test true y a b = absurd (true≢false a)
              open_test false true a b = absurd (true≢false b)

          pick : (u ≡ v) ⊎ IsIn u rest → has_box u (insert_box v c.taken) ≡ false → IsIn u rest
          pick (inl e) f = absurd (true≢false
              (sym (has_inserted u v c.taken ∙ or_true _ _ (inl (eq-eqb v u (sym e)))) ∙ f))
          pick (inr j) f = j

  pub left_holds : (v : ℕ) (rest : List ℕ) (c : Choice) (numbers : List ℕ) → Holds (v ∷ rest) c numbers
      → Holds rest (with_left c v) numbers
  left_holds v rest c numbers h = record {
    boxes = h.boxes.2;
    not_taken = h.not_taken.1;
    not_left = each_from (λ u. has_box u (insert_box v c.left) ≡ false) rest (λ u i. has_inserted u v c.left
        ∙ none (eqb v u) (has_box u c.left) (ne_eqb v u (each_in (λ x. v ≢ x) rest h.boxes.1 u i))
        (each_in (λ x. has_box x c.left ≡ false) rest h.not_left.1 u i));
    free = (λ u i. still u i);
    taken = h.taken;
    rising = h.rising;
    packs = h.packs;
  }
    where
      none : (x y : Bool) → x ≡ false → y ≡ false → (x || y) ≡ false
      none false false e f = refl
      none true y e f = absurd (true≢false e)
      none false true e f = absurd (true≢false f)

      still : (u : ℕ) → IsIn u (undecided instance (with_left c v)) → IsIn u rest
      still u i = pick (h.free u (again q.0 q.1)) q.1
        where
          k : IsIn u (range_with_len 0 (box_count instance))
              × (not (has_box u c.taken || has_box u (insert_box v c.left)) ≡ true)
          k = filter_in (λ x. not (has_box x c.taken || has_box x (insert_box v c.left))) u
              (range_with_len 0 (box_count instance)) i

          q : (has_box u c.taken ≡ false) × (has_box u (insert_box v c.left) ≡ false)
          q = not_either _ _ k.1

          outside : (x y : Bool) → (x || y) ≡ false → (x ≡ false) × (y ≡ false)
          outside false false e = (refl, refl)
          outside true y e = absurd (true≢false e)
          outside false true e = absurd (true≢false e)

          again : has_box u c.taken ≡ false → has_box u (insert_box v c.left) ≡ false → IsIn u (undecided instance c)
          again e f = in_filter (λ x. not (has_box x c.taken || has_box x c.left)) u
              (range_with_len 0 (box_count instance)) k.0
              (open_test (has_box u c.taken) (has_box u c.left) e
              (outside (eqb v u) (has_box u c.left) (sym (has_inserted u v c.left) ∙ f)).1)
            where
              open_test : (x y : Bool) → x ≡ false → y ≡ false → not (x || y) ≡ true
              open_test false false a b = refl
              open_test true y a b = absurd (true≢false a)
              open_test false true a b = absurd (true≢false b)

          pick : (u ≡ v) ⊎ IsIn u rest → has_box u (insert_box v c.left) ≡ false → IsIn u rest
          pick (inl e) f = absurd (true≢false
              (sym (has_inserted u v c.left ∙ or_true _ _ (inl (eq-eqb v u (sym e)))) ∙ f))
          pick (inr j) f = j

  taken_search : (c : Choice) → 1 ≤ length c.taken → (w : Verdict) → IsRightUnder (subset instance c.taken) [] w
      → (rest : List ℕ → ℕ → SearchTree)
      → ((ns : List ℕ) → IsPacking (subset instance c.taken) ns → (n : ℕ) → IsChoiceSearch instance goal c (rest ns n))
      → IsChoiceSearch instance goal c (taken_child w rest)
  taken_search c some (Yes ns n) right rest h = h ns right (1 + n)
  taken_search c some (No ts n) right rest h = by_set some right (sym (append-nil ts)) none_left

  choice_node_search : (rest : List ℕ) (c : Choice) (numbers : List ℕ) (own : ℕ) → Holds rest c numbers
      → IsChoiceSearch instance goal c (choice_node instance scales goal rest c.taken numbers own)
  choice_node_search [] c numbers own h = go (is_reached instance goal c.taken) refl
    where
      go : (b : Bool) → is_reached instance goal c.taken ≡ b
          → IsChoiceSearch instance goal c
          (choice_of b true (choice_numbers instance c.taken numbers) own (Refuted (ValueShort ∷ []) own))
      go true e = settled [] c numbers h e
      go false e = by_value (let w = worth_left [] c numbers h in let n = not_reached c.taken e in
          omega (arith, w, n)) none_left
  choice_node_search (v ∷ rest) c numbers own h =
      go (is_reached instance goal c.taken) refl (is_short instance goal c.taken (v ∷ rest)) refl
      (Split (Choose (suc v)) own 2 (λ k. elim k [
        | zero ↦ taken_child (set_verdict instance scales (insert_box v c.taken))
            (λ ns count. choice_node instance scales goal rest (insert_box v c.taken) ns count)
        | suc _ ↦ choice_node instance scales goal rest c.taken numbers 1
      ])) (
        suc v,
        refl,
        record {
          from = omega arith;
          to = (let l = h.boxes.0 in omega (arith, l));
          not_taken = h.not_taken.0;
          not_left = h.not_left.0;
        },
        refl,
        taken_search (with_taken c v) (inserted_some v c.taken) (set_verdict instance scales (insert_box v c.taken))
            (set_right instance sides some_dim scales 0 (insert_box v c.taken)
            (insert_boxes (box_count instance) v c.taken h.boxes.0 (not_found v c.taken h.not_taken.0) h.taken)
            (inserted_some v c.taken))
            (λ ns n. choice_node instance scales goal rest (insert_box v c.taken) ns n)
            (λ ns pack n. choice_node_search rest (with_taken c v) ns n (taken_holds v rest c numbers h ns pack)),
        choice_node_search rest (with_left c v) numbers 1 (left_holds v rest c numbers h),
      )
    where
      go : (b : Bool) → is_reached instance goal c.taken ≡ b → (s : Bool)
          → is_short instance goal c.taken (v ∷ rest) ≡ s
          → (tree : SearchTree) → IsChoiceSearch instance goal c tree
          → IsChoiceSearch instance goal c (choice_of b s (choice_numbers instance c.taken numbers) own tree)
      go true e s f tree split = settled (v ∷ rest) c numbers h e
      go false e true f tree split =
          by_value (let w = worth_left (v ∷ rest) c numbers h in let n = ltb-true _ _ f in omega (arith, w, n)) none_left
      go false e false f tree split = split

  pub root_holds : Holds (ranked instance) no_choice []
  root_holds = record {
    boxes = ranked_are_boxes instance;
    not_taken = each_from (λ v. false ≡ false) (ranked instance) (λ v i. refl);
    not_left = each_from (λ v. false ≡ false) (ranked instance) (λ v i. refl);
    free = (λ v i. let k = filter_in (λ x. not (has_box x [] || has_box x [])) v
        (range_with_len 0 (box_count instance)) i in
        let r = range_in 0 (box_count instance) v k.0 in in_ranked instance v (omega (arith, r)));
    taken = tt;
    rising = tt;
    packs = none_packed instance;
  }

  pub choice_search : IsChoiceSearch instance goal no_choice (choice_tree instance goal scales)
  choice_search = choice_node_search (ranked instance) no_choice [] 0 root_holds
