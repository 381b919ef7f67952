-- Runs read backwards are chains.
use Rattle.std.proofs.Common.{◌≡◌, ◌≢◌, ℕ, ◌<◌, ◌≤◌, ◌⊎◌, inl, inr, refl, sym, subst, ◌∙◌, arith, false, List, [], ◌∷◌}
use Rattle.std.proofs.Common.{◌++◌}
use Rattle.std.specs.List.{sum_by}
use Rattle.std.proofs.lemmas.Bool.{true≢false}
use Rattle.std.proofs.lemmas.List.Sums.{sum_by-cons, sum_by_push}
use Rattle.packing_terms.specs.declared.Rel.{Rel}
use Rattle.packing_terms.specs.declared.Rel.TheVariants.{Overlap, Before, After}
use Rattle.packing_terms.specs.Packing.{PlainInstance, dims, box_count, side}
use Rattle.packing_terms.specs.Exclusions.{Exclusions, IsSurelyBefore, IsEdgeAmong}
use Rattle.packing_terms.specs.Places.{HasNoEmptyMask}
use Rattle.packing_terms.specs.Closure.{IsSymmetric}
use Rattle.packing_terms.specs.Rules.{AreBoxesAmong, IsChain}
use Rattle.packing_terms.specs.declared.Direction.{Direction}
use Rattle.packing_terms.specs.declared.Direction.TheVariants.{Forwards, Backwards}
use Rattle.packing_terms.specs.Runs.{IsRun, HasRun, IsHeaviestRun, Leads, IsTransitive, IsOneWay, HasHead, HasTail}
use Rattle.packing_terms.specs.Runs.{IsHeaviestHead, IsHeaviestTail}
use Rattle.packing_terms.proofs.Members.{IsIn, append_in, in_append}
use Rattle.packing_terms.proofs.Boxes.{each_in, each_from}

-- the list read backwards
abbrev pub turned : List ℕ → List ℕ
turned [] = []
turned (x ∷ l) = turned l ++ x ∷ []

in_turned : (v : ℕ) (l : List ℕ) → IsIn v (turned l) → IsIn v l
in_turned v [] i = i
in_turned v (x ∷ l) i = go (append_in v (turned l) (x ∷ []) i) (in_turned v l)
  where
    go : IsIn v (turned l) ⊎ IsIn v (x ∷ []) → (IsIn v (turned l) → IsIn v l) → IsIn v (x ∷ l)
    go (inl j) rest = inr (rest j)
    go (inr (inl e)) rest = inl e
    go (inr (inr j)) rest = absurd j

module _ (n : ℕ) where
  boxes_push : (xs : List ℕ) (v : ℕ) → AreBoxesAmong n xs → v < n → ((x : ℕ) → IsIn x xs → x ≢ v)
      → AreBoxesAmong n (xs ++ v ∷ [])
  boxes_push [] v b hv ne = (hv, tt, tt)
  boxes_push (x ∷ xs) v b hv ne = (
    b.0,
    each_from (λ z. x ≢ z) (xs ++ v ∷ []) (λ z i. apart z (append_in z xs (v ∷ []) i)),
    boxes_push xs v b.2 hv (λ z i. ne z (inr i)),
  )
    where
      apart : (z : ℕ) → IsIn z xs ⊎ IsIn z (v ∷ []) → x ≢ z
      apart z (inl i) = each_in (λ y. x ≢ y) xs b.1 z i
      apart z (inr (inl e)) = λ f. ne x (inl refl) (f ∙ e)
      apart z (inr (inr i)) = absurd i

  pub boxes_turned : (v : ℕ) (l : List ℕ) → AreBoxesAmong n (v ∷ l) → AreBoxesAmong n (turned l ++ v ∷ [])
  boxes_turned v [] b = b
  boxes_turned v (x ∷ l) b =
      boxes_push (turned (x ∷ l)) v (boxes_turned x l b.2) b.0
      (λ z i e. each_in (λ y. v ≢ y) (x ∷ l) b.1 z (in_turned z (x ∷ l) i) (sym e))

  -- the last one of distinct boxes, and the others
  boxes_pop : (xs : List ℕ) (v : ℕ) → AreBoxesAmong n (xs ++ v ∷ []) → AreBoxesAmong n xs × (v < n)
      × ((x : ℕ) → IsIn x xs → v ≢ x)
  boxes_pop [] v b = (tt, b.0, λ x i. absurd i)
  boxes_pop (x ∷ xs) v b =
      let rest = boxes_pop xs v b.2 in (
        (
          b.0,
          each_from (λ z. x ≢ z) xs
              (λ z i. each_in (λ y. x ≢ y) (xs ++ v ∷ []) b.1 z (in_append z xs (v ∷ []) (inl i))),
          rest.0,
        ),
        rest.1,
        λ z i. apart z i (rest.2),
      )
    where
      apart : (z : ℕ) → IsIn z (x ∷ xs) → ((y : ℕ) → IsIn y xs → v ≢ y) → v ≢ z
      apart z (inl e) others = λ f. each_in (λ y. x ≢ y) (xs ++ v ∷ []) b.1 v (in_append v xs (v ∷ []) (inr (inl refl)))
          (sym e ∙ sym f)
      apart z (inr i) others = others z i

  boxes_back : (xs : List ℕ) → AreBoxesAmong n xs → AreBoxesAmong n (turned xs)
  boxes_back [] b = tt
  boxes_back (x ∷ xs) b = boxes_turned x xs b

  pub boxes_run : (v : ℕ) (before : List ℕ) → AreBoxesAmong n (before ++ v ∷ []) → AreBoxesAmong n (v ∷ turned before)
  boxes_run v before b =
      let h = boxes_pop before v b in
      (h.1, each_from (λ z. v ≢ z) (turned before) (λ z i. h.2 z (in_turned z before i)), boxes_back before h.0)

  pub sum_turned : (w : ℕ → ℕ) (v : ℕ) (l : List ℕ) → sum_by w (turned l ++ v ∷ []) ≡ sum_by w (v ∷ l)
  sum_turned w v [] = refl
  sum_turned w v (x ∷ l) = let rest = sum_turned w x l in
      omega (arith, sum_by_push w (turned (x ∷ l)) v, sum_by-cons w v (x ∷ l))

  pub sum_run : (w : ℕ → ℕ) (v : ℕ) (before : List ℕ) → sum_by w (v ∷ turned before) ≡ sum_by w (before ++ v ∷ [])
  sum_run w v before = omega (arith, sum_by-cons w v (turned before), sum_by_push w before v, back before)
    where
      back : (l : List ℕ) → sum_by w (turned l) ≡ sum_by w l
      back [] = refl
      back (x ∷ l) = sum_turned w x l

module _ (R : ℕ → ℕ → Type 0) where
  run_push : (l : List ℕ) (y x : ℕ) → IsRun R (l ++ y ∷ []) → R y x → IsRun R ((l ++ y ∷ []) ++ x ∷ [])
  run_push [] y x h b = (b, tt)
  run_push (z ∷ []) y x h b = (h.0, run_push [] y x h.1 b)
  run_push (z ∷ t ∷ l) y x h b = (h.0, run_push (t ∷ l) y x h.1 b)

module _ (X : Exclusions) (i : ℕ) where
  chain_run : (l : List ℕ) → IsChain X i l → IsRun (IsSurelyBefore X i) l
  chain_run [] h = tt
  chain_run (u ∷ []) h = tt
  chain_run (u ∷ v ∷ l) h = (h.0, chain_run (v ∷ l) h.1)

  run_chain : (l : List ℕ) → IsRun (IsSurelyBefore X i) l → IsChain X i l
  run_chain [] h = tt
  run_chain (u ∷ []) h = tt
  run_chain (u ∷ v ∷ l) h = (h.0, run_chain (v ∷ l) h.1)

  back_chain : (v : ℕ) (l : List ℕ) → IsRun (Leads X i Backwards) (v ∷ l)
      → IsRun (IsSurelyBefore X i) (turned l ++ v ∷ [])
  back_chain v [] h = tt
  back_chain v (x ∷ l) h = run_push (IsSurelyBefore X i) (turned l) x v (back_chain x l h.1) h.0

  chain_back : (v : ℕ) (before : List ℕ) → IsRun (IsSurelyBefore X i) (before ++ v ∷ [])
      → IsRun (Leads X i Backwards) (v ∷ turned before)
  chain_back v [] h = tt
  chain_back v (x ∷ []) h = (h.0, tt)
  chain_back v (x ∷ y ∷ before) h =
      run_push (Leads X i Backwards) (v ∷ turned before) y x (chain_back v (y ∷ before) h.1) h.0

  module _ (instance : PlainInstance) where
    pub head_of : (v k : ℕ) → IsHeaviestRun (box_count instance) (Leads X i Backwards) (λ u. side instance u i) v k
        → IsHeaviestHead instance X i v k
    head_of v k run = record {
      some = record {
        before = turned run.some.rest;
        boxes = boxes_turned (box_count instance) v run.some.rest run.some.boxes;
        chain = run_chain (turned run.some.rest ++ v ∷ []) (back_chain v run.some.rest run.some.run);
        heavy = sum_turned (box_count instance) (λ u. side instance u i) v run.some.rest ∙ run.some.heavy;
      };
      most = λ before b c. subst (λ (z : ℕ). z ≤ k) (sum_run (box_count instance) (λ u. side instance u i) v before)
          (run.most (turned before) (boxes_run (box_count instance) v before b)
          (chain_back v before (chain_run (before ++ v ∷ []) c)));
    }

    pub tail_of : (v k : ℕ) → IsHeaviestRun (box_count instance) (Leads X i Forwards) (λ u. side instance u i) v k
        → IsHeaviestTail instance X i v k
    tail_of v k run = record {
      some = record {
        after = run.some.rest;
        boxes = run.some.boxes;
        chain = run_chain (v ∷ run.some.rest) run.some.run;
        heavy = run.some.heavy;
      };
      most = λ after b c. run.most after b (chain_run (v ∷ after) c);
    }

    -- a head is a run, so it is small
    pub run_of_head : (v k : ℕ) → HasHead instance X i v k
        → HasRun (box_count instance) (Leads X i Backwards) (λ u. side instance u i) v k
    run_of_head v k h = record {
      rest = turned h.before;
      boxes = boxes_run (box_count instance) v h.before h.boxes;
      run = chain_back v h.before (chain_run (h.before ++ v ∷ []) h.chain);
      heavy = sum_run (box_count instance) (λ u. side instance u i) v h.before ∙ h.heavy;
    }

    pub run_of_tail : (v k : ℕ) → HasTail instance X i v k
        → HasRun (box_count instance) (Leads X i Forwards) (λ u. side instance u i) v k
    run_of_tail v k h = record {
      rest = h.after;
      boxes = h.boxes;
      run = chain_run (v ∷ h.after) h.chain;
      heavy = h.heavy;
    }

    -- surely before goes one way where no mask is empty, and backwards it is transitive too
    pub one_way : i < dims instance → IsSymmetric X → HasNoEmptyMask instance X → (d : Direction)
        → IsOneWay (box_count instance) (Leads X i d)
    one_way hi symmetric full d u v b = go d
      where
        clash : (a c : ℕ) → IsEdgeAmong (dims instance) (box_count instance) i a c → IsSurelyBefore X i a c
            → IsSurelyBefore X i c a → ⊥
        clash a c edge ac ca = pick (full i a c edge)
          where
            pick : (r : Rel) × (X i a c r ≡ false) → ⊥
            pick (Overlap, e) = true≢false (sym ac.0 ∙ e)
            pick (After, e) = true≢false (sym ac.1 ∙ e)
            pick (Before, e) = true≢false (sym (symmetric i c a After ca.1) ∙ e)

        edge : IsEdgeAmong (dims instance) (box_count instance) i u v
        edge = record { dim = hi; first = b.0; second = b.2.0; distinct = b.1.0 }

        go : (d : Direction) → Leads X i d u v → Leads X i d v u → ⊥
        go Forwards h k = clash u v edge h k
        go Backwards h k = clash u v edge k h

    pub transitive_back : IsTransitive (box_count instance) (IsSurelyBefore X i) → (d : Direction)
        → IsTransitive (box_count instance) (Leads X i d)
    transitive_back trans Backwards u v x b h k =
        trans x v u (
          b.2.2.0,
          ((λ e. b.2.1.0 (sym e)), ((λ e. b.1.1.0 (sym e)), tt)),
          (b.2.0, ((λ e. b.1.0 (sym e)), tt), (b.0, tt, tt)),
        ) k h
    transitive_back trans Forwards u v x b h k = trans u v x b h k

    pub run_of_heaviest : (v k : ℕ) → IsHeaviestHead instance X i v k
        → IsHeaviestRun (box_count instance) (Leads X i Backwards) (λ u. side instance u i) v k
    run_of_heaviest v k h = record {
      some = run_of_head v k h.some;
      most = λ rest b r. subst (λ (z : ℕ). z ≤ k) (sum_turned (box_count instance) (λ u. side instance u i) v rest)
          (h.most (turned rest) (boxes_turned (box_count instance) v rest b)
          (run_chain (turned rest ++ v ∷ []) (back_chain v rest r)));
    }
