-- Nodes of a choice tree with one box more that is in, or out.
use Rattle.std.proofs.Common.{◌≡◌, ◌≢◌, ℕ, zero, suc, ◌+◌, ◌*◌, ◌≤◌, refl, ap, subst, ◌∙◌, arith, Bool, true, false}
use Rattle.std.proofs.Common.{◌||◌, List, [], ◌∷◌, length, drop}
use Rattle.std.specs.List.{AllByRecursion}
use Rattle.std.proofs.lemmas.Bool.{true≢false, ne_eqb}
use Rattle.packing_terms.specs.Packing.{PlainInstance, dims, box_count}
use Rattle.packing_terms.specs.Rules.{AreBoxes}
use Rattle.packing_terms.specs.Goals.{IsBoxSet}
use Rattle.packing_terms.specs.OuterRefutation.{insert_box, has_box}
use Rattle.packing_terms.proofs.Boxes.{each_in, each_from, insert_boxes, not_found}
use Rattle.packing_terms.proofs.WithBoxes.{has_inserted}
use Rattle.packing_terms.specs.Rank.{ranked}
use Rattle.packing_terms.proofs.RankLemmas.{ranked_are_boxes}
use Rattle.packing_terms.specs.Rising.{AreRising}
use Rattle.tree_terms.proofs.ChoiceSearch.{insert_rising}
use Rattle.set_search.proofs.Sets.{box_set}
use Rattle.choice_search.specs.Choices.{IsChosen}

module _ (instance : PlainInstance) where
  pub nothing_chosen : IsChosen instance 0 [] []
  nothing_chosen = record {
    there = omega arith;
    rest = ranked_are_boxes instance;
    apart = each_from (λ v. false ≡ false) (ranked instance) (λ v i. refl);
    boxes = tt;
    rising = tt;
    count = omega arith;
  }

  module _ (decided : ℕ) (taken numbers : List ℕ) (h : IsChosen instance decided taken numbers) (v : ℕ)
      (e : drop decided (ranked instance) ≡ v ∷ drop (decided + 1) (ranked instance)) where
    all_left : AreBoxes instance (v ∷ drop (decided + 1) (ranked instance))
    all_left = subst (λ us. AreBoxes instance us) e h.rest

    all_apart : AllByRecursion (λ u. has_box u taken ≡ false) (v ∷ drop (decided + 1) (ranked instance))
    all_apart = subst (λ us. AllByRecursion (λ u. has_box u taken ≡ false) us) e h.apart

    next_there : decided + 1 ≤ length (ranked instance)
    next_there = go (ranked instance) decided e h.there
      where
        go : (us : List ℕ) (k : ℕ) → drop k us ≡ v ∷ drop (k + 1) us → k ≤ length us → k + 1 ≤ length us
        go [] zero f l = absurd (let n = ap length f in omega (arith, n))
        go [] (suc k) f l = absurd (omega (arith, l))
        go (u ∷ us) zero f l = omega arith
        go (u ∷ us) (suc k) f l =
            let s : suc k + 1 ≡ suc (k + 1) = omega arith in
            let m = go us k (subst (λ n. drop k us ≡ v ∷ drop n (u ∷ us)) s f) (omega (arith, l)) in
            omega (arith, m)

    pub more_boxes : AreBoxes instance (insert_box v taken)
    more_boxes = insert_boxes (box_count instance) v taken all_left.0 (not_found v taken all_apart.0) h.boxes

    pub more_rising : AreRising (insert_box v taken)
    more_rising = insert_rising v taken (not_found v taken all_apart.0) h.rising

    pub more_set : IsBoxSet instance (insert_box v taken)
    more_set = box_set instance (insert_box v taken) more_boxes more_rising

    pub inside_chosen : (ns : List ℕ) → length ns ≡ length (insert_box v taken) * dims instance
        → IsChosen instance (decided + 1) (insert_box v taken) ns
    inside_chosen ns k = record {
      there = next_there;
      rest = all_left.2;
      apart = each_from (λ u. has_box u (insert_box v taken) ≡ false) (drop (decided + 1) (ranked instance))
          (λ u i. has_inserted u v taken
          ∙ none _ (has_box u taken) (ne_eqb v u
          (each_in (λ x. v ≢ x) (drop (decided + 1) (ranked instance)) all_left.1 u i))
          (each_in (λ x. has_box x taken ≡ false) (drop (decided + 1) (ranked instance)) all_apart.1 u i));
      boxes = more_boxes;
      rising = more_rising;
      count = k;
    }
      where
        none : (x y : Bool) → x ≡ false → y ≡ false → (x || y) ≡ false
        none false false p q = refl
        none true y p q = absurd (true≢false p)
        none false true p q = absurd (true≢false q)

    pub outside_chosen : IsChosen instance (decided + 1) taken numbers
    outside_chosen = record {
      there = next_there;
      rest = all_left.2;
      apart = all_apart.1;
      boxes = h.boxes;
      rising = h.rising;
      count = h.count;
    }
