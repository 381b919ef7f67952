-- Nodes of a bin tree, and their children.
use Rattle.std.proofs.Common.{◌≡◌, ℕ, zero, suc, ◌+◌, ◌*◌, ◌<◌, ◌≤◌, ◌⊎◌, inl, inr, refl, sym, ap, subst, ◌∙◌, arith}
use Rattle.std.proofs.Common.{Bool, true, false, eqb, List, [], ◌∷◌, length, get_or, drop}
use Rattle.std.specs.List.{list_any, AllByRecursion, position_or_len}
use Rattle.std.proofs.lemmas.Bool.{true≢false, cases_eq}
use Rattle.std.proofs.lemmas.Nat.{mul-le}
use Rattle.std.proofs.lemmas.List.{drop_all}
use Rattle.packing_terms.specs.Packing.{PlainInstance, IsPacking, dims, box_count}
use Rattle.packing_terms.specs.Rules.{AreBoxes}
use Rattle.packing_terms.specs.Limits.{IsInternalInstance}
use Rattle.packing_terms.specs.Goals.{subset, IsBoxSet}
use Rattle.packing_terms.specs.OuterRefutation.{Bins, has_box, placements}
use Rattle.packing_terms.proofs.Internal.{internal_sides, some_dimension}
use Rattle.packing_terms.proofs.Members.{IsIn}
use Rattle.packing_terms.proofs.Boxes.{not_found, each_from, insert_boxes, found}
use Rattle.packing_terms.proofs.OuterViews.{has_at}
use Rattle.packing_terms.proofs.WithBoxes.{in_none}
use Rattle.packing_terms.specs.Rank.{ranked}
use Rattle.tree_terms.specs.OuterTrees.{with_answer}
use Rattle.packing_terms.proofs.RankLemmas.{ranked_are_boxes, in_ranked}
use Rattle.tree_terms.proofs.BinNumbers.{index_found}
use Rattle.tree_terms.proofs.BinSearch.{Holds, IsNext, next_is, next_holds}
use Rattle.packing_terms.specs.Rising.{AreRising}
use Rattle.tree_terms.proofs.ChoiceSearch.{insert_rising}
use Rattle.set_search.proofs.Reaching.{next_box}
use Rattle.set_search.proofs.Sets.{box_set, places_count}
use Rattle.bin_search.specs.Nodes.{AreInBins}
use Rattle.bin_search.specs.Paths.{HasAnswers, grown}
use Rattle.bin_search.proofs.Placements.{placed_at, changed_at}

rising_all : (bins : Bins) → ((b : ℕ) → b < length bins → AreRising (get_or bins b [])) → (b : ℕ)
    → AreRising (get_or bins b [])
rising_all [] h b = tt
rising_all (us ∷ bins) h zero = h 0 (omega arith)
rising_all (us ∷ bins) h (suc b) = rising_all bins (λ c l. h (suc c) (omega (arith, l))) b

boxes_all : (instance : PlainInstance) (bins : Bins)
    → ((b : ℕ) → b < length bins → AreBoxes instance (get_or bins b [])) → (b : ℕ) → AreBoxes instance (get_or bins b [])
boxes_all instance [] h b = tt
boxes_all instance (us ∷ bins) h zero = h 0 (omega arith)
boxes_all instance (us ∷ bins) h (suc b) = boxes_all instance bins (λ c l. h (suc c) (omega (arith, l))) b

module _ (instance : PlainInstance) (limits : IsInternalInstance instance) (k : ℕ) where
  -- a node, as the search of a bin tree knows it
  abbrev pub Held : Bool → List ℕ → Bins → List (List ℕ) → Type 0
  Held scales rest bins answers =
      Holds instance (internal_sides instance limits) (some_dimension instance limits) scales k rest bins answers

  pub held : (scales : Bool) (placed : ℕ) (bins : Bins) (answers : List (List ℕ))
      → AreInBins instance k placed bins answers
      → Held scales (drop placed (ranked instance)) bins answers
  held scales placed bins answers h = record {
    boxes = h.rest;
    unplaced = h.unplaced;
    covered = λ v l. go v (h.covered v l);
    few = h.few;
    lengths = h.lengths;
    sets = h.sets;
    packs = h.packs;
  }
    where
      go : (v : ℕ) → (has_box v (drop placed (ranked instance)) ≡ true) ⊎ (list_any (has_box v) bins ≡ true)
          → IsIn v (drop placed (ranked instance)) ⊎ (list_any (has_box v) bins ≡ true)
      go v (inl e) = inl (found v (drop placed (ranked instance)) e)
      go v (inr e) = inr e

  placed_from : (scales : Bool) (placed : ℕ) (bins : Bins) (answers : List (List ℕ)) → placed ≤ length (ranked instance)
      → Held scales (drop placed (ranked instance)) bins answers
      → ((b : ℕ) → b < length bins → AreRising (get_or bins b []))
      → AreInBins instance k placed bins answers
  placed_from scales placed bins answers l h r = record {
    there = l;
    rest = h.boxes;
    unplaced = h.unplaced;
    covered = λ v m. go v (h.covered v m);
    few = h.few;
    lengths = h.lengths;
    sets = h.sets;
    rising = r;
    packs = h.packs;
  }
    where
      go : (v : ℕ) → IsIn v (drop placed (ranked instance)) ⊎ (list_any (has_box v) bins ≡ true)
          → (has_box v (drop placed (ranked instance)) ≡ true) ⊎ (list_any (has_box v) bins ≡ true)
      go v (inl i) = inl (has_at v (drop placed (ranked instance)) i)
      go v (inr e) = inr e

  pub nothing_placed : AreInBins instance k 0 [] []
  nothing_placed = record {
    there = omega arith;
    rest = ranked_are_boxes instance;
    unplaced = each_from (λ v. false ≡ false) (ranked instance) (λ v i. refl);
    covered = (λ v l. inl (has_at v (ranked instance) (in_ranked instance v l)));
    few = omega arith;
    lengths = refl;
    sets = (λ b l. absurd (omega (arith, l)));
    rising = (λ b l. absurd (omega (arith, l)));
    packs = (λ b l. absurd (omega (arith, l)));
  }

  module _ (placed : ℕ) (bins : Bins) (answers : List (List ℕ)) (h : AreInBins instance k placed bins answers)
      (there : placed < length (ranked instance)) where
    abbrev box : ℕ
    box = get_or (ranked instance) placed 0

    here : drop placed (ranked instance) ≡ box ∷ drop (placed + 1) (ranked instance)
    here = next_box (ranked instance) placed there

    boxes_here : AreBoxes instance (box ∷ drop (placed + 1) (ranked instance))
    boxes_here = subst (λ us. AreBoxes instance us) here h.rest

    free_here : AllByRecursion (λ v. list_any (has_box v) bins ≡ false) (box ∷ drop (placed + 1) (ranked instance))
    free_here = subst (λ us. AllByRecursion (λ v. list_any (has_box v) bins ≡ false) us) here h.unplaced

    -- a bin with the next box in it is a set of boxes
    grown_rising : (b : ℕ) → AreRising (grown bins box b)
    grown_rising b = insert_rising box (get_or bins b [])
        (not_found box (get_or bins b []) (in_none bins box b free_here.0)) (rising_all bins h.rising b)

    pub grown_boxes : (b : ℕ) → AreBoxes instance (grown bins box b)
    grown_boxes b =
        insert_boxes (box_count instance) box (get_or bins b []) boxes_here.0
        (not_found box (get_or bins b []) (in_none bins box b free_here.0)) (boxes_all instance bins h.sets b)

    pub grown_set : (b : ℕ) → IsBoxSet instance (grown bins box b)
    grown_set b = box_set instance (grown bins box b) (grown_boxes b) (grown_rising b)

    module _ (b : ℕ) (m : b < length (placements k bins box)) (ns : List ℕ)
        (pack : IsPacking (subset instance (grown bins box b)) ns) where
      next : IsNext instance (internal_sides instance limits) (some_dimension instance limits) false k bins answers box
          b (get_or (placements k bins box) b [])
      next = next_is instance (internal_sides instance limits) (some_dimension instance limits) false k
          (drop (placed + 1) (ranked instance)) bins answers box
          (subst (λ us. Held false us bins answers) here (held false placed bins answers h)) b m

      entered : Held false (drop (placed + 1) (ranked instance)) (get_or (placements k bins box) b [])
          (with_answer answers b ns)
      entered = next_holds instance (internal_sides instance limits) (some_dimension instance limits) false k
          (drop (placed + 1) (ranked instance)) bins answers box
          (subst (λ us. Held false us bins answers) here (held false placed bins answers h)) b
          (get_or (placements k bins box) b []) next ns
          (subst (λ us. IsPacking (subset instance us) ns) (sym (changed_at k bins box b m)) pack)

      next_rising : (c : ℕ) → c < length (get_or (placements k bins box) b [])
          → AreRising (get_or (get_or (placements k bins box) b []) c [])
      next_rising c l = go (cases_eq c b)
        where
          go : (c ≡ b) ⊎ (c ≡ b → ⊥) → AreRising (get_or (get_or (placements k bins box) b []) c [])
          go (inl e) = subst (λ (x : ℕ). AreRising (get_or (get_or (placements k bins box) b []) x [])) (sym e)
              (subst (λ us. AreRising us) (sym (changed_at k bins box b m)) (grown_rising b))
          go (inr ne) = let o = next.others c l ne in subst (λ us. AreRising us) (sym o.1) (h.rising c o.0)

      -- the child, once its changed bin has an answer
      pub next_placed : AreInBins instance k (placed + 1) (with_answer bins b (grown bins box b))
          (with_answer answers b ns)
      next_placed = subst (λ (x : Bins). AreInBins instance k (placed + 1) x (with_answer answers b ns))
          (placed_at k bins box b m)
          (placed_from false (placed + 1) (get_or (placements k bins box) b []) (with_answer answers b ns)
          (omega (arith, there)) entered next_rising)

  -- where no box is left, each is found in its bin and its answer
  pub has_answers : (placed : ℕ) (bins : Bins) (answers : List (List ℕ)) → k ≤ 128
      → AreInBins instance k placed bins answers
      → length (ranked instance) ≤ placed → HasAnswers instance bins answers
  has_answers placed bins answers few h over v l b at = rw at (here (h.covered v l))
    where
      none : has_box v (drop placed (ranked instance)) ≡ true → ⊥
      none e = true≢false (sym e ∙ ap (λ us. has_box v us) (drop_all placed (ranked instance) over))

      here : (has_box v (drop placed (ranked instance)) ≡ true) ⊎ (list_any (has_box v) bins ≡ true)
          → (position_or_len (has_box v) bins < length bins) × (position_or_len (has_box v) bins < length answers)
          × (length bins ≤ 128)
          × ((position_or_len (λ u. eqb u v) (get_or bins (position_or_len (has_box v) bins) []) + 1) * dims
          instance ≤ length (get_or answers (position_or_len (has_box v) bins) []))
      here (inl i) = absurd (none i)
      here (inr e) =
          let f = index_found (has_box v) bins [] e in
          let g = index_found (λ u. eqb u v) (get_or bins (position_or_len (has_box v) bins) []) 0 f.1 in
          let same = h.lengths in
          let most = h.few in
          let size = places_count instance (get_or bins (position_or_len (has_box v) bins) [])
          (get_or answers (position_or_len (has_box v) bins) []) (h.packs (position_or_len (has_box v) bins) f.0) in
          let times = mul-le (position_or_len (λ u. eqb u v) (get_or bins (position_or_len (has_box v) bins) []) + 1)
          (dims instance)
          (length (get_or bins (position_or_len (has_box v) bins) [])) (dims instance) (omega (arith, g))
          (omega arith) in
          (f.0, omega (arith, f, same), omega (arith, few, most), omega (arith, size, times))
