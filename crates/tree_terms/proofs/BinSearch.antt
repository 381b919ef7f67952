-- The bin tree is a search for a packing in k bins.
use Rattle.std.proofs.Common.{◌≡◌, ◌≢◌, ℕ, zero, suc, ◌+◌, ◌<◌, ◌≤◌, ◌⊎◌, inl, inr, refl, sym, ap, subst, ◌∙◌, arith}
use Rattle.std.proofs.Common.{Bool, true, false, ◌||◌, eqb, List, [], ◌∷◌, ◌++◌, length, get_or, append-nil, Option}
use Rattle.std.proofs.Common.{Some, None}
use Rattle.std.specs.List.{list_any, AllByRecursion}
use Rattle.std.proofs.lemmas.Bool.{true≢false, cases_eq, eq-eqb, ne_eqb}
use Rattle.std.proofs.lemmas.List.{length-map, length-append, get_or_append_left, get_or-append-add}
use Rattle.packing_terms.specs.declared.ScaleFn.{ScaleFn}
use Rattle.packing_terms.specs.Packing.{PlainInstance, IsPacking, HasPositiveSides, no_box, dims, box_count}
use Rattle.packing_terms.specs.Rules.{AreBoxes}
use Rattle.packing_terms.specs.Scales.{SidesFit}
use Rattle.packing_terms.specs.Goals.{subset}
use Rattle.packing_terms.specs.OuterRefutation.{Bins, has_box, with_box, placements, none_left, by_scales, by_set}
use Rattle.packing_terms.proofs.Sets.{or_true}
use Rattle.packing_terms.proofs.Members.{IsIn}
use Rattle.packing_terms.proofs.Boxes.{each_in, each_from, insert_boxes, not_found}
use Rattle.packing_terms.proofs.BinsRefuted.{set_sides}
use Rattle.packing_terms.proofs.WithBoxes.{any_with, any_new, with_length, with_own, with_other, inserted_some}
use Rattle.packing_terms.proofs.WithBoxes.{child_is, in_none}
use Rattle.tree_terms.specs.Trees.{SearchTree, Verdict, Yes, No}
use Rattle.packing_terms.specs.Rank.{ranked}
use Rattle.tree_terms.specs.ClassTree.{class_tree, first_too_large_box, exceeding_where}
use Rattle.tree_terms.specs.Search.{IsRightUnder}
use Rattle.tree_terms.specs.OuterTrees.{set_verdict, with_answer, bin_child, bin_node, bin_root, bin_tree}
use Rattle.tree_terms.specs.OuterSearch.{IsBinSearch}
use Rattle.packing_terms.proofs.RankLemmas.{ranked_are_boxes, in_ranked}
use Rattle.tree_terms.proofs.Searches.{outcome_right}
use Rattle.tree_terms.proofs.ClassSearch.{class_search, found_exceeds, none_large}
use Rattle.tree_terms.proofs.BinNumbers.{bin_numbers_pack}

-- the answers by index
pub answer_own : (answers : List (List ℕ)) (b : ℕ) (ns : List ℕ) → b ≤ length answers
    → get_or (with_answer answers b ns) b [] ≡ ns
answer_own [] zero ns l = refl
answer_own [] (suc b) ns l = absurd (omega (arith, l))
answer_own (a ∷ answers) zero ns l = refl
answer_own (a ∷ answers) (suc b) ns l = answer_own answers b ns (omega (arith, l))

answer_other : (answers : List (List ℕ)) (b c : ℕ) (ns : List ℕ) → c < length answers → c ≢ b
    → get_or (with_answer answers b ns) c [] ≡ get_or answers c []
answer_other [] b c ns l ne = absurd (omega (arith, l))
answer_other (a ∷ answers) zero zero ns l ne = absurd (ne refl)
answer_other (a ∷ answers) zero (suc c) ns l ne = refl
answer_other (a ∷ answers) (suc b) zero ns l ne = refl
answer_other (a ∷ answers) (suc b) (suc c) ns l ne = answer_other answers b c ns (omega (arith, l)) (λ e. ne (ap suc e))

answer_length : (answers : List (List ℕ)) (b : ℕ) (ns : List ℕ) → b < length answers
    → length (with_answer answers b ns) ≡ length answers
answer_length [] b ns l = absurd (omega (arith, l))
answer_length (a ∷ answers) zero ns l = refl
answer_length (a ∷ answers) (suc b) ns l = ap suc (answer_length answers b ns (omega (arith, l)))

answer_new : (answers : List (List ℕ)) (ns : List ℕ) → length (with_answer answers (length answers) ns)
    ≡ suc (length answers)
answer_new [] ns = refl
answer_new (a ∷ answers) ns = ap suc (answer_new answers ns)

module _ (instance : PlainInstance) (sides : HasPositiveSides instance) (some_dim : 1 ≤ dims instance) (scales : Bool)
    (k : ℕ) where
  -- what holds of a node: the boxes left have no bin, each other has one, and the answers are packings
  pub record Holds (rest : List ℕ) (bins : Bins) (answers : List (List ℕ)) : Type 0 where
    pub boxes : AreBoxes instance rest
    pub unplaced : AllByRecursion (λ v. list_any (has_box v) bins ≡ false) rest
    pub covered : (v : ℕ) → v < box_count instance → IsIn v rest ⊎ (list_any (has_box v) bins ≡ true)
    pub few : length bins ≤ k
    pub lengths : length answers ≡ length bins
    pub sets : (b : ℕ) → b < length bins → AreBoxes instance (get_or bins b [])
    pub packs : (b : ℕ) → b < length bins → IsPacking (subset instance (get_or bins b [])) (get_or answers b [])

  -- how a child's bins and answers stand to those of its node
  pub record IsNext (bins : Bins) (answers : List (List ℕ)) (v b : ℕ) (next : Bins) : Type 0 where
    pub own : b < length next
    pub room : length next ≤ k
    pub changed : AreBoxes instance (get_or next b []) × (1 ≤ length (get_or next b []))
    pub others : (c : ℕ) → c < length next → c ≢ b → (c < length bins) × (get_or next c [] ≡ get_or bins c [])
    pub has : (u : ℕ) → list_any (has_box u) next ≡ (eqb v u || list_any (has_box u) bins)
    pub answer_count : (ns : List ℕ) → length (with_answer answers b ns) ≡ length next
    pub answer_there : b ≤ length answers

  next_used : (rest : List ℕ) (bins : Bins) (answers : List (List ℕ)) (v : ℕ) → Holds (v ∷ rest) bins answers → (b : ℕ)
      → b < length bins
      → IsNext bins answers v b (with_box bins b v)
  next_used rest bins answers v h b l = record {
    own = (let n = with_length bins b v in omega (arith, l, n));
    room = (let n = with_length bins b v in let f = h.few in omega (arith, n, f));
    changed = (
      subst (λ (us : List ℕ). AreBoxes instance us) (sym (with_own bins b v l))
          (insert_boxes (box_count instance) v (get_or bins b []) h.boxes.0
          (not_found v (get_or bins b []) (in_none bins v b h.unplaced.0)) (h.sets b l)),
      subst (λ (us : List ℕ). 1 ≤ length us) (sym (with_own bins b v l)) (inserted_some v (get_or bins b [])),
    );
    others = (λ c m ne. ((let n = with_length bins b v in omega (arith, m, n)), with_other bins b c v ne));
    has = (λ u. any_with u v bins b l);
    answer_count = (λ ns. answer_length answers b ns (let e = h.lengths in omega (arith, l, e))
        ∙ (h.lengths ∙ sym (with_length bins b v)));
    answer_there = (let e = h.lengths in omega (arith, l, e));
  }

  next_new : (rest : List ℕ) (bins : Bins) (answers : List (List ℕ)) (v : ℕ) → Holds (v ∷ rest) bins answers
      → length bins < k
      → IsNext bins answers v (length bins) (bins ++ (v ∷ []) ∷ [])
  next_new rest bins answers v h l = record {
    own = omega (arith, size);
    room = omega (arith, size, l);
    changed = (
      subst (λ (us : List ℕ). AreBoxes instance us) (sym last) (h.boxes.0, tt, tt),
      subst (λ (us : List ℕ). 1 ≤ length us) (sym last) (omega arith),
    );
    others = (λ c m ne. let n : c < length bins = omega (arith, m, size, ne) in
        (n, get_or_append_left bins ((v ∷ []) ∷ []) [] c n));
    has = (λ u. any_new u v bins);
    answer_count = (λ ns. subst (λ (n : ℕ). length (with_answer answers n ns)
        ≡ length (bins ++ (v ∷ []) ∷ [])) h.lengths
        (answer_new answers ns ∙ (ap suc h.lengths ∙ sym size')));
    answer_there = (let e = h.lengths in omega (arith, e));
  }
    where
      size : length (bins ++ (v ∷ []) ∷ []) ≡ length bins + 1
      size = length-append bins ((v ∷ []) ∷ [])

      size' : length (bins ++ (v ∷ []) ∷ []) ≡ suc (length bins)
      size' = omega (arith, size)

      last : get_or (bins ++ (v ∷ []) ∷ []) (length bins) [] ≡ v ∷ []
      last =
          let e : length bins + 0 ≡ length bins = omega arith in
          subst (λ (n : ℕ). get_or (bins ++ (v ∷ []) ∷ []) n [] ≡ v ∷ []) e
          (get_or-append-add bins ((v ∷ []) ∷ []) 0 [])

  -- the child holds too, once its changed bin has an answer
  pub next_holds : (rest : List ℕ) (bins : Bins) (answers : List (List ℕ)) (v : ℕ) → Holds (v ∷ rest) bins answers
      → (b : ℕ) (next : Bins)
      → IsNext bins answers v b next → (ns : List ℕ) → IsPacking (subset instance (get_or next b [])) ns
      → Holds rest next (with_answer answers b ns)
  next_holds rest bins answers v h b next n ns pack = record {
    boxes = h.boxes.2;
    unplaced = each_from (λ u. list_any (has_box u) next ≡ false) rest (λ u i. n.has u
        ∙ none (eqb v u) (list_any (has_box u) bins) (ne_eqb v u (each_in (λ x. v ≢ x) rest h.boxes.1 u i))
        (each_in (λ x. list_any (has_box x) bins ≡ false) rest h.unplaced.1 u i));
    covered = (λ u l. cover u (h.covered u l));
    few = n.room;
    lengths = n.answer_count ns;
    sets = (λ c l. set c l (cases_eq c b));
    packs = (λ c l. packed c l (cases_eq c b));
  }
    where
      none : (x y : Bool) → x ≡ false → y ≡ false → (x || y) ≡ false
      none false false e f = refl
      none true y e f = absurd (true≢false e)
      none false true e f = absurd (true≢false f)

      cover : (u : ℕ) → IsIn u (v ∷ rest) ⊎ (list_any (has_box u) bins ≡ true)
          → IsIn u rest ⊎ (list_any (has_box u) next ≡ true)
      cover u (inl (inl e)) = inr (n.has u ∙ or_true _ _ (inl (eq-eqb v u (sym e))))
      cover u (inl (inr i)) = inl i
      cover u (inr t) = inr (n.has u ∙ or_true _ _ (inr t))

      set : (c : ℕ) → c < length next → (c ≡ b) ⊎ (c ≡ b → ⊥) → AreBoxes instance (get_or next c [])
      set c l (inl e) = subst (λ (x : ℕ). AreBoxes instance (get_or next x [])) (sym e) n.changed.0
      set c l (inr ne) = let o = n.others c l ne in
          subst (λ (us : List ℕ). AreBoxes instance us) (sym o.1) (h.sets c o.0)

      packed : (c : ℕ) → c < length next → (c ≡ b) ⊎ (c ≡ b → ⊥)
          → IsPacking (subset instance (get_or next c [])) (get_or (with_answer answers b ns) c [])
      packed c l (inl e) =
          let own : IsPacking (subset instance (get_or next b [])) (get_or (with_answer answers b ns) b []) =
          subst (λ (x : List ℕ). IsPacking (subset instance (get_or next b [])) x)
          (sym (answer_own answers b ns n.answer_there)) pack in
          subst (λ (x : ℕ). IsPacking (subset instance (get_or next x []))
          (get_or (with_answer answers b ns) x [])) (sym e) own
      packed c l (inr ne) =
          let o = n.others c l ne in
          let a = answer_other answers b c ns (let e = h.lengths in omega (arith, o, e)) ne in
          subst (λ (x : List ℕ). IsPacking (subset instance (get_or next c [])) x) (sym a)
          (subst (λ (us : List ℕ). IsPacking (subset instance us) (get_or answers c [])) (sym o.1) (h.packs c o.0))

  -- the verdict on a set is right
  pub set_right : (keep : List ℕ) → AreBoxes instance keep → 1 ≤ length keep
      → IsRightUnder (subset instance keep) [] (set_verdict instance scales keep)
  set_right keep boxes some =
      outcome_right (subset instance keep) (class_tree (subset instance keep) [] scales) []
      (class_search (subset instance keep) (set_sides instance sides keep boxes) some_dim
      (let e = length-map keep (λ v. get_or instance.boxes v no_box) in omega (arith, some, e)) [] tt scales)

  child_search : (b : ℕ) (next : Bins) → b < length next → (w : Verdict)
      → IsRightUnder (subset instance (get_or next b [])) [] w
      → (rest : List ℕ → ℕ → SearchTree)
      → ((ns : List ℕ) → IsPacking (subset instance (get_or next b [])) ns → (c : ℕ)
      → IsBinSearch instance k next (rest ns c))
      → IsBinSearch instance k next (bin_child b w rest)
  child_search b next l (Yes ns c) right rest h = h ns right (1 + c)
  child_search b next l (No ts c) right rest h =
      by_set (record { from = omega arith; to = omega (arith, l) }) right (sym (append-nil ts)) none_left

  pub next_is : (rest : List ℕ) (bins : Bins) (answers : List (List ℕ)) (v : ℕ) → Holds (v ∷ rest) bins answers
      → (b : ℕ) → b < length (placements k bins v)
      → IsNext bins answers v b (get_or (placements k bins v) b [])
  next_is rest bins answers v h b l = go (child_is k bins [] v b l)
    where
      go : ((b < length bins) × (get_or (placements k bins v) b [] ≡ with_box bins b v))
          ⊎ ((b ≡ length bins) × (length bins < k) × (get_or (placements k bins v) b [] ≡ bins ++ (v ∷ []) ∷ []))
          → IsNext bins answers v b (get_or (placements k bins v) b [])
      go (inl (m, e)) = subst (λ (x : Bins). IsNext bins answers v b x) (sym e) (next_used rest bins answers v h b m)
      go (inr (f, m, e)) = subst (λ (x : Bins). IsNext bins answers v b x) (sym e)
          (subst (λ (c : ℕ). IsNext bins answers v c (bins ++ (v ∷ []) ∷ [])) (sym f)
          (next_new rest bins answers v h m))

  bin_node_search : (rest : List ℕ) (bins : Bins) (answers : List (List ℕ)) (own : ℕ) → Holds rest bins answers
      → IsBinSearch instance k bins (bin_node instance scales k rest bins answers own)
  bin_node_search [] bins answers own h =
      bin_numbers_pack instance k bins answers (λ v l. go v (h.covered v l)) h.few h.packs
    where
      go : (v : ℕ) → ⊥ ⊎ (list_any (has_box v) bins ≡ true) → list_any (has_box v) bins ≡ true
      go v (inl i) = absurd i
      go v (inr t) = t
  bin_node_search (v ∷ rest) bins answers own h = (
    suc v,
    refl,
    record { from = omega arith; to = (let l = h.boxes.0 in omega (arith, l)); unplaced = h.unplaced.0 },
    refl,
    λ b l. let n = next_is rest bins answers v h b l in
        child_search b (get_or (placements k bins v) b []) n.own
        (set_verdict instance scales (get_or (get_or (placements k bins v) b []) b []))
        (set_right (get_or (get_or (placements k bins v) b []) b []) n.changed.0 n.changed.1)
        (λ ns c. bin_node instance scales k rest (get_or (placements k bins v) b []) (with_answer answers b ns) c)
        (λ ns pack c. bin_node_search rest (get_or (placements k bins v) b []) (with_answer answers b ns) c
        (next_holds rest bins answers v h b (get_or (placements k bins v) b []) n ns pack)),
  )

  module _ (some_box : 1 ≤ box_count instance) where
    pub bin_search : IsBinSearch instance k [] (bin_tree instance k scales)
    bin_search = go (first_too_large_box instance) refl
      where
        root : IsBinSearch instance k [] (bin_node instance scales k (ranked instance) [] [] 0)
        root = bin_node_search (ranked instance) [] [] 0 (record {
          boxes = ranked_are_boxes instance;
          unplaced = each_from (λ v. false ≡ false) (ranked instance) (λ v i. refl);
          covered = (λ v l. inl (in_ranked instance v l));
          few = omega arith;
          lengths = refl;
          sets = (λ b l. absurd (omega (arith, l)));
          packs = (λ b l. absurd (omega (arith, l)));
        })

        tested : (o : Option (List ScaleFn)) → SidesFit instance → exceeding_where instance k scales None ≡ o
            → IsBinSearch instance k [] (bin_root o (bin_node instance scales k (ranked instance) [] [] 0))
        tested (Some fs) fit e = by_scales (found_exceeds instance sides some_dim some_box k scales fs fit e) none_left
        tested None fit e = root

        unscaled : (s : Bool) (p : ℕ × ℕ) → exceeding_where instance k s (Some p) ≡ None
        unscaled true p = refl
        unscaled false p = refl

        go : (l : Option (ℕ × ℕ)) → first_too_large_box instance ≡ l
            → IsBinSearch instance k [] (bin_root (exceeding_where instance k scales l)
            (bin_node instance scales k (ranked instance) [] [] 0))
        go (Some p) e = subst (λ (o : Option (List ScaleFn)). IsBinSearch instance k []
            (bin_root o (bin_node instance scales k (ranked instance) [] [] 0))) (sym (unscaled scales p)) root
        go None e = tested (exceeding_where instance k scales None) (none_large instance e) refl
