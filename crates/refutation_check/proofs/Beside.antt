-- What the loops over the boxes of a family find, and what the closed state says of them.
use Rattle.std.proofs.Common.{◌≡◌, ◌≢◌, ℕ, zero, suc, pred, ◌+◌, ◌-◌, ◌*◌, ◌<◌, ◌≤◌, refl, sym, ap, ap₂, subst, ◌∙◌, arith, Bool, true, false, not, ◌&&◌}
use Rattle.std.proofs.Common.{List, [], ◌∷◌, ◌++◌, length, take, drop, get_or, Option}
use Rattle.std.specs.Prelude.{◌==◌}
use Rattle.std.specs.List.{All, list_all}
use Rattle.std.proofs.lemmas.Bool.{ne_eqb}
use Rattle.std.proofs.lemmas.List.{take_more, drop_more, take-append-drop, length-append}
use Rattle.std.proofs.lemmas.List.Sums.{sum_by_push}
use Rattle.std.proofs.lemmas.List.Elements.{All-append, All-from_recursion}
use Rattle.packing_terms.specs.declared.Rel.{Rel}
use Rattle.packing_terms.specs.declared.Rel.TheVariants.{Overlap}
use Rattle.packing_terms.specs.declared.Exclusion.{Exclusion}
use Rattle.packing_terms.specs.Packing.{PlainInstance, dims, box_count, side}
use Rattle.packing_terms.specs.Exclusions.{Exclusions, excludes}
use Rattle.packing_terms.proofs.Members.{all_at}
use Rattle.packing_terms.proofs.Boxes.{each_from}
use Rattle.packing_terms.specs.Applied.{Extends}
use Rattle.edge_state.specs.Edges.{oldest}
use Rattle.edge_state.proofs.Oldest.{oldest_more}
use Rattle.verdict_terms.specs.declared.check_answers.RefuseCode.{RefuseCode}
use Rattle.verdict_terms.specs.Judging.{names_dim, names_box, closed}
use Rattle.verdict_terms.proofs.Judged.{within}
use Rattle.verdict_terms.specs.Families.{IsBoxNo, family_length}
use Rattle.verdict_terms.specs.FamilyJudging.{is_beside, are_aside, may_join, boxes_refusal}
use Rattle.refutation_check.specs.declared.node.OpenNode.{OpenNode}
use Rattle.refutation_check.specs.Ended.{IsEnded}
use Rattle.refutation_check.specs.Nodes.{entered, node_exclusions, Stands}
use Rattle.refutation_check.specs.Joining.{AreBoxNos, AreJoinable, AreTested}
use Rattle.refutation_check.proofs.Ends.{closure_ended}
use Rattle.refutation_check.proofs.Judged.{pred_is, conflict_told, closed_told}
use Rattle.refutation_check.proofs.Nodes.{entered_oldest, entered_longer}

-- ---- the loops

-- one box more of those that join
pub aside_next : (X : Exclusions) (i : ℕ) (vs : List ℕ) (k : ℕ) → k < length vs
    → are_aside X i (take k vs) (drop k vs)
    ≡ (list_all (λ u. is_beside X i u (get_or vs k 0)) (take k vs) && are_aside X i (take (k + 1) vs) (drop (k + 1) vs))
aside_next X i vs k l =
    ap (λ ws. are_aside X i (take k vs) ws) (drop_more vs k 0 l)
    ∙ ap (λ us. list_all (λ u. is_beside X i u (get_or vs k 0)) (take k vs) && are_aside X i us (drop (k + 1) vs))
    (sym (take_more vs k 0 l))

pub aside_on : (X : Exclusions) (i : ℕ) (vs : List ℕ) (k : ℕ) → k < length vs
    → list_all (λ u. is_beside X i u (get_or vs k 0)) (take k vs) ≡ true
    → are_aside X i (take k vs) (drop k vs) ≡ are_aside X i (take (k + 1) vs) (drop (k + 1) vs)
aside_on X i vs k l e =
    aside_next X i vs k l ∙ ap (λ b. b && are_aside X i (take (k + 1) vs) (drop (k + 1) vs)) e

pub aside_off : (X : Exclusions) (i : ℕ) (vs : List ℕ) (k : ℕ) → k < length vs
    → list_all (λ u. is_beside X i u (get_or vs k 0)) (take k vs) ≡ false
    → are_aside X i (take k vs) (drop k vs) ≡ false
aside_off X i vs k l e =
    aside_next X i vs k l ∙ ap (λ b. b && are_aside X i (take (k + 1) vs) (drop (k + 1) vs)) e

nothing_left : (vs : List ℕ) (k : ℕ) → length vs ≤ k → drop k vs ≡ []
nothing_left [] k l = drop_none k
  where
    drop_none : (m : ℕ) → drop {A = ℕ} m [] ≡ []
    drop_none zero = refl
    drop_none (suc m) = refl
nothing_left (v ∷ vs) zero l = absurd (omega (arith, l))
nothing_left (v ∷ vs) (suc k) l = nothing_left vs k (omega (arith, l))

pub aside_end : (X : Exclusions) (i : ℕ) (vs : List ℕ) (k : ℕ) → length vs ≤ k
    → are_aside X i (take k vs) (drop k vs) ≡ true
aside_end X i vs k l = ap (λ ws. are_aside X i (take k vs) ws) (nothing_left vs k l)

-- one number more of those that name boxes
pub named_on : (p : ℕ → Bool) (vs : List ℕ) (k : ℕ) → k < length vs → p (get_or vs k 0) ≡ true
    → list_all p (drop k vs) ≡ list_all p (drop (k + 1) vs)
named_on p vs k l e = ap (list_all p) (drop_more vs k 0 l) ∙ ap (λ b. b && list_all p (drop (k + 1) vs)) e

pub named_off : (p : ℕ → Bool) (vs : List ℕ) (k : ℕ) → k < length vs → p (get_or vs k 0) ≡ false
    → list_all p (drop k vs) ≡ false
named_off p vs k l e = ap (list_all p) (drop_more vs k 0 l) ∙ ap (λ b. b && list_all p (drop (k + 1) vs)) e

pub named_end : (p : ℕ → Bool) (vs : List ℕ) (k : ℕ) → length vs ≤ k → list_all p (drop k vs) ≡ true
named_end p vs k l = ap (list_all p) (nothing_left vs k l)

-- numbers that name boxes, and those behind them that are tested
pub all_named : (instance : PlainInstance) (vs : List ℕ) (k : ℕ) → AreBoxNos instance (take k vs)
    → list_all (names_box instance) (drop k vs) ≡ true → AreBoxNos instance vs
all_named instance vs k before tested =
    subst (λ ws. AreBoxNos instance ws) (take-append-drop k vs)
    (All-append (λ v. IsBoxNo instance v) (take k vs) (drop k vs) before
    (All-from_recursion (λ v. IsBoxNo instance v) (drop k vs)
    (each_from (λ v. IsBoxNo instance v) (drop k vs)
    (λ v m. within 1 (box_count instance) v (all_at (names_box instance) v (drop k vs) tested m)))))

-- so the tests find a dimension and boxes
pub joinable : (instance : PlainInstance) (i : ℕ) (vs : List ℕ) (k : ℕ) → names_dim instance i ≡ true
    → AreBoxNos instance (take k vs) → list_all (names_box instance) (drop k vs) ≡ true → AreJoinable instance i vs
joinable instance i vs k dim before tested =
    let d = within 1 (dims instance) i dim in
    record { dim_from = d.0; dim_to = d.1; boxes = all_named instance vs k before tested }

-- the same of a state with as many boxes
pub named_among : (instance : PlainInstance) (vs : List ℕ) (n : ℕ) → n ≡ box_count instance → AreBoxNos instance vs
    → All (λ v. (1 ≤ v) × (v ≤ n)) vs
named_among instance vs n e named = subst (λ m. All (λ v. (1 ≤ v) × (v ≤ m)) vs) (sym e) named

-- two boxes, by the mask of the pair
pub beside_told : (X : Exclusions) (i u v : ℕ) (has : Bool) → u ≢ v → has ≡ not (X (i - 1) (u - 1) (v - 1) Overlap)
    → not has ≡ is_beside X i u v
beside_told X i u v has apart e =
    ap not e ∙ (twice (X (i - 1) (u - 1) (v - 1) Overlap)
    ∙ rw (pred_is i, pred_is u, pred_is v) (ap (λ b. not b && X (pred i) (pred u) (pred v) Overlap)
    (sym (ne_eqb u v apart))))
  where
    twice : (b : Bool) → not (not b) ≡ b
    twice true = refl
    twice false = refl

-- the length of one box more, and a bound on it
pub length_more : (instance : PlainInstance) (i : ℕ) (vs : List ℕ) (k s w : ℕ) → k < length vs
    → (s ≡ family_length instance i (take k vs)) × (s ≤ k * 4294967295)
    → w ≡ side instance (get_or vs k 0 - 1) (i - 1) → w ≤ 4294967295
    → (s + w ≡ family_length instance i (take (k + 1) vs)) × (s + w ≤ (k + 1) * 4294967295)
length_more instance i vs k s w l h e most = (
  ap₂ (λ a b. a + b) h.0 (e ∙ rw (pred_is (get_or vs k 0), pred_is i) refl)
      ∙ sym (ap (family_length instance i) (take_more vs k 0 l)
      ∙ sum_by_push (λ v. side instance (pred v) (pred i)) (take k vs) (get_or vs k 0)),
  (let sum = h.1 in omega (arith, sum, most)),
)

-- ---- the closed state

module _ (X Y : Exclusions) (same : (i u v : ℕ) (r : Rel) → X i u v r ≡ Y i u v r) (i : ℕ) where
  beside_same : (u v : ℕ) → is_beside X i u v ≡ is_beside Y i u v
  beside_same u v = ap (λ b. not (u == v) && b) (same (pred i) (pred u) (pred v) Overlap)

  beside_all_same : (v : ℕ) (us : List ℕ) → list_all (λ u. is_beside X i u v) us ≡ list_all (λ u. is_beside Y i u v) us
  beside_all_same v [] = refl
  beside_all_same v (u ∷ us) = ap₂ (λ a b. a && b) (beside_same u v) (beside_all_same v us)

  pub aside_same : (us vs : List ℕ) → are_aside X i us vs ≡ are_aside Y i us vs
  aside_same us [] = refl
  aside_same us (v ∷ vs) = ap₂ (λ a b. a && b) (beside_all_same v us) (aside_same (us ++ v ∷ []) vs)

module _ (instance : PlainInstance) (es trail : List Exclusion) (i : ℕ) (us vs : List ℕ) where
  -- whether the boxes may join, by the end of the closing and the state
  pub join_told : (b : Bool) → b ≡ false → IsEnded instance (excludes es) trail b
      → may_join instance (closed instance es) i us vs ≡ are_aside (excludes trail) i us vs
  join_told b none ended =
      ap (λ c. not c && are_aside (closed instance es) i us vs) (conflict_told instance es trail b ended ∙ none)
      ∙ aside_same (closed instance es) (excludes trail)
      (closed_told instance es trail (closure_ended instance (excludes es) trail b none ended)) i us vs

  pub no_join : (b : Bool) → b ≡ true → IsEnded instance (excludes es) trail b
      → may_join instance (closed instance es) i us vs ≡ false
  no_join b some ended =
      ap (λ c. not c && are_aside (closed instance es) i us vs) (conflict_told instance es trail b ended ∙ some)

-- ---- the record of tested boxes

-- the state wasn't touched
pub tested_still : (instance : PlainInstance) (n : OpenNode) (old : List Exclusion) (answer : Option RefuseCode)
    (i : ℕ) (us vs : List ℕ) → n.mark ≤ length old
    → ((above : List Exclusion) → answer ≡ boxes_refusal instance (node_exclusions n above) i us vs)
    → AreTested instance n old old answer i us vs
tested_still instance n old answer i us vs within value = record {
  within = within;
  kept = λ k h. refl;
  value = λ A h. value A;
}

-- the state was brought to the closure of the node
pub tested_entered : (instance : PlainInstance) (n : OpenNode) (old new : List Exclusion) (answer : Option RefuseCode)
    (i : ℕ) (us vs : List ℕ) (conflict : Bool) → n.mark ≤ length old → Extends instance (entered n old) new
    → ((above : List Exclusion) → Stands instance above n.first (oldest n.mark old)
    → IsEnded instance (excludes (node_exclusions n above)) new conflict)
    → ((above : List Exclusion) → IsEnded instance (excludes (node_exclusions n above)) new conflict
    → answer ≡ boxes_refusal instance (node_exclusions n above) i us vs)
    → AreTested instance n old new answer i us vs
tested_entered instance n old new answer i us vs conflict within extends ended value = record {
  within = rw extends.grown (omega (arith, longer, length-append extends.more (entered n old)));
  kept = λ k h. rw extends.grown
      (oldest_more k extends.more (entered n old) (omega (arith, h, longer)) ∙ entered_oldest n old k h within);
  value = λ A h. value A (ended A h);
}
  where
    longer : n.mark ≤ length (entered n old)
    longer = entered_longer n old within
