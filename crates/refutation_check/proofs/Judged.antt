-- What the closed state says of the tests of a token.
use Rattle.std.proofs.Common.{◌≡◌, ℕ, zero, suc, pred, ◌-◌, ◌≤◌, ◌⊎◌, inl, inr, refl, sym, ap, ◌∙◌, arith, Bool, true}
use Rattle.std.proofs.Common.{false, not, ◌&&◌, ◌||◌, List, length, Option, None, IsTrue}
use Rattle.std.proofs.lemmas.List.{length-append}
use Rattle.std.proofs.lemmas.Bool.{cases_Bool}
use Rattle.packing_terms.specs.declared.Rel.{Rel}
use Rattle.packing_terms.specs.declared.Rel.TheVariants.{Overlap, Before, After}
use Rattle.packing_terms.specs.declared.Exclusion.{Exclusion}
use Rattle.packing_terms.specs.Packing.{PlainInstance}
use Rattle.packing_terms.specs.Exclusions.{excludes}
use Rattle.packing_terms.specs.Tokens.{PlainToken}
use Rattle.packing_terms.proofs.Sets.{same_bool}
use Rattle.packing_terms.specs.Applied.{Extends}
use Rattle.edge_state.specs.Edges.{oldest}
use Rattle.packing_terms.proofs.RoundsLemmas.{closure_is}
use Rattle.packing_terms.proofs.Conflicts.{calm, stormy}
use Rattle.relation_table.specs.Masks.{mask_has}
use Rattle.verdict_terms.specs.declared.check_answers.RefuseCode.{RefuseCode}
use Rattle.verdict_terms.specs.Judging.{closed, is_conflict, may_part, may_order, refusal}
use Rattle.edge_state.specs.Ends.{IsClosureOf}
use Rattle.refutation_check.specs.Ended.{IsEnded}
use Rattle.refutation_check.specs.declared.node.OpenNode.{OpenNode}
use Rattle.refutation_check.specs.Nodes.{entered, node_exclusions, Stands, is_split, IsJudged}
use Rattle.refutation_check.proofs.Ends.{closure_ended}
use Rattle.edge_state.proofs.Oldest.{oldest_more}
use Rattle.refutation_check.proofs.Nodes.{entered_oldest, entered_longer}

pub pred_is : (n : ℕ) → n - 1 ≡ pred n
pred_is zero = omega arith
pred_is (suc n) = omega arith

module _ (instance : PlainInstance) (es trail : List Exclusion) where
  pub conflict_told : (b : Bool) → IsEnded instance (excludes es) trail b
      → is_conflict instance (closed instance es) ≡ b
  conflict_told true e = go (cases_Bool (is_conflict instance (closed instance es)))
    where
      go : (is_conflict instance (closed instance es) ≡ true) ⊎ (is_conflict instance (closed instance es) ≡ false)
          → is_conflict instance (closed instance es) ≡ true
      go (inl h) = h
      go (inr h) = absurd (calm instance es h e.conflict)
  conflict_told false e = go (cases_Bool (is_conflict instance (closed instance es)))
    where
      none : IsClosureOf instance (excludes es) trail → is_conflict instance (closed instance es) ≡ true → ⊥
      none c h = c.none (stormy instance es h)

      go : (is_conflict instance (closed instance es) ≡ true) ⊎ (is_conflict instance (closed instance es) ≡ false)
          → is_conflict instance (closed instance es) ≡ false
      go (inl h) = absurd (none e h)
      go (inr h) = h

  pub closed_told : IsClosureOf instance (excludes es) trail → (i u v : ℕ) (r : Rel)
      → closed instance es i u v r ≡ excludes trail i u v r
  closed_told c i u v r = same_bool (closed instance es i u v r) (excludes trail i u v r)
      (λ h. (c.exact i u v r).1 ((closure_is instance es i u v r).0 h))
      (λ h. (closure_is instance es i u v r).1 ((c.exact i u v r).0 h))

  module _ (dim u v m : ℕ) (b : Bool) (none : b ≡ false) (ended : IsEnded instance (excludes es) trail b)
      (mask : (r : Rel) → mask_has m r ≡ not (excludes trail (dim - 1) (u - 1) (v - 1) r)) where
    left : (r : Rel) → not (closed instance es (pred dim) (pred u) (pred v) r) ≡ mask_has m r
    left r =
        rw (← pred_is dim, ← pred_is u, ← pred_is v)
        (ap (λ (x : Bool). not x) (closed_told (closure_ended instance (excludes es) trail b none ended) (dim - 1)
        (u - 1) (v - 1) r) ∙ sym (mask r))

    twice : (x : Bool) → x ≡ not (not x)
    twice true = refl
    twice false = refl

    pub part_told : may_part instance (closed instance es) dim u v
        ≡ (mask_has m Overlap && (mask_has m Before || mask_has m After))
    part_told = rw (conflict_told b ended ∙ none, left Overlap, left Before, left After) refl

    pub order_told : may_order instance (closed instance es) dim u v
        ≡ (not (mask_has m Overlap) && mask_has m Before && mask_has m After)
    order_told =
        rw (
          conflict_told b ended ∙ none,
          twice (closed instance es (pred dim) (pred u) (pred v) Overlap),
          left Overlap,
          left Before,
          left After,
        ) refl

  pub no_part : (dim u v : ℕ) (b : Bool) → b ≡ true → IsEnded instance (excludes es) trail b
      → may_part instance (closed instance es) dim u v ≡ false
  no_part dim u v b h e = rw (conflict_told b e ∙ h) refl

  pub no_order : (dim u v : ℕ) (b : Bool) → b ≡ true → IsEnded instance (excludes es) trail b
      → may_order instance (closed instance es) dim u v ≡ false
  no_order dim u v b h e = rw (conflict_told b e ∙ h) refl

-- ---- the record of a judged token

-- the state wasn't touched, and the token refused, or accepted as a leaf
pub judged_still : (instance : PlainInstance) (n : OpenNode) (old : List Exclusion) (answer : Option RefuseCode)
    (token : PlainToken)
    → n.mark ≤ length old → ((above : List Exclusion) → answer ≡ refusal instance (node_exclusions n above) token)
    → (answer ≡ None → IsTrue (is_split token) → ⊥) → IsJudged instance n old old answer token
judged_still instance n old answer token within value no_split = record {
  within = within;
  kept = λ k h. refl;
  value = λ A h. value A;
  no_conflict = λ e s. absurd (no_split e s);
  fewer = λ e s. absurd (no_split e s);
}

-- the state was brought to the closure of the node
pub judged_entered : (instance : PlainInstance) (n : OpenNode) (old new : List Exclusion) (answer : Option RefuseCode)
    (token : PlainToken) (conflict : Bool)
    → n.mark ≤ length old → Extends instance (entered n old) new
    → ((above : List Exclusion) → Stands instance above n.first (oldest n.mark old)
    → IsEnded instance (excludes (node_exclusions n above)) new conflict)
    → ((above : List Exclusion) → IsEnded instance (excludes (node_exclusions n above)) new conflict
    → answer ≡ refusal instance (node_exclusions n above) token)
    → (answer ≡ None → IsTrue (is_split token) → conflict ≡ false) → IsJudged instance n old new answer token
judged_entered instance n old new answer token conflict within extends ended value no_conflict = record {
  within = rw extends.grown (omega (arith, longer, length-append extends.more (entered n old)));
  kept = λ k h. rw extends.grown
      (oldest_more k extends.more (entered n old) (omega (arith, h, longer)) ∙ entered_oldest n old k h within);
  value = λ A h. value A (ended A h);
  no_conflict = λ e s A h. closure_ended instance (excludes (node_exclusions n A)) new conflict (no_conflict e s)
      (ended A h);
  fewer = λ e s. extends.fewer;
}
  where
    longer : n.mark ≤ length (entered n old)
    longer = entered_longer n old within
