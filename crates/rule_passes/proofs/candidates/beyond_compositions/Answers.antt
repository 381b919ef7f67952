use Rattle.std.proofs.Common.{◌≡◌, Bool, true, false, ◌∙◌, refl, sym, not, ◌&&◌, ◌||◌, eqb}
use Rattle.std.proofs.lemmas.Bool.{and_from, lt-ltb}
use Rattle.packing_terms.specs.declared.Rel.{Rel}
use Rattle.packing_terms.specs.declared.Rel.TheVariants.{Overlap, Before, After}
use Rattle.packing_terms.specs.Packing.{box_count}
use Rattle.packing_terms.specs.Exclusions.{excludes}
use Rattle.edge_state.specs.BitRows.{row_has}
use Rattle.edge_state.specs.Edges.{is_other_box}
use Rattle.edge_state.proofs.Kept.{by_rel}
use Rattle.edge_state.specs.Rows.{in_each_relation}
use Rattle.edge_state.proofs.Beyond.{covered_beyond}
use Rattle.rule_passes.proofs.Compositions.{any_of, none_left_out, within_found}
use Rattle.rule_passes.proofs.candidates.beyond_compositions.Goals as goal

pub returns-clause-within : goal.returns-clause-within
returns-clause-within g c x on =
    let n = box_count c.args.instance.now in
    let lo = rw c.requires.sizes.same_boxes at c.left_outside.ensures in
    let lb = rw c.requires.sizes.same_boxes at c.left_outside-2.ensures in
    let la = rw c.requires.sizes.same_boxes at c.left_outside-3.ensures in
    within_found n c.args.u x _ _ _ _ _ _ _ _ _ _ _ _ _ _ _ refl refl refl (lo x) (lb x) (la x)
    _ (c.one_of.ensures x) on

pub returns-clause-others : goal.returns-clause-others
returns-clause-others g c x small off some_q some_s =
    let instance = c.args.instance.now in
    let es = c.args.state.now.trail in
    let j = c.args.dim in
    let u = c.args.u in
    let v = c.args.v in
    let q = in_each_relation c.has-is_overlap.result c.has-is_before.result c.has-is_after.result in
    let s = in_each_relation (row_has c.row_in-overlap.result x) (row_has c.row_in-before.result x)
    (row_has c.row_in-after.result x) in
    let t : Rel → Bool = λ r. is_other_box (box_count instance) u x && not (excludes es j u x r) in
    let lo = rw c.requires.sizes.same_boxes at c.left_outside.ensures in
    let lb = rw c.requires.sizes.same_boxes at c.left_outside-2.ensures in
    let la = rw c.requires.sizes.same_boxes at c.left_outside-3.ensures in
    let so = rw c.requires.sizes.same_boxes at c.row_in-overlap.ensures in
    let sb = rw c.requires.sizes.same_boxes at c.row_in-before.ensures in
    let sa = rw c.requires.sizes.same_boxes at c.row_in-after.ensures in
    let hs : (r : Rel) → s r ≡ is_other_box (box_count instance) v x && not (excludes es j v x r) =
    by_rel s _ (so x) (sb x) (sa x) in
    let hq : (r : Rel) → q r ≡ not (excludes es j u v r) =
    by_rel q _ (c.has-is_overlap.ensures ∙ c.requires.left Overlap) (c.has-is_before.ensures ∙ c.requires.left Before)
    (c.has-is_after.ensures ∙ c.requires.left After) in
    let e : row_has c.one_of.result x
    ≡ ((((t Overlap && not ((s Overlap || (s After && q Before)) || (s Before && q After))) && not (q Overlap))
    || ((t Before && not ((s Overlap && q Overlap) || s Before)) && not (q Before)))
    || ((t After && not ((s Overlap && q Overlap) || s After)) && not (q After)))
    = rw (
      c.one_of.ensures x,
      lo x,
      lb x,
      la x,
      c.one_of-may_overlap.ensures x,
      c.or-may_precede.ensures x,
      c.or-may_follow.ensures x,
      c.pick.ensures x,
      c.pick-2.ensures x,
      c.pick-near.ensures x,
    ) refl in
    let some : eqb x v ≡ false
    → (((s Overlap || s Before) || s After) && ((q Overlap || q Before) || q After)) ≡ true =
    λ other. and_from _ _ (any_of s some_s.0 (hs some_s.0 ∙ rw (lt-ltb x _ small, other, some_s.1) refl))
    (any_of q some_q.0 (hq some_q.0 ∙ (sym (c.requires.left some_q.0) ∙ some_q.1))) in
    let none = none_left_out (q Overlap) (q Before) (q After) (s Overlap) (s Before) (s After) (t Overlap) (t Before)
    (t After) (eqb x v) some (sym e ∙ off) in
    covered_beyond instance es j u v x _ q s t c.requires.distinct hq hs (λ r. refl) refl none
