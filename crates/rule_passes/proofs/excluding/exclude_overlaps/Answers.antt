use Rattle.std.proofs.Common.{◌*◌, ◌≡◌, ◌⊎◌, inl, inr, ◌∙◌, ℕ, refl, sym, true, false, not, eqb, arith}
use Rattle.std.proofs.lemmas.Bool.{and_parts, true≢false, eq-eqb}
use Rattle.packing_terms.specs.declared.Rel.TheVariants.{Overlap}
use Rattle.packing_terms.specs.Packing.{box_count}
use Rattle.packing_terms.specs.Exclusions.{excludes}
use Rattle.packing_terms.specs.Rules.{Follows}
use Rattle.packing_terms.proofs.Monotone.{follows_more}
use Rattle.edge_state.specs.BitRows.{row_has}
use Rattle.edge_state.specs.Edges.{is_other_box}
use Rattle.edge_state.proofs.RowBits.{members_fewer, eqb_false}
use Rattle.edge_state.proofs.Tables.{other_from}
use Rattle.edge_state.proofs.Filters.{without_off}
use Rattle.edge_state.proofs.Worked.{worked_none, worked_lost, worked_kept, sizes_worked}
use Rattle.rule_passes.specs.Reached.{NoRule}
use Rattle.rule_passes.proofs.RowRules.{none_then}
use Rattle.rule_passes.proofs.RowStates.{not_true}
use Rattle.rule_passes.proofs.excluding.exclude_overlaps.Goals as goal

pub loop-u-init : goal.loop-u-init
loop-u-init g c = record {
  work = worked_none c.args.instance.now _ _ (λ rule none. absurd none);
  part = λ x on. on;
  excluded = λ x y on off. absurd (true≢false (sym on ∙ off));
}

pub loop-u-smaller : goal.loop-u-smaller
loop-u-smaller g c =
    members_fewer (row_has c.loop-u.rest) (row_has c.without-rest.result) c.in-Some.u (64 * g.row.K)
    c.without-rest.ensures c.in-Some.ensures.least.there c.in-Some.ensures.limit

pub returns-then-exclude_each-clause-worked : goal.returns-then-exclude_each-clause-worked
returns-then-exclude_each-clause-worked g c =
    worked_lost _ _ _ _ _ _ _ _ c.if-exclude_each.true c.loop-u.invariant.work c.exclude_each.ensures.worked

pub loop-u-preserved : goal.loop-u-preserved
loop-u-preserved g c = record {
  work = none_then c.args.instance.now _ _ _ _ c.loop-u.invariant.work
      (worked_kept _ _ _ _ NoRule c.if-exclude_each.false c.exclude_each.ensures.worked);
  part = λ x on. c.loop-u.invariant.part x (and_parts _ _ (sym (c.without-rest.ensures x) ∙ on)).0;
  excluded = λ x y on off to ne. go x y on (without_off _ x c.in-Some.u (sym (c.without-rest.ensures x) ∙ off)) to ne;
}
  where
    go : (x y : ℕ) → row_has c.args.from x ≡ true → (row_has c.loop-u.rest x ≡ false) ⊎ (x ≡ c.in-Some.u)
        → row_has c.args.to y ≡ true → (x ≡ y → ⊥)
        → excludes c.exclude_each.new.state.trail c.args.dim x y Overlap ≡ true
    go x y on (inl off) to ne =
        c.exclude_each.ensures.worked.extends.kept c.args.dim x y Overlap (c.loop-u.invariant.excluded x y on off to ne)
    go x y on (inr e) to ne = rw e (c.exclude_each.ensures.excluded y
        (c.without.ensures y ∙ (rw (to, eqb_false y c.in-Some.u (λ f. ne (e ∙ sym f))) refl)))

pub returns-clause-worked : goal.returns-clause-worked
returns-clause-worked g c = c.loop-u.invariant.work

pub returns-clause-excluded : goal.returns-clause-excluded
returns-clause-excluded g c = λ e x y on to ne. c.loop-u.invariant.excluded x y on (c.in_default.ensures.least x) to ne

pub exclude_each-requires : goal.exclude_each-requires
exclude_each-requires g c = (
  omega (arith, c.requires.words.0.1),
  (
    c.requires.words,
    (
      sizes_worked _ _ _ _ _ _ c.loop-u.invariant.work c.requires.sizes,
      (
        c.requires.from _ (c.loop-u.invariant.part _ c.in-Some.ensures.least.there),
        (others, follows),
      ),
    ),
  ),
)
  where
    parts : (v : ℕ) → row_has c.without.result v ≡ true
        → (row_has c.args.to v ≡ true) × (not (eqb v c.in-Some.u) ≡ true)
    parts v on = and_parts (row_has c.args.to v) (not (eqb v c.in-Some.u)) (sym (c.without.ensures v) ∙ on)

    apart : (v : ℕ) → row_has c.without.result v ≡ true → c.in-Some.u ≡ v → ⊥
    apart v on e = true≢false (sym (eq-eqb v c.in-Some.u (sym e)) ∙ not_true (eqb v c.in-Some.u) (parts v on).1)

    others : (v : ℕ) → row_has c.without.result v ≡ true
        → is_other_box (box_count c.args.instance.now) c.in-Some.u v ≡ true
    others v on = other_from (box_count c.args.instance.now) c.in-Some.u v
        (c.requires.to v (parts v on).0) (apart v on)

    follows : (v : ℕ) → row_has c.without.result v ≡ true
        → Follows c.args.instance.now (excludes c.loop-u.state.trail) c.args.dim c.in-Some.u v Overlap
    follows v on =
        follows_more c.args.instance.now _ _ c.loop-u.invariant.work.extends.kept c.args.dim c.in-Some.u v Overlap
        (c.requires.follows c.in-Some.u v (c.loop-u.invariant.part _ c.in-Some.ensures.least.there)
        (parts v on).0 (apart v on))
