use Rattle.std.proofs.Common.{◌*◌, ◌≡◌, ◌<◌, ◌⊎◌, inl, inr, ◌∙◌, ℕ, refl, sym, true, false, arith}
use Rattle.std.proofs.lemmas.Bool.{and_parts, true≢false, cases_Bool}
use Rattle.packing_terms.specs.Packing.{box_count}
use Rattle.packing_terms.specs.Exclusions.{excludes}
use Rattle.packing_terms.specs.Rules.{Follows}
use Rattle.packing_terms.proofs.Monotone.{follows_more}
use Rattle.edge_state.specs.BitRows.{row_has}
use Rattle.edge_state.proofs.RowBits.{members_fewer}
use Rattle.edge_state.proofs.RowSteps.{box_apart}
use Rattle.edge_state.proofs.Filters.{without_off}
use Rattle.edge_state.proofs.Worked.{worked_none, worked_lost, worked_kept, sizes_worked}
use Rattle.rule_passes.specs.Reached.{NoRule}
use Rattle.rule_passes.proofs.RowRules.{none_then}
use Rattle.rule_passes.proofs.excluding.exclude_between.Goals as goal

pub loop-u-init : goal.loop-u-init
loop-u-init g c = record {
  work = worked_none c.args.instance.now _ _ (λ rule none. absurd none);
  part = λ x on. on;
  excluded = λ x y on off. absurd (true≢false (sym on ∙ off));
}

pub loop-u-smaller : goal.loop-u-smaller
loop-u-smaller g c =
    members_fewer (row_has c.loop-u.rest) (row_has c.without-rest.result) c.in-Some.u (64 * g.row.K)
    c.without-rest.ensures c.in-Some.ensures.least.there c.in-Some.ensures.limit

pub returns-then-exclude_both-clause-worked : goal.returns-then-exclude_both-clause-worked
returns-then-exclude_both-clause-worked g c =
    worked_lost _ _ _ _ _ _ _ _ c.if-exclude_both.true c.loop-u.invariant.work c.exclude_both.ensures.worked

pub loop-u-preserved : goal.loop-u-preserved
loop-u-preserved g c = record {
  work = none_then c.args.instance.now _ _ _ _ c.loop-u.invariant.work
      (worked_kept _ _ _ _ NoRule c.if-exclude_both.false c.exclude_both.ensures.worked);
  part = λ x on. c.loop-u.invariant.part x (and_parts _ _ (sym (c.without-rest.ensures x) ∙ on)).0;
  excluded = λ x y on off to small ne. go x y on (without_off _ x c.in-Some.u (sym (c.without-rest.ensures x) ∙ off)) to
      small ne;
}
  where
    kept : (x y : ℕ) → (excludes c.loop-u.state.trail c.args.dim x y c.args.first ≡ true)
        × (excludes c.loop-u.state.trail c.args.dim x y c.args.second ≡ true)
        → (excludes c.exclude_both.new.state.trail c.args.dim x y c.args.first ≡ true)
        × (excludes c.exclude_both.new.state.trail c.args.dim x y c.args.second ≡ true)
    kept x y h = (
      c.exclude_both.ensures.worked.extends.kept c.args.dim x y c.args.first h.0,
      c.exclude_both.ensures.worked.extends.kept c.args.dim x y c.args.second h.1,
    )

    here : (y : ℕ) → row_has c.args.to y ≡ true → y < box_count c.args.instance.now → (c.in-Some.u ≡ y → ⊥)
        → (row_has c.either-open.result y ≡ true) ⊎ (row_has c.either-open.result y ≡ false)
        → (excludes c.exclude_both.new.state.trail c.args.dim c.in-Some.u y c.args.first ≡ true)
        × (excludes c.exclude_both.new.state.trail c.args.dim c.in-Some.u y c.args.second ≡ true)
    here y to small ne (inl free) =
        c.exclude_both.ensures.excluded c.if-exclude_both.false y (c.and.ensures y ∙ (rw (free, to) refl))
    here y to small ne (inr excluded) = kept c.in-Some.u y (c.either-open.ensures.excluded y small ne excluded)

    go : (x y : ℕ) → row_has c.args.from x ≡ true → (row_has c.loop-u.rest x ≡ false) ⊎ (x ≡ c.in-Some.u)
        → row_has c.args.to y ≡ true → y < box_count c.args.instance.now → (x ≡ y → ⊥)
        → (excludes c.exclude_both.new.state.trail c.args.dim x y c.args.first ≡ true)
        × (excludes c.exclude_both.new.state.trail c.args.dim x y c.args.second ≡ true)
    go x y on (inl off) to small ne = kept x y (c.loop-u.invariant.excluded x y on off to small ne)
    go x y on (inr e) to small ne = rw e (here y to small (λ f. ne (e ∙ f)) (cases_Bool _))

pub returns-clause-worked : goal.returns-clause-worked
returns-clause-worked g c = c.loop-u.invariant.work

pub returns-clause-excluded : goal.returns-clause-excluded
returns-clause-excluded g c = λ e x y on to small ne.
    c.loop-u.invariant.excluded x y on (c.in_default.ensures.least x) to small ne

pub either-open-requires : goal.either-open-requires
either-open-requires g c = (
  omega (arith, c.requires.words.0.1),
  (
    c.requires.words,
    (
      sizes_worked _ _ _ _ _ _ c.loop-u.invariant.work c.requires.sizes,
      c.requires.from _ (c.loop-u.invariant.part _ c.in-Some.ensures.least.there),
    ),
  ),
)

pub exclude_both-requires : goal.exclude_both-requires
exclude_both-requires g c = (
  omega (arith, c.requires.words.0.1),
  (
    c.requires.words,
    (
      sizes_worked _ _ _ _ _ _ c.loop-u.invariant.work c.requires.sizes,
      (
        c.requires.from _ (c.loop-u.invariant.part _ c.in-Some.ensures.least.there),
        (
          λ v on. c.either-open.ensures.other v (and_parts _ _ (sym (c.and.ensures v) ∙ on)).0,
          follows,
        ),
      ),
    ),
  ),
)
  where
    follows : (v : ℕ) → row_has c.and.result v ≡ true
        → Follows c.args.instance.now (excludes c.loop-u.state.trail) c.args.dim c.in-Some.u v c.args.first
        × Follows c.args.instance.now (excludes c.loop-u.state.trail) c.args.dim c.in-Some.u v c.args.second
    follows v on =
        let both = and_parts _ _ (sym (c.and.ensures v) ∙ on) in
        let ne = box_apart (box_count c.args.instance.now) c.in-Some.u v (c.either-open.ensures.other v both.0) in
        let two = c.requires.follows c.in-Some.u v (c.loop-u.invariant.part _ c.in-Some.ensures.least.there) both.1 ne in (
          follows_more c.args.instance.now _ _ c.loop-u.invariant.work.extends.kept c.args.dim c.in-Some.u v c.args.first two.0,
          follows_more c.args.instance.now _ _ c.loop-u.invariant.work.extends.kept c.args.dim c.in-Some.u v c.args.second
              two.1,
        )
