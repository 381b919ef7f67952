use Rattle.std.proofs.Common.{◌*◌, ◌≡◌, ◌<◌, ◌⊎◌, inl, inr, ◌∙◌, ℕ, sym, true, false, arith}
use Rattle.std.proofs.lemmas.Bool.{and_parts, or_parts, or_cases, true≢false}
use Rattle.packing_terms.specs.Packing.{box_count}
use Rattle.packing_terms.specs.Exclusions.{excludes}
use Rattle.edge_state.specs.BitRows.{row_has}
use Rattle.edge_state.proofs.RowBits.{members_fewer}
use Rattle.edge_state.proofs.Filters.{without_off}
use Rattle.rule_passes.specs.Reached.{IsGoneOf}
use Rattle.rule_passes.proofs.rows.gone_of_any.Goals as goal

pub loop-x-init : goal.loop-x-init
loop-x-init g c = record {
  part = λ x on. on;
  within = λ y on. absurd (true≢false (sym on ∙ c.empty-found.ensures y));
  gone = λ y on. absurd (true≢false (sym on ∙ c.empty-found.ensures y));
  others = λ x y on off. absurd (true≢false (sym on ∙ off));
}

pub loop-x-smaller : goal.loop-x-smaller
loop-x-smaller g c =
    members_fewer (row_has c.loop-x.rest) (row_has c.without-rest.result) c.in-Some.x (64 * g.row.K)
    c.without-rest.ensures c.in-Some.ensures.least.there c.in-Some.ensures.limit

pub loop-x-preserved : goal.loop-x-preserved
loop-x-preserved g c = record {
  part = λ x on. c.loop-x.invariant.part x (and_parts _ _ (sym (c.without-rest.ensures x) ∙ on)).0;
  within = λ y on. inside y (or_cases _ _ (sym (c.or-found.ensures y) ∙ on));
  gone = λ y on. of y (or_cases _ _ (sym (c.or-found.ensures y) ∙ on));
  others = λ x y on off small ne none one other.
      let parts = or_parts _ _ (sym (c.or-found.ensures y) ∙ none) in
      go x y on (without_off _ x c.in-Some.x (sym (c.without-rest.ensures x) ∙ off)) small ne parts.0 parts.1 one other;
}
  where
    inside : (y : ℕ) → (row_has c.loop-x.found y ≡ true) ⊎ (row_has c.gone.result y ≡ true)
        → y < box_count c.args.instance.now
    inside y (inl h) = c.loop-x.invariant.within y h
    inside y (inr h) = c.gone.ensures.within y h

    of : (y : ℕ) → (row_has c.loop-x.found y ≡ true) ⊎ (row_has c.gone.result y ≡ true)
        → IsGoneOf (excludes c.args.state.now.trail) c.args.dim (row_has c.args.row) c.args.first c.args.second y
    of y (inl h) = c.loop-x.invariant.gone y h
    of y (inr h) = record {
      box = c.in-Some.x;
      member = c.loop-x.invariant.part _ c.in-Some.ensures.least.there;
      distinct = c.gone.ensures.distinct y h;
      one = (c.gone.ensures.excluded y h).0;
      other = (c.gone.ensures.excluded y h).1;
    }

    go : (x y : ℕ) → row_has c.args.row x ≡ true → (row_has c.loop-x.rest x ≡ false) ⊎ (x ≡ c.in-Some.x)
        → y < box_count c.args.instance.now → (x ≡ y → ⊥)
        → row_has c.loop-x.found y ≡ false → row_has c.gone.result y ≡ false
        → excludes c.args.state.now.trail c.args.dim x y c.args.first ≡ true
        → excludes c.args.state.now.trail c.args.dim x y c.args.second ≡ true → ⊥
    go x y on (inl off) small ne old new one other = c.loop-x.invariant.others x y on off small ne old one other
    go x y on (inr e) small ne old new one other =
        c.gone.ensures.others y small (λ f. ne (e ∙ f)) new (rw e at one) (rw e at other)

pub returns-clause-within : goal.returns-clause-within
returns-clause-within g c = c.loop-x.invariant.within

pub returns-clause-gone : goal.returns-clause-gone
returns-clause-gone g c = c.loop-x.invariant.gone

pub returns-clause-others : goal.returns-clause-others
returns-clause-others g c = λ x y on small ne off one other.
    c.loop-x.invariant.others x y on (c.in_default.ensures.least x) small ne off one other

pub gone-requires : goal.gone-requires
gone-requires g c = (
  omega (arith, c.requires.words.0.1),
  (
    c.requires.words,
    (
      c.requires.sizes,
      (c.requires.within _ (c.loop-x.invariant.part _ c.in-Some.ensures.least.there), c.requires.all),
    ),
  ),
)
