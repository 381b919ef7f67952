use Rattle.std.proofs.Common.{◌*◌, ◌≡◌, ◌<◌, ◌≤◌, ◌⊎◌, inl, inr, ◌∙◌, ℕ, sym, eqb, arith, true, false}
use Rattle.std.proofs.lemmas.Bool.{and_parts, or_parts, or_cases, eqb-true, eq-eqb, true≢false}
use Rattle.packing_terms.specs.Packing.{side}
use Rattle.edge_state.specs.BitRows.{row_has}
use Rattle.edge_state.proofs.RowBits.{members_fewer}
use Rattle.edge_state.proofs.Filters.{without_off}
use Rattle.rule_passes.proofs.triples.long_among.Goals as goal

pub loop-v-init : goal.loop-v-init
loop-v-init g c = record {
  part = λ x on. on;
  long = λ x on. absurd (true≢false (sym on ∙ c.empty-found.ensures x));
  others = λ x on off. absurd (true≢false (sym on ∙ off));
}

pub loop-v-smaller : goal.loop-v-smaller
loop-v-smaller g c =
    members_fewer (row_has c.loop-v.rest) (row_has c.without-rest.result) c.in-Some.v (64 * g.row.K)
    c.without-rest.ensures c.in-Some.ensures.least.there c.in-Some.ensures.limit

pub side-requires-clause-box_in_range : goal.side-requires-clause-box_in_range
side-requires-clause-box_in_range g c = c.requires.within _ (c.loop-v.invariant.part _ c.in-Some.ensures.least.there)

pub loop-v-smaller-then-from-least : goal.loop-v-smaller-then-from-least
loop-v-smaller-then-from-least g c =
    members_fewer (row_has c.loop-v.rest) (row_has c.without-rest.result) c.in-Some.v (64 * g.row.K)
    c.without-rest.ensures c.in-Some.ensures.least.there c.in-Some.ensures.limit

pub loop-v-preserved-then-from-least : goal.loop-v-preserved-then-from-least
loop-v-preserved-then-from-least g c = record {
  part = λ x on. c.loop-v.invariant.part x (and_parts _ _ (sym (c.without-rest.ensures x) ∙ on)).0;
  long = λ x on. among x (or_cases _ _ (sym (c.with-found.ensures x) ∙ on));
  others = λ x on off none. let parts = or_parts _ _ (sym (c.with-found.ensures x) ∙ none) in
      go x on (without_off _ x c.in-Some.v (sym (c.without-rest.ensures x) ∙ off)) parts.0 parts.1;
}
  where
    among : (x : ℕ) → (row_has c.loop-v.found x ≡ true) ⊎ (eqb x c.in-Some.v ≡ true)
        → (row_has c.args.row x ≡ true) × (c.args.least ≤ side c.args.instance.now x c.args.dim)
    among x (inl h) = c.loop-v.invariant.long x h
    among x (inr h) = rw (eqb-true x c.in-Some.v h)
        (c.loop-v.invariant.part _ c.in-Some.ensures.least.there, omega (arith, c.if-from-least.true, c.side.ensures))

    go : (x : ℕ) → row_has c.args.row x ≡ true → (row_has c.loop-v.rest x ≡ false) ⊎ (x ≡ c.in-Some.v)
        → row_has c.loop-v.found x ≡ false → eqb x c.in-Some.v ≡ false → side c.args.instance.now x c.args.dim < c.args.least
    go x on (inl off) none other = c.loop-v.invariant.others x on off none
    go x on (inr e) none other = absurd (true≢false (sym (eq-eqb x c.in-Some.v e) ∙ other))
