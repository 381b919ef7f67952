use Rattle.std.proofs.Common.{◌*◌, ◌≡◌, ◌⊎◌, inl, inr, ◌∙◌, ℕ, sym, refl, Bool, ◌&&◌, true, false}
use Rattle.std.proofs.lemmas.Bool.{and_parts, true≢false}
use Rattle.packing_terms.specs.Exclusions.{excludes, IsJoined}
use Rattle.edge_state.specs.BitRows.{row_has}
use Rattle.edge_state.proofs.RowBits.{members_fewer}
use Rattle.edge_state.proofs.Filters.{without_off}
use Rattle.rule_passes.proofs.cycles.has_open_pair.Goals as goal

pub loop-b-smaller : goal.loop-b-smaller
loop-b-smaller g c =
    members_fewer (row_has c.loop-b.rest) (row_has c.without-rest.result) c.in-Some.b (64 * g.row.K)
    c.without-rest.ensures c.in-Some.ensures.least.there c.in-Some.ensures.limit

-- what isn't in both is not in the first
off_first : (a b : Bool) → a && b ≡ false → b ≡ true → a ≡ false
off_first true b h e = absurd (true≢false (sym e ∙ h))
off_first false b h e = refl

pub loop-b-preserved : goal.loop-b-preserved
loop-b-preserved g c = record {
  part = λ x on. c.loop-b.invariant.part x (and_parts _ _ (sym (c.without-rest.ensures x) ∙ on)).0;
  others = λ x y on off there ne.
      go x y on (without_off _ x c.in-Some.b (sym (c.without-rest.ensures x) ∙ off)) there ne;
}
  where
    closed : (y : ℕ) → row_has c.args.row y ≡ true → row_has c.either-open.result y ≡ false
    closed y there = off_first _ _ (sym (c.and.ensures y) ∙ c.is_empty.ensures.none c.if-not-is_empty.false y) there

    go : (x y : ℕ) → row_has c.args.row x ≡ true → (row_has c.loop-b.rest x ≡ false) ⊎ (x ≡ c.in-Some.b)
        → row_has c.args.row y ≡ true → (x ≡ y → ⊥) → IsJoined (excludes c.args.state.now.trail) c.args.dim x y
    go x y on (inl off) there ne = c.loop-b.invariant.others x y on off there ne
    go x y on (inr e) there ne =
        rw e (c.either-open.ensures.excluded y (c.requires.within y there) (λ f. ne (e ∙ f)) (closed y there))
