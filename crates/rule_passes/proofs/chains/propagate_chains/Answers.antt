use Rattle.std.proofs.Common.{sym, arith, true, false, rules}
use Rattle.std.proofs.lemmas.Bool.{true≢false}
use Rattle.packing_terms.proofs.Applied.{extends_trans}
use Rattle.edge_state.proofs.Passes.{pass_as, sizes_passed, heads_more, tails_more}
use Rattle.orientation_rules.specs.Pending.{FitOutside}
use Rattle.rule_passes.proofs.ChainPasses.{chains_passed, worked_chains, all_fit}
use Rattle.rule_passes.proofs.Followed.{followed_after, held_grown}
use Rattle.rule_passes.proofs.chains.propagate_chains.Goals as goal

pub risen-heads-requires : goal.risen-heads-requires
risen-heads-requires g c =
    omega (arith, c.requires.sizes.there, c.requires.sizes.same_dims, c.dims-sizes.ensures.limits.dimensions.1)

pub settle-requires : goal.settle-requires
settle-requires g c = (
  search rules,
  (
    c.requires.words.0,
    omega (arith, c.requires.sizes.there, c.requires.sizes.same_dims, c.dims-sizes.ensures.limits.dimensions.1),
  ),
)

pub shut_rows-requires : goal.shut_rows-requires
shut_rows-requires g c =
    let live = c.weigh.ensures.followed.live c.args.dim c.requires.sizes.there c.weigh.ensures.known in (
      search rules,
      (
        c.requires.words,
        (
          c.requires.sizes,
          (
            rw c.risen-heads.ensures.heads live.fit.firsts_within,
            (λ v hv. (c.weigh.ensures.heads v hv).some, λ v hv. (c.weigh.ensures.tails v hv).some),
          ),
        ),
      ),
    )

pub shut_columns-requires : goal.shut_columns-requires
shut_columns-requires g c =
    let live = c.weigh.ensures.followed.live c.args.dim c.requires.sizes.there c.weigh.ensures.known in
    let more = c.shut_rows.ensures.pass.extends.kept in (
      search rules,
      (
        c.requires.words,
        (
          sizes_passed _ _ _ _ _ c.shut_rows.ensures.pass c.requires.sizes,
          (
            rw c.risen-heads.ensures.tails live.fit.seconds_within,
            (
              heads_more _ _ _ _ _ more (λ v hv. (c.weigh.ensures.heads v hv).some),
              tails_more _ _ _ _ _ more (λ v hv. (c.weigh.ensures.tails v hv).some),
            ),
          ),
        ),
      ),
    )

pub returns-then-shut_rows-clause-held : goal.returns-then-shut_rows-clause-held
returns-then-shut_rows-clause-held g c =
    held_grown _ _ _ c.shut_rows.ensures.pass.extends _ c.weigh.ensures.followed.held

pub returns-then-shut_columns-clause-held : goal.returns-then-shut_columns-clause-held
returns-then-shut_columns-clause-held g c =
    held_grown _ _ _ (extends_trans _ _ _ _ c.shut_rows.ensures.pass.extends c.shut_columns.ensures.pass.extends) _
    c.weigh.ensures.followed.held

pub returns-clause-held : goal.returns-clause-held
returns-clause-held g c =
    held_grown _ _ _ (extends_trans _ _ _ _ c.shut_rows.ensures.pass.extends c.shut_columns.ensures.pass.extends) _
    c.weigh.ensures.followed.held

pub returns-then-shut_columns-clause-worked : goal.returns-then-shut_columns-clause-worked
returns-then-shut_columns-clause-worked g c =
    let numbers = c.weigh.new.weights.numbers in
    let live = c.weigh.ensures.followed.live c.args.dim c.requires.sizes.there c.weigh.ensures.known in
    let outside : FitOutside c.args.instance.now c.args.state.now c.args.dim numbers c.risen-heads.result.0
    c.risen-heads.result.1 = rw (c.risen-heads.ensures.heads, c.risen-heads.ensures.tails) live.fit in
    worked_chains _ _ _ _ _ _ _ c.weigh.ensures.heads c.weigh.ensures.tails
    (chains_passed c.args.instance.now c.args.dim numbers _ _ _ _ _ true outside
    (pass_as _ _ _ _ _ (λ es f. f c.if-shut_rows.false) c.shut_rows.ensures.pass)
    (pass_as _ _ _ _ _ (λ es f e. absurd (true≢false e)) c.shut_columns.ensures.pass))
    (λ e. c.shut_columns.ensures.empty c.if-shut_columns.true)

pub returns-clause-worked : goal.returns-clause-worked
returns-clause-worked g c =
    let numbers = c.weigh.new.weights.numbers in
    let live = c.weigh.ensures.followed.live c.args.dim c.requires.sizes.there c.weigh.ensures.known in
    let outside : FitOutside c.args.instance.now c.args.state.now c.args.dim numbers c.risen-heads.result.0
    c.risen-heads.result.1 = rw (c.risen-heads.ensures.heads, c.risen-heads.ensures.tails) live.fit in
    worked_chains _ _ _ _ _ _ _ c.weigh.ensures.heads c.weigh.ensures.tails
    (chains_passed c.args.instance.now c.args.dim numbers _ _ _ _ _ false outside
    (pass_as _ _ _ _ _ (λ es f. f c.if-shut_rows.false) c.shut_rows.ensures.pass)
    (pass_as _ _ _ _ _ (λ es f e. f c.if-shut_columns.false) c.shut_columns.ensures.pass))
    (λ e. absurd (true≢false (sym e)))

pub returns-clause-followed : goal.returns-clause-followed
returns-clause-followed g c e =
    let numbers = c.weigh.new.weights.numbers in
    let live = c.weigh.ensures.followed.live c.args.dim c.requires.sizes.there c.weigh.ensures.known in
    let outside : FitOutside c.args.instance.now c.args.state.now c.args.dim numbers c.risen-heads.result.0
    c.risen-heads.result.1 = rw (c.risen-heads.ensures.heads, c.risen-heads.ensures.tails) live.fit in
    let passed = chains_passed c.args.instance.now c.args.dim numbers _ _ _ _ _ false outside
    (pass_as _ _ _ _ _ (λ es f. f c.if-shut_rows.false) c.shut_rows.ensures.pass)
    (pass_as _ _ _ _ _ (λ es f k. f c.if-shut_columns.false) c.shut_columns.ensures.pass) in
    followed_after _ _ _ passed.extends c.args.dim _ _ _ c.weigh.ensures.followed c.weigh.ensures.known
    (all_fit _ _ _ _ _ (passed.done e)) c.settle.ensures.dirty c.settle.ensures.unknown c.settle.ensures.heads
    c.settle.ensures.tails c.settle.ensures.others
