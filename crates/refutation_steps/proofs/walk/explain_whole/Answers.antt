use Rattle.std.proofs.Common.{subst, arith, List, reverse, ◌∙◌}
use Rattle.packing_terms.specs.Tokens.{PlainToken}
use Rattle.proof_tree.specs.Plain.{plain_token}
use Rattle.refutation_steps.specs.Walks.{IsBetween}
use Rattle.refutation_steps.proofs.Whole.{next_between, told_more, none_left, all_told, walked}
use Rattle.refutation_steps.proofs.walk.explain_whole.Goals as goal

pub enter_next-closed-requires-clause-between : goal.enter_next-closed-requires-clause-between
enter_next-closed-requires-clause-between c = (
  plain_token c.token-item.result,
  _,
  next_between c.args.tokens.now c.loop-token.token-index c.token-item.result c.loop-token-test.true c.token-item.is
      c.args.instance.now c.loop-token.walk c.loop-token.invariant.between,
)

pub take_token-requires-clause-at : goal.take_token-requires-clause-at
take_token-requires-clause-at c = (
  _,
  c.enter_next-closed.ensures.at (plain_token c.token-item.result) _
      (next_between c.args.tokens.now c.loop-token.token-index c.token-item.result c.loop-token-test.true
      c.token-item.is
      c.args.instance.now c.loop-token.walk c.loop-token.invariant.between),
)

pub loop-token-preserved : goal.loop-token-preserved
loop-token-preserved c = record {
  sizes = c.in_ok-take_token.ensures.sizes;
  between = c.in_ok-take_token.ensures.between _
      (c.enter_next-closed.ensures.at (plain_token c.token-item.result) _
      (next_between c.args.tokens.now c.loop-token.token-index c.token-item.result c.loop-token-test.true
      c.token-item.is
      c.args.instance.now c.loop-token.walk c.loop-token.invariant.between));
  told = told_more c.args.tokens.now c.loop-token.token-index c.token-item.result c.loop-token-test.true c.token-item.is
      c.loop-token.walk.lines c.take_token.new.walk.lines
      c.loop-token.invariant.told
      (rw (← c.enter_next-closed.ensures.lines) c.in_ok-take_token.ensures.tokens);
}

pub returns-clause-explains : goal.returns-clause-explains
returns-clause-explains c =
    walked c.args.instance.now c.loop-token.walk.given.trail c.loop-token.walk.state.trail
    (reverse c.loop-token.walk.pending.items) c.loop-token.walk.lines
    (subst (λ (l : List PlainToken). IsBetween c.args.instance.now c.loop-token.walk l)
    (none_left c.args.tokens.now c.loop-token.token-index (let h = c.loop-token-test.false in omega (arith, h)))
    c.loop-token.invariant.between)

pub returns-clause-tokens : goal.returns-clause-tokens
returns-clause-tokens c = c.loop-token.invariant.told ∙ all_told c.args.tokens.now c.loop-token.token-index
    (let h = c.loop-token-test.false in omega (arith, h))
