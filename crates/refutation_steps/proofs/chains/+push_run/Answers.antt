use Rattle.std.proofs.Common.{arith}
use Rattle.refutation_steps.proofs.Going.{on_ok}
use Rattle.refutation_steps.proofs.Chaining.{falls, least_side, pushed_last, pushed_next}
use Rattle.refutation_steps.proofs.chains.+push_run.Goals as goal

pub push_run-requires : goal.push_run-requires
push_run-requires t c = (
  (let l = falls c.args.instance.now c.args.state.now c.args.dim c.args.direction c.args.weights.now c.requires.weighed
      c.args.v c.in-Some.w _ c.requires.v c.in-Some.ensures in
      let d = c.decreases in
      omega (arith, l, d)),
  (c.requires.weighed, c.in-Some.ensures.there),
)

pub returns-in-Some : goal.returns-in-Some
returns-in-Some t c =
    let low = least_side c.args.instance.now c.args.state.now c.args.dim c.args.direction c.args.weights.now
    c.requires.weighed c.args.v c.requires.v in
    on_ok c.push_run.result
    (λ p. pushed_next c.args.instance.now c.args.state.now c.args.dim c.args.direction c.args.weights.now
    c.requires.weighed c.args.v c.in-Some.w _ _ _ _ c.requires.v
    (omega (arith, low)) c.in-Some.ensures c.in-Ok.ensures.items p) c.push_run.ensures

pub returns-in-None : goal.returns-in-None
returns-in-None t c =
    let low = least_side c.args.instance.now c.args.state.now c.args.dim c.args.direction c.args.weights.now
    c.requires.weighed c.args.v c.requires.v in
    pushed_last c.args.instance.now c.args.state.now c.args.dim c.args.direction c.args.weights.now c.requires.weighed
    c.args.v _ _ _ c.requires.v
    (omega (arith, low)) c.in-None.ensures c.in-Ok.ensures.items
