use Rattle.std.proofs.Common.{◌∙◌, sym, arith, rules}
use Rattle.verdict_terms.proofs.TupleTests.{legal_tuple}
use Rattle.outer_check.proofs.Prices.{price_long, price_closed, price_reached}
use Rattle.outer_check.proofs.pricing.price_refusal.Goals as goal

pub returns-then-not-taken_fit : goal.returns-then-not-taken_fit
returns-then-not-taken_fit c =
    price_long c.args.instance.now c.args.value c.args.path.now c.requires.boxes c.boxes-boxes.ensures.path
    c.requires.are c.args.value_weight c.args.share_weight c.args.tuple.now (search rules)
    (sym c.are_legal.ensures ∙ c.if-not-are_legal.false) (sym c.taken_fit.ensures ∙ c.if-not-taken_fit.true)

pub supply-most-requires : goal.supply-most-requires
supply-most-requires c = record {
  tuple = legal_tuple c.args.instance.now c.args.tuple.now (search rules)
      (sym c.are_legal.ensures ∙ c.if-not-are_legal.false);
}

pub demand-requires-clause-tuple : goal.demand-requires-clause-tuple
demand-requires-clause-tuple c =
    legal_tuple c.args.instance.now c.args.tuple.now (search rules) (sym c.are_legal.ensures ∙ c.if-not-are_legal.false)

pub returns-then-most-demand : goal.returns-then-most-demand
returns-then-most-demand c =
    price_closed c.args.instance.now c.args.value c.args.path.now c.requires.boxes c.boxes-boxes.ensures.path
    c.requires.are c.args.value_weight c.args.share_weight c.args.tuple.now (search rules)
    (sym c.are_legal.ensures ∙ c.if-not-are_legal.false) (sym c.taken_fit.ensures ∙ c.if-not-taken_fit.false)
    c.supply-most.result c.demand.result c.supply-most.ensures c.demand.ensures c.if-most-demand.true

pub returns : goal.returns
returns c =
    price_reached c.args.instance.now c.args.value c.args.path.now c.requires.boxes c.boxes-boxes.ensures.path
    c.requires.are c.args.value_weight c.args.share_weight c.args.tuple.now (search rules)
    (sym c.are_legal.ensures ∙ c.if-not-are_legal.false) (sym c.taken_fit.ensures ∙ c.if-not-taken_fit.false)
    c.supply-most.result c.demand.result c.supply-most.ensures c.demand.ensures
    (let l = c.if-most-demand.false in omega (arith, l))
