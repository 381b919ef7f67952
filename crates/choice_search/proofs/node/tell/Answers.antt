use Rattle.std.proofs.Common.{sym, drop}
use Rattle.packing_terms.specs.Rank.{ranked}
use Rattle.choice_search.proofs.Children.{reached_told, short_told}
use Rattle.choice_search.proofs.node.tell.Goals as goal

pub returns-in-Reached : goal.returns-in-Reached
returns-in-Reached c =
    let met = rw c.in-Reached.is at c.requires.met in
    λ scales numbers. sym (reached_told c.args.instance.now scales c.args.value
    (drop c.args.decided (ranked c.args.instance.now)) c.args.taken.now numbers c.args.own met)

pub returns-in-Short : goal.returns-in-Short
returns-in-Short c =
    let met = rw c.in-Short.is at c.requires.met in
    λ scales numbers. sym (short_told c.args.instance.now scales c.args.value
    (drop c.args.decided (ranked c.args.instance.now)) c.args.taken.now numbers c.args.own met.0 met.1)
