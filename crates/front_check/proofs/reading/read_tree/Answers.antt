use Rattle.std.proofs.Common.{map, refl, ap, arith}
use Rattle.std.proofs.lemmas.List.{length-map}
use Rattle.proof_tree.specs.Plain.{plain_token}
use Rattle.verdict_terms.specs.Lines.{TreeToken}
use Rattle.front_check.specs.Plain.{plain_line}
use Rattle.front_check.proofs.Audited.{stands_as, as_form, tree_begun, tree_more, tree_done, tree_refused, tree_stopped}
use Rattle.front_check.proofs.Audited.{tree_short}
use Rattle.front_check.proofs.reading.read_tree.Goals as goal

pub loop-index-init : goal.loop-index-init
loop-index-init c =
    tree_begun c.args.instance.now c.args.width c.args.height (map plain_line c.args.lines.now) c.args.start
    c.in_ok-sized.sized c.in_ok-refuter.refuter c.in_ok-refuter.ensures c.in_ok-sized.ensures

pub returns-in_default : goal.returns-in_default
returns-in_default c = λ complete left.
    as_form _ _ _ c.form.ensures
    (tree_stopped c.args.instance.now c.args.width c.args.height (map plain_line c.args.lines.now) c.args.start
    c.loop-index.index c.loop-index.refuter c.index-lines-index.result c.loop-index.invariant
    (stands_as c.args.lines.now c.loop-index.index c.index-lines-index.result _ c.loop-index-test.true
    c.index-lines-index.is refl) c.in_default.not-Tree complete left)

pub returns-in-Done : goal.returns-in-Done
returns-in-Done c =
    tree_done c.args.instance.now c.args.width c.args.height (map plain_line c.args.lines.now) c.args.start
    c.loop-index.index c.loop-index.refuter c.feed.new.self (plain_token c.in-Tree.token) c.feed.result
    c.loop-index.invariant c.feed.ensures.step c.feed.ensures.answer
    (stands_as c.args.lines.now c.loop-index.index c.index-lines-index.result (TreeToken (plain_token c.in-Tree.token))
    c.loop-index-test.true c.index-lines-index.is (ap plain_line c.in-Tree.is)) c.in-Done.is

pub returns-in-Refused : goal.returns-in-Refused
returns-in-Refused c =
    tree_refused c.args.instance.now c.args.width c.args.height (map plain_line c.args.lines.now) c.args.start
    c.loop-index.index c.loop-index.refuter c.feed.new.self (plain_token c.in-Tree.token) c.feed.result
    c.loop-index.invariant c.feed.ensures.step c.feed.ensures.answer
    (stands_as c.args.lines.now c.loop-index.index c.index-lines-index.result (TreeToken (plain_token c.in-Tree.token))
    c.loop-index-test.true c.index-lines-index.is (ap plain_line c.in-Tree.is)) c.in-Refused.code c.in-Refused.is

pub loop-index-preserved : goal.loop-index-preserved
loop-index-preserved c =
    tree_more c.args.instance.now c.args.width c.args.height (map plain_line c.args.lines.now) c.args.start
    c.loop-index.index c.loop-index.refuter c.feed.new.self (plain_token c.in-Tree.token) c.feed.result
    c.loop-index.invariant c.feed.ensures.step c.feed.ensures.answer
    (stands_as c.args.lines.now c.loop-index.index c.index-lines-index.result (TreeToken (plain_token c.in-Tree.token))
    c.loop-index-test.true c.index-lines-index.is (ap plain_line c.in-Tree.is)) c.in-More.is

pub returns : goal.returns
returns c =
    tree_short c.args.instance.now c.args.width c.args.height (map plain_line c.args.lines.now) c.args.start
    c.loop-index.index c.loop-index.refuter c.loop-index.invariant
    (let k = length-map c.args.lines.now plain_line in let f = c.loop-index-test.false in omega (arith, k, f))
