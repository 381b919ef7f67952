use Rattle.std.proofs.Common.{◌-◌, sym, ◌∙◌, true, false, ap₂, ◌&&◌}
use Rattle.std.proofs.lemmas.Bool.{and_parts}
use Rattle.verdict_terms.specs.Judging.{names_box}
use Rattle.outer_check.proofs.BoxExchanges.{named, unnamed_exchange, named_exchange}
use Rattle.outer_check.proofs.exchanging.exchange_refusal.Goals as goal

pub returns-then-not-names_box : goal.returns-then-not-names_box
returns-then-not-names_box c =
    unnamed_exchange c.args.instance.now c.args.value c.args.path.now c.requires.boxes c.boxes-boxes.ensures.path
    c.requires.are c.args.left_no c.args.taken_no
    (sym (ap₂ (λ a b. a && b) c.names_box.ensures c.names_box-2.ensures) ∙ c.if-not-names_box.true)

pub returns-then-is_put-comes_before : goal.returns-then-is_put-comes_before
returns-then-is_put-comes_before c =
    let names = and_parts (names_box c.args.instance.now c.args.left_no) (names_box c.args.instance.now c.args.taken_no)
    (sym (ap₂ (λ a b. a && b) c.names_box.ensures c.names_box-2.ensures) ∙ c.if-not-names_box.false) in
    let first = named c.args.instance.now c.args.left_no names.0 in
    let second = named c.args.instance.now c.args.taken_no names.1 in
    named_exchange c.args.instance.now c.args.value c.args.path.now c.requires.boxes c.boxes-boxes.ensures.path
    c.requires.are c.args.left_no c.args.taken_no (c.args.left_no - 1) (c.args.taken_no - 1)
    (sym (ap₂ (λ a b. a && b) c.names_box.ensures c.names_box-2.ensures) ∙ c.if-not-names_box.false)
    first.0 second.0 first.1 second.1 c.is_put.result c.is_put-2.result c.comes_before.result true
    c.is_put.ensures c.is_put-2.ensures c.comes_before.ensures c.if-is_put-comes_before.true

pub returns : goal.returns
returns c =
    let names = and_parts (names_box c.args.instance.now c.args.left_no) (names_box c.args.instance.now c.args.taken_no)
    (sym (ap₂ (λ a b. a && b) c.names_box.ensures c.names_box-2.ensures) ∙ c.if-not-names_box.false) in
    let first = named c.args.instance.now c.args.left_no names.0 in
    let second = named c.args.instance.now c.args.taken_no names.1 in
    named_exchange c.args.instance.now c.args.value c.args.path.now c.requires.boxes c.boxes-boxes.ensures.path
    c.requires.are c.args.left_no c.args.taken_no (c.args.left_no - 1) (c.args.taken_no - 1)
    (sym (ap₂ (λ a b. a && b) c.names_box.ensures c.names_box-2.ensures) ∙ c.if-not-names_box.false)
    first.0 second.0 first.1 second.1 c.is_put.result c.is_put-2.result c.comes_before.result false
    c.is_put.ensures c.is_put-2.ensures c.comes_before.ensures c.if-is_put-comes_before.false
