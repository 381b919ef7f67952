use Rattle.level_search.specs.Runs.{plain_reached}
use Rattle.strip_solver.proofs.Answered.{none_at_all, ended, placed_small, answer_told, true_told, spent_told}
use Rattle.strip_solver.proofs.Answered.{final_told}
use Rattle.strip_solver.proofs.least.least_from.Goals as goal

pub returns-in-Some-clause-right : goal.returns-in-Some-clause-right
returns-in-Some-clause-right g c = none_at_all c.args.instance.now _ _ c.in-Some.ensures

pub strip_of-requires-clause-rising : goal.strip_of-requires-clause-rising
strip_of-requires-clause-rising g c =
    (ended c.args.start.now c.args.instance.now c.len-limits.ensures.limits c.requires c.in-None.ensures
    c.args.settings.now.budget c.args.settings.now.scales
    (plain_reached c.in_ok-reached-in-None.reached) c.in_ok-reached-in-None.ensures).order

pub strip_of-requires-clause-beside : goal.strip_of-requires-clause-beside
strip_of-requires-clause-beside g c =
    (ended c.args.start.now c.args.instance.now c.len-limits.ensures.limits c.requires c.in-None.ensures
    c.args.settings.now.budget c.args.settings.now.scales
    (plain_reached c.in_ok-reached-in-None.reached) c.in_ok-reached-in-None.ensures).beside

pub strip_of-requires-clause-limit : goal.strip_of-requires-clause-limit
strip_of-requires-clause-limit g c =
    placed_small c.args.start.now c.args.instance.now c.len-limits.ensures.limits c.requires c.in-None.ensures
    c.args.settings.now.budget c.args.settings.now.scales
    (plain_reached c.in_ok-reached-in-None.reached) c.in_ok-reached-in-None.ensures

pub returns-in_ok-reached-in-None-clause-answer : goal.returns-in_ok-reached-in-None-clause-answer
returns-in_ok-reached-in-None-clause-answer g c =
    answer_told c.args.start.now c.args.instance.now c.len-limits.ensures.limits c.requires c.in-None.ensures
    c.args.settings.now.budget c.args.settings.now.scales
    (plain_reached c.in_ok-reached-in-None.reached) c.in_ok-reached-in-None.ensures c.strip_of.result c.strip_of.ensures

pub returns-in_ok-reached-in-None-clause-right : goal.returns-in_ok-reached-in-None-clause-right
returns-in_ok-reached-in-None-clause-right g c =
    true_told c.args.start.now c.args.instance.now c.len-limits.ensures.limits c.requires c.in-None.ensures
    c.args.settings.now.budget c.args.settings.now.scales
    (plain_reached c.in_ok-reached-in-None.reached) c.in_ok-reached-in-None.ensures c.strip_of.result c.strip_of.ensures

pub returns-in_ok-reached-in-None-clause-spent : goal.returns-in_ok-reached-in-None-clause-spent
returns-in_ok-reached-in-None-clause-spent g c =
    spent_told c.args.start.now c.args.instance.now c.len-limits.ensures.limits c.requires c.in-None.ensures
    c.args.settings.now.budget c.args.settings.now.scales
    (plain_reached c.in_ok-reached-in-None.reached) c.in_ok-reached-in-None.ensures c.strip_of.result c.strip_of.ensures

pub returns-in_ok-reached-in-None-clause-enough : goal.returns-in_ok-reached-in-None-clause-enough
returns-in_ok-reached-in-None-clause-enough g c l =
    final_told c.args.start.now c.args.instance.now c.len-limits.ensures.limits c.requires c.in-None.ensures
    c.args.settings.now.budget c.args.settings.now.scales
    (plain_reached c.in_ok-reached-in-None.reached) c.in_ok-reached-in-None.ensures l c.strip_of.result c.strip_of.ensures
