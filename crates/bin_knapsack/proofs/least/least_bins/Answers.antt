use Rattle.std.proofs.Common.{sym}
use Rattle.tree_terms.proofs.FirstFound.{first_large_is, none_large_is}
use Rattle.level_search.specs.Runs.{plain_reached}
use Rattle.bin_knapsack.proofs.BinsAnswered.{none_at_all, ended, placed_small, answer_told, true_told, spent_told}
use Rattle.bin_knapsack.proofs.BinsAnswered.{final_told}
use Rattle.bin_knapsack.proofs.least.least_bins.Goals as goal

pub returns-in-Some-clause-answer : goal.returns-in-Some-clause-answer
returns-in-Some-clause-answer g c =
    (first_large_is c.args.instance.now c.in-Some.box_no c.in-Some.dim).0 (sym c.in-Some.ensures.value)

pub returns-in-Some-clause-right : goal.returns-in-Some-clause-right
returns-in-Some-clause-right g c =
    none_at_all c.args.instance.now _ _
    ((first_large_is c.args.instance.now c.in-Some.box_no c.in-Some.dim).0 (sym c.in-Some.ensures.value))

pub bins_of-requires-clause-rising : goal.bins_of-requires-clause-rising
bins_of-requires-clause-rising g c =
    (ended c.args.instance.now c.len-limits.ensures.limits
    ((none_large_is c.args.instance.now).0 (sym c.in-None.ensures.value)) c.args.settings.now.budget
    c.args.settings.now.scales
    (plain_reached c.in_ok-reached-in-None.reached) c.in_ok-reached-in-None.ensures).order

pub bins_of-requires-clause-beside : goal.bins_of-requires-clause-beside
bins_of-requires-clause-beside g c =
    (ended c.args.instance.now c.len-limits.ensures.limits
    ((none_large_is c.args.instance.now).0 (sym c.in-None.ensures.value)) c.args.settings.now.budget
    c.args.settings.now.scales
    (plain_reached c.in_ok-reached-in-None.reached) c.in_ok-reached-in-None.ensures).beside

pub bins_of-requires-clause-limit : goal.bins_of-requires-clause-limit
bins_of-requires-clause-limit g c =
    placed_small c.args.instance.now c.len-limits.ensures.limits
    ((none_large_is c.args.instance.now).0 (sym c.in-None.ensures.value)) c.args.settings.now.budget
    c.args.settings.now.scales
    (plain_reached c.in_ok-reached-in-None.reached) c.in_ok-reached-in-None.ensures

pub returns-in_ok-reached-in-None-clause-answer : goal.returns-in_ok-reached-in-None-clause-answer
returns-in_ok-reached-in-None-clause-answer g c =
    answer_told c.args.instance.now c.len-limits.ensures.limits
    ((none_large_is c.args.instance.now).0 (sym c.in-None.ensures.value)) c.args.settings.now.budget
    c.args.settings.now.scales
    (plain_reached c.in_ok-reached-in-None.reached) c.in_ok-reached-in-None.ensures
    c.bins_of.result c.bins_of.ensures

pub returns-in_ok-reached-in-None-clause-right : goal.returns-in_ok-reached-in-None-clause-right
returns-in_ok-reached-in-None-clause-right g c =
    true_told c.args.instance.now c.len-limits.ensures.limits
    ((none_large_is c.args.instance.now).0 (sym c.in-None.ensures.value)) c.args.settings.now.budget
    c.args.settings.now.scales
    (plain_reached c.in_ok-reached-in-None.reached) c.in_ok-reached-in-None.ensures
    c.bins_of.result c.bins_of.ensures

pub returns-in_ok-reached-in-None-clause-spent : goal.returns-in_ok-reached-in-None-clause-spent
returns-in_ok-reached-in-None-clause-spent g c =
    spent_told c.args.instance.now c.len-limits.ensures.limits
    ((none_large_is c.args.instance.now).0 (sym c.in-None.ensures.value)) c.args.settings.now.budget
    c.args.settings.now.scales
    (plain_reached c.in_ok-reached-in-None.reached) c.in_ok-reached-in-None.ensures
    c.bins_of.result c.bins_of.ensures

pub returns-in_ok-reached-in-None-clause-enough : goal.returns-in_ok-reached-in-None-clause-enough
returns-in_ok-reached-in-None-clause-enough g c l =
    final_told c.args.instance.now c.len-limits.ensures.limits
    ((none_large_is c.args.instance.now).0 (sym c.in-None.ensures.value)) c.args.settings.now.budget
    c.args.settings.now.scales
    (plain_reached c.in_ok-reached-in-None.reached) c.in_ok-reached-in-None.ensures
    l c.bins_of.result c.bins_of.ensures
