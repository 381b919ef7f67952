use Rattle.level_search.specs.Runs.{plain_reached}
use Rattle.bin_knapsack.proofs.ChoicesAnswered.{ended, true_told, spent_told, final_told}
use Rattle.bin_knapsack.proofs.greatest.greatest_value.Goals as goal

pub choice_of-requires : goal.choice_of-requires
choice_of-requires g c =
    (ended c.args.instance.now c.len-limits.ensures.limits c.args.settings.now.budget c.args.settings.now.scales
    (plain_reached c.in_ok-reached.reached) c.in_ok-reached.ensures).beside

pub returns-clause-right : goal.returns-clause-right
returns-clause-right g c =
    true_told c.args.instance.now c.len-limits.ensures.limits c.args.settings.now.budget c.args.settings.now.scales
    (plain_reached c.in_ok-reached.reached) c.in_ok-reached.ensures
    c.choice_of.result c.choice_of.ensures

pub returns-clause-spent : goal.returns-clause-spent
returns-clause-spent g c =
    spent_told c.args.instance.now c.len-limits.ensures.limits c.args.settings.now.budget c.args.settings.now.scales
    (plain_reached c.in_ok-reached.reached) c.in_ok-reached.ensures
    c.choice_of.result c.choice_of.ensures

pub returns-clause-enough : goal.returns-clause-enough
returns-clause-enough g c l =
    final_told c.args.instance.now c.len-limits.ensures.limits c.args.settings.now.budget c.args.settings.now.scales
    (plain_reached c.in_ok-reached.reached) c.in_ok-reached.ensures
    l c.choice_of.result c.choice_of.ensures
