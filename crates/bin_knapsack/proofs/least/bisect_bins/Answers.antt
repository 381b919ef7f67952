use Rattle.std.proofs.Common.{◌∙◌}
use Rattle.tree_terms.proofs.ClassSearch.{none_large}
use Rattle.level_search.specs.Runs.{plain_level, plain_reached}
use Rattle.level_search.proofs.OnRun.{on_run_next, run_told}
use Rattle.bin_knapsack.proofs.least.bisect_bins.Goals as goal

pub no_bins-requires : goal.no_bins-requires
no_bins-requires g c = none_large c.args.instance.now c.requires

pub decide_bins-requires-clause-fit : goal.decide_bins-requires-clause-fit
decide_bins-requires-clause-fit g c κs within = none_large c.args.instance.now c.requires

pub loop-level-preserved : goal.loop-level-preserved
loop-level-preserved g c = record {
  run = on_run_next _ _ _ _ (plain_reached c.loop-level.reached) (plain_reached c.after-reached.result) c.in-Some.level
      (plain_level c.in_ok-answer.answer)
      c.loop-level.invariant.run c.in-Some.ensures c.in_ok-answer.ensures.level c.after-reached.ensures;
  search = c.in_ok-answer.ensures.same ∙ c.loop-level.invariant.search;
}

pub returns : goal.returns
returns g c = run_told _ _ _ _ (plain_reached c.loop-level.reached) c.loop-level.invariant.run c.in_default.ensures
