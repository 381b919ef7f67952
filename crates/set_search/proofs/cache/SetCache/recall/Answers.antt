use Rattle.std.proofs.Common.{◌∙◌, arith}
use Rattle.work_share.specs.Outcomes.{plain_outcome}
use Rattle.set_search.specs.Entries.{plain_entry}
use Rattle.set_search.proofs.Memories.{capped_past, capped_same}
use Rattle.set_search.proofs.cache.SetCache.recall.Goals as goal

pub returns-then-count_of-budget : goal.returns-then-count_of-budget
returns-then-count_of-budget c = record {
  entry = plain_entry c.in-Some.entry.now;
  kept = c.in-Some.ensures;
  serves = c.serves.ensures c.if-not-serves.false;
  capped = capped_past c.args.budget (plain_outcome c.in-Some.entry.now.kept)
      (omega (arith, c.count_of.ensures, c.if-count_of-budget.true));
}

pub returns : goal.returns
returns c = record {
  entry = plain_entry c.in-Some.entry.now;
  kept = c.in-Some.ensures;
  serves = c.serves.ensures c.if-not-serves.false;
  capped = c.in_ok-outcome.ensures ∙ capped_same c.args.budget (plain_outcome c.in-Some.entry.now.kept)
      (omega (arith, c.count_of.ensures, c.if-count_of-budget.false));
}
