use Rattle.std.proofs.Common.{◌≡◌, ◌++◌, take}
use Rattle.bin_search.specs.Lists.{lists_of}
use Rattle.bin_search.specs.Paths.{answers_of}
use Rattle.bin_search.proofs.path.push_answers.Given as goal

abbrev pub invariant-loop-k : goal.invariant-loop-k
invariant-loop-k l = record {
  answers : lists_of l.answers.items ≡ lists_of l.fn.answers.items ++ answers_of l.fn.search.instance l.fn.search.scales
      (lists_of (take l.k l.sets));
  same : l.search ≡ l.fn.search;
}
