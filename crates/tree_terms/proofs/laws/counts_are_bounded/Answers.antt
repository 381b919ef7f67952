use Rattle.packing_terms.proofs.Internal.{internal_sides, some_dimension}
use Rattle.tree_terms.proofs.Counts.{class_count}
use Rattle.tree_terms.proofs.OuterCounts.{bin_count}
use Rattle.tree_terms.proofs.ChoiceCounts.{choice_count}
use Rattle.tree_terms.proofs.laws.counts_are_bounded.Goals as goal

pub returns-clause-inner : goal.returns-clause-inner
returns-clause-inner c instance start scales limits = class_count instance (some_dimension instance limits) start scales

pub returns-clause-bins : goal.returns-clause-bins
returns-clause-bins c instance k scales limits =
    bin_count instance (internal_sides instance limits) (some_dimension instance limits) scales k

pub returns-clause-value : goal.returns-clause-value
returns-clause-value c instance goal scales limits =
    choice_count instance (internal_sides instance limits) (some_dimension instance limits) scales goal
