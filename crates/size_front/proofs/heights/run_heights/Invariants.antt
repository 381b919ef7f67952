use Rattle.std.proofs.Common.{◌≡◌, IfSome, []}
use Rattle.level_search.specs.Runs.{plain_reached}
use Rattle.level_search.proofs.OnRun.{IsOnRun, decisions_left}
use Rattle.class_search.specs.Deciders.{decider_of}
use Rattle.answer_terms.specs.Walks.{size_answer, levels_from}
use Rattle.size_front.proofs.heights.run_heights.Given as goal

abbrev pub invariant-loop-level : goal.invariant-loop-level
invariant-loop-level g l =
    IsOnRun (λ b. size_answer l.fn.instance l.fn.settings.budget l.fn.settings.scales l.fn.width b) 0 l.fn.height
    (levels_from 0 [] l.fn.height l.fn.places.items) (plain_reached l.reached)
    × IfSome l.decider (λ d. d ≡ decider_of l.fn.instance)
    × (l.decider ≡ l.fn.decider)

abbrev pub decreases-loop-level : goal.decreases-loop-level
decreases-loop-level g l = decisions_left (plain_reached l.reached)
