-- Tasks, and what a board replies to a worker that asks for one.
use Rattle.std.specs.Prelude.{Bool, true, false}
use Rattle.tree_terms.specs.Trees.{PlainOutcome, Decided, Past}
use Rattle.work_share.specs.Board.{PlainTask}
use Rattle.work_share.specs.Steps.{Reply, Job as JobReply, NoneWaits, IsOver}
use Rattle.work_share.specs.declared.task.Take.{Take}
use Rattle.work_share.specs.declared.task.Take.TheVariants.{Job, Empty, Over}

abbrev pub reply_of : Take → Reply
reply_of (Job task) = JobReply task
reply_of Empty = NoneWaits
reply_of Over = IsOver

-- what holds of the task, if one was handed out
abbrev pub IfJob : Take → (PlainTask → Type 0) → Type 0
IfJob (Job task) P = P task
IfJob Empty P = Unit {0}
IfJob Over P = Unit {0}

-- the outcome is "past the budget"
abbrev pub is_past : PlainOutcome → Bool
is_past (Decided verdict) = false
is_past Past = true
