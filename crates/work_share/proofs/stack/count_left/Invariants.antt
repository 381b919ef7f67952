use Rattle.std.proofs.Common.{◌≡◌, ◌+◌, ◌-◌, length, reverse, take}
use Rattle.work_share.specs.Stacks.{count_left}
use Rattle.work_share.proofs.stack.count_left.Given as goal

abbrev pub invariant-loop-count : goal.invariant-loop-count
invariant-loop-count l = count_left l.path (reverse l.stack)
    ≡ l.count + count_left l.path (reverse (take (length l.stack - l.count) l.stack))
