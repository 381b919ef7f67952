use Rattle.std.proofs.Common.{map, length, ◌-◌}
use Rattle.front_check.specs.Plain.{plain_line}
use Rattle.front_check.proofs.Audited.{IsAudited}
use Rattle.front_check.proofs.audit.audit_front.Given as goal

abbrev pub invariant-loop-index : goal.invariant-loop-index
invariant-loop-index l = IsAudited l.fn.instance l.fn.complete l.fn.points (map plain_line l.fn.lines) l.index l.stage

abbrev pub decreases-loop-index : goal.decreases-loop-index
decreases-loop-index l = length l.lines - l.index
