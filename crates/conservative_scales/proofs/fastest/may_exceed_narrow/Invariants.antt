use Rattle.std.proofs.Common.{◌+◌, ◌*◌, ◌^◌, ◌≤◌, get_or}
use Rattle.conservative_scales.proofs.Shares.{AreShared}
use Rattle.conservative_scales.proofs.fastest.may_exceed_narrow.Given as goal

abbrev pub invariant-loop-box_no : goal.invariant-loop-box_no
invariant-loop-box_no l = record {
  shared : AreShared l.instance (λ v. get_or l.images (l.at + v) 0) l.box_no l.total;
  limit : l.total ≤ l.box_no * 2 ^ 52;
}
