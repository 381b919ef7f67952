use Rattle.std.proofs.Common.{◌≡◌, drop}
use Rattle.conservative_scales.proofs.Trying.{NoneBefore}
use Rattle.conservative_scales.proofs.fastest.try_rows.Given as goal

abbrev pub invariant-loop-row : goal.invariant-loop-row
invariant-loop-row l = record {
  none : NoneBefore l.instance l.copies (drop 1 l.fn.tuple) l.functions l.row;
  same : l.tuple ≡ l.fn.tuple;
}
