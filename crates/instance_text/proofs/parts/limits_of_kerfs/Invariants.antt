use Rattle.std.proofs.Common.{◌≡◌, take}
use Rattle.text_terms.specs.Texts.{kerf_limits}
use Rattle.instance_text.proofs.parts.limits_of_kerfs.Given as goal

abbrev pub invariant-loop-i : goal.invariant-loop-i
invariant-loop-i l = (l.limits.items ≡ kerf_limits (take l.i l.container)) × (l.limits.capacity ≡ 4)
