use Rattle.std.proofs.Common.{◌≡◌, take}
use Rattle.text_terms.specs.Texts.{side_limits}
use Rattle.instance_text.proofs.parts.limits_of_sides.Given as goal

abbrev pub invariant-loop-i : goal.invariant-loop-i
invariant-loop-i l = (l.limits.items ≡ side_limits (take l.i l.kerf)) × (l.limits.capacity ≡ 4)
