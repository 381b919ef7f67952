use Rattle.packing_terms.proofs.AppliedSound.{applied_sound}
use Rattle.packing_terms.proofs.rule_laws.applied_rules_are_sound.Goals as goal

pub returns : goal.returns
returns c instance rule old new changed applied places sides packing respects =
    applied_sound instance places rule old new changed sides packing applied respects
