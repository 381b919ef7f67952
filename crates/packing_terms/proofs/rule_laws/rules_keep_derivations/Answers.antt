use Rattle.packing_terms.proofs.TableLaws.{rule_derived}
use Rattle.packing_terms.proofs.rule_laws.rules_keep_derivations.Goals as goal

pub returns : goal.returns
returns c instance E es derived i u v r follows = rule_derived instance E es derived i u v r follows
