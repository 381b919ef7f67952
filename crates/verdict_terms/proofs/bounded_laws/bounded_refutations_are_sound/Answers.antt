use Rattle.std.proofs.Common.{get_or}
use Rattle.packing_terms.specs.OuterRefutation.{Choice, no_choice}
use Rattle.packing_terms.proofs.Members.{index_in}
use Rattle.packing_terms.proofs.Excess.{excess_law}
use Rattle.verdict_terms.proofs.BoundedSound.{bounded_sound, none_reaches_bounded, plain_is_bounded}
use Rattle.verdict_terms.proofs.bounded_laws.bounded_refutations_are_sound.Goals as goal

pub returns-clause-value : goal.returns-clause-value
returns-clause-value c instance goal_value tokens sides h =
    none_reaches_bounded excess_law instance sides goal_value tokens h

pub returns-clause-value_nodes : goal.returns-clause-value_nodes
returns-clause-value_nodes c instance goal_value nodes tokens keep b sides h l set complete reached fits =
    bounded_sound excess_law instance sides goal_value keep set complete reached fits h (get_or nodes b no_choice)
    (index_in {X = Choice} no_choice nodes b l)

pub returns-clause-plain : goal.returns-clause-plain
returns-clause-plain c instance goal_value nodes tokens h = plain_is_bounded instance goal_value h
