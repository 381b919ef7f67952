use Rattle.std.proofs.Common.{[], get_or}
use Rattle.packing_terms.specs.OuterRefutation.{Bins, Choice, no_choice}
use Rattle.packing_terms.proofs.Members.{index_in}
use Rattle.packing_terms.proofs.Refuted.{refutes_sound, none_fits}
use Rattle.packing_terms.proofs.BinsRefuted.{bins_sound, none_fits_bins}
use Rattle.packing_terms.proofs.ValueRefuted.{value_sound, none_reaches}
use Rattle.packing_terms.proofs.Excess.{excess_law}
use Rattle.packing_terms.proofs.scale_laws.refutations_are_sound.Goals as goal

pub returns-clause-under : goal.returns-clause-under
returns-clause-under c instance places es tokens sides packing h =
    refutes_sound excess_law instance sides places packing h

pub returns-clause-fits : goal.returns-clause-fits
returns-clause-fits c instance tokens sides h = none_fits excess_law instance sides tokens h

pub returns-clause-bins : goal.returns-clause-bins
returns-clause-bins c instance k tokens sides h = none_fits_bins excess_law instance sides k tokens h

pub returns-clause-value : goal.returns-clause-value
returns-clause-value c instance goal tokens sides h = none_reaches excess_law instance sides goal tokens h

pub returns-clause-bin_nodes : goal.returns-clause-bin_nodes
returns-clause-bin_nodes c instance k nodes tokens bin_of places b sides h l packing =
    bins_sound excess_law instance sides k bin_of places packing h (get_or nodes b [])
    (index_in {X = Bins} [] nodes b l)

pub returns-clause-value_nodes : goal.returns-clause-value_nodes
returns-clause-value_nodes c instance goal nodes tokens keep b sides h l set reached fits =
    value_sound excess_law instance sides goal keep set reached fits h (get_or nodes b no_choice)
    (index_in {X = Choice} no_choice nodes b l)
