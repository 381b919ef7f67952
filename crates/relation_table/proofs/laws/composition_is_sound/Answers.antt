use Rattle.relation_table.proofs.IntervalLemmas.{holds_allowed}
use Rattle.relation_table.proofs.laws.composition_is_sound.Goals as goal

pub returns : goal.returns
returns c instance places i u v x a b q s r sides hi hu hv hx h k l ha hb =
    (q, s, ha, hb, holds_allowed instance places i u v x q s r sides hi hu hv hx h k l)
