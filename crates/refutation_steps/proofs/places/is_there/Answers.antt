use Rattle.std.proofs.Common.{◌∙◌}
use Rattle.edge_state.proofs.Tables.{other_from}
use Rattle.refutation_steps.proofs.Rowed.{shut_is}
use Rattle.refutation_steps.proofs.places.is_there.Goals as goal

pub returns : goal.returns
returns c = shut_is _ _ c.has.result (other_from c.args.state.now.boxes c.args.e.u c.args.e.v c.requires.second
    c.requires.distinct)
    (c.has.ensures ∙ c.row.ensures c.args.e.v)
