use Rattle.edge_state.proofs.Filled.{three_written}
use Rattle.edge_state.proofs.full_rows.write_box.Goals as goal

pub returns : goal.returns
returns c =
    let all = three_written _ _ _ _ _ _ c.requires.there c.write.ensures c.write-2.ensures c.write-3.ensures in
    record { length = all.0; seconds = all.1; before = all.2; made = all.3 }
