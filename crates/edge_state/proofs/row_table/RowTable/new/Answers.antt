use Rattle.edge_state.proofs.Paired.{filled}
use Rattle.edge_state.proofs.row_table.RowTable.new.Goals as goal

pub returns : goal.returns
returns c =
    rw (← c.word.ensures, ← c.word-2.ensures)
    (filled c.in-Ok.first.items c.in-Ok-vec.second.items c.args.count c.word.result c.word-2.result
    c.seconds_of.result c.args.wide
    (c.in-Ok.ensures.items_if_clones_equal (λ y e. e)) (c.in-Ok-vec.ensures.items_if_clones_equal (λ y e. e))
    c.seconds_of.ensures)
