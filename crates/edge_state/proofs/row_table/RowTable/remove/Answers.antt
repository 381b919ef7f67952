use Rattle.edge_state.proofs.Paired.{removed}
use Rattle.edge_state.proofs.row_table.RowTable.remove.Goals as goal

pub returns : goal.returns
returns g c =
    let value = rw c.word_of-part.ensures at c.word-word.ensures.value in
    let made = rw c.word_of-part.ensures at c.put.ensures in
    removed _ _ _ _ _ c.requires.most c.word-word.ensures.words value made
