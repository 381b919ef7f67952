use Rattle.edge_state.proofs.Paired.{inserted}
use Rattle.edge_state.proofs.row_table.RowTable.insert.Goals as goal

pub returns : goal.returns
returns g c =
    let value = rw c.word_of-part.ensures at c.word-word.ensures.value in
    let made = rw c.word_of-part.ensures at c.put.ensures in
    inserted _ _ _ _ _ c.requires.most c.word-word.ensures.words value made
