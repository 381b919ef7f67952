use Rattle.std.proofs.Common.{◌<◌, arith, length}
use Rattle.edge_state.specs.RowTables.{paired_words}
use Rattle.edge_state.proofs.Paired.{length_paired, word_first, word_second, word_none, two_words}
use Rattle.edge_state.proofs.row_table.RowTable.word.Goals as goal
use Rattle.edge_state.proofs.row_table.RowTable.word.Goals.{else-part-eq1-via-then-part-eq1+else-at-len}
use Rattle.edge_state.proofs.row_table.RowTable.word.Goals.{else-part-eq1-via-else-part-eq1}

pub index-requires : goal.index-requires
index-requires c =
    let h : c.args.at < length (paired_words c.self.inside.first.items c.self.inside.second.items) =
    rw (← c.self.view_is) at c.requires in
    omega (arith, h, length_paired c.self.inside.first.items c.self.inside.second.items, c.self.inside.first.ok.0)

pub returns-then-part-eq0 : goal.returns-then-part-eq0
returns-then-part-eq0 c =
    let h : c.args.at < length (paired_words c.self.inside.first.items c.self.inside.second.items) =
    rw (← c.self.view_is) at c.requires in
    let k : c.args.at < length c.self.inside.first.items =
    omega (arith, h, length_paired c.self.inside.first.items c.self.inside.second.items) in
    rw (← c.self.view_is) (record {
      value = word_first _ _ _ _ _ k c.if-part-eq0.true c.index.ensures;
      words = two_words _ _ _ k;
    })

pub returns-then-at-len : goal.returns-then-at-len
returns-then-at-len c =
    let h : c.args.at < length (paired_words c.self.inside.first.items c.self.inside.second.items) =
    rw (← c.self.view_is) at c.requires in
    let k : c.args.at < length c.self.inside.first.items =
    omega (arith, h, length_paired c.self.inside.first.items c.self.inside.second.items) in
    let l : c.args.at < length c.self.inside.second.items =
    omega (arith, c.if-at-len.true, c.len.ensures, c.self.inside.second.ok.0) in
    rw (← c.self.view_is) (record {
      value = word_second _ _ _ _ _ k l c.if-part-eq1.true c.index-then-at-len.ensures;
      words = two_words _ _ _ k;
    })

pub returns : goal.returns
returns c =
    let h : c.args.at < length (paired_words c.self.inside.first.items c.self.inside.second.items) =
    rw (← c.self.view_is) at c.requires in
    let k : c.args.at < length c.self.inside.first.items =
    omega (arith, h, length_paired c.self.inside.first.items c.self.inside.second.items) in
    rw (← c.self.view_is) (record {
      value = word_none _ _ _ _ k c.if-part-eq0.false (λ e. elim c.else-part-eq1.branch [
        | else-part-eq1-via-then-part-eq1+else-at-len w ↦
            omega (arith, w.if-at-len.false, w.len.ensures, c.self.inside.second.ok.0)
        | else-part-eq1-via-else-part-eq1 w ↦ absurd (w.if-part-eq1.false e)
      ]);
      words = two_words _ _ _ k;
    })
