use Rattle.std.proofs.Common.{◌<◌, ◌≤◌, ◌≡◌, true, arith, length, ℕ}
use Rattle.edge_state.specs.BitRows.{row_has}
use Rattle.edge_state.specs.RowTables.{paired_words}
use Rattle.edge_state.proofs.Paired.{length_paired, written_both, written_first}
use Rattle.edge_state.proofs.row_table.RowTable.write.Goals as goal

pub index_mut-requires : goal.index_mut-requires
index_mut-requires c =
    let h : c.args.at < length (paired_words c.self.inside.first.items c.self.inside.second.items) =
    rw (← c.self.view_is) at c.requires.at in
    omega (arith, h, length_paired c.self.inside.first.items c.self.inside.second.items, c.self.inside.first.ok.0)

pub returns-then-at-len : goal.returns-then-at-len
returns-then-at-len c =
    let h : c.args.at < length (paired_words c.self.inside.first.items c.self.inside.second.items) =
    rw (← c.self.view_is) at c.requires.at in
    let k : c.args.at < length c.self.inside.first.items =
    omega (arith, h, length_paired c.self.inside.first.items c.self.inside.second.items) in
    let l : c.args.at < length c.self.inside.second.items =
    omega (arith, c.if-at-len.true, c.len.ensures, c.self.inside.second.ok.0) in
    let kept : (x : ℕ) → 64 ≤ x → row_has c.args.row x ≡ true
    → (x < 128) × (c.args.at < length c.self.inside.second.items) = rw (← c.self.view_is) at c.requires.kept in
    rw (← c.self.view_is)
    (written_both c.self.inside.first.items c.self.inside.second.items c.args.row c.args.at c.word.result
    c.word-then-at-len.result k l c.word.ensures c.word-then-at-len.ensures kept)

pub returns-else-at-len : goal.returns-else-at-len
returns-else-at-len c =
    let l : length c.self.inside.second.items ≤ c.args.at =
    omega (arith, c.if-at-len.false, c.len.ensures, c.self.inside.second.ok.0) in
    let kept : (x : ℕ) → 64 ≤ x → row_has c.args.row x ≡ true
    → (x < 128) × (c.args.at < length c.self.inside.second.items) = rw (← c.self.view_is) at c.requires.kept in
    rw (← c.self.view_is) (written_first c.self.inside.first.items c.self.inside.second.items c.args.row c.args.at
    c.word.result l c.word.ensures kept)
