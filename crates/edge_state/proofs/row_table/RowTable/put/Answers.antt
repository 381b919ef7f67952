use Rattle.std.proofs.Common.{◌<◌, ◌≡◌, arith, length, ap, List, ℕ}
use Rattle.std.proofs.Math.ListN.{length-set}
use Rattle.edge_state.specs.RowTables.{paired_words}
use Rattle.edge_state.proofs.Paired.{length_paired, put_first, put_second}
use Rattle.edge_state.proofs.row_table.RowTable.put.Goals as goal

pub index_mut-requires : goal.index_mut-requires
index_mut-requires c =
    let h : c.args.at < length (paired_words c.self.inside.first.items c.self.inside.second.items) =
    rw (← c.self.view_is) at c.requires.at in
    omega (arith, h, length_paired c.self.inside.first.items c.self.inside.second.items, c.self.inside.first.ok.0)

pub returns-then-part-eq0 : goal.returns-then-part-eq0
returns-then-part-eq0 c =
    let h : c.args.at < length (paired_words c.self.inside.first.items c.self.inside.second.items) =
    rw (← c.self.view_is) at c.requires.at in
    let k : c.args.at < length c.self.inside.first.items =
    omega (arith, h, length_paired c.self.inside.first.items c.self.inside.second.items) in
    rw (← c.self.view_is)
    (ap (λ (r : List (List ℕ)). record { rows = r; seconds = length c.self.inside.second.items })
    (put_first c.self.inside.first.items c.self.inside.second.items c.args.at c.args.part c.args.word k
    c.if-part-eq0.true))

pub returns-else-part-eq0 : goal.returns-else-part-eq0
returns-else-part-eq0 c =
    let h : c.args.at < length (paired_words c.self.inside.first.items c.self.inside.second.items) =
    rw (← c.self.view_is) at c.requires.at in
    let k : c.args.at < length c.self.inside.first.items =
    omega (arith, h, length_paired c.self.inside.first.items c.self.inside.second.items) in
    let one : c.args.part ≡ 1 = omega (arith, c.requires.part, c.if-part-eq0.false) in
    let l : c.args.at < length c.self.inside.second.items =
    rw (← c.self.view_is) at (c.requires.kept (omega (arith, one))) in
    rw (← c.self.view_is, length-set c.self.inside.second.items c.args.at c.args.word)
    (ap (λ (r : List (List ℕ)). record { rows = r; seconds = length c.self.inside.second.items })
    (put_second c.self.inside.first.items c.self.inside.second.items c.args.at c.args.part c.args.word k l one))
