use Rattle.std.proofs.Common.{◌≡◌, ◌<◌, ◌/◌, arith, rules, length}
use Rattle.edge_state.proofs.RowBits.{without_has}
use Rattle.edge_state.proofs.bit_row.BitRow.without.Goals as goal

pub returns : goal.returns
returns g c x =
    let count : length c.self.inside.words ≡ g.row.K = search rules in
    let there : c.args.number / 64 < length c.self.inside.words = omega (arith, count, c.requires.number) in
    let made = c.loop-i.invariant.1 (omega (arith, c.requires.number)) in
    rw (← c.self.view_is) (rw made (without_has c.self.inside.words c.args.number there x))
