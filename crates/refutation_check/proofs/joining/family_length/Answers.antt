use Rattle.std.proofs.Common.{◌≤◌, rules}
use Rattle.refutation_check.proofs.Beside.{length_more}
use Rattle.refutation_check.proofs.joining.family_length.Goals as goal

pub loop-k-preserved : goal.loop-k-preserved
loop-k-preserved c =
    let most : c.side.result ≤ 4294967295 = search rules in
    length_more c.args.instance.now c.args.dim c.args.family.now c.loop-k.k c.loop-k.sum c.side.result
    c.loop-k-test.true c.loop-k.invariant c.side.ensures most
