use Rattle.std.proofs.Common.{◌∙◌, ◌+◌, ◌*◌, ◌++◌, ◌∷◌, [], ap, get_or}
use Rattle.proposed_answers.proofs.BinNumbers.{bins_more}
use Rattle.proposed_answers.proofs.bin_testing.bins_in.Goals as goal

pub loop-v-preserved : goal.loop-v-preserved
loop-v-preserved c =
    bins_more c.args.instance.now c.args.numbers.now c.loop-v.bins.items c.push.new.self.items c.loop-v.v
    c.loop-v.invariant
    (c.in-Ok.ensures.items ∙ ap (λ d. c.loop-v.bins.items ++ get_or c.args.numbers.now (c.loop-v.v * (d + 1)) 0 ∷ [])
    c.dims.ensures.value)
