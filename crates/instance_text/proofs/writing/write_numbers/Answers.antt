use Rattle.std.proofs.Common.{arith, refl}
use Rattle.pack_streams.proofs.Writers.{none, more, same}
use Rattle.instance_text.proofs.Written.{number_text, numbers_text}
use Rattle.instance_text.proofs.writing.write_numbers.Goals as goal

pub loop-k-init : goal.loop-k-init
loop-k-init g c = none _ _ _

pub loop-k-preserved : goal.loop-k-preserved
loop-k-preserved g c = same _ _ _ _ _ _ _ _ (number_text c.args.numbers.now c.loop-k.k _ (omega arith) refl)
    (more _ _ _ _ _ _ _ _ _ _ _ c.loop-k.invariant c.write_spaced-now.ensures.goes_on)

pub returns : goal.returns
returns g c = same _ _ _ _ _ _ _ _ (numbers_text c.args.numbers.now c.loop-k.k (omega arith)) c.loop-k.invariant
