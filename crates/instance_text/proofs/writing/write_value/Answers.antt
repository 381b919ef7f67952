use Rattle.pack_streams.proofs.Writers.{more, none, same}
use Rattle.instance_text.proofs.Written.{value_is, value_none}
use Rattle.instance_text.proofs.writing.write_value.Goals as goal

pub returns-then-value-eq1 : goal.returns-then-value-eq1
returns-then-value-eq1 g c = same _ _ _ _ _ _ _ _ (value_none c.args.value c.if-value-eq1.true) (none _ _ _)

pub returns : goal.returns
returns g c = same _ _ _ _ _ _ _ _ (value_is c.args.value c.if-value-eq1.false)
    (more _ _ _ _ _ _ _ _ _ _ _ c.write_on-spaced.ensures.goes_on c.write_spaced.ensures.goes_on)
