use Rattle.std.proofs.Common.{◌∙◌, ap}
use Rattle.std.specs.Fmt.{decimal}
use Rattle.pack_streams.proofs.Writers.{more, same}
use Rattle.answer_streams.proofs.SummaryTexts.{made_line}
use Rattle.answer_streams.proofs.summary.write_made_line.Goals as goal

pub returns : goal.returns
returns g c = (same _ _ _ _ _ _ _ _
    (made_line c.args.number c.args.instance.now _ _ _ c.from.ensures (c.from-2.ensures ∙ c.len.ensures.value)
    (c.as_bytes.ensures.value ∙ (c.format-volume.ensures.text ∙ ap decimal c.volume.ensures)))
    (more _ _ _ _ _ _ _ _ _ _ _ c.write_on-named.ensures.goes_on
    (more _ _ _ _ _ _ _ _ _ _ _ c.write_number-numbered.ensures.goes_on
    (more _ _ _ _ _ _ _ _ _ _ _ c.write_on-boxed.ensures.goes_on
    (more _ _ _ _ _ _ _ _ _ _ _ c.write_number-counted.ensures.goes_on
    (more _ _ _ _ _ _ _ _ _ _ _ c.write_on-filled.ensures.goes_on
    (more _ _ _ _ _ _ _ _ _ _ _ c.write_on-measured.ensures.goes_on c.write_on.ensures.goes_on))))))).goes
