use Rattle.std.proofs.Common.{sym, get_or}
use Rattle.packing_terms.specs.Packing.{no_box}
use Rattle.pack_streams.proofs.Writers.{more, same}
use Rattle.instance_text.proofs.Written.{box_text_is}
use Rattle.instance_text.proofs.writing.write_box.Goals as goal

pub returns : goal.returns
returns g c = same _ _ _ _ _ _ _ _ (sym (box_text_is (get_or c.args.instance.now.boxes c.args.box_no no_box)))
    (more _ _ _ _ _ _ _ _ _ _ _ (more _ _ _ _ _ _ _ _ _ _ _ c.write_on-named.ensures.goes_on
    c.write_sides-sized.ensures)
    (more _ _ _ _ _ _ _ _ _ _ _ (rw c.value.ensures at c.write_value-valued.ensures) c.write_on.ensures.goes_on))
