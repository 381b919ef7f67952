use Rattle.std.proofs.Common.{◌∙◌, sym, ap}
use Rattle.work_share.specs.declared.slot.Slot.{Slot}
use Rattle.work_share.proofs.Links.{link_read}
use Rattle.work_share.proofs.link.next_of.Goals as goal

pub returns : goal.returns
returns c =
    let is = c.index-slots-number.is in
    ap (λ (s : Slot). s.behind) (sym is) ∙ link_read c.args.slots.now c.args.number c.index-slots-number.result
    c.requires is
