use Rattle.std.proofs.Common.{◌∙◌, sym, ap, subst}
use Rattle.packing_terms.specs.Goals.{IsBoxSet}
use Rattle.outer_check.specs.Frames.{boxes_put}
use Rattle.outer_check.proofs.Moves.{boxes_set}
use Rattle.outer_check.proofs.taking.begin.Goals as goal

pub restart-requires-clause-set : goal.restart-requires-clause-set
restart-requires-clause-set c =
    subst (λ keep. IsBoxSet c.args.inner.now.instance keep)
    (ap (λ n. boxes_put n c.args.path.now.frames c.args.child) (sym c.requires.boxes)
    ∙ (sym c.gather.ensures.boxes ∙ sym c.as_slice.ensures.value))
    (boxes_set c.args.inner.now.instance c.args.path.now.frames c.args.child)
