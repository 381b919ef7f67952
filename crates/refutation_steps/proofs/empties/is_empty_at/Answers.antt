use Rattle.packing_terms.specs.declared.Rel.TheVariants.{Overlap, Before, After}
use Rattle.packing_terms.specs.Exclusions.{excludes}
use Rattle.refutation_steps.proofs.Emptied.{left_there, emptied}
use Rattle.refutation_steps.proofs.empties.is_empty_at.Goals as goal

pub returns-then-has : goal.returns-then-has
returns-then-has c = (Overlap, left_there _ _ _ c.has.ensures (c.mask-mask.ensures Overlap) c.if-has.true)

pub returns-then-has-2 : goal.returns-then-has-2
returns-then-has-2 c = (Before, left_there _ _ _ c.has-2.ensures (c.mask-mask.ensures Before) c.if-has-2.true)

pub returns-then-has-3 : goal.returns-then-has-3
returns-then-has-3 c = (After, left_there _ _ _ c.has-3.ensures (c.mask-mask.ensures After) c.if-has-3.true)

pub returns : goal.returns
returns c = emptied (excludes c.args.state.now.trail) c.args.dim c.args.u c.args.v _ _ _ _ _ _ c.has.ensures
    (c.mask-mask.ensures Overlap) c.if-has.false c.has-2.ensures (c.mask-mask.ensures Before) c.if-has-2.false
    c.has-3.ensures (c.mask-mask.ensures After) c.if-has-3.false
