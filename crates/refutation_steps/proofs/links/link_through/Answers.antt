use Rattle.refutation_steps.proofs.Linked.{linking_start, linking_next, linking_smaller}
use Rattle.refutation_steps.proofs.Linking.{sized_on}
use Rattle.refutation_steps.proofs.links.link_through.Goals as goal

pub loop-changed-init : goal.loop-changed-init
loop-changed-init c = linking_start c.args.instance.now c.args.dim c.args.state.now _

pub link_any-requires : goal.link_any-requires
link_any-requires c = record {
  sizes = sized_on c.args.instance.now _ _ _ _ c.args.dim c.loop-changed.invariant.goes
      c.requires.sizes;
}

pub loop-changed-smaller : goal.loop-changed-smaller
loop-changed-smaller c = linking_smaller c.args.instance.now _ _ _ _ _ c.loop-changed.changed _ c.in_ok-changed.ensures
    c.loop-changed-test.true

pub loop-changed-preserved : goal.loop-changed-preserved
loop-changed-preserved c = linking_next c.args.instance.now c.args.dim _ _ _ _ _ _ c.loop-changed.changed _
    c.loop-changed.invariant c.in_ok-changed.ensures

pub returns : goal.returns
returns c = record {
  goes = c.loop-changed.invariant.goes;
  transitive =
      c.loop-changed.invariant.done c.loop-changed-test.false;
}
