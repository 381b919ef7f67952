use Rattle.std.proofs.Common.{◌-◌, ◌<◌, ◌∙◌, ap, arith, length}
use Rattle.std.proofs.lemmas.List.{get_or_default}
use Rattle.packing_terms.specs.Goals.{subset}
use Rattle.box_instances.specs.Sets.{PlainBoxSet, no_instance}
use Rattle.box_instances.proofs.BoxSets.{set_few}
use Rattle.box_instances.proofs.sets.BoxSet.instance.Goals as goal

pub index-requires : goal.index-requires
index-requires c = omega (
  arith,
  c.len.ensures,
  set_few _ _ c.self.invariant.set,
  c.self.invariant.parts.many,
  c.self.invariant.some,
)

pub returns : goal.returns
returns c =
    let there : c.len.result - 1 < length c.self.inside.sets.items
    = omega (
      arith,
      c.len.ensures,
      set_few _ _ c.self.invariant.set,
      c.self.invariant.parts.many,
      c.self.invariant.some,
    ) in
    c.index.ensures ∙ (get_or_default c.self.inside.sets.items (c.len.result - 1) c.index.result.now no_instance there
    ∙ (c.self.invariant.shown (c.len.result - 1) (omega (arith, c.len.ensures, c.self.invariant.some))
    ∙ ap (λ (s : PlainBoxSet). subset s.whole s.keep) c.self.view_is))
