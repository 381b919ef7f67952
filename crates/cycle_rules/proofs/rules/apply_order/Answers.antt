use Rattle.std.proofs.Common.{sym, ◌∙◌}
use Rattle.std.proofs.lemmas.Bool.{and_parts}
use Rattle.packing_terms.specs.declared.Rel.TheVariants.{Before}
use Rattle.packing_terms.specs.Rules.{Order}
use Rattle.packing_terms.proofs.Applied.{applied_by}
use Rattle.packing_terms.proofs.AppliedSound.{applied_sound_among}
use Rattle.relation_table.specs.Masks.{mask_has}
use Rattle.orientation_rules.proofs.Keeps.{one_drops, one_only, before_alone, is_shut}
use Rattle.cycle_rules.proofs.rules.apply_order.Goals as goal

pub returns-clause-applied : goal.returns-clause-applied
returns-clause-applied c instance d n =
    let only = before_alone _ _ _ c.all.ensures c.without.ensures.others c.without-before.ensures.others in
    rw (c.keep_only.ensures.state, c.keep_only.ensures.changed)
    (applied_by instance (Order c.args.dim c.args.a c.args.b c.args.c c.args.d) _ (mask_has c.without-before.result)
    (rw (← d) at c.requires.dim, rw (← n) at c.requires.boxes) (
      and_parts _ _ (sym c.sure_before.ensures ∙ c.if-not-sure_before.false),
      and_parts _ _ (sym c.sure_before-else-not-sure_before.ensures ∙ c.if-not-sure_before-2.false),
      is_shut _ _ _ c.has.ensures (c.mask.ensures Before) c.if-has.false,
    )
    (one_drops _ Before only) (one_only _ Before only))

pub returns-clause-sound : goal.returns-clause-sound
returns-clause-sound c = applied_sound_among _ _ _ _ _ _ (returns-clause-applied c)
