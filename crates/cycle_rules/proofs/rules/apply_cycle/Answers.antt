use Rattle.std.proofs.Common.{sym, ◌∙◌}
use Rattle.std.proofs.lemmas.Bool.{and_parts}
use Rattle.packing_terms.specs.declared.Rel.TheVariants.{Overlap}
use Rattle.packing_terms.specs.Rules.{Cycle}
use Rattle.packing_terms.proofs.Applied.{applied_by}
use Rattle.packing_terms.proofs.AppliedSound.{applied_sound_among}
use Rattle.relation_table.specs.Masks.{mask_has}
use Rattle.orientation_rules.proofs.Keeps.{one_drops, one_only, overlap_alone, is_shut}
use Rattle.cycle_rules.proofs.rules.apply_cycle.Goals as goal

pub returns-clause-applied : goal.returns-clause-applied
returns-clause-applied c instance d n =
    let only = overlap_alone _ _ _ c.all.ensures c.without.ensures.others c.without-overlap.ensures.others in
    rw (c.keep_only.ensures.state, c.keep_only.ensures.changed)
    (applied_by instance (Cycle c.args.dim c.args.a c.args.b c.args.c c.args.d) _ (mask_has c.without-overlap.result)
    (rw (← d) at c.requires.dim, rw (← n) at c.requires.boxes) (
      and_parts _ _ (sym c.joined.ensures ∙ c.if-not-joined.false),
      and_parts _ _ (sym c.joined-else-not-joined.ensures ∙ c.if-not-joined-2.false),
      and_parts _ _ (sym c.joined-else-not-joined-2.ensures ∙ c.if-not-joined-3.false),
      and_parts _ _ (sym c.joined-else-not-joined-3.ensures ∙ c.if-not-joined-4.false),
      is_shut _ _ _ c.has.ensures (c.mask.ensures Overlap) c.if-has.false,
    )
    (one_drops _ Overlap only) (one_only _ Overlap only))

pub returns-clause-sound : goal.returns-clause-sound
returns-clause-sound c = applied_sound_among _ _ _ _ _ _ (returns-clause-applied c)
