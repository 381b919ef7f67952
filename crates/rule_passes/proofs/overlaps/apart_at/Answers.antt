use Rattle.std.proofs.Common.{◌≡◌, sym, subst, ◌∙◌, true}
use Rattle.packing_terms.specs.declared.Rel.{Rel}
use Rattle.packing_terms.specs.declared.Rel.TheVariants.{Overlap}
use Rattle.packing_terms.specs.Exclusions.{excludes}
use Rattle.packing_terms.specs.Packing.{box_count}
use Rattle.packing_terms.specs.Rules.{Apart}
use Rattle.edge_state.proofs.Kept.{row_shut}
use Rattle.edge_state.proofs.Filters.{covered_by, covered_never}
use Rattle.edge_state.proofs.Members.{covered_named}
use Rattle.edge_state.proofs.Worked.{worked_as, worked_none}
use Rattle.rule_passes.proofs.overlaps.apart_at.Goals as goal

pub returns-then-not-has : goal.returns-then-not-has
returns-then-not-has g c =
    let es = c.args.state.now.trail in
    let row = rw c.requires.sizes.same_boxes at c.row_in-near.ensures in
    let gone = row_shut (box_count c.args.instance.now) c.args.i c.args.u c.args.v (excludes es) Overlap _ c.requires.v
    c.requires.distinct (row c.args.v) (sym c.has.ensures ∙ c.if-not-has.true) in
    worked_none c.args.instance.now _ _
    (λ rule e. covered_named c.args.instance.now es rule (Apart c.args.i c.args.u c.args.v) e.1
    (covered_by c.args.instance.now es (Apart c.args.i c.args.u c.args.v)
    (λ is p r k. subst (λ (s : Rel). excludes es c.args.i c.args.u c.args.v s ≡ true) (sym k) gone)))

pub returns-then-not-joined_beside : goal.returns-then-not-joined_beside
returns-then-not-joined_beside g c =
    let es = c.args.state.now.trail in
    worked_none c.args.instance.now _ _
    (λ rule e. covered_named c.args.instance.now es rule (Apart c.args.i c.args.u c.args.v) e.1
    (covered_never c.args.instance.now es (Apart c.args.i c.args.u c.args.v)
    (λ is p. c.joined_beside.ensures.some c.if-not-joined_beside.true p)))

pub returns : goal.returns
returns g c = worked_as _ _ _ _ _ _ (λ rule e. e.1) c.exclude_overlap.ensures
