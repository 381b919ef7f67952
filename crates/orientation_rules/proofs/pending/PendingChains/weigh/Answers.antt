use Rattle.std.proofs.Common.{◌≡◌, sym, ◌∙◌, arith, false}
use Rattle.packing_terms.specs.Exclusions.{excludes}
use Rattle.packing_terms.specs.declared.Direction.TheVariants.{Forwards, Backwards}
use Rattle.packing_terms.proofs.Turned.{head_of, tail_of}
use Rattle.edge_state.specs.BitRows.{row_has}
use Rattle.orientation_rules.proofs.Ordering.{one_way_chains}
use Rattle.orientation_rules.proofs.KnownWeights.{followed_weighed, known_heaviest}
use Rattle.orientation_rules.proofs.pending.PendingChains.weigh.Goals as goal

pub weigh_anew-requires-clause-ordered_back : goal.weigh_anew-requires-clause-ordered_back
weigh_anew-requires-clause-ordered_back g c =
    one_way_chains _ _ _ Backwards c.requires.dims c.requires.boxes (omega (arith, c.requires.dim, c.requires.dims))
    c.requires.full c.requires.transitive

pub weigh_anew-requires-clause-ordered : goal.weigh_anew-requires-clause-ordered
weigh_anew-requires-clause-ordered g c =
    one_way_chains _ _ _ Forwards c.requires.dims c.requires.boxes (omega (arith, c.requires.dim, c.requires.dims))
    c.requires.full c.requires.transitive

pub returns-then-has-clause-followed : goal.returns-then-has-clause-followed
returns-then-has-clause-followed g c =
    followed_weighed _ _ _ _ _ _ c.args.self.now c.set_known.new.self _
    (one_way_chains _ _ _ Backwards c.requires.dims c.requires.boxes (omega (arith, c.requires.dim, c.requires.dims))
    c.requires.full c.requires.transitive)
    (one_way_chains _ _ _ Forwards c.requires.dims c.requires.boxes (omega (arith, c.requires.dim, c.requires.dims))
    c.requires.full c.requires.transitive)
    (omega (arith, c.requires.dims, c.dims-sizes.ensures.limits.dimensions.1)) c.requires.dim
    c.weigh_anew.ensures.history c.weigh_anew.ensures.dims c.weigh_anew.ensures.heads c.weigh_anew.ensures.tails
    c.requires.all c.set_known.ensures.dirty c.set_known.ensures.unknown
    c.set_known.ensures.heads c.set_known.ensures.tails c.set_known.ensures.others
    (rw (← c.self.view_is) (sym c.has.ensures ∙ c.if-has.true))
    c.requires.followed

pub returns-then-has-clause-heads : goal.returns-then-has-clause-heads
returns-then-has-clause-heads g c v hv = head_of (excludes c.args.state.now.trail) c.args.dim c.args.instance.now v _
    (c.weigh_anew.ensures.heads v hv)

pub returns-else-has-clause-heads : goal.returns-else-has-clause-heads
returns-else-has-clause-heads g c v hv =
    let known : row_has c.args.self.now.unknown c.args.dim ≡ false =
    rw (← c.self.view_is) (sym c.has.ensures ∙ c.if-has.false) in
    head_of (excludes c.args.state.now.trail) c.args.dim c.args.instance.now v _
    (known_heaviest _ _ _ _ _ _ Backwards
    (one_way_chains _ _ _ Backwards c.requires.dims c.requires.boxes (omega (arith, c.requires.dim, c.requires.dims))
    c.requires.full c.requires.transitive) (c.requires.followed.live c.args.dim c.requires.dim known) v hv)

pub returns-else-has-clause-tails : goal.returns-else-has-clause-tails
returns-else-has-clause-tails g c v hv =
    let known : row_has c.args.self.now.unknown c.args.dim ≡ false =
    rw (← c.self.view_is) (sym c.has.ensures ∙ c.if-has.false) in
    tail_of (excludes c.args.state.now.trail) c.args.dim c.args.instance.now v _
    (known_heaviest _ _ _ _ _ _ Forwards
    (one_way_chains _ _ _ Forwards c.requires.dims c.requires.boxes (omega (arith, c.requires.dim, c.requires.dims))
    c.requires.full c.requires.transitive) (c.requires.followed.live c.args.dim c.requires.dim known) v hv)
