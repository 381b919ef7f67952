use Rattle.std.proofs.Common.{◌≡◌, ◌<◌, refl, sym, ◌∙◌, arith, false}
use Rattle.std.proofs.lemmas.Bool.{true≢false, or_right, eq-eqb}
use Rattle.packing_terms.specs.declared.Direction.TheVariants.{Forwards, Backwards}
use Rattle.packing_terms.specs.Packing.{dims}
use Rattle.edge_state.proofs.Settled.{change_edge}
use Rattle.edge_state.specs.BitRows.{row_has}
use Rattle.orientation_rules.proofs.FollowedChanges.{followed_unordered, followed_ordered, live_linked, same_history, marked_dirty, marked_risen, newly_unknown, unordered_dirty, within_dirty}
use Rattle.orientation_rules.proofs.OrderedPairs.{pair_there}
use Rattle.orientation_rules.proofs.pending.PendingChains.follow.Goals as goal

pub returns-in_default-clause-followed : goal.returns-in_default-clause-followed
returns-in_default-clause-followed g c =
    followed_unordered _ _ _ _ c.requires.change _ _ c.in_default.ensures c.requires.followed

pub with-self-inside-requires : goal.with-self-inside-requires
with-self-inside-requires g c =
    let edge = change_edge _ _ _ _ _ c.args.change c.dims-sizes.ensures.limits.trail c.requires.change in (
      omega arith,
      (
        (omega arith, omega arith),
        omega (arith, edge.dim, c.dims-sizes.ensures.limits.dimensions.1),
      ),
    )

pub has-requires : goal.has-requires
has-requires g c =
    let edge = change_edge _ _ _ _ _ c.args.change c.dims-sizes.ensures.limits.trail c.requires.change in (
      omega arith,
      (
        (omega arith, omega arith),
        omega (arith, edge.dim, c.dims-sizes.ensures.limits.dimensions.1),
      ),
    )

pub returns-then-has-clause-followed : goal.returns-then-has-clause-followed
returns-then-has-clause-followed g c =
    let edge = change_edge _ _ _ _ _ c.args.change c.dims-sizes.ensures.limits.trail c.requires.change in
    followed_ordered _ _ _ _ _ _ _ _ c.requires.change
    (omega (arith, c.requires.dims, c.dims-sizes.ensures.limits.dimensions.1))
    (omega (arith, edge.dim, c.requires.dims)) (same_history _) (λ direction j small ne. refl)
    (rw (← c.self.view_is) (marked_dirty _ _ _ _ _ _ c.with-self-inside.ensures))
    (λ known. absurd (true≢false (sym c.if-has.true ∙ (c.has.ensures ∙ known))))
    c.requires.followed

pub link-requires : goal.link-requires
link-requires g c =
    let edge = change_edge _ _ _ _ _ c.args.change c.dims-sizes.ensures.limits.trail c.requires.change in
    let there = pair_there _ c.args.change _ _ _ c.in-Some.ensures edge.first edge.second edge.distinct in
    let small : c.args.change.dim < dims c.args.instance.now = omega (arith, edge.dim, c.requires.dims) in
    let known : row_has c.args.self.now.unknown c.args.change.dim ≡ false =
    rw (← c.self.view_is) (sym c.has.ensures ∙ c.if-has.false) in
    let live = c.requires.followed.live c.args.change.dim small known in (
      omega (arith, c.requires.words.0.1),
      (
        omega (arith, c.requires.words.0.1),
        (
          rw c.requires.boxes c.requires.words,
          (
            c.requires.dims,
            (
              c.requires.boxes,
              (
                edge.dim,
                (
                  there.0,
                  (
                    there.1,
                    (
                      there.2,
                      (
                        c.in-Some.ensures.forth,
                        (
                          rw c.requires.boxes c.requires.all,
                          (live.walks Backwards, live.walks Forwards),
                        ),
                      ),
                    ),
                  ),
                ),
              ),
            ),
          ),
        ),
      ),
    )

pub add_risen-requires : goal.add_risen-requires
add_risen-requires g c =
    let edge = change_edge _ _ _ _ _ c.args.change c.dims-sizes.ensures.limits.trail c.requires.change in (
      omega (arith, c.requires.words.0.1),
      (
        omega (arith, c.requires.words.0.1),
        (
          c.requires.words.0,
          omega (arith, edge.dim, c.dims-sizes.ensures.limits.dimensions.1),
        ),
      ),
    )

pub returns-in-Ok-clause-followed : goal.returns-in-Ok-clause-followed
returns-in-Ok-clause-followed g c =
    let edge = change_edge _ _ _ _ _ c.args.change c.dims-sizes.ensures.limits.trail c.requires.change in
    let small : c.args.change.dim < dims c.args.instance.now = omega (arith, edge.dim, c.requires.dims) in
    let known : row_has c.args.self.now.unknown c.args.change.dim ≡ false =
    rw (← c.self.view_is) (sym c.has.ensures ∙ c.if-has.false) in
    followed_ordered _ _ _ _ _ _ _ _ c.requires.change
    (omega (arith, c.requires.dims, c.dims-sizes.ensures.limits.dimensions.1))
    small c.link.ensures.history c.link.ensures.dims
    (rw (← c.self.view_is) (marked_risen _ _ _ _ _ _ _ c.with-self-inside.ensures c.add_risen.ensures.unknown
    c.add_risen.ensures.dirty c.add_risen.ensures.others))
    (λ still. live_linked _ _ _ _ _ _ _ _ _ c.in-Some.ensures.back c.in-Ok.ensures.linked _ _ c.requires.change
    c.in-Some.ensures.at _ _ _ _ (c.requires.followed.live c.args.change.dim small known)
    (rw (← c.self.view_is) c.add_risen.ensures.heads) (rw (← c.self.view_is) c.add_risen.ensures.tails))
    c.requires.followed

pub returns-in-Ok-clause-unordered : goal.returns-in-Ok-clause-unordered
returns-in-Ok-clause-unordered g c i off d =
    absurd (unordered_dirty _ _ _ (marked_risen _ _ _ _ c.self.inside.dirty _ _ c.with-self-inside.ensures
    c.add_risen.ensures.unknown c.add_risen.ensures.dirty c.add_risen.ensures.others) i off d)

pub returns-in-Ok-clause-within : goal.returns-in-Ok-clause-within
returns-in-Ok-clause-within g c =
    rw (← c.self.view_is) (within_dirty _ _ _ (marked_risen _ _ _ _ c.self.inside.dirty _ _ c.with-self-inside.ensures
    c.add_risen.ensures.unknown c.add_risen.ensures.dirty c.add_risen.ensures.others))

pub returns-in-Err-clause-followed : goal.returns-in-Err-clause-followed
returns-in-Err-clause-followed g c =
    let edge = change_edge _ _ _ _ _ c.args.change c.dims-sizes.ensures.limits.trail c.requires.change in
    followed_ordered _ _ _ _ _ _ _ _ c.requires.change
    (omega (arith, c.requires.dims, c.dims-sizes.ensures.limits.dimensions.1))
    (omega (arith, edge.dim, c.requires.dims)) c.link.ensures.history c.link.ensures.dims
    (rw (← c.self.view_is) (newly_unknown _ _ _ _ _ _ _ c.with-self-inside.ensures c.with-self-inside-in-Err.ensures))
    (λ known. absurd (true≢false (sym (or_right (row_has c.self.inside.unknown c.args.change.dim) _ (eq-eqb c.args.change.dim c.args.change.dim refl)) ∙ (sym (c.with-self-inside-in-Err.ensures c.args.change.dim) ∙ known))))
    c.requires.followed

pub returns-in-Err-clause-within : goal.returns-in-Err-clause-within
returns-in-Err-clause-within g c =
    rw (← c.self.view_is) (within_dirty _ _ _ (newly_unknown _ c.self.inside.heads c.self.inside.tails c.self.inside.unknown c.self.inside.dirty _ _
    c.with-self-inside.ensures c.with-self-inside-in-Err.ensures))
