use Rattle.std.proofs.Common.{◌<◌, refl, arith, [], length}
use Rattle.std.proofs.lemmas.List.{get_or_read}
use Rattle.edge_state.proofs.Histories.{of_raised, sized_raised, log_pushed, is_written}
use Rattle.edge_state.proofs.chain_weights.ChainWeights.write.Goals as goal

pub invariant_of-self : goal.invariant_of-self
invariant_of-self c =
    let within : c.list_of-list.result < length c.self.inside.numbers.items =
    omega (arith, c.list_of-list.ensures.limit, c.self.invariant.lists) in
    let row = get_or_read c.self.inside.numbers.items _ _ within c.index_mut.ensures.value [] in
    let before = get_or_read c.self.inside.numbers.items _ _ within c.index.ensures [] in
    rw (
      log_pushed c.self.inside.log.items c.push_reserved.new.self.items c.self.inside.numbers.items _ _ c.args.v before
          c.push_reserved.ensures.items,
      is_written c.self.inside.numbers.items _ c.list_of-list.result c.args.v c.args.weight row,
    )
    (sized_raised _ _ _ _ c.list_of-list.result c.args.v c.args.weight c.list_of-list.ensures.limit c.requires.v
    c.if-weight-gt-MAX_WEIGHT.false c.push_reserved.ensures.capacity c.self.invariant)

pub returns-clause-history : goal.returns-clause-history
returns-clause-history c =
    let within : c.list_of-list.result < length c.self.inside.numbers.items =
    omega (arith, c.list_of-list.ensures.limit, c.self.invariant.lists) in
    let row = get_or_read c.self.inside.numbers.items _ _ within c.index_mut.ensures.value [] in
    let before = get_or_read c.self.inside.numbers.items _ _ within c.index.ensures [] in
    rw (← c.self.view_is) (record {
      limits = refl;
      sides = refl;
      held = λ d n es h. rw (
        log_pushed c.self.inside.log.items c.push_reserved.new.self.items c.self.inside.numbers.items _ _ c.args.v before
            c.push_reserved.ensures.items,
        is_written c.self.inside.numbers.items _ c.list_of-list.result c.args.v c.args.weight row,
      )
          (of_raised d n es _ c.list_of-list.result c.args.v c.args.weight within h);
    })
