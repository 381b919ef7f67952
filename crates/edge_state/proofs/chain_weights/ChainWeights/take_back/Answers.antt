use Rattle.std.proofs.Common.{◌≡◌, ◌<◌, ◌+◌, ◌-◌, ◌∙◌, ap, arith, [], ◌∷◌, length, reverse, refl, sym}
use Rattle.std.specs.List.{AllByRecursion}
use Rattle.std.proofs.lemmas.List.{get_or_read, reverse-append, length_push}
use Rattle.edge_state.specs.ChainWeights.{IsLogged}
use Rattle.edge_state.proofs.Histories.{sized_back, back_next, drop_next, is_written}
use Rattle.edge_state.proofs.chain_weights.ChainWeights.take_back.Goals as goal

pub loop-self-preserved : goal.loop-self-preserved
loop-self-preserved c =
    let kept = c.loop-self.invariant in
    let r = c.in-Some.raise in
    let is : reverse c.loop-self.self-inside.log.items ≡ r ∷ reverse c.pop.new.self.items =
    ap reverse c.in-Some.ensures.items ∙ reverse-append c.pop.new.self.items (r ∷ []) in
    let raises : AllByRecursion IsLogged (r ∷ reverse c.pop.new.self.items) = rw is at kept.sized.raises in
    let within : r.list < length c.loop-self.self-inside.numbers.items =
    omega (arith, raises.0.list, kept.sized.lists) in
    let row = get_or_read c.loop-self.self-inside.numbers.items _ _ within c.index_mut.ensures.value [] in
    let first = sym kept.log ∙ is in
    let count : length c.loop-self.self-inside.log.items ≡ length c.pop.new.self.items + 1 =
    ap length c.in-Some.ensures.items ∙ length_push c.pop.new.self.items r in
    let next : length c.args.self.now.log - length c.loop-self.self-inside.log.items + 1
    ≡ length c.args.self.now.log - length c.pop.new.self.items = omega (arith, kept.few, count) in
    rw (is_written c.loop-self.self-inside.numbers.items _ r.list r.at r.old row) (record {
      sized = sized_back _ _ _ _ r (reverse c.pop.new.self.items) is c.in-Some.ensures.capacity kept.sized;
      limits = kept.limits;
      sides = kept.sides;
      ends = kept.ends;
      few = omega (arith, kept.few, count);
      above = omega (arith, count, c.len.ensures, c.loop-self-test.true, c.loop-self.self-inside.log.ok.0);
      numbers = rw kept.numbers (back_next c.args.self.now.numbers c.args.self.now.log (reverse c.pop.new.self.items) r _ _
          first next);
      log = drop_next c.args.self.now.log (reverse c.pop.new.self.items) r _ _ first next;
    })

pub returns : goal.returns
returns c =
    let kept = c.loop-self.invariant in
    let all : length c.args.self.now.log - length c.loop-self.self-inside.log.items
    ≡ length c.args.self.now.log - c.args.first =
    omega (arith, kept.above, c.loop-self-test.false, c.len.ensures, c.loop-self.self-inside.log.ok.0) in
    rw (← all, ← kept.limits, ← kept.sides, ← kept.ends, ← kept.numbers, ← kept.log) refl
