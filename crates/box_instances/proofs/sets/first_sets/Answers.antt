use Rattle.std.proofs.Common.{◌≡◌, ◌≤◌, ◌+◌, ◌∙◌, sym, ap, subst, arith, List, ℕ, length, take, rules}
use Rattle.std.proofs.lemmas.List.FromFn.{length-range_with_len}
use Rattle.packing_terms.specs.Packing.{box_count}
use Rattle.packing_terms.specs.Goals.{subset, IsBoxSet}
use Rattle.packing_terms.proofs.Ranges.{range_front}
use Rattle.box_instances.specs.Sets.{AreFirstSets}
use Rattle.box_instances.proofs.Ranges.{range_set}
use Rattle.box_instances.proofs.BoxSets.{sets_more}
use Rattle.box_instances.proofs.sets.first_sets.Goals as goal

pub subset-requires-clause-set : goal.subset-requires-clause-set
subset-requires-clause-set c =
    let n = box_count c.args.whole.now in
    let count = ap length c.requires ∙ length-range_with_len 0 n in
    let few : c.loop-last.last + 1 ≤ n = omega (arith, c.loop-last-test.true, count) in
    subst (λ (l : List ℕ). IsBoxSet c.args.whole.now l)
    (sym (ap (take (c.loop-last.last + 1)) c.requires ∙ range_front 0 n (c.loop-last.last + 1) few))
    (range_set c.args.whole.now (c.loop-last.last + 1) few)

pub loop-last-preserved : goal.loop-last-preserved
loop-last-preserved c =
    let n = box_count c.args.whole.now in
    let count = ap length c.requires ∙ length-range_with_len 0 n in
    let few : c.loop-last.last + 1 ≤ n = omega (arith, c.loop-last-test.true, count) in
    sets_more c.args.whole.now c.loop-last.last c.loop-last.sets.items _ c.in_ok-set.set c.loop-last.invariant
    (c.in_ok-set.ensures ∙ ap (λ (l : List ℕ). subset c.args.whole.now l)
    (ap (take (c.loop-last.last + 1)) c.requires ∙ range_front 0 n (c.loop-last.last + 1) few)) (search rules)

pub returns : goal.returns
returns c =
    let n = box_count c.args.whole.now in
    let count = ap length c.requires ∙ length-range_with_len 0 n in
    let last : c.loop-last.last ≡ n = omega (arith, c.loop-last-test.false, count, c.loop-last.auto.last-end) in
    subst (λ (k : ℕ). AreFirstSets c.args.whole.now k c.loop-last.sets.items) last c.loop-last.invariant
