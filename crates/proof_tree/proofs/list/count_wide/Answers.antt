use Rattle.std.proofs.Common.{◌<◌, length, arith, ◌∙◌, ap}
use Rattle.std.proofs.lemmas.List.{take_all}
use Rattle.proof_tree.specs.Shorts.{wide_count}
use Rattle.proof_tree.proofs.Parts.{count_on, count_off}
use Rattle.proof_tree.proofs.list.count_wide.Goals.{then-is_wide, else-is_wide}
use Rattle.proof_tree.proofs.list.count_wide.Goals as goal

pub loop-short-preserved : goal.loop-short-preserved
loop-short-preserved c =
    let there : c.loop-short.short-index < length c.args.shorts.now = omega (arith, c.loop-short-test.true) in
    let h = c.loop-short.invariant.counted in
    let f = c.loop-short.invariant.few in
    let n = c.loop-short.count in
    elim c.if-is_wide.branch [
      | then-is_wide w ↦ rw w.count-is (record {
        counted = count_on c.args.shorts.now c.loop-short.short-index n _ _ there h c.is_wide.ensures w.if-is_wide.true;
        few = omega (arith, f);
      })
      | else-is_wide w ↦ rw w.count-is (record {
        counted = count_off c.args.shorts.now c.loop-short.short-index n _ _ there h c.is_wide.ensures w.if-is_wide.false;
        few = omega (arith, f);
      })
    ]

pub returns-clause-value : goal.returns-clause-value
returns-clause-value c =
    c.loop-short.invariant.counted ∙ ap wide_count (take_all c.loop-short.short-index c.args.shorts.now
    (omega (arith, c.loop-short-test.false)))
