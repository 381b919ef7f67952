use Rattle.std.proofs.Common.{◌-◌, ◌∙◌, arith, length}
use Rattle.std.proofs.lemmas.List.{length-take-le}
use Rattle.std.proofs.lemmas.Result.{IfOk-weaker}
use Rattle.bin_search.specs.Trees.{PlainBinTree}
use Rattle.bin_search.proofs.PathNodes.{end_is}
use Rattle.bin_search.proofs.tree.BinTree.step_to.Goals as goal

pub last_step-requires-clause-few : goal.last_step-requires-clause-few
last_step-requires-clause-few c =
    let e = c.self.view_is in
    let t : PlainBinTree = record {
      instance = c.self.inside.instance.now;
      bins = c.self.inside.bins;
      scales = c.self.inside.scales;
    } in
    let h = end_is t c.len-limits.ensures.limits c.args.path.now (length c.args.path.now - 1)
    (omega (arith, c.requires.path)) (rw (← e) at c.requires.reached) in
    let l = h.above.there in
    let m = length-take-le (length c.args.path.now - 1) c.args.path.now (omega arith) in
    rw (c.as_slice.ensures.value, c.self.invariant.in_order) (omega (arith, l, m, c.requires.path))

pub returns : goal.returns
returns c =
    let e = c.self.view_is in
    let t : PlainBinTree = record {
      instance = c.self.inside.instance.now;
      bins = c.self.inside.bins;
      scales = c.self.inside.scales;
    } in
    let h = end_is t c.len-limits.ensures.limits c.args.path.now (length c.args.path.now - 1)
    (omega (arith, c.requires.path)) (rw (← e) at c.requires.reached) in
    let m = length-take-le (length c.args.path.now - 1) c.args.path.now (omega arith) in
    let k = c.as_slice.ensures.value ∙ c.self.invariant.in_order in
    rw (← e) (IfOk-weaker c.last_step.result _ _ (λ step g. rw (g.position, g.before, g.last, k) (rw m at h))
    c.last_step.ensures)
