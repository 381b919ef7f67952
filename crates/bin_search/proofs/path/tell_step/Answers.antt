use Rattle.std.proofs.Common.{ℕ, ap, ◌∙◌, arith, length, Vec, Global}
use Rattle.std.proofs.lemmas.List.{length-map}
use Rattle.tree_terms.specs.OuterTrees.{with_answer}
use Rattle.tree_terms.specs.Paths.{node_view}
use Rattle.bin_search.specs.Lists.{lists_of}
use Rattle.bin_search.specs.Trees.{PlainBinTree}
use Rattle.bin_search.specs.Paths.{answers_of}
use Rattle.bin_search.proofs.Children.{step_set, step_fits, step_placed, step_past_told, step_refuted_told}
use Rattle.bin_search.proofs.path.tell_step.Goals as goal

pub grow_bin-requires : goal.grow_bin-requires
grow_bin-requires c =
    let t : PlainBinTree = record {
      instance = c.args.instance.now;
      bins = c.args.most;
      scales = c.args.search.now.scales;
    } in
    rw (c.requires.search, c.requires.order, c.deref.ensures.value)
    (step_set t c.requires.limits c.args.step.placed (lists_of c.args.step.bins.items) c.requires.above
    c.args.step.child c.requires.near)

pub tell-requires-clause-few : goal.tell-requires-clause-few
tell-requires-clause-few c =
    let t : PlainBinTree = record {
      instance = c.args.instance.now;
      bins = c.args.most;
      scales = c.args.search.now.scales;
    } in
    let fits = rw (c.requires.search, c.requires.order, c.deref.ensures.value, c.in-Fits.is)
    at c.in_ok-grow_bin.ensures.child in
    let h = fits.0 in
    let e = rw h.same at c.in_ok-replace_list-in-Fits.ensures.lists in
    let p = step_placed t c.requires.limits c.args.step.placed (lists_of c.args.step.bins.items) c.requires.above
    c.args.step.child c.requires.near _ h.packing in
    let few = p.few in
    let m = length-map c.deref-in-Fits.result.now (λ (x : Vec ℕ Global). x.items) in
    let n = ap length (ap lists_of c.deref-in-Fits.ensures.value ∙ e) in
    omega (arith, few, m, n)

pub returns-in-Past : goal.returns-in-Past
returns-in-Past c =
    let t : PlainBinTree = record {
      instance = c.args.instance.now;
      bins = c.args.most;
      scales = c.args.search.now.scales;
    } in
    let past = rw (c.requires.search, c.requires.order, c.deref.ensures.value, c.in-Past.is)
    at c.in_ok-grow_bin.ensures.child in
    let h = past.0 in
    step_past_told t c.requires.limits c.args.step.placed (lists_of c.args.step.bins.items) c.requires.above
    c.args.step.child c.requires.near h

pub returns-in-Refuted : goal.returns-in-Refuted
returns-in-Refuted c =
    let t : PlainBinTree = record {
      instance = c.args.instance.now;
      bins = c.args.most;
      scales = c.args.search.now.scales;
    } in
    let h = rw (c.requires.search, c.requires.order, c.deref.ensures.value, c.in-Refuted.is)
    at c.in_ok-grow_bin.ensures.child in
    step_refuted_told t c.requires.limits c.args.step.placed (lists_of c.args.step.bins.items) c.requires.above
    c.args.step.child c.requires.near _ h.cost h.is

pub returns-in_ok-replace_list-in-Fits : goal.returns-in_ok-replace_list-in-Fits
returns-in_ok-replace_list-in-Fits c =
    let t : PlainBinTree = record {
      instance = c.args.instance.now;
      bins = c.args.most;
      scales = c.args.search.now.scales;
    } in
    let fits = rw (c.requires.search, c.requires.order, c.deref.ensures.value, c.in-Fits.is)
    at c.in_ok-grow_bin.ensures.child in
    let h = fits.0 in
    let e = rw h.same at c.in_ok-replace_list-in-Fits.ensures.lists in
    let k = rw (c.deref-in-Fits.ensures.value, e) at c.tell.ensures c.args.search.now.scales
    (with_answer (answers_of c.args.instance.now c.args.search.now.scales (lists_of c.args.step.bins.items))
    c.args.step.child c.in-Fits._numbers.items) in
    k ∙ ap node_view (step_fits t c.requires.limits c.args.step.placed (lists_of c.args.step.bins.items)
    c.requires.above c.args.step.child c.requires.near c.in-Fits._numbers.items h.cost c.in-Fits.own h.is h.counted)
