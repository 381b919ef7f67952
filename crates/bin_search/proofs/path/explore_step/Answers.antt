use Rattle.std.proofs.Common.{◌≡◌, ℕ, suc, ◌+◌, ◌++◌, ap, subst, ◌∙◌, arith, List, ◌∷◌, Some, IfOk, Vec, Global}
use Rattle.std.proofs.lemmas.List.{length-map}
use Rattle.packing_terms.specs.Tokens.{PlainToken}
use Rattle.packing_terms.specs.Tokens.PlainToken.{SetRefuted}
use Rattle.tree_terms.specs.Trees.{SearchTree, Decided, No, outcome, under_budget}
use Rattle.work_share.specs.Outcomes.{plain_outcome}
use Rattle.bin_search.specs.Lists.{lists_of}
use Rattle.bin_search.specs.Trees.{PlainBinTree}
use Rattle.bin_search.proofs.Children.{step_set, step_used, step_few, step_past, step_refuted, step_fits, step_placed}
use Rattle.bin_search.proofs.path.explore_step.Goals as goal

pub grow_bin-requires : goal.grow_bin-requires
grow_bin-requires c =
    let t : PlainBinTree = record {
      instance = c.args.instance.now;
      bins = c.args.most;
      scales = c.args.search.now.scales;
    } in
    rw (c.requires.search, c.requires.order, c.deref.ensures.value)
    (step_set t c.requires.limits c.args.step.placed (lists_of c.args.step.bins.items) c.requires.above
    c.args.step.child c.requires.near)

pub overflow_add-number : goal.overflow_add-number
overflow_add-number c =
    let t : PlainBinTree = record {
      instance = c.args.instance.now;
      bins = c.args.most;
      scales = c.args.search.now.scales;
    } in
    let few = step_few t c.requires.limits c.args.step.placed (lists_of c.args.step.bins.items) c.requires.above
    c.args.step.child c.requires.near in
    let most = c.requires.limits.boxes.count.1 in
    omega (arith, few, most, c.requires.few)

pub answers_with-requires-clause-near : goal.answers_with-requires-clause-near
answers_with-requires-clause-near c =
    let t : PlainBinTree = record {
      instance = c.args.instance.now;
      bins = c.args.most;
      scales = c.args.search.now.scales;
    } in
    let used = step_used t c.requires.limits c.args.step.placed (lists_of c.args.step.bins.items) c.requires.above
    c.args.step.child c.requires.near in
    let m = length-map c.args.step.bins.items (λ (x : Vec ℕ Global). x.items) in
    rw c.deref-in-Fits.ensures.value (omega (arith, used, m))

pub answers_with-requires-clause-found : goal.answers_with-requires-clause-found
answers_with-requires-clause-found c =
    rw (c.in_ok-grow_bin.ensures.same, c.requires.search, c.deref-in-Fits.ensures.value) c.requires.above.found

pub enter-requires-clause-node : goal.enter-requires-clause-node
enter-requires-clause-node c =
    let t : PlainBinTree = record {
      instance = c.args.instance.now;
      bins = c.args.most;
      scales = c.args.search.now.scales;
    } in
    let fits = rw (c.requires.search, c.requires.order, c.deref.ensures.value, c.in-Fits.is)
    at c.in_ok-grow_bin.ensures.child in
    let h = fits.0 in
    let e = rw h.same at c.in_ok-replace_list-in-Fits.ensures.lists in
    let f = rw (c.in_ok-grow_bin.ensures.same, c.requires.search, c.deref-in-Fits.ensures.value)
    at c.in_ok-answers-in-Fits.ensures.answers in
    rw (e, f) (step_placed t c.requires.limits c.args.step.placed (lists_of c.args.step.bins.items) c.requires.above
    c.args.step.child c.requires.near c.in-Fits.numbers.items h.packing)

pub returns-in-Past : goal.returns-in-Past
returns-in-Past c =
    let t : PlainBinTree = record {
      instance = c.args.instance.now;
      bins = c.args.most;
      scales = c.args.search.now.scales;
    } in
    let past = rw (c.requires.search, c.requires.order, c.deref.ensures.value, c.in-Past.is)
    at c.in_ok-grow_bin.ensures.child in
    let h = past.0 in
    step_past t c.requires.limits c.args.step.placed (lists_of c.args.step.bins.items) c.requires.above
    c.args.step.child c.requires.near c.args.cap h

pub returns-in-Refuted : goal.returns-in-Refuted
returns-in-Refuted c =
    let t : PlainBinTree = record {
      instance = c.args.instance.now;
      bins = c.args.most;
      scales = c.args.search.now.scales;
    } in
    let h = rw (c.requires.search, c.requires.order, c.deref.ensures.value, c.in-Refuted.is)
    at c.in_ok-grow_bin.ensures.child in
    let number : c.args.step.child + 1 ≡ suc c.args.step.child = omega arith in
    let e = h.appended
    ∙ (ap (λ (l : List PlainToken). l ++ SetRefuted (Some (c.args.step.child + 1)) ∷ h.tokens)
    c.new-tokens.ensures
    ∙ ap (λ n. SetRefuted (Some n) ∷ h.tokens) number) in
    ap (λ (l : List PlainToken). Decided (No l c.in-Refuted.own)) e
    ∙ step_refuted t c.requires.limits c.args.step.placed (lists_of c.args.step.bins.items) c.requires.above
    c.args.step.child c.requires.near c.args.cap h.tokens h.cost c.in-Refuted.own h.is h.counted h.within

pub returns-in_ok-replace_list-in-Fits : goal.returns-in_ok-replace_list-in-Fits
returns-in_ok-replace_list-in-Fits c =
    let t : PlainBinTree = record {
      instance = c.args.instance.now;
      bins = c.args.most;
      scales = c.args.search.now.scales;
    } in
    let fits = rw (c.requires.search, c.requires.order, c.deref.ensures.value, c.in-Fits.is)
    at c.in_ok-grow_bin.ensures.child in
    let h = fits.0 in
    let e = rw h.same at c.in_ok-replace_list-in-Fits.ensures.lists in
    let f = rw (c.in_ok-grow_bin.ensures.same, c.requires.search, c.deref-in-Fits.ensures.value)
    at c.in_ok-answers-in-Fits.ensures.answers in
    let g = c.in_ok-answers-in-Fits.ensures.same ∙ c.in_ok-grow_bin.ensures.same in
    let k = rw (g, e, f) at c.enter.ensures.outcome in
    subst (λ (x : SearchTree). IfOk c.enter.result (λ r. plain_outcome r ≡ under_budget c.args.cap (outcome x)))
    (step_fits t c.requires.limits c.args.step.placed (lists_of c.args.step.bins.items) c.requires.above
    c.args.step.child c.requires.near c.in-Fits.numbers.items h.cost c.in-Fits.own h.is h.counted) k
