use Rattle.std.proofs.Common.{◌≡◌, ◌+◌, ◌∷◌, ◌++◌, ℕ, List, None, sym, ap, subst, ◌∙◌, IfOk}
use Rattle.tree_terms.specs.Trees.{SearchTree, Decided, No, outcome, under_budget}
use Rattle.packing_terms.specs.Tokens.{PlainToken}
use Rattle.packing_terms.specs.Tokens.PlainToken.{SetRefuted}
use Rattle.work_share.specs.Outcomes.{plain_outcome}
use Rattle.set_search.proofs.Sets.{places_count}
use Rattle.choice_search.specs.Choices.{PlainChoiceTree, IsChosen}
use Rattle.choice_search.proofs.Children.{first_set, first_chosen, first_past, first_refuted, first_fits}
use Rattle.choice_search.proofs.path.explore_first.Goals as goal

pub decide_with_box-requires : goal.decide_with_box-requires
decide_with_box-requires c =
    let t : PlainChoiceTree = record {
      instance = c.args.instance.now;
      goal = c.args.value;
      scales = c.args.search.now.scales;
    } in
    rw (c.requires.search, c.requires.order, c.deref.ensures.value)
    (first_set t c.args.above.decided c.args.above.taken.items c.requires.above)

pub returns-in-Past : goal.returns-in-Past
returns-in-Past c =
    let t : PlainChoiceTree = record {
      instance = c.args.instance.now;
      goal = c.args.value;
      scales = c.args.search.now.scales;
    } in
    let past = rw (c.requires.search, c.requires.order, c.deref.ensures.value, c.in-Past.is)
    at c.in_ok-decide_with_box.ensures.child in
    let h = past.0 in
    first_past t c.args.above.decided c.args.above.taken.items c.requires.above c.args.cap h

pub returns-in-Refuted : goal.returns-in-Refuted
returns-in-Refuted c =
    let t : PlainChoiceTree = record {
      instance = c.args.instance.now;
      goal = c.args.value;
      scales = c.args.search.now.scales;
    } in
    let h = rw (c.requires.search, c.requires.order, c.deref.ensures.value, c.in-Refuted.is)
    at c.in_ok-decide_with_box.ensures.child in
    let e = h.appended
    ∙ ap (λ (l : List PlainToken). l ++ SetRefuted None ∷ h.tokens) c.new-tokens.ensures in
    ap (λ (l : List PlainToken). Decided (No l c.in-Refuted.own)) e
    ∙ first_refuted t c.args.above.decided c.args.above.taken.items c.requires.above c.args.cap
    h.tokens h.cost c.in-Refuted.own h.is h.counted h.within

pub walk-requires-clause-node : goal.walk-requires-clause-node
walk-requires-clause-node c =
    let t : PlainChoiceTree = record {
      instance = c.args.instance.now;
      goal = c.args.value;
      scales = c.args.search.now.scales;
    } in
    let fits = rw (c.requires.search, c.requires.order, c.deref.ensures.value, c.in-Fits.is)
    at c.in_ok-decide_with_box.ensures.child in
    let h = fits.0 in
    subst (λ (us : List ℕ). IsChosen c.args.instance.now (c.args.above.decided + 1) us c.in-Fits.numbers.items)
    (sym h.same)
    (first_chosen t c.args.above.decided c.args.above.taken.items c.requires.above c.in-Fits.numbers.items
    (places_count c.args.instance.now _ c.in-Fits.numbers.items h.packing))

pub returns : goal.returns
returns c =
    let t : PlainChoiceTree = record {
      instance = c.args.instance.now;
      goal = c.args.value;
      scales = c.args.search.now.scales;
    } in
    let fits = rw (c.requires.search, c.requires.order, c.deref.ensures.value, c.in-Fits.is)
    at c.in_ok-decide_with_box.ensures.child in
    let h = fits.0 in
    let k = rw (c.in_ok-decide_with_box.ensures.same, h.same) at c.walk.ensures.outcome in
    subst (λ (x : SearchTree). IfOk c.walk.result (λ r. plain_outcome r ≡ under_budget c.args.cap (outcome x)))
    (first_fits t c.args.above.decided c.args.above.taken.items c.requires.above c.in-Fits.numbers.items h.cost
    c.in-Fits.own h.is h.counted) k
