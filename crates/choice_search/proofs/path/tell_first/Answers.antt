use Rattle.std.proofs.Common.{ℕ, List, sym, ap, subst, ◌∙◌}
use Rattle.packing_terms.specs.Rules.{AreBoxes}
use Rattle.tree_terms.specs.Paths.{node_view}
use Rattle.choice_search.specs.Choices.{PlainChoiceTree}
use Rattle.choice_search.proofs.Children.{first_set, first_boxes, first_fits, first_past_told, first_refuted_told}
use Rattle.choice_search.proofs.path.tell_first.Goals as goal

pub decide_with_box-requires : goal.decide_with_box-requires
decide_with_box-requires c =
    let t : PlainChoiceTree = record {
      instance = c.args.instance.now;
      goal = c.args.value;
      scales = c.args.search.now.scales;
    } in
    rw (c.requires.search, c.requires.order, c.deref.ensures.value)
    (first_set t c.args.above.decided c.args.above.taken.items c.requires.above)

pub returns-in-Past : goal.returns-in-Past
returns-in-Past c =
    let t : PlainChoiceTree = record {
      instance = c.args.instance.now;
      goal = c.args.value;
      scales = c.args.search.now.scales;
    } in
    let past = rw (c.requires.search, c.requires.order, c.deref.ensures.value, c.in-Past.is)
    at c.in_ok-decide_with_box.ensures.child in
    let h = past.0 in
    first_past_told t c.args.above.decided c.args.above.taken.items c.requires.above h

pub returns-in-Refuted : goal.returns-in-Refuted
returns-in-Refuted c =
    let t : PlainChoiceTree = record {
      instance = c.args.instance.now;
      goal = c.args.value;
      scales = c.args.search.now.scales;
    } in
    let h = rw (c.requires.search, c.requires.order, c.deref.ensures.value, c.in-Refuted.is)
    at c.in_ok-decide_with_box.ensures.child in
    first_refuted_told t c.args.above.decided c.args.above.taken.items c.requires.above _ h.cost h.is

pub meet-kind-requires-clause-taken : goal.meet-kind-requires-clause-taken
meet-kind-requires-clause-taken c =
    let t : PlainChoiceTree = record {
      instance = c.args.instance.now;
      goal = c.args.value;
      scales = c.args.search.now.scales;
    } in
    let fits = rw (c.requires.search, c.requires.order, c.deref.ensures.value, c.in-Fits.is)
    at c.in_ok-decide_with_box.ensures.child in
    let h = fits.0 in
    subst (λ (us : List ℕ). AreBoxes c.args.instance.now us) (sym (c.deref-in-Fits.ensures.value ∙ h.same))
    (first_boxes t c.args.above.decided c.args.above.taken.items c.requires.above)

pub returns : goal.returns
returns c =
    let t : PlainChoiceTree = record {
      instance = c.args.instance.now;
      goal = c.args.value;
      scales = c.args.search.now.scales;
    } in
    let fits = rw (c.requires.search, c.requires.order, c.deref.ensures.value, c.in-Fits.is)
    at c.in_ok-decide_with_box.ensures.child in
    let h = fits.0 in
    let k = rw (c.deref-in-Fits-2.ensures.value, h.same) at c.tell.ensures c.args.search.now.scales
    c.in-Fits._numbers.items in
    k ∙ ap node_view (first_fits t c.args.above.decided c.args.above.taken.items c.requires.above
    c.in-Fits._numbers.items h.cost c.in-Fits.own h.is h.counted)
