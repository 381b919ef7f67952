use Rattle.std.proofs.Common.{◌-◌, ◌++◌, ◌∷◌, refl, sym, ap, subst, ◌∙◌, arith, List, [], ℕ, append_assoc}
use Rattle.packing_terms.specs.Goals.{subset}
use Rattle.packing_terms.specs.Packing.{IsPacking}
use Rattle.packing_terms.specs.Tokens.{PlainToken}
use Rattle.packing_terms.specs.Tokens.PlainToken.{SetRefuted}
use Rattle.tree_terms.specs.Trees.{Yes, No, under_budget}
use Rattle.tree_terms.specs.OuterTrees.{set_verdict}
use Rattle.work_share.specs.Outcomes.{plain_outcome}
use Rattle.class_search.specs.Right.{IsRight}
use Rattle.set_search.proofs.Verdicts.{decided_within}
use Rattle.set_search.proofs.search.SetSearch.grown.Goals as goal

pub returns-in_ok-append-in-No-clause-child : goal.returns-in_ok-append-in-No-clause-child
returns-in_ok-append-in-No-clause-child c =
    let e = c.as_slice.ensures.value in
    let y = decided_within (c.args.left - 1)
    (set_verdict c.args.self.now.instance c.args.self.now.scales c.args.set.items)
    (No c.in-No.inner c.in-No.count)
    (ap plain_outcome (sym c.in-No.is)
    ∙ (c.in_ok-decide_by.ensures.outcome
    ∙ ap (λ us. under_budget (c.args.left - 1) (set_verdict c.args.self.now.instance c.args.self.now.scales us)) e)) in
    record {
      tokens = c.in-No.inner;
      cost = c.in-No.count;
      is = y.same;
      counted = refl;
      within = (let l = y.within in omega (arith, l, c.requires.left));
      appended = c.in_ok-append-in-No.ensures.appends
          ∙ (ap (λ (ts : List PlainToken). ts ++ c.in-No.inner) c.in_ok-push-in-No.ensures.appends
          ∙ append_assoc c.args.tokens.now (SetRefuted c.args.bin ∷ []) _);
    }

pub returns-in-Yes-clause-child : goal.returns-in-Yes-clause-child
returns-in-Yes-clause-child c =
    let e = c.as_slice.ensures.value in
    let y = decided_within (c.args.left - 1)
    (set_verdict c.args.self.now.instance c.args.self.now.scales c.args.set.items)
    (Yes c.in-Yes.numbers.items c.in-Yes.count)
    (ap plain_outcome (sym c.in-Yes.is)
    ∙ (c.in_ok-decide_by.ensures.outcome
    ∙ ap (λ us. under_budget (c.args.left - 1) (set_verdict c.args.self.now.instance c.args.self.now.scales us)) e)) in
    let pack : IsPacking (subset c.args.self.now.instance c.as_slice.result.now) c.in-Yes.numbers.items
    = subst (λ r. IsRight (subset c.args.self.now.instance c.as_slice.result.now) [] (plain_outcome r)) c.in-Yes.is
    c.in_ok-decide_by.ensures.right in (
      record {
        same = refl;
        cost = c.in-Yes.count;
        is = y.same;
        counted = refl;
        within = (let l = y.within in omega (arith, l, c.requires.left));
        packing = subst (λ (us : List ℕ). IsPacking (subset c.args.self.now.instance us) c.in-Yes.numbers.items) e pack;
      },
      refl,
    )
