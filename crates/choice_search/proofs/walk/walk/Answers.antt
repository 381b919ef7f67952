use Rattle.std.proofs.Common.{◌≡◌, ℕ, suc, ◌+◌, ◌++◌, refl, ap, ap₂, sym, subst, ◌∙◌, arith, reverse, List, []}
use Rattle.std.proofs.Common.{◌∷◌, None}
use Rattle.packing_terms.specs.Tokens.{PlainToken}
use Rattle.packing_terms.specs.Tokens.PlainToken.{Choose, SetRefuted}
use Rattle.tree_terms.specs.Trees.{Verdict, Yes, No, Decided}
use Rattle.tree_terms.specs.OuterTrees.{choice_numbers}
use Rattle.tree_terms.proofs.UnderBudget.{over_budget}
use Rattle.class_search.proofs.Lists.{reverse_last, reverse_none}
use Rattle.set_search.proofs.Verdicts.{finished}
use Rattle.set_search.proofs.Sets.{places_count}
use Rattle.choice_search.specs.declared.node.Chosen.{Chosen}
use Rattle.choice_search.specs.declared.node.NodeKind.TheVariants.{Reached, Short, Divided}
use Rattle.choice_search.specs.Choices.{PlainChoiceTree, IsMet}
use Rattle.choice_search.specs.Walks.{node_verdict}
use Rattle.choice_search.proofs.Choosing.{more_set}
use Rattle.choice_search.proofs.Walking.{starts, reached_last, short_last, short_past, short_next, inside_next}
use Rattle.choice_search.proofs.Walking.{outside_next, opened_past}
use Rattle.choice_search.proofs.walk.walk.Goals as goal

pub loop-node-init : goal.loop-node-init
loop-node-init c =
    let t : PlainChoiceTree = record {
      instance = c.args.instance.now;
      goal = c.args.value;
      scales = c.args.search.now.scales;
    } in
    rw (c.new-tokens.ensures, c.new-stack.ensures.items)
    (record { left = starts t c.args.node c.args.own c.requires.node; within = c.requires.within; same = refl })

pub returns-in-Reached-clause-outcome : goal.returns-in-Reached-clause-outcome
returns-in-Reached-clause-outcome c =
    let t : PlainChoiceTree = record {
      instance = c.args.instance.now;
      goal = c.args.value;
      scales = c.args.search.now.scales;
    } in
    let whole : Verdict = node_verdict t c.args.node c.args.own in
    let met : IsMet c.args.instance.now c.args.value c.loop-node.node.decided c.loop-node.node.taken.items Reached
    = subst (λ us. IsMet c.args.instance.now c.args.value c.loop-node.node.decided us Reached) c.deref.ensures.value
    c.in-Reached.ensures in
    ap (λ (ns : List ℕ). Decided (Yes ns c.loop-node.count))
    (c.in_ok-numbers-in-Reached.ensures ∙ ap₂ (choice_numbers c.args.instance.now) c.deref-in-Reached.ensures.value
    c.deref-in-Reached-2.ensures.value)
    ∙ finished c.args.cap _ whole (reached_last t whole c.loop-node.tokens c.loop-node.count
    c.loop-node.node (reverse c.loop-node.stack.items) c.loop-node.invariant.left met) c.loop-node.invariant.within

pub returns-in_default-clause-outcome : goal.returns-in_default-clause-outcome
returns-in_default-clause-outcome c =
    let t : PlainChoiceTree = record {
      instance = c.args.instance.now;
      goal = c.args.value;
      scales = c.args.search.now.scales;
    } in
    let whole : Verdict = node_verdict t c.args.node c.args.own in
    let met : IsMet c.args.instance.now c.args.value c.loop-node.node.decided c.loop-node.node.taken.items Short
    = subst (λ us. IsMet c.args.instance.now c.args.value c.loop-node.node.decided us Short) c.deref.ensures.value
    c.in-Short.ensures in
    let e = reverse_none c.loop-node.stack.items
    (omega (arith, c.loop-node.stack.ok.0, c.in_default.ensures.cases.0)) in
    ap (λ (l : List PlainToken). Decided (No l c.loop-node.count))
    c.in_ok-push-in-Short.ensures.appends
    ∙ finished c.args.cap _ whole (short_last t whole c.loop-node.tokens c.loop-node.count
    c.loop-node.node met.0 met.1 (rw e at c.loop-node.invariant.left)) c.loop-node.invariant.within

pub returns-then-count-cap-clause-outcome : goal.returns-then-count-cap-clause-outcome
returns-then-count-cap-clause-outcome c =
    let t : PlainChoiceTree = record {
      instance = c.args.instance.now;
      goal = c.args.value;
      scales = c.args.search.now.scales;
    } in
    let whole : Verdict = node_verdict t c.args.node c.args.own in
    let met : IsMet c.args.instance.now c.args.value c.loop-node.node.decided c.loop-node.node.taken.items Short
    = subst (λ us. IsMet c.args.instance.now c.args.value c.loop-node.node.decided us Short) c.deref.ensures.value
    c.in-Short.ensures in
    let e = ap reverse c.in-Some.ensures.items ∙ reverse_last c.pop.new.self.items c.in-Some.waiting in
    let p = short_past t whole c.loop-node.tokens c.loop-node.count c.loop-node.node met.0 met.1
    c.in-Some.waiting (reverse c.pop.new.self.items) (rw e at c.loop-node.invariant.left) in
    sym (over_budget c.args.cap whole (omega (arith, p, c.if-count-cap.true)))

pub loop-node-preserved-in-Short : goal.loop-node-preserved-in-Short
loop-node-preserved-in-Short c =
    let t : PlainChoiceTree = record {
      instance = c.args.instance.now;
      goal = c.args.value;
      scales = c.args.search.now.scales;
    } in
    let whole : Verdict = node_verdict t c.args.node c.args.own in
    let met : IsMet c.args.instance.now c.args.value c.loop-node.node.decided c.loop-node.node.taken.items Short
    = subst (λ us. IsMet c.args.instance.now c.args.value c.loop-node.node.decided us Short) c.deref.ensures.value
    c.in-Short.ensures in
    let e = ap reverse c.in-Some.ensures.items ∙ reverse_last c.pop.new.self.items c.in-Some.waiting in
    rw c.in_ok-push-in-Short.ensures.appends (record {
      left = short_next t whole c.loop-node.tokens c.loop-node.count c.loop-node.node met.0
          met.1 c.in-Some.waiting (reverse c.pop.new.self.items) (rw e at c.loop-node.invariant.left);
      within = omega (arith, c.loop-node.invariant.within, c.if-count-cap.false);
      same = c.loop-node.invariant.same;
    })

pub open_first-requires : goal.open_first-requires
open_first-requires c =
    let met : IsMet c.args.instance.now c.args.value c.loop-node.node.decided c.loop-node.node.taken.items
    (Divided c.in-Divided.v)
    = subst (λ us. IsMet c.args.instance.now c.args.value c.loop-node.node.decided us (Divided c.in-Divided.v))
    c.deref.ensures.value c.in-Divided.ensures in
    rw (c.loop-node.invariant.same, c.requires.search)
    (more_set c.args.instance.now c.loop-node.node.decided c.loop-node.node.taken.items c.loop-node.node.numbers.items
    c.loop-node.invariant.left.node c.in-Divided.v met.2)

pub returns-in-Past-clause-outcome : goal.returns-in-Past-clause-outcome
returns-in-Past-clause-outcome c =
    let t : PlainChoiceTree = record {
      instance = c.args.instance.now;
      goal = c.args.value;
      scales = c.args.search.now.scales;
    } in
    let whole : Verdict = node_verdict t c.args.node c.args.own in
    let met : IsMet c.args.instance.now c.args.value c.loop-node.node.decided c.loop-node.node.taken.items
    (Divided c.in-Divided.v)
    = subst (λ us. IsMet c.args.instance.now c.args.value c.loop-node.node.decided us (Divided c.in-Divided.v))
    c.deref.ensures.value c.in-Divided.ensures in
    let h = rw (c.loop-node.invariant.same, c.requires.search, c.in-Past.is)
    at c.in_ok-open_first-in-Divided.ensures.opened in
    let p = opened_past t whole c.loop-node.tokens c.loop-node.count c.loop-node.node
    (reverse c.loop-node.stack.items) c.loop-node.invariant.left c.in-Divided.v met.0 met.1 met.2 in
    sym (over_budget c.args.cap whole (omega (arith, p, h, c.loop-node.invariant.within)))

pub loop-node-preserved-in-Refuted : goal.loop-node-preserved-in-Refuted
loop-node-preserved-in-Refuted c =
    let t : PlainChoiceTree = record {
      instance = c.args.instance.now;
      goal = c.args.value;
      scales = c.args.search.now.scales;
    } in
    let whole : Verdict = node_verdict t c.args.node c.args.own in
    let met : IsMet c.args.instance.now c.args.value c.loop-node.node.decided c.loop-node.node.taken.items
    (Divided c.in-Divided.v)
    = subst (λ us. IsMet c.args.instance.now c.args.value c.loop-node.node.decided us (Divided c.in-Divided.v))
    c.deref.ensures.value c.in-Divided.ensures in
    let h = rw (c.loop-node.invariant.same, c.requires.search, c.in-Refuted.is)
    at c.in_ok-open_first-in-Divided.ensures.opened in
    let number : c.in-Divided.v + 1 ≡ suc c.in-Divided.v = omega arith in
    let tokens : c.open_first.new.tokens
    ≡ (c.loop-node.tokens ++ Choose (suc c.in-Divided.v) ∷ []) ++ SetRefuted None ∷ h.tokens
    = h.appended
    ∙ ap (λ (l : List PlainToken). l ++ SetRefuted None ∷ h.tokens)
    (c.in_ok-push-in-Divided.ensures.appends
    ∙ ap (λ n. c.loop-node.tokens ++ Choose n ∷ []) number) in
    let k = h.counted in
    let count : c.loop-node.count + c.in-Refuted.own ≡ c.loop-node.count + (1 + h.cost) + 1 = omega (arith, k) in
    rw (tokens, count) (record {
      left = outside_next t whole c.loop-node.tokens c.loop-node.count c.loop-node.node
          (reverse c.loop-node.stack.items) c.loop-node.invariant.left c.in-Divided.v met.0 met.1 met.2
          h.tokens h.cost h.is;
      within = (let l = h.within in omega (arith, l, k, c.loop-node.invariant.within));
      same = c.in_ok-open_first-in-Divided.ensures.same ∙ c.loop-node.invariant.same;
    })

pub loop-node-preserved : goal.loop-node-preserved
loop-node-preserved c =
    let t : PlainChoiceTree = record {
      instance = c.args.instance.now;
      goal = c.args.value;
      scales = c.args.search.now.scales;
    } in
    let whole : Verdict = node_verdict t c.args.node c.args.own in
    let met : IsMet c.args.instance.now c.args.value c.loop-node.node.decided c.loop-node.node.taken.items
    (Divided c.in-Divided.v)
    = subst (λ us. IsMet c.args.instance.now c.args.value c.loop-node.node.decided us (Divided c.in-Divided.v))
    c.deref.ensures.value c.in-Divided.ensures in
    let entered = rw (c.loop-node.invariant.same, c.requires.search, c.in-Entered.is)
    at c.in_ok-open_first-in-Divided.ensures.opened in
    let h = entered.0 in
    let f = h.fits in
    let number : c.in-Divided.v + 1 ≡ suc c.in-Divided.v = omega arith in
    let tokens : c.open_first.new.tokens ≡ c.loop-node.tokens
    ++ Choose (suc c.in-Divided.v) ∷ []
    = entered.1 ∙ c.in_ok-push-in-Divided.ensures.appends
    ∙ ap (λ n. c.loop-node.tokens ++ Choose n ∷ []) number in
    let waiting : reverse c.push-in-Entered.new.self.items ≡ record c.loop-node.node { decided = c.loop-node.node.decided + 1 }
    ∷ reverse c.loop-node.stack.items
    = ap reverse c.in-Ok.ensures.items
    ∙ (reverse_last c.loop-node.stack.items c.replace.result
    ∙ ap (λ (x : Chosen). x ∷ reverse c.loop-node.stack.items) c.replace.ensures.value) in
    rw (tokens, waiting, f.counted) (record {
      left = inside_next t whole c.loop-node.tokens c.loop-node.count c.loop-node.node
          (reverse c.loop-node.stack.items) c.loop-node.invariant.left c.in-Divided.v met.0 met.1 met.2
          c.in-Entered.inside.numbers.items f.cost f.is c.replace.new.dest
          (ap (λ (x : Chosen). x.decided) c.replace.ensures.after ∙ h.decided)
          (ap (λ (x : Chosen). x.taken.items) c.replace.ensures.after ∙ f.same)
          (ap (λ (x : Chosen). x.numbers.items) c.replace.ensures.after)
          (places_count c.args.instance.now _ c.in-Entered.inside.numbers.items f.packing);
      within = (let l = f.within in let k = f.counted in omega (arith, l, k, c.loop-node.invariant.within));
      same = c.in_ok-open_first-in-Divided.ensures.same ∙ c.loop-node.invariant.same;
    })
