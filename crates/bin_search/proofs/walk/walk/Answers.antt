use Rattle.std.proofs.Common.{◌≡◌, ℕ, suc, ◌+◌, ◌-◌, ◌++◌, ◌<◌, refl, ap, sym, ◌∙◌, arith, map, reverse, length, drop}
use Rattle.std.proofs.Common.{List, [], ◌∷◌, Some}
use Rattle.std.proofs.lemmas.List.{drop_all}
use Rattle.packing_terms.specs.Tokens.{PlainToken}
use Rattle.packing_terms.specs.Tokens.PlainToken.{Assign, SetRefuted}
use Rattle.packing_terms.specs.Packing.{box_count}
use Rattle.packing_terms.specs.Rank.{ranked}
use Rattle.packing_terms.proofs.RankLemmas.{ranked_are_boxes}
use Rattle.packing_terms.proofs.Boxes.{boxes_few}
use Rattle.tree_terms.specs.Trees.{Verdict, Yes, Decided, outcome}
use Rattle.tree_terms.specs.OuterTrees.{bin_node}
use Rattle.tree_terms.proofs.UnderBudget.{over_budget}
use Rattle.proof_tree.specs.Plain.{plain_token}
use Rattle.class_search.proofs.Lists.{reverse_last, reverse_none}
use Rattle.set_search.proofs.Verdicts.{finished}
use Rattle.bin_search.specs.declared.node.Change.{Change}
use Rattle.bin_search.specs.Lists.{lists_of}
use Rattle.bin_search.specs.Nodes.{plain_placed, plain_change, nodes_above, child_count, box_of}
use Rattle.bin_search.specs.Trees.{PlainBinTree}
use Rattle.bin_search.specs.Walks.{width}
use Rattle.bin_search.proofs.Placements.{placements_count, few_children}
use Rattle.bin_search.proofs.Placing.{grown_set, has_answers}
use Rattle.bin_search.proofs.Walking.{same_above, starts, fitting, pop_last, pop_next, child_past, refuted_next}
use Rattle.bin_search.proofs.Walking.{entered_placed, entered_last, entered_next}
use Rattle.bin_search.proofs.walk.walk.Goals as goal

pub loop-node-init : goal.loop-node-init
loop-node-init c =
    let t : PlainBinTree = record {
      instance = c.args.instance.now;
      bins = c.args.most;
      scales = c.args.search.now.scales;
    } in
    let e = c.in_ok-push.ensures.appends
    ∙ (ap (λ (l : List PlainToken). l ++ plain_token c.assign.result ∷ []) c.new-tokens.ensures
    ∙ ap (λ (x : PlainToken). x ∷ []) c.assign.ensures) in
    let m = ap length c.requires.order in
    rw (e, c.new-stack.ensures.items) (record {
      left = starts t (plain_placed c.args.node) c.args.own (omega (arith, m, c.requires.there)) c.requires.fresh
          c.requires.node;
      within = c.requires.within;
      same = refl;
    })

pub returns-in-None-clause-outcome : goal.returns-in-None-clause-outcome
returns-in-None-clause-outcome c =
    let t : PlainBinTree = record {
      instance = c.args.instance.now;
      bins = c.args.most;
      scales = c.args.search.now.scales;
    } in
    let whole : Verdict = outcome (bin_node c.args.instance.now c.args.search.now.scales c.args.most
    (drop c.args.node.placed (ranked c.args.instance.now)) (lists_of c.args.node.bins.items)
    (lists_of c.args.node.answers.items) c.args.own) in
    let held = plain_placed c.loop-node.node in
    let counted : c.children.result ≡ width t held =
    c.children.ensures ∙ (ap (λ (x : List _). child_count c.args.most (lists_of x)) c.deref.ensures.value
    ∙ sym (placements_count c.args.most held.bins (box_of c.args.instance.now held))) in
    let all : held.visited ≡ width t held = c.if-node-children.true ∙ counted in
    let e = reverse_none c.loop-node.stack.items (omega (arith, c.loop-node.stack.ok.0, c.in-None.ensures.cases.0)) in
    finished c.args.cap _ whole (pop_last t whole c.loop-node.tokens c.loop-node.count held all
    (rw e at c.loop-node.invariant.left)) c.loop-node.invariant.within

pub loop-node-preserved-in-Some : goal.loop-node-preserved-in-Some
loop-node-preserved-in-Some c =
    let t : PlainBinTree = record {
      instance = c.args.instance.now;
      bins = c.args.most;
      scales = c.args.search.now.scales;
    } in
    let whole : Verdict = outcome (bin_node c.args.instance.now c.args.search.now.scales c.args.most
    (drop c.args.node.placed (ranked c.args.instance.now)) (lists_of c.args.node.bins.items)
    (lists_of c.args.node.answers.items) c.args.own) in
    let held = plain_placed c.loop-node.node in
    let counted : c.children.result ≡ width t held =
    c.children.ensures ∙ (ap (λ (x : List _). child_count c.args.most (lists_of x)) c.deref.ensures.value
    ∙ sym (placements_count c.args.most held.bins (box_of c.args.instance.now held))) in
    let all : held.visited ≡ width t held = c.if-node-children.true ∙ counted in
    let e = ap reverse c.in-Some.ensures.items ∙ reverse_last c.pop.new.self.items c.in-Some.change in
    rw c.leave_child.ensures (record {
      left = pop_next t whole c.loop-node.tokens c.loop-node.count held all _ _
          (rw e at c.loop-node.invariant.left);
      within = c.loop-node.invariant.within;
      same = c.loop-node.invariant.same;
    })

pub grow_bin-requires : goal.grow_bin-requires
grow_bin-requires c =
    let held = plain_placed c.loop-node.node in
    let left = c.loop-node.invariant.left in
    let node = left.node in
    rw (c.loop-node.invariant.same, c.requires.search, c.requires.order, c.deref-else-node-children.ensures.value)
    (grown_set c.args.instance.now c.requires.limits c.args.most held.placed held.bins held.answers node.node node.there
    held.visited)

pub overflow_add-node : goal.overflow_add-node
overflow_add-node c =
    let t : PlainBinTree = record {
      instance = c.args.instance.now;
      bins = c.args.most;
      scales = c.args.search.now.scales;
    } in
    let held = plain_placed c.loop-node.node in
    let counted : c.children.result ≡ width t held =
    c.children.ensures ∙ (ap (λ (x : List _). child_count c.args.most (lists_of x)) c.deref.ensures.value
    ∙ sym (placements_count c.args.most held.bins (box_of c.args.instance.now held))) in
    let left = c.loop-node.invariant.left in
    let few = left.node.visited in
    let more : held.visited < width t held = omega (arith, few, counted, c.if-node-children.false) in
    let node = left.node.node in
    let bins = node.few in
    let small = few_children c.args.most held.bins (box_of c.args.instance.now held) bins in
    let most = c.requires.limits.boxes.count.1 in
    omega (arith, more, small, most, c.requires.few)

pub overflow_cast-node : goal.overflow_cast-node
overflow_cast-node c =
    let t : PlainBinTree = record {
      instance = c.args.instance.now;
      bins = c.args.most;
      scales = c.args.search.now.scales;
    } in
    let held = plain_placed c.loop-node.node in
    let counted : c.children.result ≡ width t held =
    c.children.ensures ∙ (ap (λ (x : List _). child_count c.args.most (lists_of x)) c.deref.ensures.value
    ∙ sym (placements_count c.args.most held.bins (box_of c.args.instance.now held))) in
    let left = c.loop-node.invariant.left in
    let few = left.node.visited in
    let more : held.visited < width t held = omega (arith, few, counted, c.if-node-children.false) in
    let node = left.node.node in
    let bins = node.few in
    let small = few_children c.args.most held.bins (box_of c.args.instance.now held) bins in
    let most = c.requires.limits.boxes.count.1 in
    omega (arith, more, small, most, c.requires.few)

pub enter_child-requires : goal.enter_child-requires
enter_child-requires c =
    let left = c.loop-node.invariant.left in
    let there = left.node.there in
    let most = c.requires.limits.boxes.count.1 in
    let all = boxes_few (box_count c.args.instance.now) (ranked c.args.instance.now)
    (ranked_are_boxes c.args.instance.now) in
    record { few = omega (arith, there, all, most) }

pub returns-in-Past-clause-outcome : goal.returns-in-Past-clause-outcome
returns-in-Past-clause-outcome c =
    let t : PlainBinTree = record {
      instance = c.args.instance.now;
      bins = c.args.most;
      scales = c.args.search.now.scales;
    } in
    let whole : Verdict = outcome (bin_node c.args.instance.now c.args.search.now.scales c.args.most
    (drop c.args.node.placed (ranked c.args.instance.now)) (lists_of c.args.node.bins.items)
    (lists_of c.args.node.answers.items) c.args.own) in
    let held = plain_placed c.loop-node.node in
    let hs = map plain_change (reverse c.loop-node.stack.items) in
    let counted : c.children.result ≡ width t held =
    c.children.ensures ∙ (ap (λ (x : List _). child_count c.args.most (lists_of x)) c.deref.ensures.value
    ∙ sym (placements_count c.args.most held.bins (box_of c.args.instance.now held))) in
    let left = c.loop-node.invariant.left in
    let few = left.node.visited in
    let more : held.visited < width t held = omega (arith, few, counted, c.if-node-children.false) in
    let past = rw (
      c.loop-node.invariant.same,
      c.requires.search,
      c.requires.order,
      c.deref-else-node-children.ensures.value,
      c.in-Past.is,
    ) at c.in_ok-grow_bin.ensures.child in
    let h = past.0 in
    let p = child_past t whole c.loop-node.tokens c.loop-node.count held (nodes_above held hs)
    left more in
    sym (over_budget c.args.cap whole (omega (arith, p, h, c.loop-node.invariant.within)))

pub loop-node-preserved-in-Refuted : goal.loop-node-preserved-in-Refuted
loop-node-preserved-in-Refuted c =
    let t : PlainBinTree = record {
      instance = c.args.instance.now;
      bins = c.args.most;
      scales = c.args.search.now.scales;
    } in
    let whole : Verdict = outcome (bin_node c.args.instance.now c.args.search.now.scales c.args.most
    (drop c.args.node.placed (ranked c.args.instance.now)) (lists_of c.args.node.bins.items)
    (lists_of c.args.node.answers.items) c.args.own) in
    let held = plain_placed c.loop-node.node in
    let hs = map plain_change (reverse c.loop-node.stack.items) in
    let counted : c.children.result ≡ width t held =
    c.children.ensures ∙ (ap (λ (x : List _). child_count c.args.most (lists_of x)) c.deref.ensures.value
    ∙ sym (placements_count c.args.most held.bins (box_of c.args.instance.now held))) in
    let left = c.loop-node.invariant.left in
    let few = left.node.visited in
    let more : held.visited < width t held = omega (arith, few, counted, c.if-node-children.false) in
    let h = rw (
      c.loop-node.invariant.same,
      c.requires.search,
      c.requires.order,
      c.deref-else-node-children.ensures.value,
      c.in-Refuted.is,
    ) at c.in_ok-grow_bin.ensures.child in
    let number : held.visited + 1 ≡ suc held.visited = omega arith in
    let tokens : c.grow_bin.new.tokens ≡ c.loop-node.tokens
    ++ SetRefuted (Some (suc held.visited)) ∷ h.tokens
    = h.appended ∙ ap (λ n. c.loop-node.tokens ++ SetRefuted (Some n) ∷ h.tokens) number in
    rw (tokens, same_above held (held.visited + 1) hs) (record {
      left = refuted_next t whole c.loop-node.tokens c.loop-node.count held
          (nodes_above held hs) left more h.cost h.tokens c.in-Refuted.own h.is h.counted;
      within = (let l = h.within in omega (arith, l, c.loop-node.invariant.within));
      same = c.in_ok-grow_bin.ensures.same ∙ c.loop-node.invariant.same;
    })

pub bin_numbers-requires : goal.bin_numbers-requires
bin_numbers-requires c =
    let t : PlainBinTree = record {
      instance = c.args.instance.now;
      bins = c.args.most;
      scales = c.args.search.now.scales;
    } in
    let whole : Verdict = outcome (bin_node c.args.instance.now c.args.search.now.scales c.args.most
    (drop c.args.node.placed (ranked c.args.instance.now)) (lists_of c.args.node.bins.items)
    (lists_of c.args.node.answers.items) c.args.own) in
    let held = plain_placed c.loop-node.node in
    let hs = map plain_change (reverse c.loop-node.stack.items) in
    let counted : c.children.result ≡ width t held =
    c.children.ensures ∙ (ap (λ (x : List _). child_count c.args.most (lists_of x)) c.deref.ensures.value
    ∙ sym (placements_count c.args.most held.bins (box_of c.args.instance.now held))) in
    let left = c.loop-node.invariant.left in
    let few = left.node.visited in
    let more : held.visited < width t held = omega (arith, few, counted, c.if-node-children.false) in
    let h = rw (
      c.loop-node.invariant.same,
      c.requires.search,
      c.requires.order,
      c.deref-else-node-children.ensures.value,
      c.in-Fits.is,
    ) at c.in_ok-grow_bin.ensures.child in
    let entered = fitting t held (plain_placed c.enter_child.new.node) (c.args.cap - c.loop-node.count) c.in-Fits.own
    c.in-Fits.set.items c.in-Fits.numbers.items h.0 c.in_ok-change-in-Fits.ensures.child in
    let child = plain_placed c.enter_child.new.node in
    let p = entered_placed t whole c.loop-node.tokens c.loop-node.count held
    (nodes_above held hs) left more _ child c.in-Fits.own entered c.requires.limits in
    let most = c.requires.limits.boxes.count.1 in
    let m = ap length c.requires.order in
    let n = c.if-node-order.true in
    rw (c.deref-then-node-order.ensures.value, c.deref-then-node-order-2.ensures.value)
    (has_answers c.args.instance.now c.requires.limits c.args.most child.placed child.bins child.answers
    (omega (arith, most, c.requires.few)) p (omega (arith, m, n)))

pub returns-then-node-order-clause-outcome : goal.returns-then-node-order-clause-outcome
returns-then-node-order-clause-outcome c =
    let t : PlainBinTree = record {
      instance = c.args.instance.now;
      bins = c.args.most;
      scales = c.args.search.now.scales;
    } in
    let whole : Verdict = outcome (bin_node c.args.instance.now c.args.search.now.scales c.args.most
    (drop c.args.node.placed (ranked c.args.instance.now)) (lists_of c.args.node.bins.items)
    (lists_of c.args.node.answers.items) c.args.own) in
    let held = plain_placed c.loop-node.node in
    let hs = map plain_change (reverse c.loop-node.stack.items) in
    let counted : c.children.result ≡ width t held =
    c.children.ensures ∙ (ap (λ (x : List _). child_count c.args.most (lists_of x)) c.deref.ensures.value
    ∙ sym (placements_count c.args.most held.bins (box_of c.args.instance.now held))) in
    let left = c.loop-node.invariant.left in
    let few = left.node.visited in
    let more : held.visited < width t held = omega (arith, few, counted, c.if-node-children.false) in
    let h = rw (
      c.loop-node.invariant.same,
      c.requires.search,
      c.requires.order,
      c.deref-else-node-children.ensures.value,
      c.in-Fits.is,
    ) at c.in_ok-grow_bin.ensures.child in
    let entered = fitting t held (plain_placed c.enter_child.new.node) (c.args.cap - c.loop-node.count) c.in-Fits.own
    c.in-Fits.set.items c.in-Fits.numbers.items h.0 c.in_ok-change-in-Fits.ensures.child in
    let child = plain_placed c.enter_child.new.node in
    let m = ap length c.requires.order in
    let n = c.if-node-order.true in
    ap (λ (ns : List ℕ). Decided (Yes ns (c.loop-node.count + c.in-Fits.own)))
    (rw (c.deref-then-node-order.ensures.value, c.deref-then-node-order-2.ensures.value)
    at c.in_ok-numbers-in-Fits.ensures)
    ∙ finished c.args.cap _ whole (entered_last t whole c.loop-node.tokens c.loop-node.count
    held (nodes_above held hs) left more _ child c.in-Fits.own entered
    (drop_all child.placed (ranked c.args.instance.now) (omega (arith, m, n))))
    (let l = h.0.within in omega (arith, l, c.loop-node.invariant.within))

pub loop-node-preserved : goal.loop-node-preserved
loop-node-preserved c =
    let t : PlainBinTree = record {
      instance = c.args.instance.now;
      bins = c.args.most;
      scales = c.args.search.now.scales;
    } in
    let whole : Verdict = outcome (bin_node c.args.instance.now c.args.search.now.scales c.args.most
    (drop c.args.node.placed (ranked c.args.instance.now)) (lists_of c.args.node.bins.items)
    (lists_of c.args.node.answers.items) c.args.own) in
    let held = plain_placed c.loop-node.node in
    let hs = map plain_change (reverse c.loop-node.stack.items) in
    let counted : c.children.result ≡ width t held =
    c.children.ensures ∙ (ap (λ (x : List _). child_count c.args.most (lists_of x)) c.deref.ensures.value
    ∙ sym (placements_count c.args.most held.bins (box_of c.args.instance.now held))) in
    let left = c.loop-node.invariant.left in
    let few = left.node.visited in
    let more : held.visited < width t held = omega (arith, few, counted, c.if-node-children.false) in
    let h = rw (
      c.loop-node.invariant.same,
      c.requires.search,
      c.requires.order,
      c.deref-else-node-children.ensures.value,
      c.in-Fits.is,
    ) at c.in_ok-grow_bin.ensures.child in
    let entered = fitting t held (plain_placed c.enter_child.new.node) (c.args.cap - c.loop-node.count) c.in-Fits.own
    c.in-Fits.set.items c.in-Fits.numbers.items h.0 c.in_ok-change-in-Fits.ensures.child in
    let child = plain_placed c.enter_child.new.node in
    let p = entered_placed t whole c.loop-node.tokens c.loop-node.count held
    (nodes_above held hs) left more _ child c.in-Fits.own entered c.requires.limits in
    let q = p.there in
    let m = ap length c.requires.order in
    let tokens : c.push-in-Fits.new.self ≡ c.loop-node.tokens
    ++ Assign (suc (box_of c.args.instance.now child)) ∷ []
    = c.in_ok-push-in-Fits.ensures.appends
    ∙ (ap (λ (l : List PlainToken). l ++ plain_token c.assign-in-Fits.result ∷ []) h.1
    ∙ ap (λ (x : PlainToken). c.loop-node.tokens ++ x ∷ []) c.assign-in-Fits.ensures) in
    let change = c.in_ok-change-in-Fits.change in
    let waiting : map plain_change (reverse c.push-in-Fits-2.new.self.items) ≡ plain_change change ∷ hs
    = ap (λ (ws : List Change). map plain_change (reverse ws)) c.in-Ok.ensures.items
    ∙ ap (λ (ws : List Change). map plain_change ws) (reverse_last c.loop-node.stack.items change) in
    rw (tokens, waiting, c.in_ok-change-in-Fits.ensures.back, same_above held (held.visited + 1) hs) (record {
      left = entered_next t whole c.loop-node.tokens c.loop-node.count held
          (nodes_above held hs) left more _ child c.in-Fits.own entered c.requires.limits
          (omega (arith, q, m, c.if-node-order.false));
      within = (let l = h.0.within in omega (arith, l, c.loop-node.invariant.within));
      same = c.in_ok-grow_bin.ensures.same ∙ c.loop-node.invariant.same;
    })
