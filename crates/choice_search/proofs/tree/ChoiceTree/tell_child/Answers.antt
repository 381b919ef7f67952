use Rattle.std.proofs.Common.{◌≡◌, ◌-◌, sym, ap, subst, ◌∙◌, arith, [], length, take, get_or, Option, Some, IfSome}
use Rattle.std.proofs.lemmas.Result.{IfOk-weaker}
use Rattle.packing_terms.specs.Rank.{ranked}
use Rattle.tree_terms.specs.Trees.{SearchTree, node_at}
use Rattle.tree_terms.specs.Paths.{node_view}
use Rattle.work_share.specs.Nodes.{plain_node}
use Rattle.choice_search.specs.Choices.{PlainChoiceTree, shape}
use Rattle.choice_search.specs.Paths.{taken_along}
use Rattle.choice_search.proofs.Children.{second_chosen}
use Rattle.choice_search.proofs.PathNodes.{end_is, at_first, at_second}
use Rattle.choice_search.proofs.tree.ChoiceTree.tell_child.Goals as goal

pub come_to-requires : goal.come_to-requires
come_to-requires c =
    let e = c.self.view_is in
    let t : PlainChoiceTree = record {
      instance = c.self.inside.instance.now;
      goal = c.self.inside.value;
      scales = c.self.inside.scales;
    } in
    let h = end_is t c.len-limits.ensures.limits c.args.path.now (length c.args.path.now - 1)
    (omega (arith, c.requires.path)) (rw (← e) at c.requires.reached) in
    let l = h.above.there in
    rw (c.as_slice-order.ensures.value, c.self.invariant) (omega (arith, l))

pub tell_first-requires-clause-above : goal.tell_first-requires-clause-above
tell_first-requires-clause-above c =
    let e = c.self.view_is in
    let s = rw (← e) at c.requires.search in
    let t : PlainChoiceTree = record {
      instance = c.self.inside.instance.now;
      goal = c.self.inside.value;
      scales = c.self.inside.scales;
    } in
    let h = end_is t c.len-limits.ensures.limits c.args.path.now (length c.args.path.now - 1)
    (omega (arith, c.requires.path)) (rw (← e) at c.requires.reached) in
    let k = c.in_ok-above.ensures.taken
    ∙ ap (λ us. taken_along [] us (take (length c.args.path.now - 1) c.args.path.now))
    (c.as_slice-order.ensures.value ∙ c.self.invariant) in
    rw (s, c.in_ok-above.ensures.decided, k) h.above

pub tell_second-requires-clause-there : goal.tell_second-requires-clause-there
tell_second-requires-clause-there c =
    let e = c.self.view_is in
    let t : PlainChoiceTree = record {
      instance = c.self.inside.instance.now;
      goal = c.self.inside.value;
      scales = c.self.inside.scales;
    } in
    let h = end_is t c.len-limits.ensures.limits c.args.path.now (length c.args.path.now - 1)
    (omega (arith, c.requires.path)) (rw (← e) at c.requires.reached) in
    let l = h.above.there in
    rw (c.as_slice-order.ensures.value, c.self.invariant, c.in_ok-above.ensures.decided) l

pub tell_second-requires-clause-rest : goal.tell_second-requires-clause-rest
tell_second-requires-clause-rest c =
    let e = c.self.view_is in
    let t : PlainChoiceTree = record {
      instance = c.self.inside.instance.now;
      goal = c.self.inside.value;
      scales = c.self.inside.scales;
    } in
    let h = end_is t c.len-limits.ensures.limits c.args.path.now (length c.args.path.now - 1)
    (omega (arith, c.requires.path)) (rw (← e) at c.requires.reached) in
    let s = second_chosen t _ _ h.above in
    rw c.in_ok-above.ensures.decided s.rest

pub tell_second-requires-clause-taken : goal.tell_second-requires-clause-taken
tell_second-requires-clause-taken c =
    let e = c.self.view_is in
    let t : PlainChoiceTree = record {
      instance = c.self.inside.instance.now;
      goal = c.self.inside.value;
      scales = c.self.inside.scales;
    } in
    let h = end_is t c.len-limits.ensures.limits c.args.path.now (length c.args.path.now - 1)
    (omega (arith, c.requires.path)) (rw (← e) at c.requires.reached) in
    let k = c.in_ok-above.ensures.taken
    ∙ ap (λ us. taken_along [] us (take (length c.args.path.now - 1) c.args.path.now))
    (c.as_slice-order.ensures.value ∙ c.self.invariant) in
    rw k h.above.chosen.boxes

pub returns-then-path-last-eq0 : goal.returns-then-path-last-eq0
returns-then-path-last-eq0 c =
    let e = c.self.view_is in
    let s = rw (← e) at c.requires.search in
    let t : PlainChoiceTree = record {
      instance = c.self.inside.instance.now;
      goal = c.self.inside.value;
      scales = c.self.inside.scales;
    } in
    let h = end_is t c.len-limits.ensures.limits c.args.path.now (length c.args.path.now - 1)
    (omega (arith, c.requires.path)) (rw (← e) at c.requires.reached) in
    let k = c.in_ok-above.ensures.taken
    ∙ ap (λ us. taken_along [] us (take (length c.args.path.now - 1) c.args.path.now))
    (c.as_slice-order.ensures.value ∙ c.self.invariant) in
    let q = rw (s, c.in_ok-above.ensures.decided, k) at c.tell_first.ensures in
    let n = at_first t c.len-limits.ensures.limits (length (take (length c.args.path.now - 1) c.args.path.now))
    (taken_along [] (ranked t.instance) (take (length c.args.path.now - 1) c.args.path.now))
    (get_or c.args.path.now (length c.args.path.now - 1) 0) (node_at (Some (shape t)) c.args.path.now) h
    c.if-path-last-eq0.true in
    rw (← e) (IfOk-weaker c.tell_first.result _ _
    (λ r g. subst (λ (x : Option SearchTree). IfSome x (λ node. plain_node r ≡ node_view node)) (sym n) g) q)

pub returns-else-path-last-eq0 : goal.returns-else-path-last-eq0
returns-else-path-last-eq0 c =
    let e = c.self.view_is in
    let t : PlainChoiceTree = record {
      instance = c.self.inside.instance.now;
      goal = c.self.inside.value;
      scales = c.self.inside.scales;
    } in
    let h = end_is t c.len-limits.ensures.limits c.args.path.now (length c.args.path.now - 1)
    (omega (arith, c.requires.path)) (rw (← e) at c.requires.reached) in
    let k = c.in_ok-above.ensures.taken
    ∙ ap (λ us. taken_along [] us (take (length c.args.path.now - 1) c.args.path.now))
    (c.as_slice-order.ensures.value ∙ c.self.invariant) in
    let q = rw (c.in_ok-above.ensures.decided, k) at c.tell_second.ensures c.self.inside.scales in
    let n = at_second t c.len-limits.ensures.limits (length (take (length c.args.path.now - 1) c.args.path.now))
    (taken_along [] (ranked t.instance) (take (length c.args.path.now - 1) c.args.path.now))
    (get_or c.args.path.now (length c.args.path.now - 1) 0) (node_at (Some (shape t)) c.args.path.now) h
    c.if-path-last-eq0.false in
    rw (← e) (subst (λ (x : Option SearchTree). IfSome x
    (λ node. plain_node c.tell_second.result ≡ node_view node)) (sym n) q)
