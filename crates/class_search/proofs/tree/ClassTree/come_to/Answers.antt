use Rattle.std.proofs.Common.{ap, refl, sym, subst, ◌∙◌, Option, Some, IsSome}
use Rattle.tree_terms.specs.Trees.{SearchTree, node_at}
use Rattle.edge_state.specs.Edges.{PlainEdges}
use Rattle.class_search.specs.Rooted.{IsArrival}
use Rattle.class_search.proofs.Rooting.{root_arrival, path_arrival}
use Rattle.class_search.proofs.tree.ClassTree.come_to.Goals as goal

pub returns-then-is_empty-clause-node : goal.returns-then-is_empty-clause-node
returns-then-is_empty-clause-node c =
    let e = c.self.view_is in
    let state = rw (← e) at c.requires.state in
    let at_root = root_arrival (record
    { instance = c.self.inside.instance.now; start = c.self.inside.start.items; scales = c.self.inside.scales })
    c.args.state.now.trail c.args.path.now _
    (ap (λ (s : PlainEdges). s.trail) state) (sym c.is_empty.ensures ∙ c.if-is_empty.true) refl in
    rw (← e) (subst (λ (o : Option SearchTree). IsArrival c.self.inside.instance.now o
    c.visit_class_root.new.state.trail c.visit_class_root.result) (sym at_root) c.visit_class_root.ensures.root)

pub descend-requires-clause-there : goal.descend-requires-clause-there
descend-requires-clause-there c =
    let e = c.self.view_is in
    let state = rw (← e) at c.requires.state in
    let there = rw (← e) at c.requires.there in
    let p = path_arrival (record {
      instance = c.self.inside.instance.now;
      start = c.self.inside.start.items;
      scales = c.self.inside.scales;
    }) c.args.state.now.trail c.args.path.now
    (ap (λ (s : PlainEdges). s.trail) state) (sym c.is_empty.ensures ∙ c.if-is_empty.false) there in
    subst (λ (x : SearchTree). IsSome (node_at (Some x) c.args.path.now))
    (p.1 ∙ c.visit_root-root.ensures.met.tree) there

pub returns-clause-node : goal.returns-clause-node
returns-clause-node c =
    let e = c.self.view_is in
    let state = rw (← e) at c.requires.state in
    let there = rw (← e) at c.requires.there in
    let p = path_arrival (record {
      instance = c.self.inside.instance.now;
      start = c.self.inside.start.items;
      scales = c.self.inside.scales;
    }) c.args.state.now.trail c.args.path.now
    (ap (λ (s : PlainEdges). s.trail) state) (sym c.is_empty.ensures ∙ c.if-is_empty.false) there in
    rw (← e) (record {
      is = ap (λ (x : SearchTree). node_at (Some x) c.args.path.now) (p.1 ∙ c.visit_root-root.ensures.met.tree)
          ∙ c.descend.ensures.node;
      known = c.descend.ensures.known;
      fit = p.0;
    })
