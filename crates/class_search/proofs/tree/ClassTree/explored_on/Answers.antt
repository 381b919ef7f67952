use Rattle.std.proofs.Common.{IfOk, ap, sym, subst}
use Rattle.std.proofs.lemmas.Result.{IfOk-weaker}
use Rattle.packing_terms.specs.Packing.{PlainInstance}
use Rattle.class_search.specs.Kept.{IsKeptOf, IsExplored}
use Rattle.class_search.specs.Tree.{PlainClassTree}
use Rattle.class_search.proofs.Pieces.{explored_at}
use Rattle.class_search.proofs.tree.ClassTree.explored_on.Goals as goal

pub returns : goal.returns
returns c =
    let same = ap (λ (t : PlainClassTree). t.instance) c.self.view_is in
    let told = subst (λ (i : PlainInstance). IfOk c.explored.result (IsExplored i c.requires.node c.args.cap)) same
    (c.explored.ensures c.requires.node
    (subst (λ (i : PlainInstance). IsKeptOf i c.requires.node c.args.kept) (sym same) c.requires.kept)) in
    IfOk-weaker c.explored.result _ _
    (λ e h. explored_at c.args.self.now c.args.path.now c.args.cap c.args.kept e c.requires h) told
