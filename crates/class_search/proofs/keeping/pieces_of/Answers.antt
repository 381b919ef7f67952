use Rattle.class_search.specs.declared.kept.Kept.TheVariants.{Refuted, PausedWalk}
use Rattle.class_search.specs.declared.kept.WalkSplit.TheVariants.{First, Second}
use Rattle.class_search.specs.Kept.{ArePartsOf}
use Rattle.class_search.proofs.Pieces.{child_piece}
use Rattle.class_search.proofs.keeping.pieces_of.Goals as goal

pub of_child-requires : goal.of_child-requires
of_child-requires c =
    child_piece c.args.tree.now c.args.path.now 0 (PausedWalk c.in-First.standing)
    (λ node. ArePartsOf c.args.tree.now.instance node (First c.in-First.standing)) (λ node h. h) c.requires.there
    (rw c.in-First.is at c.requires.known)

pub of_child-requires-in-Second : goal.of_child-requires-in-Second
of_child-requires-in-Second c =
    child_piece c.args.tree.now c.args.path.now 0 (Refuted c.in-Second.refuted)
    (λ node. ArePartsOf c.args.tree.now.instance node (Second c.in-Second.refuted c.in-Second.standing))
    (λ node h. h.0)
    c.requires.there (rw c.in-Second.is at c.requires.known)

pub of_child-requires-in-Second-2 : goal.of_child-requires-in-Second-2
of_child-requires-in-Second-2 c =
    child_piece c.args.tree.now c.args.path.now 1 (PausedWalk c.in-Second.standing)
    (λ node. ArePartsOf c.args.tree.now.instance node (Second c.in-Second.refuted c.in-Second.standing))
    (λ node h. h.1)
    c.requires.there (rw c.in-Second.is at c.requires.known)
