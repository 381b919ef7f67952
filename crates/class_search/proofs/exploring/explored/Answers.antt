use Rattle.class_search.proofs.exploring.explored.Goals as goal

pub resume_walk-requires-clause-known : goal.resume_walk-requires-clause-known
resume_walk-requires-clause-known c =
    c.at-walk.ensures.begins c.args.search.now.instance.now c.args.state.now.trail
    (rw c.in-Inner.is at c.requires.known).0
