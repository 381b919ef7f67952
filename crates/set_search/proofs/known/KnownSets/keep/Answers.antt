use Rattle.work_share.specs.Outcomes.{plain_outcome}
use Rattle.set_search.proofs.Memories.{verdict_made, verdicts_put}
use Rattle.set_search.proofs.known.KnownSets.keep.Goals as goal

pub invariant_of-self : goal.invariant_of-self
invariant_of-self c =
    let v = c.self.view_is in
    let instance = c.self.inside.whole.now in
    verdicts_put instance c.self.inside.scales c.self.inside.memory c.keep.new.self
    (record {
      boxes = c.args.key.now.boxes;
      budget = c.args.budget;
      outcome = plain_outcome c.args.found.now;
    })
    c.self.invariant
    (verdict_made instance c.self.inside.scales c.args.key.now.boxes c.args.keep.now c.args.budget
    (plain_outcome c.args.found.now) c.requires.boxes (rw (← v) at c.requires.set) (rw (← v) at c.requires.found))
    c.keep.ensures
