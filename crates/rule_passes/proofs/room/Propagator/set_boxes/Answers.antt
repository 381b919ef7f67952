use Rattle.std.proofs.Common.{◌≤◌, ◌∙◌, ℕ, ap, nat_lt}
use Rattle.rule_passes.proofs.room.Propagator.set_boxes.Goals as goal

pub invariant_of-self : goal.invariant_of-self
invariant_of-self c =
    let room = c.self.inside in
    let few : c.args.boxes ≤ room.most = rw (← c.self.view_is) at c.requires.most in
    record {
      few = few;
      narrow = λ x. c.all_boxes-self-inside.ensures x ∙ ap (λ (m : ℕ). nat_lt x m) c.min.ensures;
      wide = c.all_boxes-self-inside-2.ensures;
    }
