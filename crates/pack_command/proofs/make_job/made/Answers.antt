use Rattle.std.proofs.Common.{◌∙◌, refl, ap, []}
use Rattle.packing_terms.specs.Packing.{PlainInstance}
use Rattle.tree_terms.specs.Trees.{outcome, under_budget}
use Rattle.tree_terms.specs.ClassTree.{class_tree}
use Rattle.pack_command.proofs.make_job.made.Goals as goal

pub returns : goal.returns
returns g c = record {
  number_is = refl;
  instance_is = c.in_ok-instance.ensures.ok;
  budget_is = refl;
  outcome_is = c.in_ok-outcome.ensures.outcome
      ∙ ap (λ (i : PlainInstance). under_budget c.args.settings.now.budget
      (outcome (class_tree i [] c.args.settings.now.scales))) c.in_ok-instance.ensures.ok;
}
