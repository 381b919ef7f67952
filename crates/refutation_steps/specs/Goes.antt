-- Steps that are written behind lines, and what they lead to.
use Rattle.std.specs.Prelude.{◌≡◌, List, ◌++◌, IsTrue}
use Rattle.packing_terms.specs.declared.Exclusion.{Exclusion}
use Rattle.packing_terms.specs.Packing.{PlainInstance}
use Rattle.packing_terms.specs.Exclusions.{Exclusions, excludes}
use Rattle.packing_terms.specs.Rules.{Rule, IsRuleInstance, Premises, Concludes, dim_of, first_of, second_of}
use Rattle.edge_state.specs.Edges.{PlainEdges}
use Rattle.verdict_terms.specs.Steps.{PlainStep}
use Rattle.verdict_terms.specs.Stepping.{StepsTo, lines_of_all}

-- steps lead from one state to the other, and their lines came behind the lines
pub record Goes (instance : PlainInstance) (old new : PlainEdges) (before after : List PlainStep) : Type 0 where
  pub rules : List Rule
  pub steps : StepsTo instance old.trail rules new.trail
  pub sizes : new ≡ record old { trail = new.trail }
  pub lines : after ≡ before ++ lines_of_all rules

-- the exclusion is in the list
abbrev pub IsThere : List Exclusion → Exclusion → Type 0
IsThere es e = IsTrue (excludes es e.dim e.u e.v e.rel)

-- the instance of the rule excludes this at its own place, where these exclusions stand
pub record Gives (instance : PlainInstance) (X : Exclusions) (rule : Rule) (e : Exclusion) : Type 0 where
  pub is : IsRuleInstance instance rule
  pub premises : Premises instance X rule
  pub dim : dim_of rule ≡ e.dim
  pub first : first_of rule ≡ e.u
  pub second : second_of rule ≡ e.v
  pub concluded : Concludes X rule e.rel

-- where the rule gives the exclusion before, it is there afterwards
abbrev pub IsTried : PlainInstance → PlainEdges → PlainEdges → Rule → Exclusion → Type 0
IsTried instance old new rule e = Gives instance (excludes old.trail) rule e → IsThere new.trail e

-- the rule was taken as a step where it changes a mask; so all that it gives is there
pub record IsStepped (instance : PlainInstance) (old new : PlainEdges) (before after : List PlainStep)
    (rule : Rule) : Type 0 where
  pub goes : Goes instance old new before after
  pub tried : (e : Exclusion) → IsTried instance old new rule e
