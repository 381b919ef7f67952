-- Steps that are taken one after another, from one list of exclusions to another.
use Rattle.std.specs.Prelude.{◌≡◌, List, [], ◌∷◌}
use Rattle.std.specs.List.{flat_map}
use Rattle.packing_terms.specs.declared.Exclusion.{Exclusion}
use Rattle.packing_terms.specs.Packing.{PlainInstance}
use Rattle.packing_terms.specs.Rules.{Rule}
use Rattle.packing_terms.specs.Tokens.{PlainToken}
use Rattle.verdict_terms.specs.Steps.{PlainStep, lines_of, tokens_among}
use Rattle.verdict_terms.specs.Explaining.{IsStep, after_rule, Explains}

-- the rules lead from the first list to the second, each by a step
abbrev pub StepsTo : PlainInstance → List Exclusion → List Rule → List Exclusion → Type 0
StepsTo instance es [] fs = es ≡ fs
StepsTo instance es (rule ∷ rules) fs = IsStep instance es rule × StepsTo instance (after_rule es rule) rules fs

-- their lines
abbrev pub lines_of_all : List Rule → List PlainStep
lines_of_all rules = flat_map lines_of rules

-- lines that explain the instance under the exclusions, in which these tokens stand among the steps
pub record IsExplained (instance : PlainInstance) (es : List Exclusion) (tokens : List PlainToken) : Type 0 where
  pub lines : List PlainStep
  pub explained : Explains instance es lines
  pub same : tokens_among lines ≡ tokens
