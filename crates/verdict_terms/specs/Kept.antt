-- What the open nodes keep while lines are accepted: they have room, and a chain begun is one.
use Rattle.std.specs.Prelude.{ℕ, ◌+◌, ◌<◌, ◌≤◌, List, [], ◌∷◌, length, Option, Some, None}
use Rattle.packing_terms.specs.declared.Exclusion.{Exclusion}
use Rattle.packing_terms.specs.Packing.{PlainInstance, dims, box_count}
use Rattle.packing_terms.specs.Exclusions.{excludes, relation_count}
use Rattle.packing_terms.specs.Rules.{AreBoxes, IsChain}
use Rattle.packing_terms.specs.Steps.{open_count}
use Rattle.verdict_terms.specs.ExplainedJudging.{BegunChain, AuditNode}

-- how many relations the list leaves, and how many there are
abbrev pub opens : PlainInstance → List Exclusion → ℕ
opens instance es = open_count (dims instance) (box_count instance) es

abbrev pub all_relations : PlainInstance → ℕ
all_relations instance = relation_count (dims instance) (box_count instance)

-- each open node has room for those behind it
abbrev pub AreFew : PlainInstance → List AuditNode → Type 0
AreFew instance [] = Unit {0}
AreFew instance (n ∷ ns) = (length ns + opens instance n.exclusions ≤ all_relations instance) × AreFew instance ns

-- a chain begun whose boxes are chains so far
pub record IsGrown (instance : PlainInstance) (es : List Exclusion) (c : BegunChain) : Type 0 where
  pub dim : c.dim < dims instance
  pub few_before : length c.before ≤ c.first
  pub some_first : 1 ≤ c.first
  pub some_second : 1 ≤ c.second
  pub boxes_before : AreBoxes instance c.before
  pub boxes_after : AreBoxes instance c.after
  pub chain_before : IsChain (excludes es) c.dim c.before
  pub chain_after : IsChain (excludes es) c.dim c.after

abbrev pub IsSoundAt : PlainInstance → List Exclusion → Option BegunChain → Type 0
IsSoundAt instance es None = Unit {0}
IsSoundAt instance es (Some c) = IsGrown instance es c

abbrev pub AreSound : PlainInstance → List AuditNode → Type 0
AreSound instance [] = Unit {0}
AreSound instance (n ∷ ns) = IsSoundAt instance n.exclusions n.chain × AreSound instance ns
