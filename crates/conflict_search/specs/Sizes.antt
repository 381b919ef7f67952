-- What is promised of a proposal.
use Rattle.std.specs.Prelude.{◌≡◌, ◌*◌, length}
use Rattle.packing_terms.specs.Packing.{PlainInstance, dims, box_count}
use Rattle.conflict_search.specs.declared.proposal.Proposal.{Proposal}
use Rattle.conflict_search.specs.declared.proposal.Proposal.TheVariants.{Places, Tokens, Nothing}

-- of places that there is one coordinate for each box and dimension, and of anything else nothing
abbrev pub IsSized : PlainInstance → Proposal → Type 0
IsSized instance (Places places) = length places.items ≡ box_count instance * dims instance
IsSized instance (Tokens tokens) = Unit {0}
IsSized instance Nothing = Unit {0}
