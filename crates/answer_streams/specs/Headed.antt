-- The documents of `fit` and `strip`, by what their trees begin with.
use Rattle.std.specs.Prelude.{ℕ, List, [], codes}
use Rattle.packing_terms.specs.declared.Exclusion.{Exclusion}
use Rattle.packing_terms.specs.Packing.{PlainInstance}
use Rattle.answer_streams.specs.declared.tree_start.TreeStart.{TreeStart}
use Rattle.answer_streams.specs.declared.tree_start.TreeStart.TheVariants.{Nothing, Facts}
use Rattle.packing_terms.specs.Facts.{symmetry_facts}
use Rattle.answer_terms.specs.Answers.{Answer, answer_text}
use Rattle.answer_terms.specs.Reduced.{reduced_text}

-- the exclusions that a tree begins with
abbrev pub start_facts : TreeStart → PlainInstance → List Exclusion
start_facts Nothing instance = []
start_facts Facts instance = symmetry_facts instance

-- the first line of a document of `fit`
abbrev pub first_line : TreeStart → List ℕ
first_line Nothing = codes "answer fit\n"
first_line Facts = codes "reduced fit\n"

-- the same of `strip`
abbrev pub strip_line : TreeStart → List ℕ
strip_line Nothing = codes "answer strip\n"
strip_line Facts = codes "reduced strip\n"

-- the document of an answer, or of one from the symmetry facts on
abbrev pub headed_text : TreeStart → PlainInstance → Answer → List ℕ
headed_text Nothing instance answer = answer_text instance answer
headed_text Facts instance answer = reduced_text instance answer
