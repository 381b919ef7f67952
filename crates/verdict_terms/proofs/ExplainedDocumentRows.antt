-- The verdict on small documents, computed.
use Rattle.std.proofs.Common.{◌≡◌, ℕ, refl, List, [], ◌∷◌, ◌++◌, Ok, Err, codes}
use Rattle.packing_terms.specs.Packing.{PlainInstance, PlainBox}
use Rattle.text_terms.specs.Lines.{number_of, same_bytes}
use Rattle.text_terms.specs.TokenLines.{token_of}
use Rattle.verdict_terms.specs.declared.explained_answers.AuditCode.TheVariants.{Range, Step, Choice, Conflict, Side}
use Rattle.verdict_terms.specs.StepLines.{step_of}
use Rattle.verdict_terms.specs.declared.explained_reason.ExplainedReason.TheVariants.{Text, Line, TooShort}
use Rattle.verdict_terms.specs.declared.kind.DocumentKind.TheVariants.{Explained, Bounded, Reduced}
use Rattle.verdict_terms.specs.Kinds.{document_kind}
use Rattle.verdict_terms.specs.ExplainedStages.{form, after}
use Rattle.verdict_terms.specs.ExplainedDocuments.{explained_verdict, explained_line}

-- two boxes that are too long together in both dimensions
abbrev square : PlainBox
square = record { sides = 6 ∷ 6 ∷ []; value = 1 }

abbrev squares : PlainInstance
squares = record { container = 10 ∷ 10 ∷ []; kerfs = 0 ∷ 0 ∷ []; boxes = square ∷ square ∷ [] }

abbrev head : List ℕ
head = codes "explained fit\nformat 1\ncontainer 10 10\nbox 6 6\nbox 6 6\nresult no\n"

both_pairs : explained_verdict (head ++ codes "pair 1 1 2\npair 2 1 2\napart 1 1 2\nx 1 1 2\nend\n") ≡ Ok squares
unfolding explained_verdict number_of same_bytes step_of token_of
both_pairs = refl

one_pair : explained_verdict (head ++ codes "pair 1 1 2\napart 1 1 2\nx 1 1 2\nend\n")
    ≡ Err (record { line = 8; reason = Line Step })
unfolding explained_verdict number_of same_bytes step_of token_of
one_pair = refl

no_step : explained_verdict (head ++ codes "x 1 1 2\nend\n") ≡ Err (record { line = 7; reason = Line Conflict })
unfolding explained_verdict number_of same_bytes step_of token_of
no_step = refl

split_too_late : explained_verdict (head ++ codes "pair 1 1 2\na 1 1 2\nend\n")
    ≡ Err (record { line = 8; reason = Line Choice })
unfolding explained_verdict number_of same_bytes step_of token_of
split_too_late = refl

falling : explained_verdict (head ++ codes "x 1 2 1\nend\n") ≡ Err (record { line = 7; reason = Line Range })
unfolding explained_verdict number_of same_bytes step_of token_of
falling = refl

plain_conflict : explained_verdict (head ++ codes "x\nend\n") ≡ Err (record { line = 7; reason = form })
unfolding explained_verdict number_of same_bytes step_of token_of
plain_conflict = refl

ends_in_tree : explained_verdict (head ++ codes "pair 1 1 2\nend\n") ≡ Err (record { line = 8; reason = TooShort })
unfolding explained_verdict number_of same_bytes step_of token_of
ends_in_tree = refl

ends_before : explained_verdict (head ++ codes "pair 1 1 2\n") ≡ Err (record { line = 8; reason = TooShort })
unfolding explained_verdict number_of same_bytes step_of token_of
ends_before = refl

box_that_fits : explained_verdict (head ++ codes "t 1 1\npair 1 1 2\nend\n")
    ≡ Err (record { line = 7; reason = Line Side })
unfolding explained_verdict number_of same_bytes step_of token_of
box_that_fits = refl

tree_behind : explained_verdict (head ++ codes "pair 1 1 2\npair 2 1 2\napart 1 1 2\nx 1 1 2\nx 1 1 2\nend\n")
    ≡ Err (record { line = 11; reason = after })
unfolding explained_verdict number_of same_bytes step_of token_of
tree_behind = refl

outer_behind : explained_verdict (head ++ codes "pair 1 1 2\npair 2 1 2\napart 1 1 2\nx 1 1 2\nw\nend\n")
    ≡ Err (record { line = 11; reason = form })
unfolding explained_verdict number_of same_bytes step_of token_of
outer_behind = refl

behind_end : explained_verdict (head ++ codes "pair 1 1 2\npair 2 1 2\napart 1 1 2\nx 1 1 2\nend\n\nend\n")
    ≡ Err (record { line = 13; reason = after })
unfolding explained_verdict number_of same_bytes step_of token_of
behind_end = refl

wide_tuple : explained_verdict (head ++ codes "v id\nend\n") ≡ Err (record { line = 7; reason = form })
unfolding explained_verdict number_of same_bytes step_of token_of
wide_tuple = refl

chain_of_form : explained_verdict (head ++ codes "chain 1 1 1\nx 1 1 2\nend\n")
    ≡ Err (record { line = 8; reason = form })
unfolding explained_verdict number_of same_bytes step_of token_of
chain_of_form = refl

chain_of_one_box : explained_verdict (head ++ codes "chain 1 1 1\non 1\non 1\nend\n")
    ≡ Err (record { line = 9; reason = Line Step })
unfolding explained_verdict number_of same_bytes step_of token_of
chain_of_one_box = refl

another_job : explained_verdict (codes "explained strip\nformat 1\n") ≡ Err (record { line = 1; reason = form })
unfolding explained_verdict number_of same_bytes step_of token_of
another_job = refl

another_kind : explained_verdict (codes "answer fit\nformat 1\n") ≡ Err (record { line = 1; reason = form })
unfolding explained_verdict number_of same_bytes step_of token_of
another_kind = refl

yes : explained_verdict (codes "explained fit\nformat 1\ncontainer 10 10\nbox 6 6\nbox 6 6\nresult yes\nend\n")
    ≡ Err (record { line = 6; reason = form })
unfolding explained_verdict number_of same_bytes step_of token_of
yes = refl

no_box : explained_verdict (codes "explained fit\nformat 1\ncontainer 10 10\nresult no\nend\n")
    ≡ Err (record { line = 4; reason = Text 10 })
unfolding explained_verdict number_of same_bytes step_of token_of
no_box = refl

no_box_first : explained_verdict (codes "explained fit\nformat 1\ncontainer 10 10\nresult yes\nend\n")
    ≡ Err (record { line = 4; reason = Text 10 })
unfolding explained_verdict number_of same_bytes step_of token_of
no_box_first = refl

short_box : explained_verdict (codes "explained fit\nformat 1\ncontainer 10 10\nbox 6\nresult no\n")
    ≡ Err (record { line = 4; reason = Text 2 })
unfolding explained_verdict number_of same_bytes step_of token_of
short_box = refl

empty : explained_verdict (codes "") ≡ Err (record { line = 1; reason = TooShort })
unfolding explained_verdict number_of same_bytes step_of token_of
empty = refl

verified_line : explained_line (Ok squares) ≡ codes "verified explained fit no\n"
verified_line = refl

-- ---- the kind

explained_kind : document_kind (codes "# a comment\n\n explained  fit\nformat 1\n") ≡ Explained
unfolding same_bytes
explained_kind = refl

reduced_kind : document_kind (codes "reduced fit\n") ≡ Reduced
unfolding same_bytes
reduced_kind = refl

other_kind : document_kind (codes "explained bins\n") ≡ Reduced
unfolding same_bytes
other_kind = refl

bounded_kind : document_kind (codes "\nbounded knapsack\n") ≡ Bounded
unfolding same_bytes
bounded_kind = refl

bounded_strip : document_kind (codes "# a strip\nbounded strip\n") ≡ Bounded
unfolding same_bytes
bounded_strip = refl

bounded_bins : document_kind (codes "bounded bins\n") ≡ Reduced
unfolding same_bytes
bounded_bins = refl

no_kind : document_kind (codes "") ≡ Reduced
unfolding same_bytes
no_kind = refl
