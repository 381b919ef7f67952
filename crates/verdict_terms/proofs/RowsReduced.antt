-- Reduced documents and the verdict on each, computed from the definitions.
use Rattle.std.proofs.Common.{◌≡◌, refl, codes, [], ◌∷◌, Ok, Err}
use Rattle.std.specs.Fmt.{decimal}
use Rattle.text_terms.specs.Lines.{number_of, same_bytes}
use Rattle.verdict_terms.specs.declared.check_answers.RefuseCode.TheVariants.{Choice, Conflict}
use Rattle.text_terms.specs.declared.claim.Claim.TheVariants.{Fitting, NotFitting, LeastHeight, NoHeight}
use Rattle.text_terms.specs.TokenLines.{token_of}
use Rattle.verdict_terms.specs.Reasons.{form}
use Rattle.verdict_terms.specs.declared.reason.Reason.TheVariants.{Token, NoClaim, OverlapAt, TooShort}
use Rattle.verdict_terms.specs.Results.{claim_of}
use Rattle.verdict_terms.specs.Documents.{headed_verdict, document_verdict, reduced_verdict, reduced_verdict_words}
use Rattle.verdict_terms.specs.Documents.{reduced_verdict_line}

four_written : reduced_verdict
    (codes "reduced fit\nformat 1\ncontainer 10 10\nbox 3 6\nbox 3 6\nbox 3 6\nbox 3 6\nresult no\nx\nend\n")
    ≡ Ok NotFitting
unfolding headed_verdict number_of same_bytes token_of claim_of
four_written = refl

four_line : reduced_verdict_line
    (reduced_verdict (codes
    "reduced fit\nformat 1\ncontainer 10 10\nbox 3 6\nbox 3 6\nbox 3 6\nbox 3 6\nresult no\nx\nend\n"))
    ≡ codes "verified reduced fit no\n"
unfolding headed_verdict number_of same_bytes token_of claim_of
four_line = refl

-- `check` reads no such document, and no document of `fit` is a reduced one
four_checked : document_verdict
    (codes "reduced fit\nformat 1\ncontainer 10 10\nbox 3 6\nbox 3 6\nbox 3 6\nbox 3 6\nresult no\nx\nend\n")
    ≡ Err (record { line = 1; reason = form })
unfolding headed_verdict number_of same_bytes token_of claim_of
four_checked = refl

four_plain : reduced_verdict (codes
    "answer fit\nformat 1\ncontainer 10 10\nbox 3 6\nbox 3 6\nbox 3 6\nbox 3 6\nresult no\nv id step 1\nend\n")
    ≡ Err (record { line = 1; reason = form })
unfolding headed_verdict number_of same_bytes token_of claim_of
four_plain = refl

-- the split of the tree without facts isn't open under them
four_choice : reduced_verdict (codes
    "reduced fit\nformat 1\ncontainer 10 10\nbox 3 6\nbox 3 6\nbox 3 6\nbox 3 6\nresult no\nd 1 1 2\nx\nx\nend\n")
    ≡ Err (record { line = 9; reason = Token Choice })
unfolding headed_verdict number_of same_bytes token_of claim_of
four_choice = refl

three_conflict : reduced_verdict
    (codes "reduced fit\nformat 1\ncontainer 10 10\nbox 3 6\nbox 3 6\nbox 3 6\nresult no\nx\nend\n")
    ≡ Err (record { line = 8; reason = Token Conflict })
unfolding headed_verdict number_of same_bytes token_of claim_of
three_conflict = refl

two_yes : reduced_verdict (codes
    "reduced fit\n\nformat 1\ncontainer 10 10\nbox 6 4\nbox 6 6\nresult yes\nplace 0 0\nplace 0 4\nend\n") ≡ Ok Fitting
unfolding headed_verdict number_of same_bytes token_of claim_of
two_yes = refl

two_overlap : reduced_verdict (codes
    "reduced fit\nformat 1\ncontainer 10 10\nbox 6 4\nbox 6 6\nresult yes\nplace 0 0\nplace 0 3\nend\n")
    ≡ Err (record { line = 8; reason = OverlapAt 1 2 })
unfolding headed_verdict number_of same_bytes token_of claim_of
two_overlap = refl

undecided : reduced_verdict (codes "reduced fit\nformat 1\ncontainer 10 10\nbox 6 4\nbox 6 6\nresult undecided\nend\n")
    ≡ Err (record { line = 6; reason = NoClaim })
unfolding headed_verdict number_of same_bytes token_of claim_of
undecided = refl

short : reduced_verdict (codes "reduced fit\nformat 1\ncontainer 10 10\nbox 3 6\nresult no\n")
    ≡ Err (record { line = 6; reason = TooShort })
unfolding headed_verdict number_of same_bytes token_of claim_of
short = refl

-- a strip: under the facts no row takes four, and two rows are higher than 11
strip_least : reduced_verdict (codes
    "reduced strip\nformat 1\ncontainer 10 1\nbox 3 6\nbox 3 6\nbox 3 6\nbox 3 6\nresult least 12\nplace 0 0\nplace 3 0\nplace 6 0\nplace 0 6\nproof\nx\nend\n") ≡ Ok (LeastHeight 12)
unfolding headed_verdict number_of same_bytes token_of claim_of
strip_least = refl

strip_words : reduced_verdict_words
    (reduced_verdict (codes
    "reduced strip\nformat 1\ncontainer 10 1\nbox 3 6\nbox 3 6\nbox 3 6\nbox 3 6\nresult least 12\nplace 0 0\nplace 3 0\nplace 6 0\nplace 0 6\nproof\nx\nend\n")) ≡ codes "verified" ∷ codes "reduced" ∷ codes "strip" ∷ codes "least" ∷ decimal 12 ∷ []
unfolding headed_verdict number_of same_bytes token_of claim_of
strip_words = refl

-- `check` reads no such document, and without the facts the rules alone don't refute that height
strip_checked : document_verdict
    (codes "reduced strip\nformat 1\ncontainer 10 1\nbox 3 6\nbox 3 6\nbox 3 6\nbox 3 6\nresult least 12\nplace 0 0\nplace 3 0\nplace 6 0\nplace 0 6\nproof\nx\nend\n") ≡ Err (record { line = 1; reason = form })
unfolding headed_verdict number_of same_bytes token_of claim_of
strip_checked = refl

strip_plain : document_verdict
    (codes "answer strip\nformat 1\ncontainer 10 1\nbox 3 6\nbox 3 6\nbox 3 6\nbox 3 6\nresult least 12\nplace 0 0\nplace 3 0\nplace 6 0\nplace 0 6\nproof\nx\nend\n") ≡ Err (record { line = 14; reason = Token Conflict })
unfolding headed_verdict number_of same_bytes token_of claim_of
strip_plain = refl

strip_overlap : reduced_verdict
    (codes "reduced strip\nformat 1\ncontainer 10 1\nbox 3 6\nbox 3 6\nbox 3 6\nbox 3 6\nresult least 12\nplace 0 0\nplace 3 0\nplace 6 0\nplace 0 5\nproof\nx\nend\n") ≡ Err (record { line = 12; reason = OverlapAt 1 4 })
unfolding headed_verdict number_of same_bytes token_of claim_of
strip_overlap = refl

strip_none : reduced_verdict (codes "reduced strip\nformat 1\ncontainer 10 1\nbox 11 2\nresult none\nt 1 1\nend\n")
    ≡ Ok NoHeight
unfolding headed_verdict number_of same_bytes token_of claim_of
strip_none = refl

-- no reduced document is of bins or a knapsack
bins : reduced_verdict (codes "reduced bins\nformat 1\ncontainer 10 10\nbox 3 6\nresult least 1\n")
    ≡ Err (record { line = 1; reason = form })
unfolding headed_verdict number_of same_bytes token_of claim_of
bins = refl

knapsack : reduced_verdict (codes "reduced knapsack\nformat 1\ncontainer 10 10\nbox 3 6\nresult greatest 1\n")
    ≡ Err (record { line = 1; reason = form })
unfolding headed_verdict number_of same_bytes token_of claim_of
knapsack = refl
