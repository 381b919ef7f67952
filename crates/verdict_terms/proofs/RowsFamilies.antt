-- Bounded documents of strips and the verdict on each, computed from the definitions.
use Rattle.std.proofs.Common.{◌≡◌, refl, codes, [], ◌∷◌, Ok, Err}
use Rattle.std.specs.Fmt.{decimal}
use Rattle.text_terms.specs.Lines.{number_of, same_bytes}
use Rattle.verdict_terms.specs.declared.check_answers.RefuseCode.TheVariants.{Choice, Conflict, Kind, After}
use Rattle.text_terms.specs.declared.claim.Claim.TheVariants.{LeastHeight, HeightBetween, NoHeight}
use Rattle.text_terms.specs.TokenLines.{token_of}
use Rattle.verdict_terms.specs.FamilyLines.{family_token_of}
use Rattle.verdict_terms.specs.Reasons.{form, range}
use Rattle.verdict_terms.specs.declared.reason.Reason.TheVariants.{Token, TooShort}
use Rattle.verdict_terms.specs.Results.{claim_of}
use Rattle.verdict_terms.specs.Documents.{headed_verdict, document_verdict, reduced_verdict, bounded_verdict}
use Rattle.verdict_terms.specs.Documents.{bounded_verdict_words}

-- four boxes, every two of which are too wide to stand beside one another
four_boxes : bounded_verdict (codes
    "bounded strip\nformat 1\ncontainer 10 1\nbox 6 2\nbox 6 2\nbox 6 2\nbox 6 2\nresult least 8\nplace 0 0\nplace 0 2\nplace 0 4\nplace 0 6\nproof\nk 2 1 2 3 4\nend\n")
    ≡ Ok (LeastHeight 8)
unfolding headed_verdict number_of same_bytes token_of family_token_of claim_of
four_boxes = refl

four_told : bounded_verdict_words (Ok (LeastHeight 8))
    ≡ codes "verified" ∷ codes "bounded" ∷ codes "strip" ∷ codes "least" ∷ decimal 8 ∷ []
four_told = refl

-- a family in two lines, and a lower height
in_two_lines : bounded_verdict (codes
    "bounded strip\nformat 1\ncontainer 10 1\nbox 6 2\nbox 6 2\nbox 6 2\nbox 6 2\nresult between 7 9\nplace 0 0\nplace 4 2\nplace 0 5\nplace 0 7\nproof\nk 2 4 2\nk 2 1 3\nend\n")
    ≡ Ok (HeightBetween 7 9)
unfolding headed_verdict number_of same_bytes token_of family_token_of claim_of
in_two_lines = refl

-- a family as long as the side leaves its node open, and the plain rules find no conflict at 7
height_of_all : bounded_verdict (codes
    "bounded strip\nformat 1\ncontainer 10 1\nbox 6 2\nbox 6 2\nbox 6 2\nbox 6 2\nresult between 8 9\nplace 0 0\nplace 0 2\nplace 0 4\nplace 0 6\nproof\nk 2 1 2 3 4\nend\n")
    ≡ Err (record { line = 15; reason = TooShort })
unfolding headed_verdict number_of same_bytes token_of family_token_of claim_of
height_of_all = refl

by_rules : bounded_verdict (codes
    "bounded strip\nformat 1\ncontainer 10 1\nbox 6 2\nbox 6 2\nbox 6 2\nbox 6 2\nresult least 8\nplace 0 0\nplace 0 2\nplace 0 4\nplace 0 6\nproof\nx\nend\n")
    ≡ Err (record { line = 14; reason = Token Conflict })
unfolding headed_verdict number_of same_bytes token_of family_token_of claim_of
by_rules = refl

-- boxes that may stand beside one another, a dimension that isn't there, another token in a family
beside : bounded_verdict (codes
    "bounded strip\nformat 1\ncontainer 10 1\nbox 5 2\nbox 5 2\nresult least 2\nplace 0 0\nplace 5 0\nproof\nk 2 1 2\nend\n")
    ≡ Err (record { line = 10; reason = Token Choice })
unfolding headed_verdict number_of same_bytes token_of family_token_of claim_of
beside = refl

no_dimension : bounded_verdict (codes
    "bounded strip\nformat 1\ncontainer 10 1\nbox 6 2\nbox 6 2\nresult least 4\nplace 0 0\nplace 0 2\nproof\nk 3 1 2\nend\n")
    ≡ Err (record { line = 10; reason = range })
unfolding headed_verdict number_of same_bytes token_of family_token_of claim_of
no_dimension = refl

in_a_family : bounded_verdict (codes
    "bounded strip\nformat 1\ncontainer 10 1\nbox 6 2\nbox 6 2\nbox 6 2\nbox 6 2\nresult least 8\nplace 0 0\nplace 0 2\nplace 0 4\nplace 0 6\nproof\nk 2 1\nx\nend\n")
    ≡ Err (record { line = 15; reason = Token Kind })
unfolding headed_verdict number_of same_bytes token_of family_token_of claim_of
in_a_family = refl

-- a plain tree is one with families; a token behind a whole one comes too late
plain_tree : bounded_verdict (codes
    "bounded strip\nformat 1\ncontainer 10 1\nbox 6 2\nbox 6 2\nresult least 4\nplace 0 0\nplace 0 2\nproof\nx\nend\n")
    ≡ Ok (LeastHeight 4)
unfolding headed_verdict number_of same_bytes token_of family_token_of claim_of
plain_tree = refl

too_late : bounded_verdict (codes
    "bounded strip\nformat 1\ncontainer 10 1\nbox 6 2\nbox 6 2\nresult least 4\nplace 0 0\nplace 0 2\nproof\nx\nk 2 1 2\nend\n")
    ≡ Err (record { line = 11; reason = Token After })
unfolding headed_verdict number_of same_bytes token_of family_token_of claim_of
too_late = refl

-- a strip that is too narrow has no height
narrow : bounded_verdict (codes "bounded strip\nformat 1\ncontainer 5 1\nbox 6 2\nresult none\nt 1 1\nend\n") ≡ Ok NoHeight
unfolding headed_verdict number_of same_bytes token_of family_token_of claim_of
narrow = refl

-- `check` reads no such document, and no answer and no reduced document has such a line
checked : document_verdict (codes "bounded strip\nformat 1\n") ≡ Err (record { line = 1; reason = form })
unfolding headed_verdict number_of same_bytes token_of claim_of
checked = refl

answered : document_verdict (codes
    "answer strip\nformat 1\ncontainer 10 1\nbox 6 2\nbox 6 2\nresult least 4\nplace 0 0\nplace 0 2\nproof\nk 2 1 2\nend\n")
    ≡ Err (record { line = 10; reason = form })
unfolding headed_verdict number_of same_bytes token_of claim_of
answered = refl

reduced : reduced_verdict (codes
    "reduced strip\nformat 1\ncontainer 10 1\nbox 6 2\nbox 6 2\nresult least 4\nplace 0 0\nplace 0 2\nproof\nk 2 1 2\nend\n")
    ≡ Err (record { line = 10; reason = form })
unfolding headed_verdict number_of same_bytes token_of claim_of
reduced = refl
