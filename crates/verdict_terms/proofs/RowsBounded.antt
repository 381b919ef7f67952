-- Bounded documents and the verdict on each, computed from the definitions.
use Rattle.std.proofs.Common.{◌≡◌, refl, codes, [], ◌∷◌, Ok, Err}
use Rattle.std.specs.Fmt.{decimal}
use Rattle.text_terms.specs.Lines.{number_of, same_bytes}
use Rattle.verdict_terms.specs.declared.check_answers.RefuseCode.TheVariants.{Excess, After}
use Rattle.text_terms.specs.declared.claim.Claim.TheVariants.{GreatestValue}
use Rattle.text_terms.specs.TokenLines.{token_of}
use Rattle.verdict_terms.specs.BoundedLines.{bounded_token_of}
use Rattle.verdict_terms.specs.Reasons.{form}
use Rattle.verdict_terms.specs.declared.reason.Reason.TheVariants.{Token, TooShort}
use Rattle.verdict_terms.specs.Results.{claim_of}
use Rattle.verdict_terms.specs.Documents.{headed_verdict, document_verdict, bounded_verdict, bounded_verdict_words}

-- four squares, of which one fits: two are never in
one_square : bounded_verdict (codes
    "bounded knapsack\nformat 1\ncontainer 10 10\nbox 6 6 value 5\nbox 6 6 value 5\nbox 6 6 value 5\nresult greatest 5\ntake 1 0 0\nproof\nu 1000000000 5 step 1 step 1\nend\n")
    ≡ Ok (GreatestValue 5)
unfolding headed_verdict number_of same_bytes token_of bounded_token_of claim_of
one_square = refl

one_told : bounded_verdict_words (Ok (GreatestValue 5))
    ≡ codes "verified" ∷ codes "bounded" ∷ codes "knapsack" ∷ codes "greatest" ∷ decimal 5 ∷ []
one_told = refl

-- by the sides alone up to 2 squares of 36 % are in
by_sides : bounded_verdict (codes
    "bounded knapsack\nformat 1\ncontainer 10 10\nbox 6 6 value 5\nbox 6 6 value 5\nbox 6 6 value 5\nresult greatest 5\ntake 1 0 0\nproof\nu 1000000000 5 id id\nend\n")
    ≡ Err (record { line = 10; reason = Token Excess })
unfolding headed_verdict number_of same_bytes token_of bounded_token_of claim_of
by_sides = refl

-- `check` reads no such document, and no answer has such a line
checked : document_verdict (codes "bounded knapsack\nformat 1\n") ≡ Err (record { line = 1; reason = form })
unfolding headed_verdict number_of same_bytes token_of claim_of
checked = refl

answered : document_verdict (codes
    "answer knapsack\nformat 1\ncontainer 10 10\nbox 6 6 value 5\nbox 6 6 value 5\nbox 6 6 value 5\nresult greatest 5\ntake 1 0 0\nproof\nu 1000000000 5 step 1 step 1\nend\n")
    ≡ Err (record { line = 10; reason = form })
unfolding headed_verdict number_of same_bytes token_of bounded_token_of claim_of
answered = refl

-- another job, an end too early, a token too late
of_fit : bounded_verdict (codes "bounded fit\n") ≡ Err (record { line = 1; reason = form })
unfolding headed_verdict number_of same_bytes token_of claim_of
of_fit = refl

too_early : bounded_verdict (codes
    "bounded knapsack\nformat 1\ncontainer 10 10\nbox 6 6 value 5\nresult between 5 9\ntake 1 0 0\nproof\nend\n")
    ≡ Err (record { line = 8; reason = TooShort })
unfolding headed_verdict number_of same_bytes token_of bounded_token_of claim_of
too_early = refl

too_late : bounded_verdict (codes
    "bounded knapsack\nformat 1\ncontainer 10 10\nbox 6 6 value 5\nresult between 5 9\ntake 1 0 0\nproof\nw\nu 1 1 id id\nend\n")
    ≡ Err (record { line = 9; reason = Token After })
unfolding headed_verdict number_of same_bytes token_of bounded_token_of claim_of
too_late = refl
