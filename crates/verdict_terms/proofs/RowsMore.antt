-- More documents and the verdict on each, computed from the definitions: faults of the instance,
-- kerfs, repeats, bins, scales.
use Rattle.std.proofs.Common.{◌≡◌, refl, codes, Ok, Err}
use Rattle.text_terms.specs.Lines.{number_of, same_bytes}
use Rattle.verdict_terms.specs.declared.check_answers.RefuseCode.TheVariants.{Choice, Conflict, Excess, «Set»}
use Rattle.text_terms.specs.declared.claim.Claim.TheVariants.{Fitting, NotFitting, LeastHeight, LeastBins}
use Rattle.text_terms.specs.declared.claim.Claim.TheVariants.{BinsBetween, NoBins, GreatestValue}
use Rattle.text_terms.specs.TokenLines.{token_of}
use Rattle.verdict_terms.specs.Reasons.{form, range, after}
use Rattle.verdict_terms.specs.declared.reason.Reason.TheVariants.{Text, Token, OutsideAt, OverlapAt}
use Rattle.verdict_terms.specs.Results.{claim_of}
use Rattle.verdict_terms.specs.Documents.{headed_verdict, document_verdict}

text_1 : document_verdict (codes "answer fit\nformat 1\ncontainer 5 5\ncrate 1 1\nresult yes\n")
    ≡ Err (record { line = 4; reason = Text 1 })
unfolding headed_verdict number_of same_bytes token_of claim_of
text_1 = refl

text_2 : document_verdict (codes "answer fit\nformat 1\ncontainer 5 5\nbox 1\nresult yes\n")
    ≡ Err (record { line = 4; reason = Text 2 })
unfolding headed_verdict number_of same_bytes token_of claim_of
text_2 = refl

text_3 : document_verdict (codes "answer fit\nformat 1\ncontainer 5 5\nbox 1 x\nresult yes\n")
    ≡ Err (record { line = 4; reason = Text 3 })
unfolding headed_verdict number_of same_bytes token_of claim_of
text_3 = refl

text_5 : document_verdict (codes "answer fit\nformat 1\nbox 1 1\nresult yes\n")
    ≡ Err (record { line = 3; reason = Text 5 })
unfolding headed_verdict number_of same_bytes token_of claim_of
text_5 = refl

text_6 : document_verdict (codes "answer fit\nformat 1\nformat 1\nresult yes\n")
    ≡ Err (record { line = 3; reason = Text 6 })
unfolding headed_verdict number_of same_bytes token_of claim_of
text_6 = refl

text_7 : document_verdict (codes "answer fit\nformat 1\nresult maybe\n") ≡ Err (record { line = 3; reason = Text 7 })
unfolding headed_verdict number_of same_bytes token_of claim_of
text_7 = refl

text_8 : document_verdict (codes "answer fit\nformat 1\n\u{1}\nresult yes\n")
    ≡ Err (record { line = 3; reason = Text 8 })
unfolding headed_verdict number_of same_bytes token_of claim_of
text_8 = refl

text_9 : document_verdict (codes "answer bins\nformat 2\ncontainer 5 5\nbox 1 1 times 128\nbox 1 1\nresult none\n")
    ≡ Err (record { line = 5; reason = Text 9 })
unfolding headed_verdict number_of same_bytes token_of claim_of
text_9 = refl

text_9_times : document_verdict
    (codes "answer bins\nformat 2\ncontainer 5 5\nbox 1 1 times 100\nbox 1 1 times 29\nresult none\n")
    ≡ Err (record { line = 5; reason = Text 9 })
unfolding headed_verdict number_of same_bytes token_of claim_of
text_9_times = refl

kerf : document_verdict (codes
    "answer fit\nformat 2\ncontainer 10 10\nkerf 2 0\nbox 4 10 times 2\nresult yes\nplace 0 0\nplace 6 0\nend\n")
    ≡ Ok Fitting
unfolding headed_verdict number_of same_bytes token_of claim_of
kerf = refl

kerf_near : document_verdict (codes
    "answer fit\nformat 2\ncontainer 10 10\nkerf 2 0\nbox 4 10 times 2\nresult yes\nplace 0 0\nplace 5 0\nend\n")
    ≡ Err (record { line = 8; reason = OverlapAt 1 2 })
unfolding headed_verdict number_of same_bytes token_of claim_of
kerf_near = refl

kerf_outside : document_verdict
    (codes "answer fit\nformat 2\ncontainer 10 10\nkerf 2 0\nbox 4 10 times 2\nresult yes\nplace 0 0\nplace 7 0\nend\n")
    ≡ Err (record { line = 8; reason = OutsideAt 2 1 })
unfolding headed_verdict number_of same_bytes token_of claim_of
kerf_outside = refl

kerf_no : document_verdict (codes
    "answer fit\nformat 2\ncontainer 10 10\nkerf 1 1\nbox 5 5\nbox 5 5\nresult no\nx\nend\n") ≡ Ok NotFitting
unfolding headed_verdict number_of same_bytes token_of claim_of
kerf_no = refl

kerf_strip : document_verdict (codes
    "answer strip\nformat 2\ncontainer 10 1\nkerf 0 1\nbox 10 3 times 2\nresult least 7\nplace 0 0\nplace 0 4\nproof\nx\nend\n") ≡ Ok (LeastHeight 7)
unfolding headed_verdict number_of same_bytes token_of claim_of
kerf_strip = refl

kerf_strip_near : document_verdict
    (codes "answer strip\nformat 2\ncontainer 10 1\nkerf 0 1\nbox 10 3 times 2\nresult least 7\nplace 0 0\nplace 0 3\nproof\nx\nend\n") ≡ Err (record { line = 8; reason = OverlapAt 1 2 })
unfolding headed_verdict number_of same_bytes token_of claim_of
kerf_strip_near = refl

kerf_bins : document_verdict (codes
    "answer bins\nformat 2\ncontainer 10 10\nkerf 1 1\nbox 5 5 times 2\nresult least 2\nplace 1 0 0\nplace 2 0 0\nproof\ns 1\nend\n") ≡ Err (record { line = 10; reason = Token «Set» })
unfolding headed_verdict number_of same_bytes token_of claim_of
kerf_bins = refl

kerf_bins_least : document_verdict
    (codes "answer bins\nformat 2\ncontainer 10 10\nkerf 1 1\nbox 5 5 times 2\nresult least 2\nplace 1 0 0\nplace 2 0 0\nproof\nb 1\nb 2\ns 1\nx\nend\n") ≡ Ok (LeastBins 2)
unfolding headed_verdict number_of same_bytes token_of claim_of
kerf_bins_least = refl

kerf_knapsack : document_verdict
    (codes "answer knapsack\nformat 2\ncontainer 10 10\nkerf 1 1\nbox 5 5 value 2 times 2\nresult greatest 2\ntake 2 0 0\nproof\nc 1\nc 2\ns\nx\nw\nw\nend\n") ≡ Ok (GreatestValue 2)
unfolding headed_verdict number_of same_bytes token_of claim_of
kerf_knapsack = refl

kerf_in_format_1 : document_verdict (codes "answer fit\nformat 1\ncontainer 10 10\nkerf 1 1\nbox 5 5\nresult yes\n")
    ≡ Err (record { line = 4; reason = Text 1 })
unfolding headed_verdict number_of same_bytes token_of claim_of
kerf_in_format_1 = refl

bins_none : document_verdict (codes
    "answer bins\nformat 1\ncontainer 10 10\nbox 2 11\nresult none\nt 1 2\nend\n") ≡ Ok NoBins
unfolding headed_verdict number_of same_bytes token_of claim_of
bins_none = refl

bins_between : document_verdict
    (codes "answer bins\nformat 1\ncontainer 10 10\nbox 10 5\nbox 10 5\nbox 10 5\nresult between 1 3\nplace 1 0 0\nplace 2 0 0\nplace 3 0 0\nproof\ng id id\nend\n") ≡ Ok (BinsBetween 1 3)
unfolding headed_verdict number_of same_bytes token_of claim_of
bins_between = refl

strip_high : document_verdict (codes
    "answer strip\nformat 1\ncontainer 10 1\nbox 6 3\nresult least 128000000\nplace 0 0\nproof\nx\nend\n")
    ≡ Err (record { line = 8; reason = Token Conflict })
unfolding headed_verdict number_of same_bytes token_of claim_of
strip_high = refl

bad_byte_in_places : document_verdict
    (codes "answer fit\nformat 1\ncontainer 10 10\nbox 6 4\nbox 6 6\nresult yes\nplace 0 0\nplace 0 \u{1}4\nend\n")
    ≡ Err (record { line = 8; reason = form })
unfolding headed_verdict number_of same_bytes token_of claim_of
bad_byte_in_places = refl

bad_byte_behind_end : document_verdict
    (codes "answer fit\nformat 1\ncontainer 10 10\nbox 6 4\nbox 6 6\nresult yes\nplace 0 0\nplace 0 4\nend\n\u{1}\n")
    ≡ Err (record { line = 10; reason = after })
unfolding headed_verdict number_of same_bytes token_of claim_of
bad_byte_behind_end = refl

bad_byte_in_comment : document_verdict
    (codes "answer fit\nformat 1\ncontainer 10 10\nbox 6 4\nbox 6 6\nresult yes\nplace 0 0\nplace 0 4 # \u{1}\nend\n")
    ≡ Ok Fitting
unfolding headed_verdict number_of same_bytes token_of claim_of
bad_byte_in_comment = refl

two_carriage_returns : document_verdict
    (codes "answer fit\nformat 1\ncontainer 10 10\nbox 6 4\nbox 6 6\nresult yes\nplace 0 0\nplace 0 4\r\r\nend\n")
    ≡ Err (record { line = 8; reason = form })
unfolding headed_verdict number_of same_bytes token_of claim_of
two_carriage_returns = refl

hash_in_word : document_verdict
    (codes "answer fit\nformat 1\ncontainer 10 10\nbox 6 4\nbox 6 6\nresult yes\nplace 0 0\nplace 0 4#5\nend\n")
    ≡ Ok Fitting
unfolding headed_verdict number_of same_bytes token_of claim_of
hash_in_word = refl

second_answer : document_verdict
    (codes "answer fit\nanswer fit\nformat 1\ncontainer 10 10\nbox 6 4\nbox 6 6\nresult yes\nplace 0 0\nplace 0 4\nend\n")
    ≡ Err (record { line = 2; reason = Text 1 })
unfolding headed_verdict number_of same_bytes token_of claim_of
second_answer = refl

result_without_answer : document_verdict (codes "result yes\n") ≡ Err (record { line = 1; reason = form })
unfolding headed_verdict number_of same_bytes token_of claim_of
result_without_answer = refl

overlap_in_second_bin : document_verdict
    (codes "answer bins\nformat 1\ncontainer 10 10\nbox 6 6\nbox 6 6\nbox 6 6\nresult least 2\nplace 1 0 0\nplace 2 0 0\nplace 2 4 4\nproof\ng id id\nend\n") ≡ Err (record { line = 10; reason = OverlapAt 2 3 })
unfolding headed_verdict number_of same_bytes token_of claim_of
overlap_in_second_bin = refl

taken_outside : document_verdict
    (codes "answer knapsack\nformat 1\ncontainer 10 10\nbox 6 6 value 5\nbox 6 6 value 4\nbox 4 4 value 3\nresult greatest 8\ntake 1 0 0\ntake 3 7 0\nproof\nw\nend\n") ≡ Err (record { line = 10; reason = OutsideAt 3 1 })
unfolding headed_verdict number_of same_bytes token_of claim_of
taken_outside = refl

three_dimensions : document_verdict
    (codes "answer fit\nformat 1\ncontainer 2 2 2\nbox 2 2 1\nbox 2 2 1\nresult yes\nplace 0 0 0\nplace 0 0 1\nend\n")
    ≡ Ok Fitting
unfolding headed_verdict number_of same_bytes token_of claim_of
three_dimensions = refl

scales_of_a_set : document_verdict
    (codes "answer bins\nformat 1\ncontainer 10 10\nbox 6 6\nbox 6 6\nresult least 2\nplace 1 0 0\nplace 2 0 0\nproof\nb 1\nb 2\ns 1\nv step 1 id\nend\n") ≡ Ok (LeastBins 2)
unfolding headed_verdict number_of same_bytes token_of claim_of
scales_of_a_set = refl

scale_for_copies : document_verdict
    (codes "answer bins\nformat 1\ncontainer 10 10\nbox 10 5\nbox 10 5\nbox 10 5\nresult least 3\nplace 1 0 0\nplace 2 0 0\nplace 3 0 0\nproof\ng id id\nend\n") ≡ Err (record { line = 12; reason = Token Excess })
unfolding headed_verdict number_of same_bytes token_of claim_of
scale_for_copies = refl

scale_illegal : document_verdict
    (codes "answer fit\nformat 1\ncontainer 10 10\nbox 6 6\nbox 6 6\nresult no\nv step 17 id\nend\n")
    ≡ Err (record { line = 7; reason = range })
unfolding headed_verdict number_of same_bytes token_of claim_of
scale_illegal = refl

step_0 : document_verdict (codes
    "answer fit\nformat 1\ncontainer 10 10\nbox 6 6\nbox 6 6\nresult no\nv step 0 id\nend\n")
    ≡ Err (record { line = 7; reason = range })
unfolding headed_verdict number_of same_bytes token_of claim_of
step_0 = refl

order_where_overlap_is_open : document_verdict
    (codes "answer fit\nformat 1\ncontainer 10 10\nbox 3 6\nbox 6 6\nbox 3 3\nresult no\nd 1 1 3\nx\nx\nend\n")
    ≡ Err (record { line = 8; reason = Token Choice })
unfolding headed_verdict number_of same_bytes token_of claim_of
order_where_overlap_is_open = refl
