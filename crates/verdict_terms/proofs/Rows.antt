-- Documents and the verdict on each, computed from the definitions.
use Rattle.std.proofs.Common.{◌≡◌, refl, codes, [], Ok, Err}
use Rattle.text_terms.specs.Lines.{number_of, same_bytes}
use Rattle.verdict_terms.specs.declared.check_answers.RefuseCode.TheVariants.{Choice, Conflict, Side, Value, «Set»}
use Rattle.text_terms.specs.declared.claim.Claim.TheVariants.{Fitting, NotFitting, LeastHeight, HeightBetween}
use Rattle.text_terms.specs.declared.claim.Claim.TheVariants.{NoHeight, LeastBins, GreatestValue, ValueBetween}
use Rattle.verdict_terms.specs.Reasons.{form, range, after}
use Rattle.verdict_terms.specs.declared.reason.Reason.TheVariants.{Text, Token, NoClaim, OutsideAt, OverlapAt}
use Rattle.verdict_terms.specs.declared.reason.Reason.TheVariants.{TooLittle, TooShort}
use Rattle.text_terms.specs.TokenLines.{token_of}
use Rattle.verdict_terms.specs.Results.{claim_of}
use Rattle.verdict_terms.specs.Documents.{headed_verdict, document_verdict}

row_2 : document_verdict (codes
    "answer fit\nformat 1\ncontainer 10 10\nbox 6 4\nbox 6 6\nresult yes\nplace 0 0\nplace 0 4\nend\n") ≡ Ok Fitting
unfolding headed_verdict number_of same_bytes token_of claim_of
row_2 = refl

row_2_overlap : document_verdict
    (codes "answer fit\nformat 1\ncontainer 10 10\nbox 6 4\nbox 6 6\nresult yes\nplace 0 0\nplace 0 3\nend\n")
    ≡ Err (record { line = 8; reason = OverlapAt 1 2 })
unfolding headed_verdict number_of same_bytes token_of claim_of
row_2_overlap = refl

row_2_outside : document_verdict
    (codes "answer fit\nformat 1\ncontainer 10 10\nbox 6 4\nbox 6 6\nresult yes\nplace 0 0\nplace 0 5\nend\n")
    ≡ Err (record { line = 8; reason = OutsideAt 2 2 })
unfolding headed_verdict number_of same_bytes token_of claim_of
row_2_outside = refl

row_3 : document_verdict (codes "answer fit\nformat 1\ncontainer 10 10\nbox 6 4\nbox 6 6\nresult undecided\nend\n")
    ≡ Err (record { line = 6; reason = NoClaim })
unfolding headed_verdict number_of same_bytes token_of claim_of
row_3 = refl

row_4_choice : document_verdict
    (codes "answer fit\nformat 1\ncontainer 10 10\nbox 6 6\nbox 6 6\nresult no\na 1 1 2\nx\nx\nend\n")
    ≡ Err (record { line = 7; reason = Token Choice })
unfolding headed_verdict number_of same_bytes token_of claim_of
row_4_choice = refl

row_4_after : document_verdict (codes "answer fit\nformat 1\ncontainer 10 10\nbox 6 6\nbox 6 6\nresult no\nx\nx\nend\n")
    ≡ Err (record { line = 8; reason = after })
unfolding headed_verdict number_of same_bytes token_of claim_of
row_4_after = refl

row_8_short : document_verdict
    (codes "answer fit\nformat 1\ncontainer 10 10\nbox 3 6\nbox 3 6\nbox 3 6\nbox 3 6\nresult no\nd 1 1 2\nd 1 1 3\nd 1 2 3\nx\nx\nx\nd 1 1 3\nx\nd 1 2 3\nx\nend\n") ≡ Err (record { line = 19; reason = TooShort })
unfolding headed_verdict number_of same_bytes token_of claim_of
row_8_short = refl

row_8_scales : document_verdict
    (codes "answer fit\nformat 1\ncontainer 10 10\nbox 3 6\nbox 3 6\nbox 3 6\nbox 3 6\nresult no\nv id step 1\nend\n")
    ≡ Ok NotFitting
unfolding headed_verdict number_of same_bytes token_of claim_of
row_8_scales = refl

row_8_conflict : document_verdict
    (codes "answer fit\nformat 1\ncontainer 10 10\nbox 3 6\nbox 3 6\nbox 3 6\nbox 3 6\nresult no\nx\nd 1 1 3\nd 1 2 3\nx\nx\nx\nd 1 1 3\nx\nd 1 2 3\nx\nx\nend\n") ≡ Err (record { line = 9; reason = Token Conflict })
unfolding headed_verdict number_of same_bytes token_of claim_of
row_8_conflict = refl

row_8 : document_verdict (codes
    "answer fit\nformat 1\ncontainer 10 10\nbox 3 6\nbox 3 6\nbox 3 6\nbox 3 6\nresult no\nd 1 1 2\nd 1 1 3\nd 1 2 3\nx\nx\nx\nd 1 1 3\nx\nd 1 2 3\nx\nx\nend\n") ≡ Ok NotFitting
unfolding headed_verdict number_of same_bytes token_of claim_of
row_8 = refl

row_13 : document_verdict (codes
    "answer strip\nformat 1\ncontainer 10 1\nbox 6 3\nbox 6 2\nbox 4 4\nresult least 5\nplace 0 0\nplace 0 3\nplace 6 0\nproof\nx\nend\n") ≡ Ok (LeastHeight 5)
unfolding headed_verdict number_of same_bytes token_of claim_of
row_13 = refl

row_14 : document_verdict (codes "answer strip\nformat 1\ncontainer 10 10\nbox 11 2\nresult none\nt 1 1\nend\n")
    ≡ Ok NoHeight
unfolding headed_verdict number_of same_bytes token_of claim_of
row_14 = refl

row_15 : document_verdict (codes
    "answer bins\nformat 1\ncontainer 10 10\nbox 10 5\nbox 10 5\nbox 10 5\nresult least 2\nplace 1 0 0\nplace 1 0 5\nplace 2 0 0\nproof\ng id id\nend\n") ≡ Ok (LeastBins 2)
unfolding headed_verdict number_of same_bytes token_of claim_of
row_15 = refl

row_17 : document_verdict (codes
    "answer knapsack\nformat 1\ncontainer 10 10\nbox 6 6 value 5\nbox 6 6 value 4\nbox 4 4 value 3\nresult greatest 8\ntake 1 0 0\ntake 3 6 0\nproof\nc 1\nc 2\ns\nx\nw\nw\nend\n") ≡ Ok (GreatestValue 8)
unfolding headed_verdict number_of same_bytes token_of claim_of
row_17 = refl

row_empty : document_verdict [] ≡ Err (record { line = 1; reason = TooShort })
unfolding headed_verdict number_of same_bytes token_of claim_of
row_empty = refl

answer_pile : document_verdict (codes "answer pile\n") ≡ Err (record { line = 1; reason = form })
unfolding headed_verdict number_of same_bytes token_of claim_of
answer_pile = refl

no_last_feed : document_verdict
    (codes "answer fit\nformat 1\ncontainer 10 10\nbox 6 4\nbox 6 6\nresult yes\nplace 0 0\nplace 0 4\nend") ≡ Ok Fitting
unfolding headed_verdict number_of same_bytes token_of claim_of
no_last_feed = refl

coordinate_range : document_verdict
    (codes "answer fit\nformat 1\ncontainer 10 10\nbox 6 4\nbox 6 6\nresult yes\nplace 0 0\nplace 0 99999999999999999999\nend\n") ≡ Err (record { line = 8; reason = range })
unfolding headed_verdict number_of same_bytes token_of claim_of
coordinate_range = refl

coordinate_21 : document_verdict
    (codes "answer fit\nformat 1\ncontainer 10 10\nbox 6 4\nbox 6 6\nresult yes\nplace 0 0\nplace 0 999999999999999999999\nend\n") ≡ Err (record { line = 8; reason = form })
unfolding headed_verdict number_of same_bytes token_of claim_of
coordinate_21 = refl

thirteen : document_verdict (codes
    "answer fit\nformat 1\ncontainer 10 10\nbox 6 4\nbox 6 6\nresult yes\nplace 0 0\nplace 1 1 1 1 1 1 1 1 1 1 1 1 1\nend\n") ≡ Err (record { line = 8; reason = form })
unfolding headed_verdict number_of same_bytes token_of claim_of
thirteen = refl

a_range : document_verdict (codes
    "answer fit\nformat 1\ncontainer 10 10\nbox 6 6\nbox 6 6\nresult no\na 1 1 4294967295\nend\n")
    ≡ Err (record { line = 7; reason = range })
unfolding headed_verdict number_of same_bytes token_of claim_of
a_range = refl

a_form : document_verdict (codes
    "answer fit\nformat 1\ncontainer 10 10\nbox 6 6\nbox 6 6\nresult no\na 1 1 4294967296\nend\n")
    ≡ Err (record { line = 7; reason = form })
unfolding headed_verdict number_of same_bytes token_of claim_of
a_form = refl

cut_0 : document_verdict [] ≡ Err (record { line = 1; reason = TooShort })
unfolding headed_verdict number_of same_bytes token_of claim_of
cut_0 = refl

cut_1 : document_verdict (codes "answer fit\n") ≡ Err (record { line = 2; reason = TooShort })
unfolding headed_verdict number_of same_bytes token_of claim_of
cut_1 = refl

cut_2 : document_verdict (codes "answer fit\nformat 1\n") ≡ Err (record { line = 3; reason = TooShort })
unfolding headed_verdict number_of same_bytes token_of claim_of
cut_2 = refl

cut_3 : document_verdict (codes "answer fit\nformat 1\ncontainer 10 10\n")
    ≡ Err (record { line = 4; reason = TooShort })
unfolding headed_verdict number_of same_bytes token_of claim_of
cut_3 = refl

cut_4 : document_verdict (codes "answer fit\nformat 1\ncontainer 10 10\nbox 6 4\n")
    ≡ Err (record { line = 5; reason = TooShort })
unfolding headed_verdict number_of same_bytes token_of claim_of
cut_4 = refl

cut_5 : document_verdict (codes "answer fit\nformat 1\ncontainer 10 10\nbox 6 4\nbox 6 6\n")
    ≡ Err (record { line = 6; reason = TooShort })
unfolding headed_verdict number_of same_bytes token_of claim_of
cut_5 = refl

cut_6 : document_verdict (codes "answer fit\nformat 1\ncontainer 10 10\nbox 6 4\nbox 6 6\nresult yes\n")
    ≡ Err (record { line = 7; reason = TooShort })
unfolding headed_verdict number_of same_bytes token_of claim_of
cut_6 = refl

cut_7 : document_verdict (codes "answer fit\nformat 1\ncontainer 10 10\nbox 6 4\nbox 6 6\nresult yes\nplace 0 0\n")
    ≡ Err (record { line = 8; reason = TooShort })
unfolding headed_verdict number_of same_bytes token_of claim_of
cut_7 = refl

cut_8 : document_verdict (codes
    "answer fit\nformat 1\ncontainer 10 10\nbox 6 4\nbox 6 6\nresult yes\nplace 0 0\nplace 0 4\n")
    ≡ Err (record { line = 9; reason = TooShort })
unfolding headed_verdict number_of same_bytes token_of claim_of
cut_8 = refl

result_first : document_verdict (codes "answer fit\nresult yes\n") ≡ Err (record { line = 2; reason = Text 7 })
unfolding headed_verdict number_of same_bytes token_of claim_of
result_first = refl

result_form : document_verdict (codes "answer fit\nformat 1\ncontainer 5 5\nbox 1 1\nresult maybe\n")
    ≡ Err (record { line = 5; reason = form })
unfolding headed_verdict number_of same_bytes token_of claim_of
result_form = refl

result_text10_before_form : document_verdict (codes "answer fit\nformat 1\ncontainer 1 1\nresult maybe\n")
    ≡ Err (record { line = 4; reason = Text 10 })
unfolding headed_verdict number_of same_bytes token_of claim_of
result_text10_before_form = refl

text_4 : document_verdict (codes "answer fit\nformat 1\ncontainer 5 0\n") ≡ Err (record { line = 3; reason = Text 4 })
unfolding headed_verdict number_of same_bytes token_of claim_of
text_4 = refl

end_for_place : document_verdict
    (codes "answer fit\nformat 1\ncontainer 10 10\nbox 6 4\nbox 6 6\nresult yes\nend\nplace 0 4\nend\n")
    ≡ Err (record { line = 7; reason = form })
unfolding headed_verdict number_of same_bytes token_of claim_of
end_for_place = refl

token_for_place : document_verdict
    (codes "answer fit\nformat 1\ncontainer 10 10\nbox 6 4\nbox 6 6\nresult yes\nx\nplace 0 4\nend\n")
    ≡ Err (record { line = 7; reason = form })
unfolding headed_verdict number_of same_bytes token_of claim_of
token_for_place = refl

token_after_places : document_verdict
    (codes "answer fit\nformat 1\ncontainer 10 10\nbox 6 4\nbox 6 6\nresult yes\nplace 0 0\nplace 0 4\nx\nend\n")
    ≡ Err (record { line = 9; reason = form })
unfolding headed_verdict number_of same_bytes token_of claim_of
token_after_places = refl

line_after_end : document_verdict
    (codes "answer fit\nformat 1\ncontainer 10 10\nbox 6 4\nbox 6 6\nresult yes\nplace 0 0\nplace 0 4\nend\nx\n")
    ≡ Err (record { line = 10; reason = after })
unfolding headed_verdict number_of same_bytes token_of claim_of
line_after_end = refl

blank_after_end : document_verdict
    (codes "answer fit\nformat 1\ncontainer 10 10\nbox 6 4\nbox 6 6\nresult yes\nplace 0 0\nplace 0 4\nend\n \t # rest\r\n") ≡ Ok Fitting
unfolding headed_verdict number_of same_bytes token_of claim_of
blank_after_end = refl

end_for_tree : document_verdict (codes "answer fit\nformat 1\ncontainer 10 10\nbox 6 6\nbox 6 6\nresult no\nend\n")
    ≡ Err (record { line = 7; reason = TooShort })
unfolding headed_verdict number_of same_bytes token_of claim_of
end_for_tree = refl

tuple_of_one : document_verdict
    (codes "answer fit\nformat 1\ncontainer 10 10\nbox 6 6\nbox 6 6\nresult no\nv id\nend\n")
    ≡ Err (record { line = 7; reason = form })
unfolding headed_verdict number_of same_bytes token_of claim_of
tuple_of_one = refl

tuple_behind : document_verdict
    (codes "answer fit\nformat 1\ncontainer 10 10\nbox 6 6\nbox 6 6\nresult no\nx\nv id\nend\n")
    ≡ Err (record { line = 8; reason = form })
unfolding headed_verdict number_of same_bytes token_of claim_of
tuple_behind = refl

outer_token : document_verdict (codes "answer fit\nformat 1\ncontainer 10 10\nbox 6 6\nbox 6 6\nresult no\nb 1\nend\n")
    ≡ Err (record { line = 7; reason = form })
unfolding headed_verdict number_of same_bytes token_of claim_of
outer_token = refl

strip_none_last : document_verdict
    (codes "answer strip\nformat 1\ncontainer 10 10\nbox 11 2\nresult none\nt 1 2\nend\n")
    ≡ Err (record { line = 6; reason = range })
unfolding headed_verdict number_of same_bytes token_of claim_of
strip_none_last = refl

strip_none_side : document_verdict
    (codes "answer strip\nformat 1\ncontainer 10 10\nbox 10 2\nresult none\nt 1 1\nend\n")
    ≡ Err (record { line = 6; reason = Token Side })
unfolding headed_verdict number_of same_bytes token_of claim_of
strip_none_side = refl

strip_none_x : document_verdict (codes "answer strip\nformat 1\ncontainer 10 10\nbox 11 2\nresult none\nx\nend\n")
    ≡ Err (record { line = 6; reason = form })
unfolding headed_verdict number_of same_bytes token_of claim_of
strip_none_x = refl

strip_none_end : document_verdict (codes "answer strip\nformat 1\ncontainer 10 10\nbox 11 2\nresult none\nend\n")
    ≡ Err (record { line = 6; reason = TooShort })
unfolding headed_verdict number_of same_bytes token_of claim_of
strip_none_end = refl

strip_least_0 : document_verdict
    (codes "answer strip\nformat 1\ncontainer 10 1\nbox 6 3\nbox 6 2\nbox 4 4\nresult least 0\nplace 0 0\nplace 0 3\nplace 6 0\nproof\nx\nend\n") ≡ Err (record { line = 7; reason = range })
unfolding headed_verdict number_of same_bytes token_of claim_of
strip_least_0 = refl

strip_between_high : document_verdict
    (codes "answer strip\nformat 1\ncontainer 10 1\nbox 6 3\nbox 6 2\nbox 4 4\nresult between 5 128000001\nplace 0 0\nplace 0 3\nplace 6 0\nproof\nx\nend\n") ≡ Err (record { line = 7; reason = range })
unfolding headed_verdict number_of same_bytes token_of claim_of
strip_between_high = refl

strip_between : document_verdict
    (codes "answer strip\nformat 1\ncontainer 10 1\nbox 6 3\nbox 6 2\nbox 4 4\nresult between 4 5\nplace 0 0\nplace 0 3\nplace 6 0\nproof\nx\nend\n") ≡ Ok (HeightBetween 4 5)
unfolding headed_verdict number_of same_bytes token_of claim_of
strip_between = refl

strip_between_same : document_verdict
    (codes "answer strip\nformat 1\ncontainer 10 1\nbox 6 3\nbox 6 2\nbox 4 4\nresult between 5 5\nplace 0 0\nplace 0 3\nplace 6 0\nproof\nx\nend\n") ≡ Err (record { line = 7; reason = range })
unfolding headed_verdict number_of same_bytes token_of claim_of
strip_between_same = refl

bins_3 : document_verdict (codes
    "answer bins\nformat 1\ncontainer 10 10\nbox 10 5\nbox 10 5\nbox 10 5\nresult least 2\nplace 1 0 0\nplace 3 0 5\nplace 2 0 0\nproof\ng id id\nend\n") ≡ Err (record { line = 9; reason = range })
unfolding headed_verdict number_of same_bytes token_of claim_of
bins_3 = refl

bins_0 : document_verdict (codes
    "answer bins\nformat 1\ncontainer 10 10\nbox 10 5\nbox 10 5\nbox 10 5\nresult least 2\nplace 1 0 0\nplace 0 0 5\nplace 2 0 0\nproof\ng id id\nend\n") ≡ Err (record { line = 9; reason = range })
unfolding headed_verdict number_of same_bytes token_of claim_of
bins_0 = refl

bins_overlap : document_verdict
    (codes "answer bins\nformat 1\ncontainer 10 10\nbox 10 5\nbox 10 5\nbox 10 5\nresult least 2\nplace 1 0 0\nplace 1 0 4\nplace 2 0 0\nproof\ng id id\nend\n") ≡ Err (record { line = 10; reason = OverlapAt 1 2 })
unfolding headed_verdict number_of same_bytes token_of claim_of
bins_overlap = refl

bins_outside_first : document_verdict
    (codes "answer bins\nformat 1\ncontainer 10 10\nbox 10 5\nbox 10 5\nbox 10 5\nresult least 2\nplace 1 0 0\nplace 1 0 4\nplace 2 0 6\nproof\ng id id\nend\n") ≡ Err (record { line = 10; reason = OutsideAt 3 2 })
unfolding headed_verdict number_of same_bytes token_of claim_of
bins_outside_first = refl

bins_least_4 : document_verdict
    (codes "answer bins\nformat 1\ncontainer 10 10\nbox 10 5\nbox 10 5\nbox 10 5\nresult least 4\nplace 1 0 0\nplace 1 0 5\nplace 2 0 0\nproof\ng id id\nend\n") ≡ Err (record { line = 7; reason = range })
unfolding headed_verdict number_of same_bytes token_of claim_of
bins_least_4 = refl

bins_no_proof : document_verdict
    (codes "answer bins\nformat 1\ncontainer 10 10\nbox 10 5\nbox 10 5\nbox 10 5\nresult least 2\nplace 1 0 0\nplace 1 0 5\nplace 2 0 0\ng id id\nend\n") ≡ Err (record { line = 11; reason = form })
unfolding headed_verdict number_of same_bytes token_of claim_of
bins_no_proof = refl

bins_set : document_verdict (codes
    "answer bins\nformat 1\ncontainer 10 10\nbox 10 5\nbox 10 5\nbox 10 5\nresult least 2\nplace 1 0 0\nplace 1 0 5\nplace 2 0 0\nproof\ns 1\nend\n") ≡ Err (record { line = 12; reason = Token «Set» })
unfolding headed_verdict number_of same_bytes token_of claim_of
bins_set = refl

knap_fall : document_verdict (codes
    "answer knapsack\nformat 1\ncontainer 10 10\nbox 6 6 value 5\nbox 6 6 value 4\nbox 4 4 value 3\nresult greatest 8\ntake 3 6 0\ntake 1 0 0\ntake 3 6 0\nproof\nc 1\nc 2\ns\nx\nw\nw\nend\n") ≡ Err (record { line = 9; reason = range })
unfolding headed_verdict number_of same_bytes token_of claim_of
knap_fall = refl

knap_overlap : document_verdict
    (codes "answer knapsack\nformat 1\ncontainer 10 10\nbox 6 6 value 5\nbox 6 6 value 4\nbox 4 4 value 3\nresult greatest 8\ntake 1 0 0\ntake 3 5 0\nproof\nc 1\nc 2\ns\nx\nw\nw\nend\n") ≡ Err (record { line = 10; reason = OverlapAt 1 3 })
unfolding headed_verdict number_of same_bytes token_of claim_of
knap_overlap = refl

knap_worth : document_verdict (codes
    "answer knapsack\nformat 1\ncontainer 10 10\nbox 6 6 value 5\nbox 6 6 value 4\nbox 4 4 value 3\nresult greatest 9\ntake 1 0 0\ntake 3 6 0\nproof\nc 1\nc 2\ns\nx\nw\nw\nend\n") ≡ Err (record { line = 10; reason = TooLittle })
unfolding headed_verdict number_of same_bytes token_of claim_of
knap_worth = refl

knap_most : document_verdict (codes
    "answer knapsack\nformat 1\ncontainer 10 10\nbox 6 6 value 5\nbox 6 6 value 4\nbox 4 4 value 3\nresult greatest 128000000002\ntake 1 0 0\ntake 3 6 0\nproof\nc 1\nc 2\ns\nx\nw\nw\nend\n") ≡ Err (record { line = 7; reason = range })
unfolding headed_verdict number_of same_bytes token_of claim_of
knap_most = refl

knap_between : document_verdict
    (codes "answer knapsack\nformat 1\ncontainer 10 10\nbox 6 6 value 5\nbox 6 6 value 4\nbox 4 4 value 3\nresult between 8 9\ntake 1 0 0\ntake 3 6 0\nproof\nc 1\nc 2\ns\nx\nw\nw\nend\n") ≡ Ok (ValueBetween 8 9)
unfolding headed_verdict number_of same_bytes token_of claim_of
knap_between = refl

knap_set : document_verdict (codes
    "answer knapsack\nformat 1\ncontainer 10 10\nbox 6 6 value 5\nbox 6 6 value 4\nbox 4 4 value 3\nresult greatest 8\ntake 1 0 0\ntake 3 6 0\nproof\ns\nc 2\ns\nx\nw\nw\nend\n") ≡ Err (record { line = 11; reason = Token «Set» })
unfolding headed_verdict number_of same_bytes token_of claim_of
knap_set = refl

knap_value : document_verdict (codes
    "answer knapsack\nformat 1\ncontainer 10 10\nbox 6 6 value 5\nbox 6 6 value 4\nbox 4 4 value 3\nresult greatest 8\ntake 1 0 0\ntake 3 6 0\nproof\nw\nc 2\ns\nx\nw\nw\nend\n") ≡ Err (record { line = 11; reason = Token Value })
unfolding headed_verdict number_of same_bytes token_of claim_of
knap_value = refl

knap_4 : document_verdict (codes
    "answer knapsack\nformat 1\ncontainer 10 10\nbox 6 6 value 5\nbox 6 6 value 4\nbox 4 4 value 3\nresult greatest 8\ntake 4 0 0\ntake 3 6 0\nproof\nc 1\nc 2\ns\nx\nw\nw\nend\n") ≡ Err (record { line = 8; reason = range })
unfolding headed_verdict number_of same_bytes token_of claim_of
knap_4 = refl

knap_box : document_verdict (codes
    "answer knapsack\nformat 1\ncontainer 10 10\nbox 6 6 value 5\nbox 6 6 value 4\nbox 4 4 value 3\nresult greatest 8\ntake 1 0 0\ntake 3 6 0\nproof\nc 4\nc 2\ns\nx\nw\nw\nend\n") ≡ Err (record { line = 11; reason = range })
unfolding headed_verdict number_of same_bytes token_of claim_of
knap_box = refl

knap_none : document_verdict (codes
    "answer knapsack\nformat 1\ncontainer 1 1\nbox 2 2\nresult greatest 0\nproof\nc 1\ns\nt 1 1\nw\nend\n")
    ≡ Ok (GreatestValue 0)
unfolding headed_verdict number_of same_bytes token_of claim_of
knap_none = refl

leading_zeros : document_verdict
    (codes "answer strip\nformat 1\ncontainer 10 1\nbox 6 3\nbox 6 2\nbox 4 4\nresult least 005\nplace 0 0\nplace 0 3\nplace 6 0\nproof\nx\nend\n") ≡ Ok (LeastHeight 5)
unfolding headed_verdict number_of same_bytes token_of claim_of
leading_zeros = refl
