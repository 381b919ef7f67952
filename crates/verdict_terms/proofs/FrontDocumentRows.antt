-- The verdict on documents of fronts, computed from the definitions.
use Rattle.std.proofs.Common.{◌≡◌, refl, codes, [], ◌∷◌, true, Ok, Err}
use Rattle.packing_terms.specs.Packing.{PlainInstance}
use Rattle.text_terms.specs.Lines.{number_of, same_bytes}
use Rattle.text_terms.specs.TokenLines.{token_of}
use Rattle.verdict_terms.specs.Reasons.{form, range}
use Rattle.verdict_terms.specs.FrontDocumentVerdicts.{front_document_verdict}
use Rattle.verdict_terms.specs.Points.{points_of_text}

abbrev pair : PlainInstance
pair = record {
  container = 4 ∷ 4 ∷ [];
  kerfs = 0 ∷ 0 ∷ [];
  boxes = record { sides = 2 ∷ 1 ∷ []; value = 1 }
      ∷ record { sides = 2 ∷ 1 ∷ []; value = 1 } ∷ [];
}

row_4 : front_document_verdict
    (codes "front\nformat 1\ncontainer 4 4\nbox 2 1\nbox 2 1\nresult front 2\ncorner 1 4\nt 1 1\npoint 2 2\nplace 0 0\nplace 0 1\ncorner 3 1\nx\npoint 4 1\nplace 0 0\nplace 2 0\nend\n")
    ≡ Ok (record { instance = pair; claim = record { complete = true; points = 2 } })
unfolding front_document_verdict number_of same_bytes token_of
row_4 = refl

named_4 : points_of_text
    (codes "front\nformat 1\ncontainer 4 4\nbox 2 1\nbox 2 1\nresult front 2\ncorner 1 4\nt 1 1\npoint 2 2\nplace 0 0\nplace 0 1\ncorner 3 1\nx\n point 4\t1 # 5\nplace 0 0\nplace 2 0\nend\n")
    ≡ (2, 2) ∷ (4, 1) ∷ []
unfolding number_of same_bytes
named_4 = refl

row_5 : front_document_verdict
    (codes "front\nformat 1\ncontainer 4 4\nbox 2 1\nbox 2 1\nresult front 2\ncorner 1 4\nt 1 1\npoint 2 2\nplace 0 0\nplace 0 1\ncorner 2 1\nx\npoint 4 1\nplace 0 0\nplace 2 0\nend\n")
    ≡ Err (record { line = 14; reason = range })
unfolding front_document_verdict number_of same_bytes token_of
row_5 = refl

solid_has_no_front : front_document_verdict
    (codes "front\nformat 1\ncontainer 2 2 2\nbox 1 1 1\nresult front 1\npoint 1 1\nend\n")
    ≡ Err (record { line = 5; reason = form })
unfolding front_document_verdict number_of same_bytes token_of
solid_has_no_front = refl
