-- Answers of `strip` by families and their lines, computed from the definitions. `decimal` doesn't
-- compute, so the numbers of a line stand as `decimal n`.
use Rattle.std.proofs.Common.{◌≡◌, refl, [], ◌∷◌, codes}
use Rattle.std.specs.Fmt.{decimal}
use Rattle.packing_terms.specs.Packing.{PlainInstance, PlainBox}
use Rattle.text_terms.specs.declared.claim.Claim.TheVariants.{LeastHeight, HeightBetween}
use Rattle.verdict_terms.specs.FamilyRefutation.{Family}
use Rattle.answer_terms.specs.HeightAnswers.{BoundedStrip, Heights, NoneFits, height_claim, strip_claim, strip_status}
use Rattle.answer_terms.specs.HeightAnswers.{bounded_strip_lines}

-- two boards, of which no two stand side by side in the strip
abbrev board : PlainBox
board = record { sides = 6 ∷ 2 ∷ []; value = 1 }

abbrev boards : PlainInstance
boards = record { container = 10 ∷ 9 ∷ []; kerfs = 0 ∷ 0 ∷ []; boxes = board ∷ board ∷ [] }

-- ---- the least height, by one family

abbrev least : BoundedStrip
least = Heights (record {
  refuted = 3;
  tokens = Family 2 (1 ∷ 2 ∷ []) ∷ [];
  placed = 4;
  places = 0 ∷ 0 ∷ 0 ∷ 2 ∷ [];
})

least_claim : strip_claim least ≡ LeastHeight 4
unfolding height_claim
least_claim = refl

least_status : strip_status least ≡ 0
unfolding height_claim
least_status = refl

least_lines : bounded_strip_lines boards least
    ≡ (codes "bounded" ∷ codes "strip" ∷ []) ∷ (codes "format" ∷ decimal 1 ∷ [])
    ∷ (codes "container" ∷ decimal 10 ∷ decimal 9 ∷ [])
    ∷ (codes "box" ∷ decimal 6 ∷ decimal 2 ∷ [])
    ∷ (codes "box" ∷ decimal 6 ∷ decimal 2 ∷ [])
    ∷ (codes "result" ∷ codes "least" ∷ decimal 4 ∷ [])
    ∷ (codes "place" ∷ decimal 0 ∷ decimal 0 ∷ [])
    ∷ (codes "place" ∷ decimal 0 ∷ decimal 2 ∷ [])
    ∷ (codes "proof" ∷ [])
    ∷ (codes "k" ∷ decimal 2 ∷ decimal 1 ∷ decimal 2 ∷ [])
    ∷ (codes "end" ∷ []) ∷ []
unfolding height_claim
least_lines = refl

-- ---- two heights with another between

between_claim : height_claim 2 4 ≡ HeightBetween 2 4
unfolding height_claim
between_claim = refl

between_status : strip_status (Heights (record { refuted = 2; tokens = []; placed = 4; places = [] })) ≡ 3
unfolding height_claim
between_status = refl

-- ---- a box that is too wide

abbrev narrow : PlainInstance
narrow = record { container = 5 ∷ 9 ∷ []; kerfs = 0 ∷ 0 ∷ []; boxes = board ∷ [] }

none_status : strip_status (NoneFits 0 0) ≡ 1
none_status = refl

none_lines : bounded_strip_lines narrow (NoneFits 0 0)
    ≡ (codes "bounded" ∷ codes "strip" ∷ []) ∷ (codes "format" ∷ decimal 1 ∷ [])
    ∷ (codes "container" ∷ decimal 5 ∷ decimal 9 ∷ [])
    ∷ (codes "box" ∷ decimal 6 ∷ decimal 2 ∷ [])
    ∷ (codes "result" ∷ codes "none" ∷ [])
    ∷ (codes "t" ∷ decimal 1 ∷ decimal 1 ∷ [])
    ∷ (codes "end" ∷ []) ∷ []
none_lines = refl
