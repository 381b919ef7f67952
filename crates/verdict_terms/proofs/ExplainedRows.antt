-- The definitions at small instances, computed.
use Rattle.std.proofs.Common.{◌≡◌, ℕ, refl, [], ◌∷◌, List, Ok, Err, Result}
use Rattle.packing_terms.specs.Packing.{PlainInstance, PlainBox}
use Rattle.packing_terms.specs.Tokens.PlainToken.{Order as OrderToken, Rules}
use Rattle.verdict_terms.specs.declared.explained_answers.AuditCode.{AuditCode}
use Rattle.verdict_terms.specs.declared.explained_answers.AuditCode.TheVariants.{Kind, Range, Step, Conflict}
use Rattle.verdict_terms.specs.declared.explained_answers.AuditCode.TheVariants.{After}
use Rattle.verdict_terms.specs.Steps.{PlainStep}
use Rattle.verdict_terms.specs.Steps.PlainStep.{Pair, Apart, Triple, Chain, On, Clash, Plain}
use Rattle.verdict_terms.specs.ExplainedJudging.{AuditNode, at_rest}
use Rattle.verdict_terms.specs.Auditing.{audited_after_all}

abbrev box : ℕ → ℕ → PlainBox
box a b = record { sides = a ∷ b ∷ []; value = 1 }

-- two boxes that are too long together in both dimensions
abbrev squares : PlainInstance
squares = record { container = 10 ∷ 10 ∷ []; kerfs = 0 ∷ 0 ∷ []; boxes = box 6 6 ∷ box 6 6 ∷ [] }

abbrev of_squares : List PlainStep → Result (List AuditNode) AuditCode
of_squares lines = audited_after_all squares (at_rest [] ∷ []) lines

both_pairs : of_squares (Pair 1 1 2 ∷ Pair 2 1 2 ∷ Apart 1 1 2 ∷ Clash 1 1 2 ∷ []) ≡ Ok []
both_pairs = refl

one_pair : of_squares (Pair 1 1 2 ∷ Apart 1 1 2 ∷ Clash 1 1 2 ∷ []) ≡ Err Step
one_pair = refl

no_step : of_squares (Clash 1 1 2 ∷ []) ≡ Err Conflict
no_step = refl

twice : of_squares (Pair 1 1 2 ∷ Pair 1 1 2 ∷ []) ≡ Err Step
twice = refl

one_box : of_squares (Pair 1 1 1 ∷ []) ≡ Err Range
one_box = refl

falling : of_squares (Pair 1 2 1 ∷ Pair 2 1 2 ∷ Apart 1 2 1 ∷ Clash 1 2 1 ∷ []) ≡ Err Range
falling = refl

no_leaf : of_squares (Plain Rules ∷ []) ≡ Err Kind
no_leaf = refl

behind : of_squares (Pair 1 1 2 ∷ Pair 2 1 2 ∷ Apart 1 1 2 ∷ Clash 1 1 2 ∷ Clash 1 1 2 ∷ []) ≡ Err After
behind = refl

-- three boxes in a row that is too short for them, after two splits
abbrev row : PlainInstance
row = record { container = 10 ∷ 10 ∷ []; kerfs = 0 ∷ 0 ∷ []; boxes = box 4 6 ∷ box 4 6 ∷ box 4 6 ∷ [] }

abbrev of_row : List PlainStep → Result (List AuditNode) AuditCode
of_row lines = audited_after_all row (at_rest [] ∷ []) lines

chain_of_kind : of_row (Chain 1 1 1 ∷ Pair 1 1 2 ∷ []) ≡ Err Kind
chain_of_kind = refl

on_alone : of_row (On 1 ∷ []) ≡ Err Kind
on_alone = refl

chain_of_none : of_row (Chain 1 0 1 ∷ []) ≡ Err Range
chain_of_none = refl

chain_of_one_box : of_row (Chain 1 1 1 ∷ On 1 ∷ On 1 ∷ []) ≡ Err Step
chain_of_one_box = refl

chain_that_fits : of_row (Chain 1 1 1 ∷ On 1 ∷ On 2 ∷ []) ≡ Err Step
chain_that_fits = refl

-- in the second dimension each two are too long: so they are apart in the first, in some order
abbrev apart_first : List PlainStep → List PlainStep
apart_first z = Pair 2 1 2 ∷ Pair 2 1 3 ∷ Pair 2 2 3 ∷ Apart 1 1 2 ∷ Apart 1 1 3 ∷ Apart 1 2 3 ∷ z

triples : of_row (apart_first (Triple 1 1 2 3 ∷ Clash 1 1 2 ∷ [])) ≡ Ok []
triples = refl

chains : of_row (apart_first (Plain (OrderToken 1 1 2)
    ∷ Chain 1 2 1 ∷ On 1 ∷ On 2 ∷ On 3 ∷ Chain 1 1 2 ∷ On 3 ∷ On 1 ∷ On 2 ∷ Chain 1 1 1 ∷ On 3 ∷ On 2 ∷ [])) ≡ Err Step
chains = refl

-- two links and one box are too long, until 2, 3 have no relation left; and the same in the other order
chains_refute : of_row (apart_first (Plain (OrderToken 1 1 2)
    ∷ Chain 1 2 1 ∷ On 1 ∷ On 2 ∷ On 3 ∷ Chain 1 1 2 ∷ On 3 ∷ On 1 ∷ On 2 ∷ Chain 1 2 1 ∷ On 1 ∷ On 3 ∷ On 2
    ∷ Clash 1 2 3
    ∷ Chain 1 2 1 ∷ On 2 ∷ On 1 ∷ On 3 ∷ Chain 1 1 2 ∷ On 3 ∷ On 2 ∷ On 1 ∷ Chain 1 2 1 ∷ On 2 ∷ On 3 ∷ On 1
    ∷ Clash 1 1 3 ∷ [])) ≡ Ok []
chains_refute = refl
