-- Answers and their lines, computed from the definitions. `decimal` doesn't compute, so the numbers
-- of a line stand as `decimal n`.
use Rattle.std.proofs.Common.{◌≡◌, ℕ, refl, ap, ◌∙◌, arith, [], ◌∷◌, ◌++◌, true, List, None, codes}
use Rattle.std.specs.Fmt.{decimal}
use Rattle.std.proofs.lemmas.Fmt.{decimal_digit, decimal_step}
use Rattle.packing_terms.specs.declared.ScaleFn.TheVariants.{Id}
use Rattle.packing_terms.specs.Packing.{PlainInstance, PlainBox}
use Rattle.packing_terms.specs.Generator.{made_instance}
use Rattle.tree_terms.specs.Trees.{Decided, Past, Yes, No}
use Rattle.packing_terms.specs.Tokens.PlainToken.{Rules, TooLarge, Choose, SetRefuted, ValueShort, GlobalScales}
use Rattle.text_terms.specs.Spelling.{lines_text}
use Rattle.text_terms.specs.declared.claim.SolvingJob.TheVariants.{Fit, Strip, Bins, Knapsack}
use Rattle.text_terms.specs.declared.claim.Claim.TheVariants.{Fitting, NotFitting, LeastHeight, HeightBetween}
use Rattle.text_terms.specs.declared.claim.Claim.TheVariants.{NoHeight, LeastBins, BinsBetween, GreatestValue}
use Rattle.answer_terms.specs.Answers.{answer_lines, Lines}
use Rattle.answer_terms.specs.Answers.Answer.{Undecided, Claimed}
use Rattle.answer_terms.specs.Solved.{solved}
use Rattle.answer_terms.specs.Made.{made_lines, made_text, made_answer}

abbrev box : ℕ → ℕ → PlainBox
box a b = record { sides = a ∷ b ∷ []; value = 1 }

-- the lines of an instance of one kind
abbrev pair : ℕ → ℕ → ℕ → ℕ → PlainInstance
pair a b c d = record { container = 10 ∷ 10 ∷ []; kerfs = 0 ∷ 0 ∷ []; boxes = box a b ∷ box c d ∷ [] }

abbrev unit : PlainInstance
unit = record { container = 1 ∷ 1 ∷ []; kerfs = 0 ∷ 0 ∷ []; boxes = box 1 1 ∷ [] }

-- a box that fills the container
unit_fits : solved Fit 1000000 true unit ≡ Claimed Fitting (0 ∷ 0 ∷ []) []
unfolding solved
unit_fits = refl

unit_lines : answer_lines unit (Claimed Fitting (0 ∷ 0 ∷ []) [])
    ≡ (codes "answer" ∷ codes "fit" ∷ []) ∷ (codes "format" ∷ decimal 1 ∷ [])
    ∷ (codes "container" ∷ decimal 1 ∷ decimal 1 ∷ [])
    ∷ (codes "box" ∷ decimal 1 ∷ decimal 1 ∷ []) ∷ (codes "result" ∷ codes "yes" ∷ [])
    ∷ (codes "place" ∷ decimal 0 ∷ decimal 0 ∷ [])
    ∷ (codes "end" ∷ []) ∷ []
unit_lines = refl

-- two boxes that stand on one another
pair_fits : solved Fit 1 true (pair 6 4 6 6) ≡ Claimed Fitting (0 ∷ 0 ∷ 0 ∷ 4 ∷ []) []
unfolding solved
pair_fits = refl

pair_lines : answer_lines (pair 6 4 6 6) (solved Fit 1 true (pair 6 4 6 6))
    ≡ (codes "answer" ∷ codes "fit" ∷ []) ∷ (codes "format" ∷ decimal 1 ∷ [])
    ∷ (codes "container" ∷ decimal 10 ∷ decimal 10 ∷ [])
    ∷ (codes "box" ∷ decimal 6 ∷ decimal 4 ∷ []) ∷ (codes "box" ∷ decimal 6 ∷ decimal 6 ∷ [])
    ∷ (codes "result" ∷ codes "yes" ∷ [])
    ∷ (codes "place" ∷ decimal 0 ∷ decimal 0 ∷ []) ∷ (codes "place" ∷ decimal 0 ∷ decimal 4 ∷ [])
    ∷ (codes "end" ∷ []) ∷ []
unfolding solved
pair_lines = refl

-- the same with a budget of none
pair_undecided : solved Fit 0 true (pair 6 4 6 6) ≡ Undecided
unfolding solved
pair_undecided = refl

undecided_lines : answer_lines (pair 6 4 6 6) Undecided
    ≡ (codes "answer" ∷ codes "fit" ∷ []) ∷ (codes "format" ∷ decimal 1 ∷ [])
    ∷ (codes "container" ∷ decimal 10 ∷ decimal 10 ∷ [])
    ∷ (codes "box" ∷ decimal 6 ∷ decimal 4 ∷ []) ∷ (codes "box" ∷ decimal 6 ∷ decimal 6 ∷ [])
    ∷ (codes "result" ∷ codes "undecided" ∷ [])
    ∷ (codes "end" ∷ []) ∷ []
undecided_lines = refl

-- two boxes that overlap in both dimensions
pair_does_not : solved Fit 0 true (pair 6 6 6 6) ≡ Claimed NotFitting [] (Rules ∷ [])
unfolding solved
pair_does_not = refl

no_lines : answer_lines (pair 6 6 6 6) (Claimed NotFitting [] (Rules ∷ []))
    ≡ (codes "answer" ∷ codes "fit" ∷ []) ∷ (codes "format" ∷ decimal 1 ∷ [])
    ∷ (codes "container" ∷ decimal 10 ∷ decimal 10 ∷ [])
    ∷ (codes "box" ∷ decimal 6 ∷ decimal 6 ∷ []) ∷ (codes "box" ∷ decimal 6 ∷ decimal 6 ∷ [])
    ∷ (codes "result" ∷ codes "no" ∷ [])
    ∷ (codes "x" ∷ []) ∷ (codes "end" ∷ []) ∷ []
no_lines = refl

-- a strip of three boxes, and with a budget at which level 6 is past
abbrev strip : PlainInstance
strip = record { container = 10 ∷ 1 ∷ []; kerfs = 0 ∷ 0 ∷ []; boxes = box 6 3 ∷ box 6 2 ∷ box 4 4 ∷ [] }

strip_least : solved Strip 1000000 true strip ≡ Claimed (LeastHeight 5) (0 ∷ 0 ∷ 0 ∷ 3 ∷ 6 ∷ 0 ∷ []) (Rules ∷ [])
unfolding solved
strip_least = refl

strip_between : solved Strip 2 true strip ≡ Claimed (HeightBetween 4 9) (0 ∷ 0 ∷ 0 ∷ 3 ∷ 0 ∷ 5 ∷ []) (Rules ∷ [])
unfolding solved
strip_between = refl

strip_lines : answer_lines strip (Claimed (LeastHeight 5) (0 ∷ 0 ∷ 0 ∷ 3 ∷ 6 ∷ 0 ∷ []) (Rules ∷ []))
    ≡ (codes "answer" ∷ codes "strip" ∷ []) ∷ (codes "format" ∷ decimal 1 ∷ [])
    ∷ (codes "container" ∷ decimal 10 ∷ decimal 1 ∷ [])
    ∷ (codes "box" ∷ decimal 6 ∷ decimal 3 ∷ []) ∷ (codes "box" ∷ decimal 6 ∷ decimal 2 ∷ [])
    ∷ (codes "box" ∷ decimal 4 ∷ decimal 4 ∷ [])
    ∷ (codes "result" ∷ codes "least" ∷ decimal 5 ∷ []) ∷ (codes "place" ∷ decimal 0 ∷ decimal 0 ∷ [])
    ∷ (codes "place" ∷ decimal 0 ∷ decimal 3 ∷ []) ∷ (codes "place" ∷ decimal 6 ∷ decimal 0 ∷ []) ∷ (codes "proof" ∷ [])
    ∷ (codes "x" ∷ []) ∷ (codes "end" ∷ []) ∷ []
strip_lines = refl

-- a box that is wider than the strip
strip_none : solved Strip 1000000 true (record { container = 10 ∷ 10 ∷ []; kerfs = 0 ∷ 0 ∷ []; boxes = box 11 2 ∷ [] })
    ≡ Claimed NoHeight [] (TooLarge 1 1 ∷ [])
unfolding solved
strip_none = refl

-- three planks, of which two fill a container
abbrev planks : PlainInstance
planks = record { container = 10 ∷ 10 ∷ []; kerfs = 0 ∷ 0 ∷ []; boxes = box 10 5 ∷ box 10 5 ∷ box 10 5 ∷ [] }

bins_least : solved Bins 1000000 true planks
    ≡ Claimed (LeastBins 2) (0 ∷ 0 ∷ 0 ∷ 0 ∷ 0 ∷ 5 ∷ 1 ∷ 0 ∷ 0 ∷ []) (GlobalScales (Id ∷ Id ∷ []) ∷ [])
unfolding solved
bins_least = refl

bins_between : solved Bins 4 true planks
    ≡ Claimed (BinsBetween 1 3) (0 ∷ 0 ∷ 0 ∷ 1 ∷ 0 ∷ 0 ∷ 2 ∷ 0 ∷ 0 ∷ []) (GlobalScales (Id ∷ Id ∷ []) ∷ [])
unfolding solved
bins_between = refl

bins_lines : answer_lines planks
    (Claimed (LeastBins 2) (0 ∷ 0 ∷ 0 ∷ 0 ∷ 0 ∷ 5 ∷ 1 ∷ 0 ∷ 0 ∷ []) (GlobalScales (Id ∷ Id ∷ []) ∷ []))
    ≡ (codes "answer" ∷ codes "bins" ∷ []) ∷ (codes "format" ∷ decimal 1 ∷ [])
    ∷ (codes "container" ∷ decimal 10 ∷ decimal 10 ∷ [])
    ∷ (codes "box" ∷ decimal 10 ∷ decimal 5 ∷ []) ∷ (codes "box" ∷ decimal 10 ∷ decimal 5 ∷ [])
    ∷ (codes "box" ∷ decimal 10 ∷ decimal 5 ∷ [])
    ∷ (codes "result" ∷ codes "least" ∷ decimal 2 ∷ []) ∷ (codes "place" ∷ decimal 1 ∷ decimal 0 ∷ decimal 0 ∷ [])
    ∷ (codes "place" ∷ decimal 1 ∷ decimal 0 ∷ decimal 5 ∷ [])
    ∷ (codes "place" ∷ decimal 2 ∷ decimal 0 ∷ decimal 0 ∷ []) ∷ (codes "proof" ∷ [])
    ∷ (codes "g" ∷ codes "id" ∷ codes "id" ∷ []) ∷ (codes "end" ∷ []) ∷ []
bins_lines = refl

-- of the two large boxes only one has room, beside the small one
abbrev valued : ℕ → ℕ → ℕ → PlainBox
valued a b v = record { sides = a ∷ b ∷ []; value = v }

abbrev sack : PlainInstance
sack = record { container = 10 ∷ 10 ∷ []; kerfs = 0 ∷ 0 ∷ []; boxes = valued 6 6 5 ∷ valued 6 6 4 ∷ valued 4 4 3 ∷ [] }

sack_greatest : solved Knapsack 1000000 true sack
    ≡ Claimed (GreatestValue 8) (0 ∷ 0 ∷ 0 ∷ 2 ∷ 6 ∷ 0 ∷ [])
    (Choose 1 ∷ Choose 2 ∷ SetRefuted None ∷ Rules ∷ ValueShort ∷ ValueShort ∷ [])
unfolding solved
sack_greatest = refl

sack_lines : answer_lines sack
    (Claimed (GreatestValue 8) (0 ∷ 0 ∷ 0 ∷ 2 ∷ 6 ∷ 0 ∷ []) (Choose 1 ∷ SetRefuted None ∷ ValueShort ∷ []))
    ≡ (codes "answer" ∷ codes "knapsack" ∷ []) ∷ (codes "format" ∷ decimal 1 ∷ [])
    ∷ (codes "container" ∷ decimal 10 ∷ decimal 10 ∷ [])
    ∷ (codes "box" ∷ decimal 6 ∷ decimal 6 ∷ codes "value" ∷ decimal 5 ∷ [])
    ∷ (codes "box" ∷ decimal 6 ∷ decimal 6 ∷ codes "value" ∷ decimal 4 ∷ [])
    ∷ (codes "box" ∷ decimal 4 ∷ decimal 4 ∷ codes "value" ∷ decimal 3 ∷ [])
    ∷ (codes "result" ∷ codes "greatest" ∷ decimal 8 ∷ [])
    ∷ (codes "take" ∷ decimal 1 ∷ decimal 0 ∷ decimal 0 ∷ []) ∷ (codes "take" ∷ decimal 3 ∷ decimal 6 ∷ decimal 0 ∷ [])
    ∷ (codes "proof" ∷ [])
    ∷ (codes "c" ∷ decimal 1 ∷ []) ∷ (codes "s" ∷ []) ∷ (codes "w" ∷ []) ∷ (codes "end" ∷ []) ∷ []
sack_lines = refl

-- the made instance of number 0: one box
abbrev made_front : Lines → Lines
made_front lines =
    (codes "made" ∷ decimal 0 ∷ codes "boxes" ∷ decimal 1 ∷ codes "volume" ∷ decimal 52341 ∷ []) ∷ lines

made_yes : made_lines 0 (made_instance 0) 5 (Decided (Yes (0 ∷ 0 ∷ []) 0))
    ≡ made_front ((codes "fit" ∷ codes "yes" ∷ []) ∷ (codes "branchings" ∷ decimal 0 ∷ []) ∷ [])
unfolding made_instance
made_yes = refl

made_no : made_lines 0 (made_instance 0) 5 (Decided (No (Rules ∷ []) 3))
    ≡ made_front ((codes "fit" ∷ codes "no" ∷ []) ∷ (codes "branchings" ∷ decimal 3 ∷ []) ∷ [])
unfolding made_instance
made_no = refl

made_undecided : made_lines 0 (made_instance 0) 5 Past
    ≡ made_front ((codes "fit" ∷ codes "undecided" ∷ [])
    ∷ (codes "branchings" ∷ codes "more" ∷ codes "than" ∷ decimal 5 ∷ []) ∷ [])
unfolding made_instance
made_undecided = refl

-- its text
volume_of_0 : decimal 52341 ≡ codes "52341"
volume_of_0 =
    let a = decimal_digit 5 (omega arith) in
    let b = decimal_step 52 (omega arith) (omega arith) ∙ ap (λ ds. ds ++ 50 ∷ []) a in
    let c = decimal_step 523 (omega arith) (omega arith) ∙ ap (λ ds. ds ++ 51 ∷ []) b in
    let d = decimal_step 5234 (omega arith) (omega arith) ∙ ap (λ ds. ds ++ 52 ∷ []) c in
    decimal_step 52341 (omega arith) (omega arith) ∙ ap (λ ds. ds ++ 49 ∷ []) d

abbrev made_bytes : List ℕ → List ℕ → List ℕ → List ℕ
made_bytes number count volume =
    lines_text ((codes "made" ∷ number ∷ codes "boxes" ∷ count ∷ codes "volume" ∷ volume ∷ [])
    ∷ (codes "fit" ∷ codes "yes" ∷ []) ∷ (codes "branchings" ∷ number ∷ []) ∷ [])

made_text_of_0 : made_text 0 (made_instance 0) 5 (Decided (Yes (0 ∷ 0 ∷ []) 0))
    ≡ codes "made 0 boxes 1 volume 52341" ++ 10 ∷ codes "fit yes" ++ 10 ∷ codes "branchings 0" ++ 10 ∷ []
unfolding made_instance made_text
made_text_of_0 =
    ap (λ number. made_bytes number (decimal 1) (decimal 52341)) (decimal_digit 0 (omega arith))
    ∙ (ap (λ count. made_bytes (codes "0") count (decimal 52341)) (decimal_digit 1 (omega arith))
    ∙ ap (λ volume. made_bytes (codes "0") (codes "1") volume) volume_of_0)

-- the answer by the outcome of its class tree
made_answer_of_0 : made_answer 0 0 true
    ≡ record { status = 0; text = made_text 0 (made_instance 0) 0 (Decided (Yes (0 ∷ 0 ∷ []) 0)) }
unfolding made_instance
made_answer_of_0 = refl

-- the made instance of number 1
made_of_1 : made_lines 1 (made_instance 1) 1000000 (Decided (Yes [] 24))
    ≡ (codes "made" ∷ decimal 1 ∷ codes "boxes" ∷ decimal 7 ∷ codes "volume" ∷ decimal 76542 ∷ [])
    ∷ (codes "fit" ∷ codes "yes" ∷ []) ∷ (codes "branchings" ∷ decimal 24 ∷ []) ∷ []
unfolding made_instance
made_of_1 = refl
