-- The answer of the job `make`: the made instance of a number is decided as by `fit`, and three
-- lines report it.
--
--     made 0 boxes 1 volume 52341          the number, its boxes and their volume
--     fit yes                              or no, or undecided
--     branchings 0                         the count; where it is undecided, more than the budget
use Rattle.std.specs.Prelude.{ℕ, Bool, List, [], ◌∷◌, codes}
use Rattle.std.specs.Fmt.{decimal}
use Rattle.packing_terms.specs.Packing.{PlainInstance, box_count}
use Rattle.packing_terms.specs.Generator.{made_instance}
use Rattle.packing_terms.specs.Rank.{total_volume}
use Rattle.tree_terms.specs.Trees.{PlainOutcome, Decided, Past, Yes, No, outcome, count_of, under_budget}
use Rattle.tree_terms.specs.ClassTree.{class_tree}
use Rattle.text_terms.specs.Spelling.{lines_text}
use Rattle.answer_terms.specs.Answers.{Lines, status_of}
use Rattle.answer_terms.specs.Solved.{JobAnswer, fit_answer}

-- whether it fits
abbrev pub fit_word : PlainOutcome → List ℕ
fit_word (Decided (Yes numbers count)) = codes "yes"
fit_word (Decided (No tokens count)) = codes "no"
fit_word Past = codes "undecided"

-- the count of branchings, or that there are more than the budget
abbrev pub branching_words : ℕ → PlainOutcome → List (List ℕ)
branching_words budget (Decided verdict) = decimal (count_of verdict) ∷ []
branching_words budget Past = codes "more" ∷ codes "than" ∷ decimal budget ∷ []

-- a number, the boxes of its instance, and their volume
abbrev pub made_words : ℕ → PlainInstance → List (List ℕ)
made_words number instance =
    codes "made" ∷ decimal number ∷ codes "boxes" ∷ decimal (box_count instance) ∷ codes "volume"
    ∷ decimal (total_volume instance) ∷ []

-- the three lines: of a number and its instance, and of the outcome of its class tree under a
-- budget
abbrev pub made_lines : ℕ → PlainInstance → ℕ → PlainOutcome → Lines
made_lines number instance budget decision =
    made_words number instance ∷ (codes "fit" ∷ fit_word decision ∷ [])
    ∷ (codes "branchings" ∷ branching_words budget decision) ∷ []

-- a line feed after each line
unfoldable pub made_text : ℕ → PlainInstance → ℕ → PlainOutcome → List ℕ
made_text number instance budget decision = lines_text (made_lines number instance budget decision)

-- the answer for a number under a budget, with or without scales; the status is that of `fit`
abbrev pub made_answer : ℕ → ℕ → Bool → JobAnswer
made_answer number budget scales =
    let decision = under_budget budget (outcome (class_tree (made_instance number) [] scales)) in
    record { status = status_of (fit_answer decision); text = made_text number (made_instance number) budget decision }
