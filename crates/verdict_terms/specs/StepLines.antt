-- Lines of explained refutations: the step that the words of a line are, in an instance with a given
-- number of dimensions, and the words of a step. The splits and the leaves for a side and for a
-- tuple are token lines.
use Rattle.std.specs.Prelude.{ℕ, ◌≡◌, ◌≤◌, ◌||◌, cond, List, [], ◌∷◌, ◌++◌, Option, Some, None, codes}
use Rattle.std.specs.Fmt.{decimal}
use Rattle.packing_terms.specs.Tokens.{PlainToken}
use Rattle.packing_terms.specs.Tokens.PlainToken.{Apart as ApartToken, Order as OrderToken, TooLarge, Scales}
use Rattle.text_terms.specs.Lines.{Line, cut_line, same_bytes}
use Rattle.text_terms.specs.Spelling.{spaced}
use Rattle.text_terms.specs.Feeding.{lines_fed, new_lexer}
use Rattle.text_terms.specs.TokenLines.{parameters, token_of, token_words, IsParameter, HasLine}
use Rattle.verdict_terms.specs.Steps.{PlainStep}
use Rattle.verdict_terms.specs.Steps.PlainStep.{Pair, Apart, Triple, Compose, Cycle, Order, Chain, On, Clash, Plain}

-- a step of one, three, four or five parameters
abbrev pub of_one : (ℕ → PlainStep) → Option (List ℕ) → Option PlainStep
of_one make (Some (x ∷ [])) = Some (make x)
of_one make _ = None

abbrev pub of_three : (ℕ → ℕ → ℕ → PlainStep) → Option (List ℕ) → Option PlainStep
of_three make (Some (x ∷ y ∷ z ∷ [])) = Some (make x y z)
of_three make _ = None

abbrev pub of_four : (ℕ → ℕ → ℕ → ℕ → PlainStep) → Option (List ℕ) → Option PlainStep
of_four make (Some (x ∷ y ∷ z ∷ u ∷ [])) = Some (make x y z u)
of_four make _ = None

abbrev pub of_five : (ℕ → ℕ → ℕ → ℕ → ℕ → PlainStep) → Option (List ℕ) → Option PlainStep
of_five make (Some (x ∷ y ∷ z ∷ u ∷ v ∷ [])) = Some (make x y z u v)
of_five make _ = None

abbrev pub as_plain : Option PlainToken → Option PlainStep
as_plain None = None
as_plain (Some token) = Some (Plain token)

-- the step of a line with d dimensions
unfoldable pub step_of : ℕ → List (List ℕ) → Option PlainStep
step_of d [] = None
step_of d (key ∷ words) =
    cond (same_bytes key (codes "pair")) (of_three Pair (parameters words)) (
    cond (same_bytes key (codes "apart")) (of_three Apart (parameters words)) (
    cond (same_bytes key (codes "triple")) (of_four Triple (parameters words)) (
    cond (same_bytes key (codes "compose")) (of_four Compose (parameters words)) (
    cond (same_bytes key (codes "cycle")) (of_five Cycle (parameters words)) (
    cond (same_bytes key (codes "order")) (of_five Order (parameters words)) (
    cond (same_bytes key (codes "chain")) (of_three Chain (parameters words)) (
    cond (same_bytes key (codes "on")) (of_one On (parameters words)) (
    cond (same_bytes key (codes "x")) (of_three Clash (parameters words)) (
    cond (same_bytes key (codes "a") || same_bytes key (codes "d") || same_bytes key (codes "t")
    || same_bytes key (codes "v")) (as_plain (token_of d (key ∷ words))) (
    None))))))))))

-- the step that a line is, in an instance with d dimensions: none where it has a bad byte
abbrev pub line_step : ℕ → Line → Option PlainStep
line_step d line = cond line.bad None (step_of d line.words)

-- the words of a step
abbrev pub step_words : PlainStep → List (List ℕ)
step_words (Pair i u v) = codes "pair" ∷ decimal i ∷ decimal u ∷ decimal v ∷ []
step_words (Apart i u v) = codes "apart" ∷ decimal i ∷ decimal u ∷ decimal v ∷ []
step_words (Triple i u v x) = codes "triple" ∷ decimal i ∷ decimal u ∷ decimal v ∷ decimal x ∷ []
step_words (Compose i u v x) = codes "compose" ∷ decimal i ∷ decimal u ∷ decimal v ∷ decimal x ∷ []
step_words (Cycle i a b c d) = codes "cycle" ∷ decimal i ∷ decimal a ∷ decimal b ∷ decimal c ∷ decimal d ∷ []
step_words (Order i a b c d) = codes "order" ∷ decimal i ∷ decimal a ∷ decimal b ∷ decimal c ∷ decimal d ∷ []
step_words (Chain i p q) = codes "chain" ∷ decimal i ∷ decimal p ∷ decimal q ∷ []
step_words (On v) = codes "on" ∷ decimal v ∷ []
step_words (Clash i u v) = codes "x" ∷ decimal i ∷ decimal u ∷ decimal v ∷ []
step_words (Plain token) = token_words token

-- a token that is a line of an explained refutation by itself
abbrev pub HasPlainLine : ℕ → PlainToken → Type 0
HasPlainLine d (ApartToken i u v) = HasLine d (ApartToken i u v)
HasPlainLine d (OrderToken i u v) = HasLine d (OrderToken i u v)
HasPlainLine d (TooLarge v i) = HasLine d (TooLarge v i)
HasPlainLine d (Scales fs) = HasLine d (Scales fs)
HasPlainLine d _ = ⊥

-- a step that has a line with d dimensions
abbrev pub HasStepLine : ℕ → PlainStep → Type 0
HasStepLine d (Pair i u v) = IsParameter i × IsParameter u × IsParameter v
HasStepLine d (Apart i u v) = IsParameter i × IsParameter u × IsParameter v
HasStepLine d (Triple i u v x) = IsParameter i × IsParameter u × IsParameter v × IsParameter x
HasStepLine d (Compose i u v x) = IsParameter i × IsParameter u × IsParameter v × IsParameter x
HasStepLine n (Cycle i a b c d) = IsParameter i × IsParameter a × IsParameter b × IsParameter c × IsParameter d
HasStepLine n (Order i a b c d) = IsParameter i × IsParameter a × IsParameter b × IsParameter c × IsParameter d
HasStepLine d (Chain i p q) = IsParameter i × IsParameter p × IsParameter q
HasStepLine d (On v) = IsParameter v
HasStepLine d (Clash i u v) = IsParameter i × IsParameter u × IsParameter v
HasStepLine d (Plain token) = HasPlainLine d token

-- the words of a step are read back as the step
abbrev pub StepsAreReadBack : Type 0
StepsAreReadBack = (d : ℕ) (s : PlainStep) → HasStepLine d s → step_of d (step_words s) ≡ Some s

-- these bytes, fed to a lexer from its start, give one line, which is the step
pub record IsFedBack (d : ℕ) (bytes : List ℕ) (s : PlainStep) : Type 0 where
  pub line : Line
  pub fed : lines_fed new_lexer bytes ≡ record { number = 1; line = line } ∷ []
  pub read : line_step d line ≡ Some s

-- so is the line of a step, which a line feed ends
abbrev pub StepsAreFedBack : Type 0
StepsAreFedBack = (d : ℕ) → d ≤ 4 → (s : PlainStep) → HasStepLine d s
    → IsFedBack d (spaced (step_words s) ++ 10 ∷ []) s

-- a line that is cut to its first 12 words, each to its first 21 bytes, is the same step
abbrev pub StepLinesAreTold : Type 0
StepLinesAreTold = (d : ℕ) → d ≤ 4 → (line : Line) → line_step d (cut_line line) ≡ line_step d line
