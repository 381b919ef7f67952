-- What a verified document of `fit` holds that says no, and where its result line stands.
use Rattle.std.specs.Prelude.{ℕ, zero, suc, ◌≡◌, cond, Bool, List, [], ◌∷◌}
use Rattle.packing_terms.specs.Packing.{PlainInstance}
use Rattle.packing_terms.specs.Tokens.{PlainToken}
use Rattle.text_terms.specs.Lines.{content, words_of}
use Rattle.text_terms.specs.declared.claim.Claim.TheVariants.{NotFitting}
use Rattle.verdict_terms.specs.Form.{IsDocument}
use Rattle.document_audits.specs.Rereading.{says_result}

-- the text is a document that says no, of this instance and with these tokens, which refute it
pub record IsRefutationIn (text : List ℕ) (instance : PlainInstance) (tokens : List PlainToken) : Type 0 where
  pub document : IsDocument text NotFitting
  pub of : document.instance ≡ instance
  pub by : document.backed.tokens ≡ tokens

-- one more where there is such a number
abbrev pub one_further : ℕ → ℕ
one_further zero = zero
one_further (suc n) = suc (suc n)

-- the number of the first line whose first word is `result`, counted from 1; 0 where there is none
abbrev pub result_number : List (List ℕ) → ℕ
result_number [] = 0
result_number (line ∷ lines) =
    cond (says_result (words_of (content line))) 1 (one_further (result_number lines))

-- the number of a line that says so, and else 0
abbrev pub number_if : Bool → ℕ → ℕ
number_if says n = cond says n 0
