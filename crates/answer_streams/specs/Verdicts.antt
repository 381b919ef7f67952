-- The verdict on a document, and its status.
use Rattle.std.specs.Prelude.{ℕ, Result, Ok, Err}
use Rattle.text_terms.specs.declared.claim.Claim.{Claim}
use Rattle.verdict_terms.specs.Documents.{Refusal}
use Rattle.answer_streams.specs.declared.verdict.Verdict.{Verdict}
use Rattle.answer_streams.specs.declared.verdict.Verdict.TheVariants.{Verified, Refused}

-- the verdict on a document, as its definition has it
abbrev pub plain_verdict : Verdict → Result Claim Refusal
plain_verdict (Verified claim) = Ok claim
plain_verdict (Refused line reason) = Err (record { line = line; reason = reason })

-- verified has status 0, refused has status 1
abbrev pub verdict_status : Result Claim Refusal → ℕ
verdict_status (Ok claim) = 0
verdict_status (Err refusal) = 1
