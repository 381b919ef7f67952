-- What is said of the documents of walks.
use Rattle.std.specs.Prelude.{ℕ, ◌≡◌, Bool, length, Ok}
use Rattle.packing_terms.specs.Packing.{PlainInstance, dims}
use Rattle.packing_terms.specs.Limits.{IsInstance}
use Rattle.verdict_terms.specs.declared.kind.DocumentKind.TheVariants.{Front}
use Rattle.verdict_terms.specs.Kinds.{document_kind}
use Rattle.answer_terms.specs.Walks.{front_walk}
use Rattle.answer_terms.specs.FrontTexts.{front_text}
use Rattle.verdict_terms.specs.FrontDocumentVerdicts.{front_document_verdict}

-- the document of a walk is verified with its claim
abbrev pub OwnFrontsAreVerified : Type 0
OwnFrontsAreVerified = (instance : PlainInstance) (budget : ℕ) (scales : Bool) → IsInstance instance → dims instance ≡ 2
    → front_document_verdict (front_text instance (front_walk instance budget scales))
    ≡ Ok (record {
      instance = instance;
      claim = record {
        complete = (front_walk instance budget scales).complete;
        points = length (front_walk instance budget scales).points;
      };
    })

-- by its first line it is one of a front
abbrev pub OwnFrontsAreFronts : Type 0
OwnFrontsAreFronts = (instance : PlainInstance) (budget : ℕ) (scales : Bool) → IsInstance instance → dims instance ≡ 2
    → document_kind (front_text instance (front_walk instance budget scales)) ≡ Front
