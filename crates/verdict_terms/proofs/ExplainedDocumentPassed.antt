-- What it says that the tests of a line were passed.
use Rattle.std.proofs.Common.{◌≡◌, ℕ, refl, ap, Bool, true, false, Result, Ok, Err}
use Rattle.packing_terms.specs.Packing.{PlainInstance}
use Rattle.text_terms.specs.declared.fault.TextFault.{TextFault}
use Rattle.verdict_terms.specs.declared.explained_answers.AuditCode.{AuditCode}
use Rattle.verdict_terms.specs.declared.explained_reason.ExplainedReason.{ExplainedReason}
use Rattle.verdict_terms.specs.ExplainedStages.{require, text_fault, end_of_parts, coded}

pub ok_is : {A E : Type 0} (x y : A) → ◌≡◌ {A = Result A E} (Ok x) (Ok y) → x ≡ y
ok_is x y e = cc (e)

pub require_ok : {A : Type 0} (test : Bool) (reason : ExplainedReason) (rest : Result A ExplainedReason) (x : A)
    → require test reason rest ≡ Ok x
    → (test ≡ true) × (rest ≡ Ok x)
require_ok true reason rest x e = (refl, e)
require_ok false reason rest x e = absurd (cc (e))

pub fault_ok : {A : Type 0} (r : Result A ℕ) (x : A) → text_fault r ≡ Ok x → r ≡ Ok x
fault_ok (Ok y) x e = ap Ok (ok_is y x e)
fault_ok (Err code) x e = absurd (cc (e))

pub end_ok : (r : Result PlainInstance TextFault) (instance : PlainInstance) → end_of_parts r ≡ Ok instance
    → r ≡ Ok instance
end_ok (Ok x) instance e = ap Ok (ok_is x instance e)
end_ok (Err fault) instance e = absurd (cc (e))

pub coded_ok : {A : Type 0} (r : Result A AuditCode) (x : A) → coded r ≡ Ok x → r ≡ Ok x
coded_ok (Ok y) x e = ap Ok (ok_is y x e)
coded_ok (Err code) x e = absurd (cc (e))
