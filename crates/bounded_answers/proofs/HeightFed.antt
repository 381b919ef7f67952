-- Tokens with families that were fed one by one to the refuter of an instance.
use Rattle.std.proofs.Common.{◌≡◌, ℕ, ◌+◌, ◌<◌, ◌∙◌, refl, sym, ap, subst, Bool, true, false, List, [], ◌∷◌, ◌++◌, length}
use Rattle.std.proofs.Common.{map, take, get_or}
use Rattle.std.specs.Prelude.{MatchBool}
use Rattle.std.proofs.lemmas.Bool.{true≢false}
use Rattle.std.proofs.lemmas.List.{map_push, take_more}
use Rattle.packing_terms.specs.Packing.{PlainInstance}
use Rattle.verdict_terms.specs.Checking.{Checked, starting, is_whole}
use Rattle.verdict_terms.specs.FamilyRefutation.{FamilyToken as PlainFamily, FamilyNode, Free, RefutesFamilies}
use Rattle.verdict_terms.specs.FamilyChecking.{family_checked, family_checked_all}
use Rattle.verdict_terms.proofs.FamilyTrees.{families_in_trees}
use Rattle.bounded_tokens.specs.declared.family_token.FamilyToken.{FamilyToken}
use Rattle.bounded_tokens.specs.FamilyPlain.{plain_family}
use Rattle.outer_check.specs.FamilyRefuters.{PlainFamilyRefuter, fed_family}
use Rattle.answer_terms.specs.HeightAnswers.{AreJoining}

-- the refuter of an instance to which these tokens were fed
abbrev pub fed_all : PlainInstance → List PlainFamily → PlainFamilyRefuter
fed_all instance ts = record { instance = instance; checked = family_checked_all instance (starting (Free [])) ts }

checked_push : (instance : PlainInstance) (s : Checked FamilyNode) (ts : List PlainFamily) (t : PlainFamily)
    → family_checked_all instance s (ts ++ t ∷ []) ≡ family_checked instance (family_checked_all instance s ts) t
checked_push instance s [] t = refl
checked_push instance s (u ∷ ts) t = checked_push instance (family_checked instance s u) ts t

-- the first tokens and one more
taken_next : (tokens : List FamilyToken) (k : ℕ) (t : FamilyToken) → k < length tokens → t ≡ get_or tokens k t
    → map plain_family (take (k + 1) tokens) ≡ map plain_family (take k tokens) ++ plain_family t ∷ []
taken_next tokens k t l is =
    ap (map plain_family) (take_more tokens k t l ∙ ap (λ (x : FamilyToken). take k tokens ++ x ∷ []) (sym is))
    ∙ map_push plain_family (take k tokens) t

-- the token at a position more
pub fed_next : (instance : PlainInstance) (tokens : List FamilyToken) (k : ℕ) (t : FamilyToken)
    (r s : PlainFamilyRefuter) → k < length tokens → t ≡ get_or tokens k t
    → r ≡ fed_all instance (map plain_family (take k tokens)) → s ≡ fed_family r (plain_family t)
    → s ≡ fed_all instance (map plain_family (take (k + 1) tokens))
fed_next instance tokens k t r s l is e f =
    f ∙ (ap (λ (x : PlainFamilyRefuter). fed_family x (plain_family t)) e
    ∙ (ap (λ (c : Checked FamilyNode). record { instance = instance; checked = c })
    (sym (checked_push instance (starting (Free [])) (map plain_family (take k tokens)) (plain_family t)))
    ∙ ap (λ (ts : List PlainFamily). fed_all instance ts) (sym (taken_next tokens k t l is))))

-- the refuter is whole exactly where the tokens are a refutation
pub families_tested : (instance : PlainInstance) (tokens : List PlainFamily) (r : Bool)
    → r ≡ is_whole (fed_all instance tokens).checked
    → MatchBool r (RefutesFamilies instance (Free []) tokens) (¬ RefutesFamilies instance (Free []) tokens)
families_tested instance tokens true e = (families_in_trees instance (Free []) tokens).0 (sym e)
families_tested instance tokens false e =
    λ h. true≢false (sym ((families_in_trees instance (Free []) tokens).1 h) ∙ sym e)

-- ---- lines

joining_more : (ts : List PlainFamily) (t : PlainFamily) → AreJoining ts → AreJoining (t ∷ [])
    → AreJoining (ts ++ t ∷ [])
joining_more [] t h k = k
joining_more (PlainFamily.Plain s ∷ ts) t h k = joining_more ts t h k
joining_more (PlainFamily.Family i vs ∷ ts) t h k = (h.0, h.1, joining_more ts t h.2 k)

-- the token at a position more has a line
pub joining_next : (tokens : List FamilyToken) (k : ℕ) (t : FamilyToken) → k < length tokens → t ≡ get_or tokens k t
    → AreJoining (map plain_family (take k tokens)) → AreJoining (plain_family t ∷ [])
    → AreJoining (map plain_family (take (k + 1) tokens))
joining_next tokens k t l is h one =
    subst AreJoining (sym (taken_next tokens k t l is)) (joining_more (map plain_family (take k tokens)) (plain_family t) h one)
