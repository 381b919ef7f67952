-- What the type keeps, after each token.
use Rattle.std.proofs.Common.{◌≡◌, ℕ, ◌≤◌, refl, sym, ap, subst, ◌∙◌, arith, Bool, true, false, List, [], ◌∷◌, ◌++◌}
use Rattle.std.proofs.Common.{length, Option, Some, None, Result, Ok}
use Rattle.std.specs.Prelude.{◌==◌}
use Rattle.std.proofs.lemmas.Bool.{eqb-true, eq-eqb}
use Rattle.std.proofs.lemmas.List.Elements.{All-from_recursion, All-nil}
use Rattle.packing_terms.specs.declared.Exclusion.{Exclusion}
use Rattle.packing_terms.specs.Packing.{PlainInstance, box_count}
use Rattle.packing_terms.specs.Goals.{subset}
use Rattle.packing_terms.specs.Tokens.{PlainToken}
use Rattle.box_instances.specs.Sets.{all_boxes}
use Rattle.verdict_terms.specs.declared.check_answers.RefuseCode.{RefuseCode}
use Rattle.verdict_terms.specs.Checking.{Checked}
use Rattle.verdict_terms.proofs.Judged.{passes}
use Rattle.verdict_terms.specs.Families.{IsBoxNo, IsFamily, is_too_long}
use Rattle.verdict_terms.specs.FamilyRefutation.{Family, Free, Begun}
use Rattle.verdict_terms.specs.FamilyJudging.{boxes_refusal}
use Rattle.verdict_terms.proofs.FamilyJudged.{family_exact}
use Rattle.verdict_terms.proofs.FamilySound.{grown}
use Rattle.verdict_terms.proofs.FamilyFew.{family_few}
use Rattle.refutation_check.specs.Refuters.{PlainRefuter, fed}
use Rattle.refutation_check.specs.Joining.{AreBoxNos, unless_refused, joined_at, checked_joined}
use Rattle.refutation_check.proofs.Whole.{whole_set}
use Rattle.outer_check.specs.FamilyAnswers.{is_begun_in}
use Rattle.outer_check.specs.FamilyRefuters.{IsBegunAt, IsBegun, IsHeld}

-- ---- the boxes of a family that is begun

pub begun_few : (instance : PlainInstance) (dim : Option ℕ) (us : List ℕ) (nodes : List (List Exclusion))
    → IsBegun instance dim us nodes → length us ≤ box_count instance
begun_few instance None us nodes none = rw none (omega arith)
begun_few instance (Some i) us nodes begun = family_few instance begun.node i us begun.family

pub begun_named : (instance : PlainInstance) (dim : Option ℕ) (us : List ℕ) (nodes : List (List Exclusion))
    → IsBegun instance dim us nodes → AreBoxNos instance us
begun_named instance None us nodes none = rw none (All-nil (λ v. IsBoxNo instance v))
begun_named instance (Some i) us nodes begun = All-from_recursion (λ v. IsBoxNo instance v) us begun.family.boxes

-- the same of the set that has all boxes
pub set_named : (inner : PlainRefuter) (us : List ℕ) → inner.keep ≡ all_boxes inner.instance
    → AreBoxNos inner.instance us → AreBoxNos (subset inner.instance inner.keep) us
set_named inner us whole named =
    subst (λ (set : PlainInstance). AreBoxNos set us)
    (sym (ap (subset inner.instance) whole ∙ whole_set inner.instance)) named

-- ---- boxes that joined

accepted : (o : Option RefuseCode) (long : Bool) → unless_refused o long ≡ Ok false → o ≡ None
accepted None long e = refl
accepted (Some code) long e = absurd (cc (e))

module _ (instance : PlainInstance) (i : ℕ) (vs : List ℕ) where
  family_joined : (dim : Option ℕ) (us : List ℕ) (es : List Exclusion) (behind : List (List Exclusion))
      → IsBegun instance dim us (es ∷ behind) → is_begun_in dim i ≡ true → boxes_refusal instance es i us vs ≡ None
      → IsFamily instance es i (us ++ vs)
  family_joined None us es behind none own e =
      subst (λ ws. IsFamily instance es i (ws ++ vs)) (sym none)
      (grown instance (Free es) i vs tt ((family_exact instance (Free es) (Family i vs)).0
      (subst (λ ws. boxes_refusal instance es i ws vs ≡ None) none e)))
  family_joined (Some j) us es behind begun own e =
      grown instance (Begun es j us) i vs
      (subst (λ (l : List Exclusion). IsFamily instance l j us) (let same = begun.opens in cc (same)) begun.family)
      ((family_exact instance (Begun es j us) (Family i vs)).0
      (passes (i == j) _ _ (eq-eqb i j (sym (eqb-true j i own))) e))

  pub begun_joined : (dim : Option ℕ) (us : List ℕ) (nodes : List (List Exclusion))
      → IsBegun instance dim us nodes → is_begun_in dim i ≡ true → joined_at instance nodes i us vs ≡ Ok false
      → IsBegunAt instance i (us ++ vs) nodes
  begun_joined dim us [] begun own e = absurd (cc (e))
  begun_joined dim us (es ∷ behind) begun own e = record {
    node = es;
    behind = behind;
    opens = refl;
    family = family_joined dim us es behind begun own
        (accepted (boxes_refusal instance es i us vs) (is_too_long instance i (us ++ vs)) e);
  }

-- ---- what the type keeps

module _ (inner next : PlainRefuter) (us : List ℕ) (cap : ℕ) where
  -- a plain token
  pub held_plain : (t : PlainToken) (told : Option RefuseCode) → IsHeld inner None us None cap → next ≡ fed inner t
      → told ≡ next.checked.refused → IsHeld next None us told cap
  held_plain t told h step is = record {
    whole = rw step h.whole;
    room = rw step h.room;
    few = rw step h.few;
    going = λ e. record { inner_goes = sym is ∙ e; begun = (h.going refl).begun };
  }

  -- a refusal
  pub held_refused : (dim : Option ℕ) (old : Option RefuseCode) (c : Checked (List Exclusion)) (code : RefuseCode)
      (kept : List ℕ) → IsHeld inner dim us old cap → next ≡ record inner { checked = c }
      → IsHeld next dim kept (Some code) cap
  held_refused dim old c code kept h step = record {
    whole = rw step h.whole;
    room = rw step h.room;
    few = rw step h.few;
    going = λ e. absurd (cc (e));
  }

  -- a family that took its node away
  pub held_closed : (dim : Option ℕ) (r : Result Bool RefuseCode) (kept : List ℕ) → IsHeld inner dim us None cap
      → next ≡ record inner { checked = checked_joined inner.checked r } → r ≡ Ok true → kept ≡ []
      → IsHeld next None kept None cap
  held_closed dim r kept h step e none = record {
    whole = rw step h.whole;
    room = rw step h.room;
    few = rw step h.few;
    going = λ _. record {
      inner_goes = ap (λ (n : PlainRefuter). n.checked.refused) step
          ∙ (ap (λ x. (checked_joined inner.checked x).refused) e ∙ (h.going refl).inner_goes);
      begun = none;
    };
  }

  -- a family that is begun or goes on
  pub held_open : (dim : Option ℕ) (i : ℕ) (vs : List ℕ) (r : Result Bool RefuseCode) (kept : List ℕ)
      → IsHeld inner dim us None cap → next ≡ record inner { checked = checked_joined inner.checked r }
      → r ≡ Ok false → r ≡ joined_at inner.instance inner.checked.nodes i us vs → is_begun_in dim i ≡ true
      → kept ≡ us ++ vs → IsHeld next (Some i) kept None cap
  held_open dim i vs r kept h step e answer own all = record {
    whole = rw step h.whole;
    room = rw step h.room;
    few = rw step h.few;
    going = λ _. record {
      inner_goes = ap (λ (n : PlainRefuter). n.checked.refused) same ∙ (h.going refl).inner_goes;
      begun = subst (λ (n : PlainRefuter). IsBegunAt n.instance i kept n.checked.nodes) (sym same)
          (subst (λ ws. IsBegunAt inner.instance i ws inner.checked.nodes) (sym all)
          (begun_joined inner.instance i vs dim us inner.checked.nodes (h.going refl).begun own (sym answer ∙ e)));
    };
  }
    where
      joined : Result Bool RefuseCode → PlainRefuter
      joined x = record inner { checked = checked_joined inner.checked x }

      same : next ≡ inner
      same = step ∙ ap joined e
