-- A tree to which tokens were fed is whole exactly where they are a refutation.
use Rattle.std.proofs.Common.{◌≡◌, ◌∙◌, refl, sym, ap, true, false, List, [], ◌∷◌, Some, None, Result, Ok, Err}
use Rattle.std.specs.Prelude.{◌↔◌}
use Rattle.std.proofs.lemmas.Bool.{true≢false}
use Rattle.packing_terms.specs.Packing.{PlainInstance}
use Rattle.packing_terms.specs.Results.{◌>>=◌}
use Rattle.verdict_terms.specs.declared.check_answers.RefuseCode.{RefuseCode}
use Rattle.verdict_terms.specs.Checking.{starting, checked_by, is_whole, is_whole_by}
use Rattle.verdict_terms.specs.FamilyRefutation.{FamilyToken, FamilyNode, RefutesFamilies}
use Rattle.verdict_terms.specs.FamilyChecking.{families_after, families_after_all, family_checked_all}
use Rattle.verdict_terms.proofs.FamilyJudged.{families_refute}

module _ (instance : PlainInstance) where
  -- a refusal stays
  refused_all : (nodes : List FamilyNode) (code : RefuseCode) (ts : List FamilyToken)
      → is_whole (family_checked_all instance (record { nodes = nodes; refused = Some code }) ts) ≡ false
  refused_all nodes code [] = refl
  refused_all nodes code (t ∷ ts) = refused_all nodes code ts

  whole_none : (nodes : List FamilyNode) → is_whole_by None nodes ≡ true → nodes ≡ []
  whole_none [] e = refl
  whole_none (n ∷ nodes) e = absurd (cc (e))

  whole_taken : (nodes : List FamilyNode) (ts : List FamilyToken)
      → is_whole (family_checked_all instance (record { nodes = nodes; refused = None }) ts) ≡ true
      → families_after_all instance nodes ts ≡ Ok []
  whole_taken nodes [] e = ap Ok (whole_none nodes e)
  whole_taken nodes (t ∷ ts) e = go (families_after instance nodes t) e (λ left. whole_taken left ts)
    where
      go : (r : Result (List FamilyNode) RefuseCode)
          → is_whole (family_checked_all instance (checked_by nodes r) ts) ≡ true
          → ((left : List FamilyNode)
          → is_whole (family_checked_all instance (record { nodes = left; refused = None }) ts) ≡ true
          → families_after_all instance left ts ≡ Ok [])
          → (r >>= λ left. families_after_all instance left ts) ≡ Ok []
      go (Ok left) f more = more left f
      go (Err code) f more = absurd (true≢false (sym f ∙ refused_all nodes code ts))

  taken_whole : (nodes : List FamilyNode) (ts : List FamilyToken) → families_after_all instance nodes ts ≡ Ok []
      → is_whole (family_checked_all instance (record { nodes = nodes; refused = None }) ts) ≡ true
  taken_whole nodes [] e = let none : nodes ≡ [] = cc (e) in ap (λ ns. is_whole_by None ns) none
  taken_whole nodes (t ∷ ts) e = go (families_after instance nodes t) e (λ left. taken_whole left ts)
    where
      go : (r : Result (List FamilyNode) RefuseCode)
          → (r >>= λ left. families_after_all instance left ts) ≡ Ok []
          → ((left : List FamilyNode) → families_after_all instance left ts ≡ Ok []
          → is_whole (family_checked_all instance (record { nodes = left; refused = None }) ts) ≡ true)
          → is_whole (family_checked_all instance (checked_by nodes r) ts) ≡ true
      go (Ok left) f more = more left f
      go (Err code) f more = absurd (cc (f))

  pub families_in_trees : (n : FamilyNode) (tokens : List FamilyToken)
      → (is_whole (family_checked_all instance (starting n) tokens) ≡ true) ↔ RefutesFamilies instance n tokens
  families_in_trees n tokens = (
    λ e. (families_refute instance n tokens).0 (whole_taken (n ∷ []) tokens e),
    λ h. taken_whole (n ∷ []) tokens ((families_refute instance n tokens).1 h),
  )
