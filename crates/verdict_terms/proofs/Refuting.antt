-- Tokens are taken one by one, and leave no node open, exactly where they are a refutation.
use Rattle.std.proofs.Common.{◌≡◌, ◌∙◌, ℕ, refl, sym, ap, true, false, List, [], ◌∷◌, Some, None, Result}
use Rattle.std.proofs.Common.{Ok, Err}
use Rattle.std.proofs.lemmas.Bool.{true≢false}
use Rattle.packing_terms.specs.Results.{◌>>=◌}
use Rattle.std.specs.Prelude.{◌↔◌}
use Rattle.packing_terms.specs.Packing.{PlainInstance}
use Rattle.packing_terms.specs.declared.Exclusion.{Exclusion}
use Rattle.packing_terms.specs.Tokens.{PlainToken}
use Rattle.packing_terms.specs.Refutation.{Refutes}
use Rattle.packing_terms.specs.Feeding.{Accepts, children}
use Rattle.packing_terms.specs.OuterRefutation.{no_choice, IsBinRefutation, IsValueRefutation}
use Rattle.packing_terms.specs.OuterFeeding.{Outer, AcceptsBins, bin_children, AcceptsValue, choice_children}
use Rattle.packing_terms.proofs.Fed.{fed, fed_refutes}
use Rattle.packing_terms.proofs.OuterFed.{bins_fed, fed_refutes_bins, value_fed, fed_refutes_value}
use Rattle.verdict_terms.specs.Judging.{refusal}
use Rattle.verdict_terms.specs.OuterJudging.{bin_refusal, value_refusal}
use Rattle.verdict_terms.proofs.Judged.{inner_exact, bins_exact, value_exact}
use Rattle.verdict_terms.proofs.Fed.{taken_fed, fed_taken}
use Rattle.verdict_terms.specs.declared.check_answers.RefuseCode.{RefuseCode}
use Rattle.verdict_terms.specs.Checking.{nodes_after_all, inner_after, bins_after, value_after, starting, checked_by}
use Rattle.verdict_terms.specs.Checking.{checked_after_all, is_whole, is_whole_by}

pub inner_refutes : (instance : PlainInstance) (es : List Exclusion) (tokens : List PlainToken)
    → (nodes_after_all (inner_after instance) (es ∷ []) tokens ≡ Ok []) ↔ Refutes instance es tokens
inner_refutes instance es tokens = (
  λ e. fed_refutes instance es tokens
      (taken_fed (Accepts instance) children (refusal instance) (inner_exact instance) (es ∷ []) tokens [] e),
  λ h. fed_taken (Accepts instance) children (refusal instance) (inner_exact instance) (es ∷ []) tokens []
      (fed instance h []),
)

pub bins_refute : (instance : PlainInstance) (k : ℕ) (tokens : List PlainToken)
    → (nodes_after_all (bins_after instance k) (Outer [] ∷ []) tokens ≡ Ok []) ↔ IsBinRefutation instance k tokens
bins_refute instance k tokens = (
  λ e. fed_refutes_bins instance k tokens ([] ∷ [])
      (taken_fed (AcceptsBins instance k) (bin_children k) (bin_refusal instance k) (bins_exact instance k)
      (Outer [] ∷ []) tokens [] e),
  λ h. fed_taken (AcceptsBins instance k) (bin_children k) (bin_refusal instance k) (bins_exact instance k)
      (Outer [] ∷ []) tokens [] (bins_fed instance k h),
)

pub value_refutes : (instance : PlainInstance) (goal : ℕ) (tokens : List PlainToken)
    → (nodes_after_all (value_after instance goal) (Outer no_choice ∷ []) tokens ≡ Ok []) ↔ IsValueRefutation
    instance goal tokens
value_refutes instance goal tokens = (
  λ e. fed_refutes_value instance goal tokens (no_choice ∷ [])
      (taken_fed (AcceptsValue instance goal) choice_children (value_refusal instance goal) (value_exact instance goal)
      (Outer no_choice ∷ []) tokens [] e),
  λ h. fed_taken (AcceptsValue instance goal) choice_children (value_refusal instance goal) (value_exact instance goal)
      (Outer no_choice ∷ []) tokens [] (value_fed instance goal h),
)

-- ---- as they are fed

module _ {Node : Type 0} (after : List Node → PlainToken → Result (List Node) RefuseCode) where
  -- a refusal stays
  refused_all : (nodes : List Node) (code : RefuseCode) (ts : List PlainToken)
      → is_whole (checked_after_all after (record { nodes = nodes; refused = Some code }) ts) ≡ false
  refused_all nodes code [] = refl
  refused_all nodes code (t ∷ ts) = refused_all nodes code ts

  whole_none : (nodes : List Node) → is_whole_by None nodes ≡ true → nodes ≡ []
  whole_none [] e = refl
  whole_none (n ∷ nodes) e = absurd (cc (e))

  -- a tree that was taken whole leaves no node open
  pub whole_taken : (nodes : List Node) (ts : List PlainToken)
      → is_whole (checked_after_all after (record { nodes = nodes; refused = None }) ts) ≡ true
      → nodes_after_all after nodes ts ≡ Ok []
  whole_taken nodes [] e = ap Ok (whole_none nodes e)
  whole_taken nodes (t ∷ ts) e = go (after nodes t) e (λ left. whole_taken left ts)
    where
      go : (r : Result (List Node) RefuseCode) → is_whole (checked_after_all after (checked_by nodes r) ts) ≡ true
          → ((left : List Node) → is_whole (checked_after_all after (record { nodes = left; refused = None }) ts) ≡ true
          → nodes_after_all after left ts ≡ Ok [])
          → (r >>= λ left. nodes_after_all after left ts) ≡ Ok []
      go (Ok left) f more = more left f
      go (Err code) f more = absurd (true≢false (sym f ∙ refused_all nodes code ts))

  pub taken_whole : (nodes : List Node) (ts : List PlainToken) → nodes_after_all after nodes ts ≡ Ok []
      → is_whole (checked_after_all after (record { nodes = nodes; refused = None }) ts) ≡ true
  taken_whole nodes [] e = let none : nodes ≡ [] = cc (e) in ap (λ ns. is_whole_by None ns) none
  taken_whole nodes (t ∷ ts) e = go (after nodes t) e (λ left. taken_whole left ts)
    where
      go : (r : Result (List Node) RefuseCode) → (r >>= λ left. nodes_after_all after left ts) ≡ Ok []
          → ((left : List Node) → nodes_after_all after left ts ≡ Ok []
          → is_whole (checked_after_all after (record { nodes = left; refused = None }) ts) ≡ true)
          → is_whole (checked_after_all after (checked_by nodes r) ts) ≡ true
      go (Ok left) f more = more left f
      go (Err code) f more = absurd (cc (f))

pub inner_fed : (instance : PlainInstance) (es : List Exclusion) (tokens : List PlainToken)
    → (is_whole (checked_after_all (inner_after instance) (starting es) tokens) ≡ true) ↔ Refutes instance es tokens
inner_fed instance es tokens = (
  λ e. (inner_refutes instance es tokens).0 (whole_taken (inner_after instance) (es ∷ []) tokens e),
  λ h. taken_whole (inner_after instance) (es ∷ []) tokens ((inner_refutes instance es tokens).1 h),
)

pub bins_tree_fed : (instance : PlainInstance) (k : ℕ) (tokens : List PlainToken)
    → (is_whole (checked_after_all (bins_after instance k) (starting (Outer [])) tokens) ≡ true) ↔ IsBinRefutation
    instance k tokens
bins_tree_fed instance k tokens = (
  λ e. (bins_refute instance k tokens).0 (whole_taken (bins_after instance k) (Outer [] ∷ []) tokens e),
  λ h. taken_whole (bins_after instance k) (Outer [] ∷ []) tokens ((bins_refute instance k tokens).1 h),
)

pub value_tree_fed : (instance : PlainInstance) (goal : ℕ) (tokens : List PlainToken)
    → (is_whole (checked_after_all (value_after instance goal) (starting (Outer no_choice)) tokens) ≡ true) ↔
    IsValueRefutation instance goal tokens
value_tree_fed instance goal tokens = (
  λ e. (value_refutes instance goal tokens).0 (whole_taken (value_after instance goal) (Outer no_choice ∷ []) tokens e),
  λ h. taken_whole (value_after instance goal) (Outer no_choice ∷ []) tokens ((value_refutes instance goal tokens).1 h),
)
