-- The open nodes that a judged token leaves.
use Rattle.std.proofs.Common.{◌≡◌, ℕ, refl, sym, ap, true, List, [], ◌∷◌, ◌++◌, Option, Some, None, Ok}
use Rattle.std.specs.Prelude.{◌↔◌}
use Rattle.std.proofs.lemmas.Bool.{true≢false}
use Rattle.packing_terms.specs.Packing.{PlainInstance}
use Rattle.packing_terms.specs.Tokens.{PlainToken}
use Rattle.packing_terms.specs.OuterRefutation.{Bins as UsedBins, Choice as BoxChoice}
use Rattle.packing_terms.specs.OuterFeeding.{OpenNode, Outer, Inner, bin_children, choice_children}
use Rattle.packing_terms.specs.OuterPaths.{OuterView, Whole, On, At, Inside, open_nodes, view_after, bins_with}
use Rattle.packing_terms.specs.OuterPaths.{bin_step, choices_with, choice_step}
use Rattle.packing_terms.proofs.OuterViews.{bins_view, value_view}
use Rattle.verdict_terms.specs.declared.check_answers.RefuseCode.{RefuseCode}
use Rattle.verdict_terms.specs.OuterJudging.{bin_refusal, value_refusal}
use Rattle.verdict_terms.specs.Checking.{bins_after, value_after, left_by}
use Rattle.verdict_terms.proofs.Judged.{bins_exact, value_exact}
use Rattle.outer_check.specs.Outers.{judged_at, left_open, is_whole_view}

-- the first node is judged; where it isn't refused, its children and the rest are the open nodes behind the token
pub first_judged : {Node : Type 0} (r : Option RefuseCode) (nodes behind after : List (OpenNode Node))
    → (r ≡ None → nodes ++ behind ≡ after) → left_by r nodes behind ≡ left_open r after
first_judged (Some code) nodes behind after e = refl
first_judged None nodes behind after e = ap Ok (e refl)

pub bins_opened : (instance : PlainInstance) (k : ℕ) (view : OuterView UsedBins) (t : PlainToken)
    → bins_after instance k (open_nodes (bins_with k) view) t ≡ left_open (judged_at (bin_refusal instance k) view t)
    (open_nodes (bins_with k) (view_after (bins_with k) bin_step view t))
bins_opened instance k Whole t = refl
bins_opened instance k (On path (At node)) t =
    first_judged (bin_refusal instance k (Outer node) t) (bin_children k (Outer node) t) _ _
    (λ e. bins_view instance k (On path (At node)) (t ∷ []) _ ((bins_exact instance k (Outer node) t).0 e, refl))
bins_opened instance k (On path (Inside keep es behind)) t =
    first_judged (bin_refusal instance k (Inner keep es) t) (bin_children k (Inner keep es) t) _ _
    (λ e. bins_view instance k (On path (Inside keep es behind)) (t ∷ []) _
    ((bins_exact instance k (Inner keep es) t).0 e, refl))

pub value_opened : (instance : PlainInstance) (goal : ℕ) (view : OuterView BoxChoice) (t : PlainToken)
    → value_after instance goal (open_nodes choices_with view) t
    ≡ left_open (judged_at (value_refusal instance goal) view t)
    (open_nodes choices_with (view_after choices_with choice_step view t))
value_opened instance goal Whole t = refl
value_opened instance goal (On path (At node)) t =
    first_judged (value_refusal instance goal (Outer node) t) (choice_children (Outer node) t) _ _
    (λ e. value_view instance goal (On path (At node)) (t ∷ []) _
    ((value_exact instance goal (Outer node) t).0 e, refl))
value_opened instance goal (On path (Inside keep es behind)) t =
    first_judged (value_refusal instance goal (Inner keep es) t) (choice_children (Inner keep es) t) _ _
    (λ e. value_view instance goal (On path (Inside keep es behind)) (t ∷ []) _
    ((value_exact instance goal (Inner keep es) t).0 e, refl))

pub none_open : {Node : Type 0} (below : Node → ℕ → List Node) (view : OuterView Node)
    → (open_nodes below view ≡ []) ↔ (is_whole_view view ≡ true)
none_open below Whole = (λ e. refl, λ e. refl)
none_open below (On path (At node)) = (λ e. absurd (cc (e)), λ e. absurd (true≢false (sym e)))
none_open below (On path (Inside keep es behind)) = (λ e. absurd (cc (e)), λ e. absurd (true≢false (sym e)))
