-- Whether an exchange is open at the node for a value that the splits lead to.
use Rattle.std.proofs.Common.{◌≡◌, ℕ, pred, ◌-◌, ◌<◌, nat_le, sym, ap, ap₂, subst, ◌∙◌, arith, Bool, true, false, ◌&&◌, Some, None}
use Rattle.std.proofs.lemmas.Bool.{and_parts, leb-true}
use Rattle.packing_terms.specs.Packing.{PlainInstance, box_count}
use Rattle.packing_terms.specs.OuterRefutation.{has_box}
use Rattle.verdict_terms.specs.declared.check_answers.RefuseCode.TheVariants.{Range, Choice}
use Rattle.verdict_terms.specs.Judging.{unless, names_box}
use Rattle.verdict_terms.specs.Exchanges.{comes_before}
use Rattle.verdict_terms.specs.BoundedJudging.{exchange_refusal}
use Rattle.outer_check.specs.declared.goal.Goal.TheVariants.{Value as OfValue}
use Rattle.outer_check.specs.Frames.{PlainPath, ArePath, AreSplits, is_put}
use Rattle.outer_check.specs.Outers.{AreOf}
use Rattle.outer_check.proofs.Ranges.{has_passing}
use Rattle.outer_check.proofs.Chosen.{choice_at, taken_is, left_is}

-- a number of the text that names a box is one more than the box's own
pub named : (instance : PlainInstance) (v : ℕ) → names_box instance v ≡ true → (pred v ≡ v - 1) × (v - 1 < box_count instance)
named instance v names =
    let tests = and_parts (nat_le 1 v) (nat_le v (box_count instance)) names in
    let from = leb-true 1 v tests.0 in
    let to = leb-true v (box_count instance) tests.1 in
    (omega (arith, from), omega (arith, from, to))

module _ (instance : PlainInstance) (y : ℕ) (p : PlainPath) (same : p.boxes ≡ box_count instance) (path : ArePath p)
    (are : AreOf (OfValue y) p.frames) where
  splits : AreSplits (box_count instance) p.frames
  splits = subst (λ n. AreSplits n p.frames) same path.splits

  -- a box of the text that is out, and one that is in
  is_out : (u : ℕ) → u < box_count instance → has_box u (choice_at p.frames).left ≡ is_put p.frames 1 u
  is_out u there =
      ap (λ us. has_box u us) (left_is (box_count instance) p.frames splits path.apart are)
      ∙ has_passing (λ w. is_put p.frames 1 w) u 0 (box_count instance) (omega arith) (omega (arith, there))

  is_in : (v : ℕ) → v < box_count instance → has_box v (choice_at p.frames).taken ≡ is_put p.frames 0 v
  is_in v there =
      ap (λ us. has_box v us) (taken_is (box_count instance) p.frames splits path.apart are)
      ∙ has_passing (λ w. is_put p.frames 0 w) v 0 (box_count instance) (omega arith) (omega (arith, there))

  pub unnamed_exchange : (u v : ℕ) → (names_box instance u && names_box instance v) ≡ false
      → Some Range ≡ exchange_refusal instance (choice_at p.frames) u v
  unnamed_exchange u v unnamed =
      sym (ap (λ b. unless b Range (unless (has_box (pred u) (choice_at p.frames).left
      && has_box (pred v) (choice_at p.frames).taken && comes_before instance (pred u) (pred v)) Choice None)) unnamed)

  -- the parts of the test, by the numbers behind those of the text
  pub named_exchange : (u v a b : ℕ) → (names_box instance u && names_box instance v) ≡ true → pred u ≡ a → pred v ≡ b
      → a < box_count instance → b < box_count instance → (out taken before test : Bool) → out ≡ is_put p.frames 1 a
      → taken ≡ is_put p.frames 0 b → before ≡ comes_before instance a b → (out && taken && before) ≡ test
      → unless test Choice None ≡ exchange_refusal instance (choice_at p.frames) u v
  named_exchange u v a b named e f first second out taken before test is_left is_taken is_before tested =
      ap (λ t. unless t Choice None)
      (sym tested ∙ (ap₂ (λ x z. x && z && before) (is_left ∙ sym (is_out a first)) (is_taken ∙ sym (is_in b second))
      ∙ ap (λ z. has_box a (choice_at p.frames).left && has_box b (choice_at p.frames).taken && z) is_before))
      ∙ sym (ap (λ t. unless t Range (unless (has_box (pred u) (choice_at p.frames).left
      && has_box (pred v) (choice_at p.frames).taken && comes_before instance (pred u) (pred v)) Choice None)) named
      ∙ ap₂ (λ x z. unless (has_box x (choice_at p.frames).left && has_box z (choice_at p.frames).taken
      && comes_before instance x z) Choice None) e f)
