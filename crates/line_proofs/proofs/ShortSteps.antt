-- Lists of steps that are held in a few bytes each.
use Rattle.std.proofs.Common.{◌≡◌, ℕ, refl, sym, ap, ap₂, subst, ◌∙◌, arith, List, [], ◌∷◌, ◌++◌, length, All}
use Rattle.std.proofs.lemmas.List.{get_or_append_left, get_or_push, map_push}
use Rattle.std.proofs.lemmas.List.Elements.{All-tail, All-head}
use Rattle.verdict_terms.specs.Steps.{PlainStep}
use Rattle.verdict_terms.specs.Steps.PlainStep.{On as PlainOn}
use Rattle.line_proofs.specs.declared.short_step.ShortStep.{ShortStep}
use Rattle.line_proofs.specs.declared.short_step.ShortStep.TheVariants.{Pair, Apart, Triple, Compose, Cycle, Order}
use Rattle.line_proofs.specs.declared.short_step.ShortStep.TheVariants.{Chain, On, Clash, SplitApart, SplitOrder}
use Rattle.line_proofs.specs.declared.short_step.ShortStep.TheVariants.{Wide}
use Rattle.line_proofs.specs.ShortSteps.{shown_step, shown_steps, IsWithin}

-- one that isn't wide shows the same beside any wide ones
pub shown_anywhere : (s : ShortStep) (us ws : List PlainStep) → ((n : ℕ) → IsWithin n s)
    → shown_step us s ≡ shown_step ws s
shown_anywhere (Pair i u v) us ws h = refl
shown_anywhere (Apart i u v) us ws h = refl
shown_anywhere (Triple i u v x) us ws h = refl
shown_anywhere (Compose i u v x) us ws h = refl
shown_anywhere (Cycle i a b c d) us ws h = refl
shown_anywhere (Order i a b c d) us ws h = refl
shown_anywhere (Chain i p q) us ws h = refl
shown_anywhere (On v) us ws h = refl
shown_anywhere (Clash i u v) us ws h = refl
shown_anywhere (SplitApart i u v) us ws h = refl
shown_anywhere (SplitOrder i u v) us ws h = refl
shown_anywhere (Wide k) us ws h = let z = h 0 in absurd (omega (arith, z))

-- one more wide one changes none of the others
shown_beside : (s : ShortStep) (ws : List PlainStep) (w : PlainStep) → IsWithin (length ws) s
    → shown_step (ws ++ w ∷ []) s ≡ shown_step ws s
shown_beside (Pair i u v) ws w h = refl
shown_beside (Apart i u v) ws w h = refl
shown_beside (Triple i u v x) ws w h = refl
shown_beside (Compose i u v x) ws w h = refl
shown_beside (Cycle i a b c d) ws w h = refl
shown_beside (Order i a b c d) ws w h = refl
shown_beside (Chain i p q) ws w h = refl
shown_beside (On v) ws w h = refl
shown_beside (Clash i u v) ws w h = refl
shown_beside (SplitApart i u v) ws w h = refl
shown_beside (SplitOrder i u v) ws w h = refl
shown_beside (Wide k) ws w h = get_or_append_left ws (w ∷ []) (PlainOn 0) k h

all_beside : (ss : List ShortStep) (ws : List PlainStep) (w : PlainStep) → All (IsWithin (length ws)) ss
    → shown_steps (ws ++ w ∷ []) ss ≡ shown_steps ws ss
all_beside [] ws w h = refl
all_beside (s ∷ ss) ws w h =
    ap₂ (λ (x : PlainStep) (xs : List PlainStep). x ∷ xs)
    (shown_beside s ws w (All-head (IsWithin (length ws)) s ss h))
    (all_beside ss ws w (All-tail (IsWithin (length ws)) s ss h))

-- one more that isn't wide
pub steps_short : (ss : List ShortStep) (s : ShortStep) (ws : List PlainStep) → ((n : ℕ) → IsWithin n s)
    → shown_steps ws (ss ++ s ∷ []) ≡ shown_steps ws ss ++ shown_step [] s ∷ []
steps_short ss s ws h =
    map_push (shown_step ws) ss s
    ∙ ap (λ (x : PlainStep). shown_steps ws ss ++ x ∷ []) (shown_anywhere s ws [] h)

-- one more that is wide
pub steps_wide : (ss : List ShortStep) (ws : List PlainStep) (w : PlainStep) (n k : ℕ) → n ≡ length ws → k ≡ length ws
    → All (IsWithin n) ss → shown_steps (ws ++ w ∷ []) (ss ++ Wide k ∷ []) ≡ shown_steps ws ss ++ w ∷ []
steps_wide ss ws w n k f e h =
    map_push (shown_step (ws ++ w ∷ [])) ss (Wide k)
    ∙ ap₂ (λ (xs : List PlainStep) (x : PlainStep). xs ++ x ∷ [])
    (all_beside ss ws w (subst (λ m. All (IsWithin m) ss) f h)) (get_or_push ws w (PlainOn 0) k (sym e))
