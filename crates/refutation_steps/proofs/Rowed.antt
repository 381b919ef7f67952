-- Surely before, read in rows of boxes.
use Rattle.std.proofs.Common.{◌≡◌, ◌≢◌, ◌<◌, ◌&&◌, ◌||◌, ℕ, ◌⊎◌, inl, inr, refl, sym, ap, ap₂, ◌∙◌, true, false, not}
use Rattle.std.proofs.Common.{Bool}
use Rattle.std.proofs.lemmas.Bool.{true≢false, and_parts, and_from}
use Rattle.packing_terms.specs.declared.Rel.TheVariants.{Before}
use Rattle.packing_terms.specs.Exclusions.{Exclusions, IsSurelyBefore}
use Rattle.packing_terms.specs.Rounds.{is_surely_before}
use Rattle.edge_state.specs.Edges.{is_other_box}
use Rattle.edge_state.proofs.Kept.{row_open, row_shut}
use Rattle.edge_state.proofs.Filters.{minus_off}

-- in one of two rows: one of two is open
pub either_open : (o p q a b e : Bool) → a ≡ o && not p → b ≡ o && not q → e ≡ a || b → e ≡ o && not (p && q)
either_open o p q a b e f g h = h ∙ (ap₂ (λ x y. x || y) f g ∙ both o p q)
  where
    both : (x y z : Bool) → ((x && not y) || (x && not z)) ≡ x && not (y && z)
    both false y z = refl
    both true false z = refl
    both true true z = refl

module _ (X : Exclusions) (i n : ℕ) where
  -- the same for each relation, so that rows of boxes that aren't surely behind read like others
  abbrev S : Exclusions
  S = λ j u v r. is_surely_before X j u v

  -- what a box isn't surely before, the other isn't either
  pub linked_row : (u v x : ℕ) (a b e : Bool) → x < n → u ≢ x → a ≡ is_other_box n u x && not (is_surely_before X i u x)
      → b ≡ is_other_box n v x && not (is_surely_before X i v x) → e ≡ a && not b → e ≡ false → IsSurelyBefore X i v x
      → IsSurelyBefore X i u x
  linked_row u v x a b e hx ne f g h off sure = and_parts _ _ (go (minus_off a b (sym h ∙ off)))
    where
      go : (a ≡ false) ⊎ (b ≡ true) → is_surely_before X i u x ≡ true
      go (inl k) = row_shut n i u x S Before a hx ne f k
      go (inr k) = absurd (true≢false (sym (and_from _ _ sure.0 sure.1) ∙ row_open n i v x S Before b g k))

  pub not_behind : (u v : ℕ) (a : Bool) → a ≡ is_other_box n u v && not (is_surely_before X i u v) → a ≡ true
      → is_surely_before X i u v ≡ false
  not_behind u v a f on = row_open n i u v S Before a f on

-- what isn't in the row of its box is excluded
pub shut_is : (o x r : Bool) → o ≡ true → r ≡ o && not x → not r ≡ x
shut_is true x r e h = ap (λ z. not z) h ∙ twice x
  where
    twice : (y : Bool) → not (not y) ≡ y
    twice true = refl
    twice false = refl
shut_is false x r e h = absurd (true≢false (sym e))
