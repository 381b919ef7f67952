-- What the walk over the tokens keeps: lines so far explain what is left, with the same tokens, and
-- all that is excluded is derived.
use Rattle.std.proofs.Common.{◌≡◌, suc, sym, ap, subst, ◌∙◌, arith, List, [], ◌∷◌, ◌++◌, append-nil}
use Rattle.packing_terms.specs.Packing.{PlainInstance, dims, box_count}
use Rattle.packing_terms.specs.Exclusions.{Exclusions, excludes}
use Rattle.packing_terms.specs.Closure.{AreDerived}
use Rattle.edge_state.specs.Edges.{PlainEdges}
use Rattle.verdict_terms.specs.Steps.{PlainStep, tokens_among}
use Rattle.verdict_terms.specs.Steps.PlainStep.{Clash}
use Rattle.verdict_terms.specs.Explaining.{Explains, by_clash}
use Rattle.verdict_terms.specs.Stepping.{lines_of_all}
use Rattle.verdict_terms.proofs.Stepped.{steps_explain, steps_derived, steps_tokens, tokens_joined}
use Rattle.refutation_steps.specs.declared.empties.Place.{Place}
use Rattle.refutation_steps.specs.Goes.{Goes}
use Rattle.refutation_steps.specs.Empties.{IsEmptyPlace}

module _ (instance : PlainInstance) where
  -- what the new state derives the splits derive
  pub goes_derived : (E : Exclusions) (a b : PlainEdges) (x y : List PlainStep) → Goes instance a b x y
      → AreDerived instance E (excludes a.trail)
      → AreDerived instance E (excludes b.trail)
  goes_derived E a b x y g d = steps_derived instance E g.rules a.trail b.trail g.steps d

  -- the lines that came explain the old state before those that explain the new one
  pub goes_explains : (a b : PlainEdges) (more z : List PlainStep) → Goes instance a b [] more
      → Explains instance b.trail z → Explains instance a.trail (more ++ z)
  goes_explains a b more z g h = subst (λ (l : List PlainStep). Explains instance a.trail (l ++ z)) (sym g.lines)
      (steps_explain instance g.rules a.trail b.trail z g.steps h)

  -- the tokens so far stay
  pub goes_tokens : (a b : PlainEdges) (x y : List PlainStep) → Goes instance a b x y → tokens_among y ≡ tokens_among x
  goes_tokens a b x y g =
      ap tokens_among (g.lines ∙ ap (λ l. x ++ l) (sym (append-nil (lines_of_all g.rules))))
      ∙ (tokens_joined x (lines_of_all g.rules ++ []) ∙
      (ap (λ l. tokens_among x ++ l) (steps_tokens g.rules []) ∙ append-nil (tokens_among x)))

  -- a leaf at an empty place
  pub clash_there : (s : PlainEdges) (p : Place) → s.dims ≡ dims instance → s.boxes ≡ box_count instance
      → IsEmptyPlace s p
      → Explains instance s.trail (Clash (suc p.dim) (suc p.u) (suc p.v) ∷ [])
  clash_there s p d n h = by_clash (record {
    named = record {
      dim_from = omega arith;
      dim_to = (let l = h.dim in omega (arith, l, d));
      u_from = omega arith;
      rising = (let l = h.rising in omega (arith, l));
      v_to = (let l = h.second in omega (arith, l, n));
    };
    each = h.each;
  })
