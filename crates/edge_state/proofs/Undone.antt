-- What undoing leaves: a list that grew, cut at a mark again.
use Rattle.std.proofs.Common.{◌≡◌, ℕ, ◌≤◌, arith, ◌∙◌, List, [], ◌∷◌, ◌++◌, length}
use Rattle.packing_terms.specs.declared.Exclusion.{Exclusion}
use Rattle.packing_terms.specs.Steps.{with_exclusion}
use Rattle.edge_state.specs.Edges.{oldest}
use Rattle.edge_state.proofs.Kept.{with_more}
use Rattle.edge_state.proofs.Oldest.{oldest_grown, oldest_all}

pub back_one : (es : List Exclusion) (e : Exclusion) (k : ℕ) → k ≡ length es → oldest k (with_exclusion es e) ≡ es
back_one es e k f =
    let grown = with_more es e in
    oldest_grown grown.0 es (with_exclusion es e) k grown.1 (omega (arith, f)) ∙ oldest_all es k f

pub within_one : (es : List Exclusion) (e : Exclusion) (k : ℕ) → k ≡ length es → k ≤ length (with_exclusion es e)
within_one es e k f = let grown = with_more es e in rw grown.1 (longer grown.0 es k f)
  where
    longer : (xs ys : List Exclusion) (k : ℕ) → k ≡ length ys → k ≤ length (xs ++ ys)
    longer [] ys k f = omega (arith, f)
    longer (x ∷ xs) ys k f = let h = longer xs ys k f in omega (arith, h)

pub back_all : (es middle new more : List Exclusion) (k : ℕ) → k ≤ length middle → new ≡ more ++ middle
    → oldest k middle ≡ es → oldest k new ≡ es
back_all es middle new more k h e f = oldest_grown more middle new k e h ∙ f
