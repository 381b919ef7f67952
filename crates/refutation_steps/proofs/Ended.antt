-- What a closing and the steps to it come to.
use Rattle.std.proofs.Common.{◌≡◌, ◌≤◌, ℕ, inl, sym, ap, subst, ◌∙◌, arith, true, false, Bool, List, [], ◌∷◌, ◌++◌}
use Rattle.std.proofs.Common.{length, Some, None}
use Rattle.std.proofs.lemmas.List.{length-append}
use Rattle.packing_terms.specs.declared.Exclusion.{Exclusion}
use Rattle.packing_terms.specs.Packing.{PlainInstance}
use Rattle.packing_terms.specs.Exclusions.{Exclusions, excludes}
use Rattle.packing_terms.specs.Closure.{IsDerivation, IsSubset, IsStable}
use Rattle.packing_terms.proofs.Sets.{excludes_first, excludes_rest}
use Rattle.packing_terms.specs.Applied.{Extends}
use Rattle.packing_terms.specs.Places.{HasNoEmptyMask}
use Rattle.edge_state.specs.Edges.{PlainEdges, oldest}
use Rattle.edge_state.proofs.Oldest.{oldest_grown, oldest_all}
use Rattle.edge_state.specs.Ends.{IsClosureOf, IsConflictOf}
use Rattle.verdict_terms.specs.Steps.{PlainStep}
use Rattle.refutation_steps.specs.Replays.{IsReplayed}
use Rattle.refutation_steps.specs.Nodes.{IsSettled}

module _ (instance : PlainInstance) where
  -- a list is a derivation from each set that holds it
  given_list : (E : Exclusions) (es : List Exclusion) → IsSubset (excludes es) E → IsDerivation instance E es
  given_list E [] h = tt
  given_list E (e ∷ es) h = (
    inl (h e.dim e.u e.v e.rel (excludes_first e es)),
    given_list E es (λ i u v r k. h i u v r (excludes_rest e es i u v r k)),
  )

  pub derived_from_held : (old new : List Exclusion) (E : Exclusions) → Extends instance old new
      → IsSubset (excludes old) E → IsDerivation instance E new
  derived_from_held old new E x h = x.derived E (given_list E old h)

  pub held_before : (old new held : List Exclusion) (from : ℕ) → Extends instance old new
      → IsSubset (excludes old) (excludes held) → from ≡ length old
      → IsSubset (excludes (oldest from new)) (excludes held)
  held_before old new held from x h e =
      let same : oldest from new ≡ old = oldest_grown x.more old new from x.grown (omega (arith, e)) ∙ oldest_all old
      from e in
      subst (λ (l : List Exclusion). IsSubset (excludes l) (excludes held)) (sym same) h

  pub mark_within : (old new : List Exclusion) (from : ℕ) → Extends instance old new → from ≡ length old
      → from ≤ length new
  mark_within old new from x e =
      let l : length new ≡ length (x.more ++ old) = ap length x.grown in
      let m = length-append x.more old in
      omega (arith, l, m, e)

  pub settled_stopped : (a b : PlainEdges) (x y : List PlainStep) (given : List Exclusion) (stopped : Bool)
      → stopped ≡ true → IsReplayed instance a b x y given stopped
      → IsSettled instance a b x y given None
  settled_stopped a b x y given stopped h r = record { goes = r.goes; ended = r.empty h }

  pub settled_stable : (a b : PlainEdges) (x y : List PlainStep) (old given : List Exclusion) (mark : ℕ)
      (stopped : Bool) → stopped ≡ false → IsReplayed instance a b x y given stopped
      → IsClosureOf instance (excludes old) given → mark ≡ length given → IsSettled instance a b x y given (Some mark)
  settled_stable a b x y old given mark stopped h r c e =
      let same : oldest mark given ≡ given = oldest_all given mark e in
      record {
        goes = r.goes;
        ended = (
          e,
          record {
            within = omega (arith, e);
            stable = subst (λ (l : List Exclusion). IsStable instance (excludes l)) (sym same) c.stable;
            full = subst (λ (l : List Exclusion). HasNoEmptyMask instance (excludes l)) (sym same) c.full;
          },
          r.holds h,
        );
      }

  pub settled_conflict : (a b : PlainEdges) (x y : List PlainStep) (old given : List Exclusion) (stopped : Bool)
      → stopped ≡ false → IsReplayed instance a b x y given stopped
      → IsConflictOf instance (excludes old) given → IsSettled instance a b x y given None
  settled_conflict a b x y old given stopped h r c = record {
    goes = r.goes;
    ended = record {
      dim = c.empty.dim;
      u = c.empty.u;
      v = c.empty.v;
      edge = c.empty.edge;
      each =
          λ q. r.holds h c.empty.dim c.empty.u c.empty.v q (c.empty.each q);
    };
  }
