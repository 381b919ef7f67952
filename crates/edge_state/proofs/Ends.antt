-- What no rule changes is the closure.
use Rattle.std.proofs.Common.{◌≡◌, ℕ, ◌<◌, ◌⊎◌, inl, inr, refl, sym, ◌∙◌, Bool, true, false, not, ◌||◌, eqb, List}
use Rattle.std.proofs.Common.{IsTrue, MatchBool}
use Rattle.std.proofs.lemmas.Bool.{true≢false, or_cases, eqb-true}
use Rattle.std.specs.List.{list_any}
use Rattle.packing_terms.specs.declared.Rel.{Rel}
use Rattle.packing_terms.specs.declared.Rel.TheVariants.{Overlap, Before, After}
use Rattle.packing_terms.specs.declared.Exclusion.{Exclusion}
use Rattle.packing_terms.specs.Packing.{PlainInstance}
use Rattle.packing_terms.specs.Exclusions.{Exclusions, excludes, IsEdge}
use Rattle.packing_terms.specs.Closure.{IsDerived, HasConflict, IsStable, Derives}
use Rattle.packing_terms.proofs.Sets.{excludes_symmetric}
use Rattle.packing_terms.proofs.Derivations.{stable_holds}
use Rattle.packing_terms.proofs.Members.{any_from}
use Rattle.packing_terms.specs.Places.{HasNoEmptyMask}
use Rattle.packing_terms.specs.Applied.{Extends}
use Rattle.packing_terms.proofs.RoundsLemmas.{given}
use Rattle.relation_table.specs.Masks.{mask_has}
use Rattle.relation_table.proofs.Tables.{each, rels}
use Rattle.edge_state.specs.States.{HasEmptyMask, HasRelationLeft}
use Rattle.edge_state.specs.Ends.{IsClosureOf, IsConflictOf}

-- what a derivation that goes on from a list excludes is derived from that list
only_derived : (instance : PlainInstance) (old new : List Exclusion) → Extends instance old new → (i u v : ℕ) (r : Rel)
    → IsTrue (excludes new i u v r) → IsDerived instance (excludes old) i u v r
only_derived instance old new extends i u v r h = record {
  steps = new;
  derivation = extends.derived (excludes old) (given instance (excludes old) old (λ j a b s k. k));
  stands = h;
}

pub ended_closure : (instance : PlainInstance) (E : Exclusions) (old new : List Exclusion) → Extends instance old new
    → Derives instance (excludes old) E → Derives instance E (excludes old)
    → IsStable instance (excludes new) → HasNoEmptyMask instance (excludes new) → IsClosureOf instance E new
ended_closure instance E old new extends there back settled full = record {
  exact = λ i u v r. (
    λ h. there i u v r (only_derived instance old new extends i u v r h),
    λ d. all_there i u v r (back i u v r d),
  );
  stable = settled;
  full = full;
  none = λ c. clash c (full c.dim c.u c.v c.edge);
}
  where
    all_there : (i u v : ℕ) (r : Rel) → IsDerived instance (excludes old) i u v r → IsTrue (excludes new i u v r)
    all_there i u v r d =
        stable_holds instance (excludes old) (excludes new) (excludes_symmetric new) extends.kept settled d.steps
        d.derivation i u v r d.stands

    clash : (c : HasConflict instance E) → (r : Rel) × (excludes new c.dim c.u c.v r ≡ false) → ⊥
    clash c (r, e) = true≢false (sym (all_there c.dim c.u c.v r (back c.dim c.u c.v r (c.each r))) ∙ e)

pub ended_conflict : (instance : PlainInstance) (E : Exclusions) (old new : List Exclusion) → Extends instance old new
    → Derives instance (excludes old) E → HasEmptyMask instance (excludes new) → IsConflictOf instance E new
ended_conflict instance E old new extends there empty = record {
  only = only;
  empty = empty;
  conflict = record {
    dim = empty.dim;
    u = empty.u;
    v = empty.v;
    edge = empty.edge;
    each = λ r. only empty.dim empty.u empty.v r (empty.each r);
  };
}
  where
    only : (i u v : ℕ) (r : Rel) → IsTrue (excludes new i u v r) → IsDerived instance E i u v r
    only i u v r h = there i u v r (only_derived instance old new extends i u v r h)

-- a mask that isn't 0 has a relation
some_rel : (m : ℕ) → m < 8 → (eqb m 0 || list_any (λ r. mask_has m r) rels) ≡ true
some_rel m l = each (λ x s. eqb x 0 || list_any (λ r. mask_has x r) rels) refl m l Overlap

pub empty_or_left : (instance : PlainInstance) (X : Exclusions) (i u v m : ℕ) → IsEdge instance i u v → m < 8
    → ((r : Rel) → mask_has m r ≡ not (X i u v r))
    → MatchBool (eqb m 0) (HasEmptyMask instance X) (HasRelationLeft instance X i u v)
empty_or_left instance X i u v m edge l has = go (eqb m 0) refl
  where
    zero_has : (r : Rel) → mask_has 0 r ≡ false
    zero_has Overlap = refl
    zero_has Before = refl
    zero_has After = refl

    flipped : (x y : Bool) → x ≡ not y → x ≡ false → y ≡ true
    flipped x true e f = refl
    flipped x false e f = absurd (true≢false (sym e ∙ f))

    opened : (x y : Bool) → x ≡ not y → x ≡ true → y ≡ false
    opened x false e f = refl
    opened x true e f = absurd (true≢false (sym f ∙ e))

    left : (eqb m 0 ≡ true) ⊎ (list_any (λ r. mask_has m r) rels ≡ true) → eqb m 0 ≡ false
        → (r : Rel) × (X i u v r ≡ false)
    left (inl t) f = absurd (true≢false (sym t ∙ f))
    left (inr t) f = let p = any_from (λ r. mask_has m r) rels t in
        (p.item, opened (mask_has m p.item) (X i u v p.item) (has p.item) p.passes)

    go : (x : Bool) → eqb m 0 ≡ x → MatchBool x (HasEmptyMask instance X) (HasRelationLeft instance X i u v)
    go true e = record {
      dim = i;
      u = u;
      v = v;
      edge = edge;
      each = λ r. flipped (mask_has m r) (X i u v r) (has r) (rw (eqb-true m 0 e) (zero_has r));
    }
    go false e = record { some = λ p. left (or_cases _ _ (some_rel m l)) e }
