-- The worklist's invariant from one exclusion to the next, from the first to the last.
use Rattle.std.proofs.Common.{◌≡◌, ℕ, zero, suc, ◌+◌, ◌-◌, ◌*◌, ◌/◌, ◌<◌, ◌≤◌, ◌⊎◌, inl, inr, refl, sym, subst, ◌∙◌}
use Rattle.std.proofs.Common.{arith, Bool, true, false, List, [], ◌∷◌, length, drop}
use Rattle.std.proofs.lemmas.Bool.{true≢false, cases_lt, or_right}
use Rattle.std.proofs.lemmas.List.{length-append}
use Rattle.packing_terms.specs.declared.Rel.{Rel}
use Rattle.packing_terms.specs.declared.Rel.TheVariants.{Overlap}
use Rattle.packing_terms.specs.declared.Exclusion.{Exclusion}
use Rattle.packing_terms.specs.Packing.{PlainInstance, dims, box_count}
use Rattle.packing_terms.specs.Exclusions.{Exclusions, excludes, is_of, IsEdge, IsEdgeAmong, IsSurelyBefore}
use Rattle.packing_terms.specs.Rules.{Rule, Pair, Apart, Triple, Chain, Compose, Cycle, Order, IsRuleInstance, Premises}
use Rattle.packing_terms.specs.Rules.{Concludes, by_rule, mirrored, dim_of, first_of, second_of}
use Rattle.packing_terms.proofs.Sets.{excludes_symmetric}
use Rattle.packing_terms.specs.Closure.{IsSubset, IsStable}
use Rattle.packing_terms.proofs.Monotone.{open_less}
use Rattle.packing_terms.specs.Applied.{Adds, added, mirror_added, Extends}
use Rattle.packing_terms.specs.Places.{HasNoEmptyMask}
use Rattle.packing_terms.specs.Runs.{IsTransitive}
use Rattle.packing_terms.specs.Steps.{IsTrail}
use Rattle.packing_terms.proofs.Steps.{trail_room, few_open}
use Rattle.edge_state.specs.Edges.{PlainEdges, oldest}
use Rattle.edge_state.specs.Answers.{IsChangeAfter}
use Rattle.edge_state.specs.States.{HasRelationLeft}
use Rattle.edge_state.specs.Work.{IsLocal, IsDue, IsCovered, IsExhausted, HasApplied, IsUpToDate, IsPropagated, IsChainUpToDate}
use Rattle.edge_state.specs.Work.{IsUnordered, IsNextMark}
use Rattle.edge_state.proofs.Touched.{adds_more}
use Rattle.edge_state.proofs.Needed.{needed_less}
use Rattle.edge_state.proofs.Ordered.{before_before, order_by_compose}
use Rattle.edge_state.proofs.Worked.{covered_not}
use Rattle.edge_state.proofs.Reached.{settled_due, pair_turned}
use Rattle.edge_state.proofs.Chained.{chained_next, chained_grown, chained_first}
use Rattle.edge_state.proofs.Oldest.{oldest_grown, oldest_all, oldest_none}

-- what is left of a list excludes no more
drop_within : (k : ℕ) (es : List Exclusion) → IsSubset (excludes (drop k es)) (excludes es)
drop_within zero es i u v r h = h
drop_within (suc k) [] i u v r h = h
drop_within (suc k) (e ∷ es) i u v r h = or_right (is_of e i u v r) (excludes es i u v r) (drop_within k es i u v r h)

trail_drop : (d n k : ℕ) (es : List Exclusion) → IsTrail d n es → IsTrail d n (drop k es)
trail_drop d n zero es h = h
trail_drop d n (suc k) [] h = h
trail_drop d n (suc k) (e ∷ es) h = trail_drop d n k es h.2

-- what comes next is at an edge
pub change_edge : (d n : ℕ) (es : List Exclusion) (mark next : ℕ) (e : Exclusion) → IsTrail d n es
    → IsChangeAfter es mark e next → IsEdgeAmong d n e.dim e.u e.v
change_edge d n es mark next e trail change =
    (subst (λ (l : List Exclusion). IsTrail d n l) change.newest (trail_drop d n (length es - next) es trail)).0

-- there are not more exclusions than relations
pub trail_short : (d n : ℕ) (es : List Exclusion) → IsTrail d n es → length es ≤ 3 * d * n * (n - 1) / 2
trail_short d n es trail = let a = trail_room d n es trail in let b = few_open d n [] in omega arith

-- no mask was empty before
none_before : (instance : PlainInstance) (X Y : Exclusions) → IsSubset X Y → HasNoEmptyMask instance Y
    → HasNoEmptyMask instance X
none_before instance X Y more none = λ i u v edge.
    let k = none i u v edge in (k.0, open_less X Y more i u v k.0 k.1)

-- what was settled stays so when exclusions come on top
pub settled_grown : (instance : PlainInstance) (seen old new : List Exclusion) → IsSubset (excludes old) (excludes new)
    → IsPropagated instance seen old
    → IsPropagated instance seen new
settled_grown instance seen old new more h = record {
  covered = λ none rule local. record {
    holds = λ i u v r add need. more i u v r
        ((h.covered (none_before instance (excludes old) (excludes new) more none) rule local).holds i u v r add
        (needed_less (excludes old) (excludes new) more rule r need));
  };
  full = h.full;
}

-- what is up to date is so too where no mask is empty
pub propagated : (instance : PlainInstance) (seen es : List Exclusion) → IsUpToDate instance seen es
    → IsPropagated instance seen es
propagated instance seen es h = record { covered = λ none. h.covered; full = h.full }

-- if all is propagated, no mask is empty
pub up_to_date : (instance : PlainInstance) (es : List Exclusion) → IsPropagated instance es es
    → IsUpToDate instance es es
up_to_date instance es h = record { covered = h.covered h.full; full = h.full }

module _ (instance : PlainInstance) (s t : PlainEdges) (e : Exclusion) (edge : IsEdge instance e.dim e.u e.v)
    (left : HasRelationLeft instance (excludes s.trail) e.dim e.u e.v)
    (fresh : Rel → Bool)
    (work : HasApplied instance s t false (λ rule. HasNoEmptyMask instance (excludes s.trail)
    × IsDue fresh e.dim e.u e.v rule)) where
  -- what is propagated after one change more
  seen_next : (mark next : ℕ) (f : Exclusion) → IsChangeAfter s.trail mark f next
      → oldest next t.trail ≡ f ∷ oldest mark s.trail
  seen_next mark next f change =
      oldest_grown work.extends.more s.trail t.trail next work.extends.grown
      (let h = change.before_last in omega (arith, change.counted)) ∙ change.newest

  seen_within : (mark next : ℕ) (f : Exclusion) → IsChangeAfter s.trail mark f next
      → IsSubset (excludes (f ∷ oldest mark s.trail)) (excludes s.trail)
  seen_within mark next f change =
      subst (λ (l : List Exclusion). IsSubset (excludes l) (excludes s.trail)) change.newest
      (drop_within (length s.trail - next) s.trail)

  seen_before : (mark : ℕ) → mark ≤ length s.trail → oldest mark t.trail ≡ oldest mark s.trail
  seen_before mark h = oldest_grown work.extends.more s.trail t.trail mark work.extends.grown h

  -- one change more at the edge
  settled_one : (mark next : ℕ) (f : Exclusion) → IsChangeAfter s.trail mark f next → f.dim ≡ e.dim
      → f.u ≡ e.u → f.v ≡ e.v → fresh f.rel ≡ true
      → IsPropagated instance (oldest mark s.trail) t.trail → IsPropagated instance (oldest next t.trail) t.trail
  settled_one mark next f change d u v new settled =
      subst (λ (l : List Exclusion). IsPropagated instance l t.trail) (sym (seen_next mark next f change))
      (settled_due instance fresh f (oldest mark s.trail) s.trail t.trail new (seen_within mark next f change) settled
      (rw (d, u, v) (left.some edge)) (rw (d, u, v) done))
    where
      done : HasNoEmptyMask instance (excludes t.trail) → (rule : Rule) → IsDue fresh e.dim e.u e.v rule
          → IsCovered instance (excludes s.trail) t.trail rule
      done none rule due = work.done refl rule
          (none_before instance (excludes s.trail) (excludes t.trail) work.extends.kept none, due)

  chained_one : (i mark next : ℕ) (f : Exclusion) → IsChangeAfter s.trail mark f next → f.dim ≡ e.dim
      → f.u ≡ e.u → f.v ≡ e.v
      → (e.dim ≡ i → IsUnordered (excludes s.trail) e)
      → IsChainUpToDate instance i (oldest mark s.trail) t.trail → IsChainUpToDate instance i (oldest next t.trail) t.trail
  chained_one i mark next f change d u v free chained =
      subst (λ (l : List Exclusion). IsChainUpToDate instance i l t.trail) (sym (seen_next mark next f change))
      (chained_next instance f (oldest mark s.trail) s.trail t.trail i (seen_within mark next f change)
      (λ is. let h = free (sym d ∙ is) in record { forth = rw (d, u, v) h.forth; back = rw (d, u, v) h.back }) chained)

  -- the next change
  pub settled_step : (mark next : ℕ) → IsPropagated instance (oldest mark s.trail) s.trail
      → IsChangeAfter s.trail mark e (mark + 1)
      → IsNextMark mark e fresh next → IsPropagated instance (oldest next t.trail) t.trail
  settled_step mark next settled change after = rw after.counted
      (settled_one mark (mark + 1) e change refl refl refl after.new
      (settled_grown instance (oldest mark s.trail) s.trail t.trail work.extends.kept settled))

  pub chained_step : (i mark next : ℕ) → (e.dim ≡ i → IsUnordered (excludes s.trail) e)
      → IsChainUpToDate instance i (oldest mark s.trail) s.trail
      → IsChangeAfter s.trail mark e (mark + 1) → IsNextMark mark e fresh next
      → IsChainUpToDate instance i (oldest next t.trail) t.trail
  chained_step i mark next free chained change after = rw after.counted
      (chained_one i mark (mark + 1) e change refl refl refl free
      (chained_grown instance i (oldest mark s.trail) s.trail t.trail work.extends.kept chained))

-- a stable list was settled
pub settled_stable : (instance : PlainInstance) (seen es : List Exclusion) → IsStable instance (excludes seen)
    → HasNoEmptyMask instance (excludes seen)
    → IsSubset (excludes seen) (excludes es) → IsUpToDate instance seen es
settled_stable instance seen es stable full within = record {
  covered = λ rule local. record { holds = λ i u v r add need. go rule i u v r add };
  full = full;
}
  where
    go : (rule : Rule) (i u v : ℕ) (r : Rel) → Adds instance (excludes seen) rule i u v r → excludes es i u v r ≡ true
    go rule _ _ _ _ (added r is p c) = within _ _ _ _ (stable _ _ _ _ (by_rule rule r is p c))
    go rule _ _ _ _ (mirror_added r is p c) = within _ _ _ _ (stable _ _ _ _ (mirrored rule r is p c))

pub chained_stable : (instance : PlainInstance) (i : ℕ) (seen es : List Exclusion) → IsStable instance (excludes seen)
    → IsSubset (excludes seen) (excludes es)
    → IsChainUpToDate instance i seen es
chained_stable instance i seen es stable within =
    record { covered = λ rule is. record { holds = λ j u v r add need. go rule j u v r add } }
  where
    go : (rule : Rule) (j u v : ℕ) (r : Rel) → Adds instance (excludes seen) rule j u v r → excludes es j u v r ≡ true
    go rule _ _ _ _ (added r is p c) = within _ _ _ _ (stable _ _ _ _ (by_rule rule r is p c))
    go rule _ _ _ _ (mirror_added r is p c) = within _ _ _ _ (stable _ _ _ _ (mirrored rule r is p c))

pub chained_since : (instance : PlainInstance) (i : ℕ) (es : List Exclusion) (k : ℕ)
    → IsStable instance (excludes (drop k es)) → IsChainUpToDate instance i (drop k es) es
chained_since instance i es k stable = chained_stable instance i (drop k es) es stable (drop_within k es)

pub settled_since : (instance : PlainInstance) (es : List Exclusion) (k : ℕ) → IsStable instance (excludes (drop k es))
    → HasNoEmptyMask instance (excludes (drop k es))
    → IsUpToDate instance (drop k es) es
settled_since instance es k stable full = settled_stable instance (drop k es) es stable full (drop_within k es)

-- At the start only PAIR can add anything.
pub settled_first : (instance : PlainInstance) (es : List Exclusion) → 2 ≤ dims instance
    → ((i u v : ℕ) → IsRuleInstance instance (Pair i u v) → IsCovered instance (excludes []) es (Pair i u v))
    → IsUpToDate instance [] es
settled_first instance es two pairs =
    record { covered = λ rule local. at rule local; full = λ i u v edge. (Overlap, refl) }
  where
    nothing : {A : Type 0} → false ≡ true → A
    nothing e = absurd (true≢false (sym e))

    apart : (i u v : ℕ) → Premises instance (excludes []) (Apart i u v) → ⊥
    apart zero u v p = nothing (p 1 (omega arith) (λ e. absurd (omega (arith, e)))).0
    apart (suc i) u v p = nothing (p 0 (omega arith) (λ e. absurd (omega (arith, e)))).0

    composed : (i u v x : ℕ) (r : Rel) → Concludes (excludes []) (Compose i u v x) r → ⊥
    composed i u v x r c = true≢false (c Overlap Overlap refl refl)

    none : (i u v x j a b : ℕ) (r : Rel) → Adds instance (excludes []) (Compose i u v x) j a b r
        → excludes es j a b r ≡ true
    none i u v x _ _ _ _ (added r is p c) = absurd (composed i u v x r c)
    none i u v x _ _ _ _ (mirror_added r is p c) = absurd (composed i u v x r c)

    paired : (i u v j a b : ℕ) (r : Rel) → Adds instance (excludes []) (Pair i u v) j a b r → excludes es j a b r ≡ true
    paired i u v _ _ _ _ (added r is p c) = (pairs i u v is).holds _ _ _ _ (added r is p c) tt
    paired i u v _ _ _ _ (mirror_added r is p c) = (pairs i u v is).holds _ _ _ _ (mirror_added r is p c) tt

    at : (rule : Rule) → IsLocal rule → IsCovered instance (excludes []) es rule
    at (Chain i before u v after) l = absurd l
    at (Pair i u v) l = record { holds = λ j a b r add need. paired i u v j a b r add }
    at (Apart i u v) l = covered_not instance (excludes []) es (Apart i u v) (apart i u v)
    at (Triple i u v x) l = covered_not instance (excludes []) es (Triple i u v x) (λ p. nothing p.0)
    at (Compose i u v x) l = record { holds = λ j a b r add need. none i u v x j a b r add }
    at (Cycle i a b c d) l = covered_not instance (excludes []) es (Cycle i a b c d) (λ p. nothing p.0.0)
    at (Order i a b c d) l = covered_not instance (excludes []) es (Order i a b c d) (λ p. nothing p.0.0)

-- COMPOSE makes surely before transitive
pub settled_transitive : (instance : PlainInstance) (es : List Exclusion) (i : ℕ) → i < dims instance
    → IsUpToDate instance es es
    → IsTransitive (box_count instance) (IsSurelyBefore (excludes es) i)
settled_transitive instance es i hi settled u v x b uv vx =
    before_before instance es i hi (λ p q y. settled.covered (Compose i p q y) tt) u v x b uv vx

all_covered : (instance : PlainInstance) (es : List Exclusion) → IsUpToDate instance es es
    → ((i : ℕ) → i < dims instance → IsChainUpToDate instance i es es)
    → (rule : Rule) → IsRuleInstance instance rule → IsExhausted instance es rule
all_covered instance es settled chains (Chain i before u v after) is =
    (chains i is.0).covered (Chain i before u v after) refl
all_covered instance es settled chains (Pair i u v) is = settled.covered (Pair i u v) tt
all_covered instance es settled chains (Apart i u v) is = settled.covered (Apart i u v) tt
all_covered instance es settled chains (Triple i u v x) is = settled.covered (Triple i u v x) tt
all_covered instance es settled chains (Compose i u v x) is = settled.covered (Compose i u v x) tt
all_covered instance es settled chains (Cycle i a b c d) is = settled.covered (Cycle i a b c d) tt
all_covered instance es settled chains (Order i a b c d) is = settled.covered (Order i a b c d) tt

-- All is propagated and CHAIN adds nothing: no rule adds anything.
none_left : (instance : PlainInstance) (es : List Exclusion) → IsUpToDate instance es es
    → ((i : ℕ) → i < dims instance → IsChainUpToDate instance i es es) → (rule : Rule) → IsRuleInstance instance rule
    → Premises instance (excludes es) rule → (r : Rel) → Concludes (excludes es) rule r
    → excludes es (dim_of rule) (first_of rule) (second_of rule) r ≡ true
none_left instance es settled chains (Pair i u v) is p r k =
    (all_covered instance es settled chains (Pair i u v) is).holds _ _ _ _ (added r is p k) tt
none_left instance es settled chains (Apart i u v) is p r k =
    (all_covered instance es settled chains (Apart i u v) is).holds _ _ _ _ (added r is p k) tt
none_left instance es settled chains (Triple i u v x) is p r k =
    (all_covered instance es settled chains (Triple i u v x) is).holds _ _ _ _ (added r is p k) tt
none_left instance es settled chains (Chain i before u v after) is p r k =
    (all_covered instance es settled chains (Chain i before u v after) is).holds _ _ _ _ (added r is p k) tt
none_left instance es settled chains (Compose i u v x) is p r k =
    (all_covered instance es settled chains (Compose i u v x) is).holds _ _ _ _ (added r is p k) tt
none_left instance es settled chains (Cycle i a b c d) is p r k =
    (all_covered instance es settled chains (Cycle i a b c d) is).holds _ _ _ _ (added r is p k) tt
none_left instance es settled chains (Order i a b c d) is p r k =
    order_by_compose instance es i is.0 (λ u v x. settled.covered (Compose i u v x) tt) a b c d
    (settled.covered (Order i a b c d) tt) is p r k

pub stable_settled : (instance : PlainInstance) (es : List Exclusion) → IsUpToDate instance es es
    → ((i : ℕ) → i < dims instance → IsChainUpToDate instance i es es) → IsStable instance (excludes es)
stable_settled instance es settled chains _ _ _ _ (by_rule rule r is p c) =
    none_left instance es settled chains rule is p r c
stable_settled instance es settled chains _ _ _ _ (mirrored rule r is p c) =
    excludes_symmetric es (dim_of rule) (first_of rule) (second_of rule) r
    (none_left instance es settled chains rule is p r c)

pub settled_after : (instance : PlainInstance) (old new : List Exclusion) (k : ℕ) → Extends instance old new
    → k ≡ length old → IsPropagated instance old old
    → IsPropagated instance (oldest k new) new
settled_after instance old new k extends e h =
    subst (λ (l : List Exclusion). IsPropagated instance l new) (sym same)
    (settled_grown instance old old new extends.kept h)
  where
    same : oldest k new ≡ old
    same = oldest_grown extends.more old new k extends.grown (omega (arith, e)) ∙ oldest_all old k e

pub chained_after : (instance : PlainInstance) (i : ℕ) (old new : List Exclusion) (k : ℕ) → Extends instance old new
    → k ≡ length old → IsChainUpToDate instance i old new
    → IsChainUpToDate instance i (oldest k new) new
chained_after instance i old new k extends e h = subst (λ (l : List Exclusion). IsChainUpToDate instance i l new) (sym same) h
  where
    same : oldest k new ≡ old
    same = oldest_grown extends.more old new k extends.grown (omega (arith, e)) ∙ oldest_all old k e

-- nothing is propagated yet, and PAIR was applied at all pairs
pairs_first : (instance : PlainInstance) (old new : List Exclusion)
    → ((i u v : ℕ) → IsRuleInstance instance (Pair i u v) → IsCovered instance (excludes old) new (Pair i u v))
    → (i u v : ℕ) → IsRuleInstance instance (Pair i u v) → IsCovered instance (excludes []) new (Pair i u v)
pairs_first instance old new pairs i u v is = record {
  holds = λ j a b r add need. (pairs i u v is).holds j a b r
      (adds_more instance (excludes []) (excludes old) (λ x y z t h. absurd (true≢false (sym h))) (Pair i u v)
      j a b r add) tt;
}

-- PAIR adds the same with its two boxes swapped, so that one order of them is enough
pub pairs_both : (instance : PlainInstance) (X : Exclusions) (es : List Exclusion)
    → ((i u v : ℕ) → u < v → IsRuleInstance instance (Pair i u v) → IsCovered instance X es (Pair i u v))
    → (i u v : ℕ) → IsRuleInstance instance (Pair i u v) → IsCovered instance X es (Pair i u v)
pairs_both instance X es half i u v is = go (cases_lt u v)
  where
    turned : v < u → IsCovered instance X es (Pair i v u)
    turned h = half i v u h (is.0, (is.1.2.0, ((λ e. is.1.1.0 (sym e)), tt), (is.1.0, tt, tt)))

    go : (u < v) ⊎ (v ≤ u) → IsCovered instance X es (Pair i u v)
    go (inl h) = half i u v h is
    go (inr h) =
        let less : v < u = omega (arith, h, is.1.1.0) in
        record { holds = λ j a b r add need. (turned less).holds j a b r (pair_turned instance X i u v j a b r add) tt }

pub settled_pairs : (instance : PlainInstance) (old new : List Exclusion) (k : ℕ) → k ≡ 0 → 2 ≤ dims instance
    → ((i u v : ℕ) → IsRuleInstance instance (Pair i u v) → IsCovered instance (excludes old) new (Pair i u v))
    → IsUpToDate instance (oldest k new) new
settled_pairs instance old new k e two pairs =
    subst (λ (l : List Exclusion). IsUpToDate instance l new) (sym (oldest_none new k e))
    (settled_first instance new two (pairs_first instance old new pairs))

pub chained_pairs : (instance : PlainInstance) (i : ℕ) (old new : List Exclusion) (k : ℕ) → k ≡ 0
    → ((j u v : ℕ) → IsRuleInstance instance (Pair j u v) → IsCovered instance (excludes old) new (Pair j u v))
    → IsChainUpToDate instance i (oldest k new) new
chained_pairs instance i old new k e pairs =
    subst (λ (l : List Exclusion). IsChainUpToDate instance i l new) (sym (oldest_none new k e))
    (chained_first instance i new (pairs_first instance old new pairs))

-- the position after it is in the list, and later
pub behind_within : (es : List Exclusion) (mark next : ℕ) (e : Exclusion) (fresh : Rel → Bool) → mark < length es
    → IsNextMark mark e fresh next → (mark < next) × (next ≤ length es)
behind_within es mark next e fresh h after = (omega (arith, after.counted), omega (arith, h, after.counted))

pub grown_past : (instance : PlainInstance) (old new : List Exclusion) (mark next : ℕ) (e : Exclusion)
    (fresh : Rel → Bool) → Extends instance old new → mark < length old
    → IsNextMark mark e fresh next → next ≤ length new
grown_past instance old new mark next e fresh extends h behind =
    let grown : length new ≡ length extends.more + length old = rw extends.grown (length-append extends.more old) in
    let within = behind_within old mark next e fresh h behind in
    omega (arith, grown, within.1)

-- the last position is reached: all is propagated
pub settled_all : (instance : PlainInstance) (es : List Exclusion) (k : ℕ) → k ≡ length es
    → IsPropagated instance (oldest k es) es
    → IsPropagated instance es es
settled_all instance es k e h = subst (λ (l : List Exclusion). IsPropagated instance l es) (oldest_all es k e) h

pub chained_all : (instance : PlainInstance) (i : ℕ) (es : List Exclusion) (k : ℕ) → k ≡ length es
    → IsChainUpToDate instance i (oldest k es) es
    → IsChainUpToDate instance i es es
chained_all instance i es k e h = subst (λ (l : List Exclusion). IsChainUpToDate instance i l es) (oldest_all es k e) h
