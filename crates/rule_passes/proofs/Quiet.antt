-- Where the tests of a changed edge find nothing, nothing is to be done; and what is done piece by piece
-- is all.
use Rattle.std.proofs.Common.{◌≡◌, ◌≢◌, ℕ, ◌+◌, ◌<◌, ◌≤◌, ◌⊎◌, inl, inr, refl, sym, subst, ◌∙◌, ap, arith}
use Rattle.std.proofs.Common.{Bool, true, false, not, List, MatchBool}
use Rattle.std.proofs.lemmas.Bool.{true≢false, cases_lt}
use Rattle.packing_terms.specs.declared.Rel.{Rel}
use Rattle.packing_terms.specs.declared.Rel.TheVariants.{Overlap, Before, After}
use Rattle.packing_terms.specs.declared.Exclusion.{Exclusion}
use Rattle.packing_terms.specs.Packing.{PlainInstance, dims}
use Rattle.packing_terms.specs.Relations.{mirror}
use Rattle.packing_terms.specs.Exclusions.{Exclusions, excludes, is_same_rel, exclusion_at, IsEdge, IsJoined}
use Rattle.packing_terms.specs.Rules.{Rule, Apart, IsRuleInstance, Premises}
use Rattle.packing_terms.proofs.Sets.{excludes_symmetric}
use Rattle.packing_terms.specs.Places.{HasNoEmptyMask}
use Rattle.packing_terms.specs.Applied.{Extends, Adds, added, mirror_added, is_narrowed, IsApplied}
use Rattle.packing_terms.specs.Steps.{with_exclusion}
use Rattle.packing_terms.proofs.Applied.{applied_by}
use Rattle.edge_state.specs.Edges.{PlainEdges}
use Rattle.edge_state.proofs.Tables.{excludes_mirror}
use Rattle.edge_state.specs.Instances.{Composes, Cycles, OrdersCrossed}
use Rattle.edge_state.specs.States.{HasEmptyMask}
use Rattle.edge_state.specs.Work.{HasApplied, IsCovered, IsDue}
use Rattle.edge_state.proofs.Worked.{worked_none, worked_applied}
use Rattle.orientation_rules.proofs.Keeps.{rest_drops, rest_only}
use Rattle.rule_passes.specs.Reached.{IsReachedOrdered, IsReachedBoth, IsReachedLater}
use Rattle.rule_passes.proofs.CycleRows.{joined_back}
use Rattle.rule_passes.proofs.Guards.{GuardedBoth, worked_guarded}

-- APART adds the same with its boxes swapped
covered_apart_back : (instance : PlainInstance) (old es : List Exclusion) (i u v : ℕ)
    → IsCovered instance (excludes old) es (Apart i u v) → IsCovered instance (excludes old) es (Apart i v u)
covered_apart_back instance old es i u v h = record { holds = λ k a b r add need. go k a b r add }
  where
    excluded : IsRuleInstance instance (Apart i v u) → Premises instance (excludes old) (Apart i v u)
        → excludes es i u v Overlap ≡ true
    excluded is p = h.holds i u v Overlap
        (added Overlap (is.0, (is.1.2.0, (λ e. is.1.1.0 (sym e), tt), (is.1.0, tt, tt)))
        (λ j l ne. joined_back old j v u (p j l ne)) refl) tt

    go : (k a b : ℕ) (r : Rel) → Adds instance (excludes old) (Apart i v u) k a b r → excludes es k a b r ≡ true
    go _ _ _ _ (added r is p c) = subst (λ (s : Rel). excludes es i v u s ≡ true) (sym c)
        (excludes_symmetric es i u v Overlap (excluded is p))
    go _ _ _ _ (mirror_added r is p c) = subst (λ (s : Rel). excludes es i u v (mirror s) ≡ true) (sym c) (excluded is p)

named_apart : (instance : PlainInstance) (old es : List Exclusion) (rule : Rule) (i u v : ℕ) → rule ≡ Apart i v u
    → IsCovered instance (excludes old) es (Apart i u v) → IsCovered instance (excludes old) es rule
named_apart instance old es rule i u v e h =
    subst (λ (s : Rule). IsCovered instance (excludes old) es s) (sym e) (covered_apart_back instance old es i u v h)

-- boxes that are joined in one dimension more
pub joined_more : (X : Exclusions) (i u v k : ℕ) → ((j : ℕ) → j < k → j ≢ i → IsJoined X j u v)
    → (k ≢ i → IsJoined X k u v) → (j : ℕ) → j < k + 1 → j ≢ i → IsJoined X j u v
joined_more X i u v k each here j l ne = go (cases_lt j k)
  where
    go : (j < k) ⊎ (k ≤ j) → IsJoined X j u v
    go (inl f) = each j f ne
    go (inr f) = let same : k ≡ j = omega arith in subst (λ (x : ℕ). IsJoined X x u v) same (here (λ e. ne (sym same ∙ e)))

-- all but overlap
abbrev keep : Rel → Bool
keep r = not (is_same_rel Overlap r)

module _ (instance : PlainInstance) (a b : PlainEdges) (i u v : ℕ) (edge : IsEdge instance i u v)
    (joined : (j : ℕ) → j < dims instance → j ≢ i → IsJoined (excludes a.trail) j u v)
    (e : b ≡ record a { trail = with_exclusion a.trail (exclusion_at i u v Overlap) }) where
  grown : b.trail ≡ with_exclusion a.trail (exclusion_at i u v Overlap)
  grown = ap (λ (s : PlainEdges). s.trail) e

  -- overlap is excluded of boxes that are joined in each other dimension: APART was applied
  pub worked_apart : HasApplied instance a b false (λ rule. rule ≡ Apart i u v)
  worked_apart =
      worked_applied instance a b (is_narrowed a.trail i u v keep) (Apart i u v)
      (e ∙ ap (λ (l : List Exclusion). record a { trail = l }) (sym grown))
      (subst (λ (l : List Exclusion). IsApplied instance (Apart i u v) a.trail l (is_narrowed a.trail i u v keep))
      (sym grown)
      (applied_by instance (Apart i u v) a.trail keep
      (edge.dim, (edge.first, (edge.distinct, tt), (edge.second, tt, tt))) joined (rest_drops keep Overlap (λ r. refl))
      (rest_only keep Overlap (λ r. refl))))

-- the same where a mask may be empty then
pub worked_emptied : (instance : PlainInstance) (a b : PlainEdges) (lost : Bool) (R : Rule → Type 0) (P : Type 0)
    → MatchBool lost (HasEmptyMask instance (excludes b.trail)) P → HasApplied instance a b false R
    → HasApplied instance a b lost R
worked_emptied instance a b true R P h w = record {
  same_dims = w.same_dims;
  same_boxes = w.same_boxes;
  same_box_capacity = w.same_box_capacity;
  extends = w.extends;
  empty = λ f. h;
  done = λ f. absurd (true≢false f);
}
worked_emptied instance a b false R P h w = w

-- what ends at an empty mask covers all
pub worked_shut : (instance : PlainInstance) (a b : PlainEdges) (lost : Bool) (R : Rule → Type 0) → lost ≡ true
    → b ≡ record a { trail = b.trail } → Extends instance a.trail b.trail → HasEmptyMask instance (excludes b.trail)
    → HasApplied instance a b lost R
worked_shut instance a b lost R e sizes more empty = record {
  same_dims = ap (λ (s : PlainEdges). s.dims) sizes;
  same_boxes = ap (λ (s : PlainEdges). s.boxes) sizes;
  same_box_capacity = ap (λ (s : PlainEdges). s.room) sizes;
  extends = more;
  empty = λ f. empty;
  done = λ f. absurd (true≢false (sym e ∙ f));
}

-- nothing is to be done for joined, ordered and not before
pub none_both : (instance : PlainInstance) (s : PlainEdges) (j u v : ℕ) (left turned stale : Rel → Bool)
    → ((r : Rel) → turned r ≡ left (mirror r))
    → HasApplied instance s s false (λ rule. ((left Before ≡ false) × (left After ≡ false))
    × (Cycles instance j u v rule ⊎ Cycles instance j v u rule))
    → HasApplied instance s s false (λ rule. ((left Overlap ≡ false) × (left After ≡ false))
    × IsReachedOrdered instance j u v rule)
    → HasApplied instance s s false (λ rule. ((left Before ≡ false) × (stale Before ≡ false))
    × OrdersCrossed instance j u v rule)
    → HasApplied instance s s false (λ rule. ((turned Overlap ≡ false) × (turned After ≡ false))
    × IsReachedOrdered instance j v u rule)
    → HasApplied instance s s false (λ rule. ((turned Before ≡ false) × (stale After ≡ false))
    × OrdersCrossed instance j v u rule)
    → HasApplied instance s s false (IsReachedBoth instance j u v left turned stale)
none_both instance s j u v left turned stale e joined first crossed second back =
    worked_none instance s (IsReachedBoth instance j u v left turned stale) (λ rule r. go rule r)
  where
    go : (rule : Rule) → IsReachedBoth instance j u v left turned stale rule
        → IsCovered instance (excludes s.trail) s.trail rule
    go rule (inl (inl (inl (g, r)))) = joined.done refl rule (g, inl r)
    go rule (inl (inl (inr r))) = first.done refl rule r
    go rule (inl (inr r)) = crossed.done refl rule r
    go rule (inr (inl (inl (g, r)))) = joined.done refl rule ((sym (e After) ∙ g.1, sym (e Before) ∙ g.0), inr r)
    go rule (inr (inl (inr r))) = second.done refl rule r
    go rule (inr (inr r)) = back.done refl rule r

-- COMPOSE and what comes after it is all that is to be done at an edge
pub worked_pieces : (instance : PlainInstance) (s t : PlainEdges) (lost : Bool) (j u v : ℕ)
    (left turned stale : Rel → Bool) → j < dims instance → ((r : Rel) → left r ≡ not (excludes s.trail j u v r))
    → ((r : Rel) → turned r ≡ left (mirror r))
    → HasApplied instance s t lost (λ rule. (HasNoEmptyMask instance (excludes s.trail)
    × (Composes instance j u v rule ⊎ Composes instance j v u rule))
    ⊎ IsReachedLater instance j u v left turned stale rule)
    → HasApplied instance s t lost (λ rule. HasNoEmptyMask instance (excludes s.trail)
    × IsDue (λ r. not (stale r)) j u v rule)
worked_pieces instance s t lost j u v left turned stale there hl ht h = record {
  same_dims = h.same_dims;
  same_boxes = h.same_boxes;
  same_box_capacity = h.same_box_capacity;
  extends = h.extends;
  empty = h.empty;
  done = λ e rule r. (all r.0).done e rule r.1;
}
  where
    back : (r : Rel) → turned r ≡ not (excludes s.trail j v u r)
    back r = ht r ∙ (hl (mirror r) ∙ ap not (excludes_mirror s.trail j u v r))

    go : HasNoEmptyMask instance (excludes s.trail) → ((rule : Rule) → (HasNoEmptyMask instance (excludes s.trail)
        × (Composes instance j u v rule ⊎ Composes instance j v u rule))
        ⊎ IsReachedLater instance j u v left turned stale rule → IsCovered instance (excludes s.trail) t.trail rule)
        → (rule : Rule) → GuardedBoth instance j u v stale (left Overlap) (left Before) (left After) (turned Overlap)
        (turned Before) (turned After) rule → IsCovered instance (excludes s.trail) t.trail rule
    go full done rule (inl (inl (inl r))) = done rule (inl (full, r))
    go full done rule (inl (inl (inr (g, inl (inl r))))) = done rule (inr (inl (g, inl r)))
    go full done rule (inl (inl (inr (g, inl (inr r))))) = done rule (inr (inr (inl (g, inl r))))
    go full done rule (inl (inl (inr (g, inr (inl r))))) = done rule (inr (inl (g, inr r)))
    go full done rule (inl (inl (inr (g, inr (inr r))))) = done rule (inr (inr (inl (g, inr r))))
    go full done rule (inl (inr (inl (inl (g, inl r))))) = done rule (inr (inr (inr (inr (g, r)))))
    go full done rule (inl (inr (inl (inl (g, inr r))))) = done rule (inr (inr (inr (inl (inl (inl (inl (g, r))))))))
    go full done rule (inl (inr (inl (inr r)))) = done rule (inr (inr (inr (inl (inl (inl (inr r)))))))
    go full done rule (inl (inr (inr r))) = done rule (inr (inr (inr (inl (inl (inr r))))))
    go full done rule (inr (inl (inl (g, inl r)))) =
        named_apart instance s.trail t.trail rule r.0 u v r.2.1
        (done (Apart r.0 u v)
        (inr (inr (inr (inr ((sym (ht After) ∙ g.1, sym (ht Before) ∙ g.0), (r.0, r.1, (r.2.0, refl))))))))
    go full done rule (inr (inl (inl (g, inr r)))) = done rule (inr (inr (inr (inl (inr (inl (inl (g, r))))))))
    go full done rule (inr (inl (inr r))) = done rule (inr (inr (inr (inl (inr (inl (inr r)))))))
    go full done rule (inr (inr r)) = done rule (inr (inr (inr (inl (inr (inr r))))))

    all : HasNoEmptyMask instance (excludes s.trail) → HasApplied instance s t lost (IsDue (λ r. not (stale r)) j u v)
    all full = worked_guarded instance s t lost j u v stale (left Overlap) (left Before) (left After) (turned Overlap)
        (turned Before) (turned After) there (hl Overlap) (hl Before) (hl After) (back Overlap) (back Before) (back After)
        (ht Overlap)
        (record {
          same_dims = h.same_dims;
          same_boxes = h.same_boxes;
          same_box_capacity = h.same_box_capacity;
          extends = h.extends;
          empty = h.empty;
          done = λ e rule r. go full (h.done e) rule r;
        })
