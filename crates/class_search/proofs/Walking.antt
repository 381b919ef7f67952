-- Lists that grow, and the pairs that are settled as they do.
use Rattle.std.proofs.Common.{◌≡◌, ℕ, zero, suc, ◌<◌, ◌≤◌, inl, inr, refl, sym, ap, subst, ◌∙◌, arith, Bool, true}
use Rattle.std.proofs.Common.{false, not, cond, List, [], ◌∷◌, ◌++◌, length, Some, None, append_assoc}
use Rattle.std.specs.List.{find}
use Rattle.std.proofs.lemmas.Bool.{true≢false, not_from_true, not_from_false}
use Rattle.packing_terms.specs.declared.Exclusion.{Exclusion}
use Rattle.packing_terms.specs.Packing.{PlainInstance, dims, box_count}
use Rattle.packing_terms.specs.Exclusions.{excludes}
use Rattle.packing_terms.specs.Closure.{IsSubset}
use Rattle.packing_terms.proofs.Sets.{excludes_right, excludes_symmetric}
use Rattle.packing_terms.proofs.Found.{find_none}
use Rattle.packing_terms.proofs.Members.{IsIn}
use Rattle.packing_terms.specs.Places.{IsOrdered}
use Rattle.edge_state.specs.Edges.{oldest}
use Rattle.edge_state.proofs.Oldest.{oldest_more, oldest_all}
use Rattle.packing_terms.specs.Rank.{ranked_pairs}
use Rattle.tree_terms.specs.InnerTree.{is_settled, is_unsettled}
use Rattle.packing_terms.proofs.RankLemmas.{ranked_rise, pair_ranked}
use Rattle.tree_terms.proofs.Nodes.{settled_pair}
use Rattle.class_search.specs.Settling.{pair_at, ArePairsAmong, AreSettledBefore}
use Rattle.class_search.specs.Splits.{with_all}
use Rattle.class_search.specs.Visits.{Grows}
use Rattle.class_search.specs.Walks.{IsPastSettled}
use Rattle.class_search.proofs.Firsts.{find_at, find_never}
use Rattle.class_search.proofs.Settledness.{stays_settled}

-- lists that grow
pub length_more : (more es : List Exclusion) → length es ≤ length (more ++ es)
length_more [] es = omega arith
length_more (x ∷ more) es = let l = length_more more es in omega (arith, l)

-- the oldest of a list that grew are the list before
pub cut_back : (fs gs : List Exclusion) → Grows fs gs → oldest (length fs) gs ≡ fs
cut_back fs gs g = rw g.grown (oldest_more (length fs) g.more fs (omega arith) ∙ oldest_all fs (length fs) refl)

pub with_grows : (add es : List Exclusion) → Grows es (with_all add es)
with_grows [] es = record { more = []; grown = refl }
with_grows (e ∷ add) es = go (excludes (with_all add es) e.dim e.u e.v e.rel) (with_grows add es)
  where
    go : (b : Bool) → Grows es (with_all add es) → Grows es (cond b (with_all add es) (e ∷ with_all add es))
    go true h = h
    go false h = record { more = e ∷ h.more; grown = ap (λ (l : List Exclusion). e ∷ l) h.grown }

pub grows_on : (es fs gs : List Exclusion) → Grows es fs → Grows fs gs → Grows es gs
grows_on es fs gs g h = record {
  more = h.more ++ g.more;
  grown = h.grown ∙ (ap (λ (l : List Exclusion). h.more ++ l) g.grown ∙ sym (append_assoc h.more g.more es));
}

grown_subset : (es fs : List Exclusion) → Grows es fs → IsSubset (excludes es) (excludes fs)
grown_subset es fs g i u v r h =
    subst (λ (l : List Exclusion). excludes l i u v r ≡ true) (sym g.grown) (excludes_right g.more es i u v r h)

module _ (instance : PlainInstance) where
  pub settled_more : (k : ℕ) (es fs : List Exclusion) → IsSubset (excludes es) (excludes fs)
      → IsPastSettled instance k es → IsPastSettled instance k fs
  settled_more k es fs more h gs there full = h gs (λ i u v r x. there i u v r (more i u v r x)) full

  pair_rises : (k : ℕ) → k < length (ranked_pairs instance)
      → ((pair_at (ranked_pairs instance) k).0 < (pair_at (ranked_pairs instance) k).1)
      × ((pair_at (ranked_pairs instance) k).1 < box_count instance)
  pair_rises k l = ranked_rise instance (pair_at (ranked_pairs instance) k) (listed (ranked_pairs instance) k l)
    where
      listed : (ps : List (ℕ × ℕ)) (j : ℕ) → j < length ps → IsIn (pair_at ps j) ps
      listed [] j m = absurd (omega (arith, m))
      listed (p ∷ ps) zero m = inl refl
      listed (p ∷ ps) (suc j) m = inr (listed ps j (omega (arith, m)))

  pub pairs_among : (n : ℕ) (pairs : List (ℕ × ℕ)) → n ≡ box_count instance → pairs ≡ ranked_pairs instance
      → ArePairsAmong n pairs
  pairs_among n pairs e f k l = rw (e, f) (pair_rises k (rw f at l))

  pub past_here : (k : ℕ) (es : List Exclusion)
      → AreSettledBefore (excludes es) (dims instance) (ranked_pairs instance) k → IsPastSettled instance k es
  past_here k es h fs more full j l m =
      let r = pair_rises j m in
      stays_settled instance (excludes es) (excludes fs) more full (pair_at (ranked_pairs instance) j) r.0 r.1 (h j l m)

  pub child_settled : (k : ℕ) (es add : List Exclusion)
      → AreSettledBefore (excludes es) (dims instance) (ranked_pairs instance) k
      → IsPastSettled instance k (with_all add es)
  child_settled k es add h = settled_more k es (with_all add es) (grown_subset es (with_all add es) (with_grows add es))
      (past_here k es h)

  pub none_found : (es : List Exclusion)
      → AreSettledBefore (excludes es) (dims instance) (ranked_pairs instance) (length (ranked_pairs instance))
      → find (is_unsettled instance (excludes es)) (ranked_pairs instance) ≡ None
  none_found es h = find_never (is_unsettled instance (excludes es)) (0, 0) (ranked_pairs instance)
      (λ j l. not_from_true _ (h j l l))

  pub one_found : (es : List Exclusion) (k : ℕ) → k < length (ranked_pairs instance)
      → AreSettledBefore (excludes es) (dims instance) (ranked_pairs instance) k
      → is_settled (excludes es) (dims instance) (pair_at (ranked_pairs instance) k) ≡ false
      → find (is_unsettled instance (excludes es)) (ranked_pairs instance) ≡ Some (pair_at (ranked_pairs instance) k)
  one_found es k l h e = find_at (is_unsettled instance (excludes es)) (0, 0) (ranked_pairs instance) k l
      (λ j m. not_from_true _ (h j m (omega (arith, m, l)))) (not_from_false _ e)

  -- where no pair is left unsettled, each two boxes are settled
  pub pairs_settled : (es : List Exclusion)
      → AreSettledBefore (excludes es) (dims instance) (ranked_pairs instance) (length (ranked_pairs instance))
      → (u v : ℕ) → u < v → v < box_count instance → IsOrdered instance (excludes es) u v
  pairs_settled es h u v l m =
      settled_pair (excludes es) (dims instance) (box_count instance) (excludes_symmetric es) (u, v)
      (is_true (is_settled (excludes es) (dims instance) (u, v))
      (find_none (is_unsettled instance (excludes es)) (ranked_pairs instance) (none_found es h) (u, v)
      (pair_ranked instance u v l m)))
    where
      is_true : (b : Bool) → not b ≡ false → b ≡ true
      is_true true k = refl
      is_true false k = absurd (true≢false k)
