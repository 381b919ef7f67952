-- Boxes of heaviest chains, one after another.
use Rattle.std.proofs.Common.{◌≡◌, ◌≢◌, ◌+◌, ◌<◌, ◌≤◌, ℕ, inl, inr, refl, sym, ap, subst, ◌∙◌, arith, List, [], ◌∷◌}
use Rattle.std.proofs.Common.{◌++◌, append_assoc, reverse, slice_index, length, get_or}
use Rattle.std.specs.List.{sum_by}
use Rattle.std.proofs.lemmas.List.{reverse-append}
use Rattle.std.proofs.lemmas.List.Sums.{sum_by-cons}
use Rattle.packing_terms.specs.Packing.{PlainInstance, box_count, side}
use Rattle.packing_terms.specs.Limits.{IsInternalInstance}
use Rattle.packing_terms.proofs.Working.{side_least}
use Rattle.packing_terms.proofs.Internal.{internal_sides}
use Rattle.packing_terms.specs.Exclusions.{Exclusions, excludes, IsSurelyBefore}
use Rattle.packing_terms.specs.Rules.{AreBoxesAmong, IsChain}
use Rattle.packing_terms.proofs.Members.{IsIn, index_in, in_append}
use Rattle.packing_terms.proofs.Boxes.{each_in, each_from, box_in}
use Rattle.packing_terms.specs.declared.Direction.{Direction}
use Rattle.packing_terms.specs.declared.Direction.TheVariants.{Forwards, Backwards}
use Rattle.packing_terms.specs.Runs.{IsRun, HasRun, Leads, IsTransitive, AreHeaviestHeads, AreHeaviestTails}
use Rattle.packing_terms.specs.Places.{HasNoEmptyMask}
use Rattle.packing_terms.proofs.Sets.{excludes_symmetric}
use Rattle.edge_state.specs.States.{IsSized}
use Rattle.packing_terms.proofs.Runs.{run_more}
use Rattle.packing_terms.proofs.Turned.{turned, boxes_turned, sum_turned, run_of_tail, run_of_heaviest, one_way}
use Rattle.packing_terms.proofs.Turned.{transitive_back}
use Rattle.edge_state.specs.Edges.{PlainEdges}
use Rattle.refutation_steps.specs.Chains.{AreWeighed, IsNextBox, IsNoNextBox, IsRunPushed, IsChainTo, IsChainFrom}

module _ (instance : PlainInstance) (s : PlainEdges) (i : ℕ) (direction : Direction) (ks : List ℕ)
    (weighed : AreWeighed instance s i direction ks) where
  abbrev n : ℕ
  n = box_count instance

  abbrev R : ℕ → ℕ → Type 0
  R = Leads (excludes s.trail) i direction

  abbrev w : ℕ → ℕ
  w = λ u. side instance u i

  -- a box alone is a chain
  pub least_side : (v : ℕ) → v < box_count instance → side instance v i ≤ slice_index ks v
  least_side v h = let l = (weighed.heaviest v h).most [] (h, tt, tt) tt in let e =
      sum_by-cons w v [] in omega (arith, l, e)

  -- the chain from a box weighs more than that from its successor
  pub falls : (v x least : ℕ) → v < box_count instance → IsNextBox instance s i direction ks least v x
      → slice_index ks x < slice_index ks v
  falls v x least h next =
      let one = weighed.positive v h in
      let longer = run_more n R w weighed.transitive weighed.one_way v x (slice_index ks x) h next.distinct next.leads
      (weighed.heaviest x next.there).some in
      let l = (weighed.heaviest v h).most longer.rest longer.boxes longer.run in
      let e = longer.heavy in
      omega (arith, l, e, one)

  -- the last box of a heaviest chain
  pub pushed_last : (v least : ℕ) (old new : List ℕ) → v < box_count instance
      → slice_index ks v ≡ side instance v i + least
      → ((x : ℕ) → x < box_count instance → IsNoNextBox instance s i direction ks least v x) → new ≡ old ++ v ∷ []
      → IsRunPushed instance s i direction ks v old new
  pushed_last v least old new h e none items =
      record {
        rest = [];
        items = items;
        boxes = (h, tt, tt);
        run = tt;
        heavy =
            go run.rest run.boxes run.run run.heavy;
      }
    where
      run : HasRun n R w v (slice_index ks v)
      run = (weighed.heaviest v h).some

      go : (rest : List ℕ) → AreBoxesAmong n (v ∷ rest) → IsRun R (v ∷ rest) → sum_by w (v ∷ rest) ≡ slice_index ks v
          → slice_index ks v ≤ sum_by w (v ∷ [])
      go [] b r f = omega (arith, f)
      go (y ∷ l) b r f =
          let low = none y b.2.0 b.1.0 r.0 in
          let most = (weighed.heaviest y b.2.0).most l b.2 r.1 in
          let sum = sum_by-cons w v (y ∷ l) in
          absurd (omega (arith, low, most, sum, e, f))

  -- the first box of a chain leads to each later one
  reaches : (v : ℕ) (l : List ℕ) → AreBoxesAmong n (v ∷ l) → IsRun R (v ∷ l) → (x : ℕ) → IsIn x l → R v x
  reaches v [] b run x i = absurd i
  reaches v (y ∷ l) b run x (inl e) = subst (λ (z : ℕ). R v z) (sym e) run.0
  reaches v (y ∷ l) b run x (inr i) =
      weighed.transitive v y x (
        b.0,
        (b.1.0, (each_in (λ z. v ≢ z) l b.1.1 x i, tt)),
        (b.2.0, (each_in (λ z. y ≢ z) l b.2.1 x i, tt), (box_in n l b.2.2 x i, tt, tt)),
      )
      run.0 (reaches y l b.2 run.1 x i)

  -- so a box that leads to the first is none of them
  new_box : (v x : ℕ) (l : List ℕ) → v < n → v ≢ x → R v x → AreBoxesAmong n (x ∷ l) → IsRun R (x ∷ l)
      → AreBoxesAmong n (v ∷ x ∷ l)
  new_box v x l hv ne vx b run = (hv, each_from (λ z. v ≢ z) (x ∷ l) apart, b)
    where
      apart : (z : ℕ) → IsIn z (x ∷ l) → v ≢ z
      apart z (inl e) f = ne (f ∙ e)
      apart z (inr i) f =
          weighed.one_way v x (hv, (ne, tt), (b.0, tt, tt)) vx
          (subst (λ (y : ℕ). R x y) (sym f) (reaches x l b run z i))

  -- a box more, before those from the next one on
  pub pushed_next : (v x least : ℕ) (old mid new : List ℕ) → v < box_count instance
      → slice_index ks v ≡ side instance v i + least → IsNextBox instance s i direction ks least v x
      → mid ≡ old ++ v ∷ [] → IsRunPushed instance s i direction ks x mid new
      → IsRunPushed instance s i direction ks v old new
  pushed_next v x least old mid new h e next items p = record {
    rest = x ∷ p.rest;
    items = p.items ∙ (ap (λ l. l ++ x ∷ p.rest) items ∙ append_assoc old (v ∷ []) (x ∷ p.rest));
    boxes = new_box v x p.rest h next.distinct next.leads p.boxes p.run;
    run = (next.leads, p.run);
    heavy = let a = next.heavy in let b = p.heavy in let sum =
        sum_by-cons w v (x ∷ p.rest) in omega (arith, a, b, e, sum);
  }

module _ (X : Exclusions) (i : ℕ) where
  chain_push : (l : List ℕ) (y x : ℕ) → IsChain X i (l ++ y ∷ []) → IsSurelyBefore X i y x
      → IsChain X i ((l ++ y ∷ []) ++ x ∷ [])
  chain_push [] y x h b = (b, tt)
  chain_push (z ∷ []) y x h b = (h.0, chain_push [] y x h.1 b)
  chain_push (z ∷ t ∷ l) y x h b = (h.0, chain_push (t ∷ l) y x h.1 b)

  back_chain : (v : ℕ) (l : List ℕ) → IsRun (Leads X i Backwards) (v ∷ l) → IsChain X i (turned l ++ v ∷ [])
  back_chain v [] h = tt
  back_chain v (x ∷ l) h = chain_push (turned l) x v (back_chain x l h.1) h.0

  run_chain : (l : List ℕ) → IsRun (Leads X i Forwards) l → IsChain X i l
  run_chain [] h = tt
  run_chain (u ∷ []) h = tt
  run_chain (u ∷ v ∷ l) h = (h.0, run_chain (v ∷ l) h.1)

reverse_is : (l : List ℕ) → reverse l ≡ turned l
reverse_is [] = refl
reverse_is (x ∷ l) = reverse-append (x ∷ []) l ∙ ap (λ k. k ++ x ∷ []) (reverse_is l)

pub chain_to_by : (instance : PlainInstance) (s : PlainEdges) (i : ℕ) (ks : List ℕ) (v : ℕ) (none mid new : List ℕ)
    → none ≡ []
    → IsRunPushed instance s i Backwards ks v none mid → new ≡ reverse mid
    → IsChainTo instance s i v (slice_index ks v) new
chain_to_by instance s i ks v none mid new e p f = record {
  before = turned p.rest;
  items = f ∙ (ap (λ l. reverse l) (p.items ∙ ap (λ l. l ++ v ∷ p.rest) e) ∙ reverse_is (v ∷ p.rest));
  boxes = boxes_turned (box_count instance) v p.rest p.boxes;
  chain = back_chain (excludes s.trail) i v p.rest p.run;
  heavy = subst (λ (k : ℕ). slice_index ks v ≤ k)
      (sym (sum_turned (box_count instance) (λ u. side instance u i) v p.rest)) p.heavy;
}

pub chain_from_by : (instance : PlainInstance) (s : PlainEdges) (i : ℕ) (ks : List ℕ) (v : ℕ) (none new : List ℕ)
    → none ≡ []
    → IsRunPushed instance s i Forwards ks v none new → IsChainFrom instance s i v (slice_index ks v) new
chain_from_by instance s i ks v none new e p = record {
  after = p.rest;
  items = p.items ∙ ap (λ l. l ++ v ∷ p.rest) e;
  boxes = p.boxes;
  chain = run_chain (excludes s.trail) i (v ∷ p.rest) p.run;
  heavy = p.heavy;
}

-- weights of heaviest chains, read in either direction
module _ (instance : PlainInstance) (s : PlainEdges) (i : ℕ) (sizes : IsSized instance s i)
    (full : HasNoEmptyMask instance (excludes s.trail))
    (transitive : IsTransitive (box_count instance) (IsSurelyBefore (excludes s.trail) i))
    (limits : IsInternalInstance instance) where
  positive : (v : ℕ) → v < box_count instance → 1 ≤ side instance v i
  positive v h = side_least instance (internal_sides instance limits) v i h sizes.there

  pub weighed_heads : (ks : List ℕ) → length ks ≡ box_count instance → AreHeaviestHeads instance (excludes s.trail) i ks
      → AreWeighed instance s i Backwards ks
  weighed_heads ks count heads = record {
    sizes = sizes;
    positive = positive;
    count = count;
    transitive = transitive_back (excludes s.trail) i instance transitive Backwards;
    one_way = one_way (excludes s.trail) i instance sizes.there (excludes_symmetric s.trail) full Backwards;
    heaviest = λ v h. run_of_heaviest (excludes s.trail) i instance v (slice_index ks v) (heads v h);
  }

  pub weighed_tails : (ks : List ℕ) → length ks ≡ box_count instance → AreHeaviestTails instance (excludes s.trail) i ks
      → AreWeighed instance s i Forwards ks
  weighed_tails ks count tails = record {
    sizes = sizes;
    positive = positive;
    count = count;
    transitive = transitive_back (excludes s.trail) i instance transitive Forwards;
    one_way = one_way (excludes s.trail) i instance sizes.there (excludes_symmetric s.trail) full Forwards;
    heaviest = λ v h. record {
      some = run_of_tail (excludes s.trail) i instance v (slice_index ks v) (tails v h).some;
      most = λ after b r. (tails v h).most after b (run_chain (excludes s.trail) i (v ∷ after) r);
    };
  }

-- the boxes of a list are there
pub box_at : (instance : PlainInstance) (vs : List ℕ) (k : ℕ) → AreBoxesAmong (box_count instance) vs → k < length vs
    → slice_index vs k < box_count instance
box_at instance vs k b h = box_in (box_count instance) vs b (get_or vs k 0) (index_in 0 vs k h)

-- the last box of a list is there
pub last_there : (instance : PlainInstance) (before : List ℕ) (u : ℕ)
    → AreBoxesAmong (box_count instance) (before ++ u ∷ []) → u < box_count instance
last_there instance before u b = box_in (box_count instance) (before ++ u ∷ []) b u
    (in_append u before (u ∷ []) (inr (inl refl)))
