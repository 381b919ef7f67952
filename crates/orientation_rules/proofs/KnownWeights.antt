-- Weights of walks where a closing begins, and where surely before is transitive and goes one way.
use Rattle.std.proofs.Common.{◌≡◌, ◌≢◌, ℕ, ◌<◌, ◌≤◌, ◌⊎◌, inl, inr, refl, sym, subst, ◌∙◌, arith, Bool, true}
use Rattle.std.proofs.Common.{false, not, ◌&&◌, eqb, ltb, List, [], ◌∷◌, slice_index, zero, suc, length}
use Rattle.std.proofs.lemmas.Bool.{true≢false, cases_Bool, cases_eq, eqb-true, lt-ltb, ltb-true, and_parts}
use Rattle.std.specs.List.{sum_by}
use Rattle.std.proofs.lemmas.List.Sums.{sum_by-cons}
use Rattle.packing_terms.specs.declared.Rel.TheVariants.{Before}
use Rattle.packing_terms.specs.declared.Direction.{Direction}
use Rattle.packing_terms.specs.declared.Direction.TheVariants.{Forwards, Backwards}
use Rattle.packing_terms.specs.Packing.{PlainInstance, dims, box_count, side}
use Rattle.packing_terms.specs.Exclusions.{excludes}
use Rattle.packing_terms.specs.Rules.{AreBoxesAmong}
use Rattle.packing_terms.specs.Runs.{HasNoHeavierRun, HasRun, IsHeaviestRun, IsOneWay, IsRun, IsTransitive, Leads}
use Rattle.packing_terms.proofs.Monotone.{open_less}
use Rattle.packing_terms.proofs.Runs.{heaviest, run_more}
use Rattle.edge_state.specs.BitRows.{row_has}
use Rattle.edge_state.specs.Edges.{PlainEdges, oldest}
use Rattle.edge_state.specs.ChainWeights.{AreGoodFor, IsSameHistory, IsWalk, alone, further, PlainWeights, weights_in}
use Rattle.edge_state.proofs.Oldest.{oldest_all}
use Rattle.orientation_rules.specs.Weights.{HasOneWayChains, IsHeaviest}
use Rattle.orientation_rules.specs.Pending.{AreFollowed, AreHeld, IsCalm, IsLiveIn, OtherDimsStay, PlainPending, risen_in}
use Rattle.orientation_rules.proofs.Ordering.{leads_more, oldest_less}

-- a walk along one relation is one along each wider relation
pub walk_more : (n : ℕ) (R S : ℕ → ℕ → Type 0) (w : ℕ → ℕ) → ((u v : ℕ) → R u v → S u v) → (v k : ℕ) → IsWalk n R w v k
    → IsWalk n S w v k
walk_more n R S w wider _ _ (alone v l) = alone v l
walk_more n R S w wider _ _ (further v x j l ne r rest) =
    further v x j l ne (wider v x r) (walk_more n R S w wider x j rest)

-- a walk is a run, where what leads on is transitive and goes one way
walk_run : (n : ℕ) (R : ℕ → ℕ → Type 0) (w : ℕ → ℕ) → IsTransitive n R → IsOneWay n R → (v k : ℕ) → IsWalk n R w v k
    → HasRun n R w v k
walk_run n R w trans one _ _ (alone v l) = record {
  rest = [];
  boxes = (l, tt, tt);
  run = tt;
  heavy = omega (arith, sum_by-cons w v []);
}
walk_run n R w trans one _ _ (further v x j l ne r rest) =
    run_more n R w trans one v x j l ne r (walk_run n R w trans one x j rest)

-- a run is a walk
run_walk : (n : ℕ) (R : ℕ → ℕ → Type 0) (w : ℕ → ℕ) (v k : ℕ) (rest : List ℕ) → AreBoxesAmong n (v ∷ rest)
    → IsRun R (v ∷ rest) → sum_by w (v ∷ rest) ≡ k → IsWalk n R w v k
run_walk n R w v k [] boxes run heavy =
    subst (λ (z : ℕ). IsWalk n R w v z) (omega (arith, heavy, sum_by-cons w v [])) (alone v boxes.0)
run_walk n R w v k (x ∷ rest) boxes run heavy =
    subst (λ (z : ℕ). IsWalk n R w v z) (sym (sum_by-cons w v (x ∷ rest)) ∙ heavy)
    (further v x (sum_by w (x ∷ rest)) boxes.0 boxes.1.0 run.0
    (run_walk n R w x (sum_by w (x ∷ rest)) rest boxes.2 run.1 refl))

pub heaviest_walks : (n : ℕ) (R : ℕ → ℕ → Type 0) (w : ℕ → ℕ) (v k : ℕ) → IsHeaviestRun n R w v k → IsWalk n R w v k
heaviest_walks n R w v k heavy = run_walk n R w v k heavy.some.rest heavy.some.boxes heavy.some.run heavy.some.heavy

-- weights that are known are those of the heaviest chains, where the whole list was followed
pub known_heaviest : (instance : PlainInstance) (s : PlainEdges) (i : ℕ) (numbers : List (List ℕ)) (heads tails : List ℕ)
    → (direction : Direction) → HasOneWayChains instance s i direction
    → IsLiveIn instance s (length s.trail) i numbers heads tails → (v : ℕ) → v < box_count instance
    → IsHeaviest instance s i direction v (slice_index (weights_in numbers direction i) v)
known_heaviest instance s i numbers heads tails direction chains live =
    heaviest (box_count instance) (Leads (excludes s.trail) i direction) (λ u. side instance u i)
    (weights_in numbers direction i)
    (λ v hv. walk_run (box_count instance) (Leads (excludes s.trail) i direction) (λ u. side instance u i)
    chains.transitive chains.one_way v _ (live.walks direction v hv))
    (rw (oldest_all s.trail (length s.trail) refl) at (live.settled direction))

-- where a number is the weight of the heaviest run, none is heavier by a longer one
heaviest_settled : (n : ℕ) (R : ℕ → ℕ → Type 0) (w : ℕ → ℕ) (ks : List ℕ) → IsTransitive n R → IsOneWay n R
    → ((v : ℕ) → v < n → IsHeaviestRun n R w v (slice_index ks v)) → (v x : ℕ) → v < n → x < n
    → HasNoHeavierRun R w ks v x
heaviest_settled n R w ks trans one heavy v x hv hx = record {
  below = λ ne lead. (let run = run_more n R w trans one v x (slice_index ks x) hv ne lead (heavy x hx).some in
      let most = (heavy v hv).most run.rest run.boxes run.run in let e = run.heavy in omega (arith, most, e));
}

-- of four equal rows without members, none has a member
pub same_rows : (r : List ℕ) (i : ℕ) → i < 4 → ((x : ℕ) → row_has r x ≡ false) → (x : ℕ)
    → row_has (risen_in (r ∷ r ∷ r ∷ r ∷ []) i) x ≡ false
same_rows r zero l none = none
same_rows r (suc zero) l none = none
same_rows r (suc (suc zero)) l none = none
same_rows r (suc (suc (suc zero))) l none = none
same_rows r (suc (suc (suc (suc i)))) l none = absurd (omega (arith, l))

-- A closing begins: in the dimensions whose weights are known, each two boxes fit.
pub followed_begun : (instance : PlainInstance) (s : PlainEdges) (closed : ℕ) (k : PlainWeights) (p : PlainPending)
    (is_known : Bool) → AreHeld instance s k → p.dirty ≡ p.unknown
    → ((i : ℕ) → row_has p.unknown i ≡ ltb i (dims instance) && not is_known)
    → ((i : ℕ) → i < dims instance → (u : ℕ) → row_has (risen_in p.heads i) u ≡ false)
    → ((i : ℕ) → i < dims instance → (u : ℕ) → row_has (risen_in p.tails i) u ≡ false)
    → (is_known ≡ true → AreGoodFor instance (excludes (oldest closed s.trail)) k.numbers)
    → AreFollowed instance s closed k p
followed_begun instance s closed k p is_known held same unknown heads tails good = record {
  held = held;
  live = λ i hi known. live i hi (is i hi known);
  calm = λ i hi off. record {
    known = rw same at off;
    heads = heads i hi;
    tails = tails i hi;
  };
  within = λ i on. ltb-true i (dims instance) (and_parts _ _ (sym (unknown i) ∙ rw same at on)).0;
}
  where
    known_if : (a b : Bool) → a ≡ true → (a && not b) ≡ false → b ≡ true
    known_if true true e h = refl
    known_if true false e h = absurd (true≢false h)
    known_if false b e h = absurd (true≢false (sym e))

    is : (i : ℕ) → i < dims instance → row_has p.unknown i ≡ false → is_known ≡ true
    is i hi known = known_if (ltb i (dims instance)) is_known (lt-ltb i (dims instance) hi) (sym (unknown i) ∙ known)

    live : (i : ℕ) → i < dims instance → is_known ≡ true
        → IsLiveIn instance s closed i k.numbers (risen_in p.heads i) (risen_in p.tails i)
    live i hi on =
        let it = good on i hi in record {
          walks = λ direction v hv. walk_more (box_count instance)
              (Leads (excludes (oldest closed s.trail)) i direction) (Leads (excludes s.trail) i direction)
              (λ u. side instance u i)
              (leads_more (excludes (oldest closed s.trail)) (excludes s.trail) i (oldest_less closed s.trail) direction)
              v _ (it.walks direction v hv);
          settled = it.settled;
          fit = record {
            firsts_within = λ u on. absurd (true≢false (sym on ∙ heads i hi u));
            seconds_within = λ u on. absurd (true≢false (sym on ∙ tails i hi u));
            fit = λ u v hu hv off calm ne open_now. it.fit u v hu hv ne
                (open_less (excludes (oldest closed s.trail)) (excludes s.trail) (oldest_less closed s.trail) i u v Before open_now);
          };
        }

-- The weights of a dimension that wasn't known were made from nothing: CHAIN is to be looked at in
-- all its rows.
pub followed_weighed : (instance : PlainInstance) (s : PlainEdges) (i : ℕ) (old new : PlainWeights) (all : List ℕ)
    (p q : PlainPending) (mark : ℕ) → HasOneWayChains instance s i Backwards → HasOneWayChains instance s i Forwards
    → dims instance ≤ 4 → i < dims instance → IsSameHistory old new → OtherDimsStay i old.numbers new.numbers
    → ((v : ℕ) → v < box_count instance
    → IsHeaviest instance s i Backwards v (slice_index (weights_in new.numbers Backwards i) v))
    → ((v : ℕ) → v < box_count instance
    → IsHeaviest instance s i Forwards v (slice_index (weights_in new.numbers Forwards i) v))
    → ((x : ℕ) → row_has all x ≡ ltb x (box_count instance)) → q.dirty ≡ p.dirty
    → ((j : ℕ) → row_has q.unknown j ≡ (row_has p.unknown j && not (eqb j i))) → risen_in q.heads i ≡ all
    → ((x : ℕ) → row_has (risen_in q.tails i) x ≡ false)
    → ((j : ℕ) → (j ≡ i → ⊥) → (risen_in q.heads j ≡ risen_in p.heads j) × (risen_in q.tails j ≡ risen_in p.tails j))
    → row_has p.unknown i ≡ true → AreFollowed instance s mark old p → AreFollowed instance s mark new q
followed_weighed instance s i old new all p q mark back forth few there same stay heads tails every dirty known rows none
    others lost was = record {
      held = record {
        back = same.held (dims instance) (box_count instance) s.trail was.held.back;
        same = record {
          limits = rw same.limits was.held.same.limits;
          sides = rw same.sides was.held.same.sides;
        };
      };
      live = λ j hj off. live j hj off (cases_eq j i);
      calm = λ j hj off. calm j hj (rw dirty at off) (cases_eq j i);
      within = λ j on. was.within j (rw dirty at on);
    }
  where
    w : ℕ → ℕ
    w u = side instance u i

    heavy : (direction : Direction) → (v : ℕ) → v < box_count instance
        → IsHeaviest instance s i direction v (slice_index (weights_in new.numbers direction i) v)
    heavy Forwards = tails
    heavy Backwards = heads

    chains : (direction : Direction) → HasOneWayChains instance s i direction
    chains Forwards = forth
    chains Backwards = back

    here : IsLiveIn instance s mark i new.numbers (risen_in q.heads i) (risen_in q.tails i)
    here = record {
      walks = λ direction v hv. heaviest_walks (box_count instance) (Leads (excludes s.trail) i direction) w v _
          (heavy direction v hv);
      settled = λ direction v x hv hx. record {
        below = λ ne lead. (heaviest_settled (box_count instance) (Leads (excludes s.trail) i direction) w
            (weights_in new.numbers direction i) (chains direction).transitive (chains direction).one_way
            (heavy direction) v x hv hx).below ne
            (leads_more (excludes (oldest mark s.trail)) (excludes s.trail) i (oldest_less mark s.trail) direction v x
            lead);
      };
      fit = record {
        firsts_within = λ u on. ltb-true u (box_count instance) (sym (every u) ∙ rw rows at on);
        seconds_within = λ u on. absurd (true≢false (sym on ∙ none u));
        fit = λ u v hu hv off _ _ _. absurd (true≢false (sym (lt-ltb u (box_count instance) hu)
            ∙ (sym (every u) ∙ rw rows at off)));
      };
    }

    and_not : (a b : Bool) → (a && not b) ≡ false → b ≡ false → a ≡ false
    and_not false b h e = refl
    and_not true true h e = absurd (true≢false e)
    and_not true false h e = absurd (true≢false h)

    apart : (j : ℕ) → (j ≢ i) → eqb j i ≡ false
    apart j ne = go (cases_Bool (eqb j i))
      where
        go : (eqb j i ≡ true) ⊎ (eqb j i ≡ false) → eqb j i ≡ false
        go (inl on) = absurd (ne (eqb-true j i on))
        go (inr off) = off

    live : (j : ℕ) → j < dims instance → row_has q.unknown j ≡ false → (j ≡ i) ⊎ (j ≢ i)
        → IsLiveIn instance s mark j new.numbers (risen_in q.heads j) (risen_in q.tails j)
    live j hj off (inl d) = rw d here
    live j hj off (inr ne) =
        let before = was.live j hj (and_not _ _ (sym (known j) ∙ off) (apart j ne)) in
        let few_j : j < 4 = omega (arith, hj, few) in
        rw ((others j ne).0, (others j ne).1) (record {
          walks = λ direction. rw (stay direction j few_j ne) (before.walks direction);
          settled = λ direction. rw (stay direction j few_j ne) (before.settled direction);
          fit = record {
            firsts_within = before.fit.firsts_within;
            seconds_within = before.fit.seconds_within;
            fit = rw (stay Backwards j few_j ne, stay Forwards j few_j ne) before.fit.fit;
          };
        })

    calm : (j : ℕ) → j < dims instance → row_has p.dirty j ≡ false → (j ≡ i) ⊎ (j ≢ i) → IsCalm q j
    calm j hj off (inl d) =
        absurd (true≢false (sym lost ∙ subst (λ (z : ℕ). row_has p.unknown z ≡ false) d (was.calm j hj off).known))
    calm j hj off (inr ne) =
        let before = was.calm j hj off in record {
          known = rw (known j, before.known) refl;
          heads = rw (others j ne).0 before.heads;
          tails = rw (others j ne).1 before.tails;
        }
