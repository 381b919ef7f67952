-- Weights of one direction that rise, and whose raises are propagated to predecessors.
use Rattle.std.proofs.Common.{◌≡◌, ◌≢◌, ℕ, ◌+◌, ◌-◌, ◌*◌, ◌<◌, ◌≤◌, ◌⊎◌, inl, inr, refl, sym, ap, subst, ◌∙◌, arith, Bool}
use Rattle.std.proofs.Common.{true, false, not, ◌&&◌, ◌||◌, eqb, ltb, List, [], length, slice_index, slice_index_or}
use Rattle.std.proofs.lemmas.Bool.{true≢false, cases_Bool, cases_eq, cases_lt, or_parts, or_cases, or_left, or_right, and_parts, eqb-true, eq-eqb, lt-ltb, ltb-true}
use Rattle.std.proofs.lemmas.List.{get_or-set_same, get_or-set_other, get_or_past}
use Rattle.std.proofs.Math.ListN.{set}
use Rattle.packing_terms.specs.declared.Exclusion.{Exclusion}
use Rattle.packing_terms.specs.declared.Direction.{Direction}
use Rattle.packing_terms.specs.declared.Direction.TheVariants.{Forwards}
use Rattle.packing_terms.specs.declared.Rel.{Rel}
use Rattle.packing_terms.specs.declared.Rel.TheVariants.{Overlap, Before, After}
use Rattle.packing_terms.specs.Packing.{PlainInstance, box_count, side}
use Rattle.packing_terms.specs.Exclusions.{excludes}
use Rattle.packing_terms.specs.Runs.{HasNoHeavierRun, Leads}
use Rattle.packing_terms.proofs.Sets.{excludes_symmetric}
use Rattle.edge_state.specs.BitRows.{members_below, row_has}
use Rattle.edge_state.specs.Edges.{PlainEdges, is_other_box}
use Rattle.edge_state.specs.ChainWeights.{AreWalks, IsSameHistory, IsWalk, PlainWeights, list_number, weights_in, with_number}
use Rattle.edge_state.specs.ChainWeights.IsWalk.{further}
use Rattle.edge_state.proofs.RowBits.{members_few, members_fewer, eqb_false}
use Rattle.orientation_rules.specs.Pending.{AreLinkedBy, AreRising}
use Rattle.orientation_rules.specs.Raises.{AreRaised, raises_left}

not_of : (t : Bool) → not t ≡ true → t ≡ false
not_of false h = refl
not_of true h = absurd (true≢false (sym h))

not_false : (t : Bool) → not t ≡ false → t ≡ true
not_false true h = refl
not_false false h = absurd (true≢false h)

and_false : (a b : Bool) → (a && b) ≡ false → (a ≡ false) ⊎ (b ≡ false)
and_false true b h = inr h
and_false false b h = inl refl

-- a row without a number has no other members
pub left_part : (before left : ℕ → Bool) (v : ℕ) → ((x : ℕ) → left x ≡ before x && not (eqb x v)) → (x : ℕ)
    → left x ≡ true → before x ≡ true
left_part before left v less x on = (and_parts _ _ (sym (less x) ∙ on)).0

-- another number that isn't left wasn't there
pub off_left : (before left : ℕ → Bool) (v : ℕ) → ((x : ℕ) → left x ≡ before x && not (eqb x v)) → (x : ℕ) → x ≢ v
    → left x ≡ false → before x ≡ false
off_left before left v less x ne off = go (and_false _ _ (sym (less x) ∙ off))
  where
    go : (before x ≡ false) ⊎ (not (eqb x v) ≡ false) → before x ≡ false
    go (inl h) = h
    go (inr h) = absurd (ne (eqb-true x v (not_false _ h)))

-- The row of predecessors: the boxes other than x to which x neither overlaps nor is related by `behind`.
module _ (n i x : ℕ) (es : List Exclusion) (behind : Rel) (all near back first second left : ℕ → Bool)
    (boxes : (u : ℕ) → all u ≡ ltb u n)
    (near_is : (u : ℕ) → near u ≡ is_other_box n x u && not (excludes es i x u Overlap))
    (back_is : (u : ℕ) → back u ≡ is_other_box n x u && not (excludes es i x u behind))
    (first_is : (u : ℕ) → first u ≡ all u && not (near u))
    (second_is : (u : ℕ) → second u ≡ first u && not (back u))
    (left_is : (u : ℕ) → left u ≡ second u && not (eqb u x)) where
  other_box : (u : ℕ) → u < n → (u ≡ x → ⊥) → is_other_box n x u ≡ true
  other_box u small ne = rw (lt-ltb u n small, eqb_false u x ne) refl

  -- a pair of boxes that isn't in a row of relations is excluded there
  shut : (t s o : Bool) → o ≡ true → s ≡ o && not t → s ≡ false → t ≡ true
  shut true s o ho e f = refl
  shut false s o ho e f = absurd (true≢false (sym (sym f ∙ (e ∙ ap (λ z. z && true) ho))))

  -- one that is excluded isn't in the row
  unread : (t s o : Bool) → s ≡ o && not t → t ≡ true → s ≡ false
  unread true s true e h = e
  unread true s false e h = e
  unread false s o e h = absurd (true≢false (sym h))

  pub predecessor : (u : ℕ) → left u ≡ true
      → (u < n) × (u ≡ x → ⊥) × (excludes es i x u Overlap ≡ true) × (excludes es i x u behind ≡ true)
  predecessor u on =
      let outer = and_parts _ _ (sym (left_is u) ∙ on) in
      let inner = and_parts _ _ (sym (second_is u) ∙ outer.0) in
      let most = and_parts _ _ (sym (first_is u) ∙ inner.0) in
      let small : u < n = ltb-true u n (sym (boxes u) ∙ most.0) in
      let ne : (u ≡ x → ⊥) = (λ e. true≢false (sym (eq-eqb u x e) ∙ not_of _ outer.1)) in
      let o = other_box u small ne in (
        small,
        ne,
        shut (excludes es i x u Overlap) (near u) _ o (near_is u) (not_of _ most.1),
        shut (excludes es i x u behind) (back u) _ o (back_is u) (not_of _ inner.1),
      )

  pub no_predecessor : (u : ℕ) → u < n → left u ≡ false → (u ≡ x → ⊥) → excludes es i x u Overlap ≡ true
      → excludes es i x u behind ≡ true → ⊥
  no_predecessor u small off ne f g =
      let a : all u ≡ true = boxes u ∙ lt-ltb u n small in
      let p : near u ≡ false = unread (excludes es i x u Overlap) _ _ (near_is u) f in
      let q : back u ≡ false = unread (excludes es i x u behind) _ _ (back_is u) g in
      let e : first u ≡ true = first_is u ∙ rw (a, p) refl in
      let d : second u ≡ true = second_is u ∙ rw (e, q) refl in
      true≢false (sym (left_is u ∙ rw (d, eqb_false u x ne) refl) ∙ off)

-- x is a successor of v exactly if two relations of x and v are excluded
pub leads_on : (es : List Exclusion) (i v x : ℕ) → excludes es i x v Overlap ≡ true → excludes es i x v Before ≡ true
    → Leads (excludes es) i Forwards v x
leads_on es i v x near back = (excludes_symmetric es i x v Overlap near, excludes_symmetric es i x v Before back)

pub led_by : (es : List Exclusion) (i v x : ℕ) → Leads (excludes es) i Forwards v x
    → (excludes es i x v Overlap ≡ true) × (excludes es i x v Before ≡ true)
led_by es i v x lead = (excludes_symmetric es i v x Overlap lead.0, excludes_symmetric es i v x After lead.1)

-- a list of numbers that was read is there
pub list_there : (numbers : List (List ℕ)) (list : ℕ) → length (slice_index_or numbers list []) ≡ 128
    → list < length numbers
list_there numbers list count = go (cases_lt list (length numbers))
  where
    go : (list < length numbers) ⊎ (length numbers ≤ list) → list < length numbers
    go (inl h) = h
    go (inr h) =
        let e : length (slice_index_or numbers list []) ≡ 0 = ap length (get_or_past numbers list [] h) in
        absurd (omega (arith, e, count))

module _ (old new : List (List ℕ)) (list v weight : ℕ) (written : new ≡ with_number old list v weight)
    (count : length (slice_index_or old list []) ≡ 128) where
  -- the list in which a number is written
  written_list : slice_index_or new list [] ≡ set (slice_index_or old list []) v weight
  written_list = rw written (get_or-set_same old list _ [] (list_there old list count))

  pub written_other : (other : ℕ) → (other ≡ list → ⊥) → slice_index_or new other [] ≡ slice_index_or old other []
  written_other other ne = rw written (get_or-set_other old list other _ [] ne)

  pub written_here : v < 128 → slice_index (slice_index_or new list []) v ≡ weight
  written_here small =
      rw written_list (get_or-set_same (slice_index_or old list []) v weight 0 (omega (arith, small, count)))

  pub written_beside : (u : ℕ) → (u ≡ v → ⊥)
      → slice_index (slice_index_or new list []) u ≡ slice_index (slice_index_or old list []) u
  written_beside u ne = rw written_list (get_or-set_other (slice_index_or old list []) v u weight 0 ne)

-- a history is kept by two steps where each keeps it
pub history_next : (a b c : PlainWeights) → IsSameHistory a b → IsSameHistory b c → IsSameHistory a c
history_next a b c h k = record {
  limits = k.limits ∙ h.limits;
  sides = k.sides ∙ h.sides;
  held = λ d n es of. k.held d n es (h.held d n es of);
}

module _ (instance : PlainInstance) (s : PlainEdges) (i : ℕ) (direction : Direction) where
  -- what was raised in two steps
  pub raised_next : (a b c : List (List ℕ)) (p q r x y z : List ℕ) → AreRaised instance s i direction a b p q x y
      → AreRaised instance s i direction b c q r y z → AreRaised instance s i direction a c p r x z
  raised_next a b c p q r x y z f g = record {
    walks = λ h. g.walks (f.walks h);
    grows = λ u. (let h = f.grows u in let k = g.grows u in omega (arith, h, k));
    stays = λ u off. (let k = g.stays u off in let h = f.stays u k.0 in (h.0, k.1 ∙ h.1));
    propagated = λ u off. (let k = g.propagated u off in let h = f.propagated u k.0 in (h.0, k.1 ∙ h.1));
    fresh = λ u on off. f.fresh u (g.fresh u on off) (g.propagated u off).0;
    within = λ h. g.within (f.within h);
    subset = λ h. g.subset (f.subset h);
  }

  -- one weight was raised to that of a walk, and its box put into both rows
  pub raised_one : (old new : List (List ℕ)) (rest more_rest risen more_risen : List ℕ) (v weight : ℕ)
      → v < box_count instance
      → IsWalk (box_count instance) (Leads (excludes s.trail) i direction) (λ u. side instance u i) v weight
      → slice_index (weights_in new direction i) v ≡ weight
      → ((u : ℕ) → (u ≡ v → ⊥)
      → slice_index (weights_in new direction i) u ≡ slice_index (weights_in old direction i) u)
      → slice_index (weights_in old direction i) v ≤ weight
      → ((u : ℕ) → row_has more_rest u ≡ row_has rest u || eqb u v)
      → ((u : ℕ) → row_has more_risen u ≡ row_has risen u || eqb u v)
      → AreRaised instance s i direction old new rest more_rest risen more_risen
  raised_one old new rest more_rest risen more_risen v weight hv walk here beside more rest_is risen_is = record {
    walks = λ h u hu. walks h u hu (cases_eq u v);
    grows = λ u. grows u (cases_eq u v);
    stays = λ u off. (let parts = or_parts _ _ (sym (risen_is u) ∙ off) in (parts.0, beside u (apart u parts.1)));
    propagated = λ u off. (let parts = or_parts _ _ (sym (rest_is u) ∙ off) in (parts.0, beside u (apart u parts.1)));
    fresh = λ u on off. fresh u (or_parts _ _ (sym (rest_is u) ∙ off)).1 (or_cases _ _ (sym (risen_is u) ∙ on));
    within = λ h u on. within h u (or_cases _ _ (sym (risen_is u) ∙ on));
    subset = λ h u on. subset h u (or_cases _ _ (sym (rest_is u) ∙ on));
  }
    where
      n : ℕ
      n = box_count instance

      apart : (u : ℕ) → eqb u v ≡ false → u ≡ v → ⊥
      apart u off e = true≢false (sym (eq-eqb u v e) ∙ off)

      walks : AreWalks n (Leads (excludes s.trail) i direction) (λ u. side instance u i) (weights_in old direction i)
          → (u : ℕ) → u < n → (u ≡ v) ⊎ (u ≡ v → ⊥)
          → IsWalk n (Leads (excludes s.trail) i direction) (λ u. side instance u i) u
          (slice_index (weights_in new direction i) u)
      walks h u hu (inl e) = subst
          (λ (z : ℕ). IsWalk n (Leads (excludes s.trail) i direction) (λ u. side instance u i) z
          (slice_index (weights_in new direction i) z)) (sym e)
          (subst (λ (k : ℕ). IsWalk n (Leads (excludes s.trail) i direction) (λ u. side instance u i) v k)
          (sym here) walk)
      walks h u hu (inr ne) = subst
          (λ (k : ℕ). IsWalk n (Leads (excludes s.trail) i direction) (λ u. side instance u i) u k)
          (sym (beside u ne)) (h u hu)

      grows : (u : ℕ) → (u ≡ v) ⊎ (u ≡ v → ⊥)
          → slice_index (weights_in old direction i) u ≤ slice_index (weights_in new direction i) u
      grows u (inl e) = rw (e, here) more
      grows u (inr ne) = let e = beside u ne in omega (arith, e)

      fresh : (u : ℕ) → eqb u v ≡ false → (row_has risen u ≡ true) ⊎ (eqb u v ≡ true) → row_has risen u ≡ true
      fresh u off (inl h) = h
      fresh u off (inr h) = absurd (true≢false (sym h ∙ off))

      within : ((u : ℕ) → row_has risen u ≡ true → u < n) → (u : ℕ)
          → (row_has risen u ≡ true) ⊎ (eqb u v ≡ true) → u < n
      within h u (inl on) = h u on
      within h u (inr on) = subst (λ (z : ℕ). z < n) (sym (eqb-true u v on)) hv

      subset : ((u : ℕ) → row_has rest u ≡ true → row_has risen u ≡ true) → (u : ℕ)
          → (row_has rest u ≡ true) ⊎ (eqb u v ≡ true) → row_has more_risen u ≡ true
      subset h u (inl on) = risen_is u ∙ or_left _ _ (h u on)
      subset h u (inr on) = risen_is u ∙ or_right _ _ on

  -- x was propagated, and is taken out of the row
  pub rising_next : (start old new : List (List ℕ)) (rest more_rest left risen more_risen : List ℕ) (x : ℕ)
      → AreRising instance s i direction start old rest risen
      → ((list : ℕ) → (list ≡ list_number direction i → ⊥) → slice_index_or new list [] ≡ slice_index_or old list [])
      → AreRaised instance s i direction old new rest more_rest risen more_risen
      → ((v : ℕ) → v < box_count instance
      → HasNoHeavierRun (Leads (excludes s.trail) i direction) (λ u. side instance u i) (weights_in new direction i) v x)
      → ((u : ℕ) → row_has left u ≡ row_has more_rest u && not (eqb u x))
      → AreRising instance s i direction start new left more_risen
  rising_next start old new rest more_rest left risen more_risen x h other f here less = record {
    walks = f.walks h.walks;
    grows = λ u. (let a = h.grows u in let b = f.grows u in omega (arith, a, b));
    stays = λ u off. (let k = f.stays u off in k.1 ∙ h.stays u k.0);
    settled = λ v y hv hy on off. settled v y hv hy on off (cases_eq y x);
    within = f.within h.within;
    subset = λ u on. f.subset h.subset u (left_part (row_has more_rest) (row_has left) x less u on);
    others = λ list ne. other list ne ∙ h.others list ne;
  }
    where
      settled : (v y : ℕ) → v < box_count instance → y < box_count instance → row_has more_risen y ≡ true
          → row_has left y ≡ false → (y ≡ x) ⊎ (y ≡ x → ⊥)
          → HasNoHeavierRun (Leads (excludes s.trail) i direction) (λ u. side instance u i)
          (weights_in new direction i) v y
      settled v y hv hy on off (inl e) = subst
          (λ (z : ℕ). HasNoHeavierRun (Leads (excludes s.trail) i direction) (λ u. side instance u i)
          (weights_in new direction i) v z) (sym e) (here v hv)
      settled v y hv hy on off (inr ne) = record {
        below = λ apart lead. (let gone = off_left (row_has more_rest) (row_has left) x less y ne off in
            let p = f.propagated y gone in
            let a = (h.settled v y hv hy (f.fresh y on gone) p.0).below apart lead in
            let b = p.1 in let d = f.grows v in omega (arith, a, b, d));
      }

  -- all that rose was propagated
  pub linked_by : (old new : List (List ℕ)) (rest risen : List ℕ) (v x weight : ℕ)
      → AreRising instance s i direction old new rest risen → ((u : ℕ) → row_has rest u ≡ false)
      → v < box_count instance → x < box_count instance
      → side instance v i + slice_index (weights_in old direction i) x ≤ weight
      → weight ≤ slice_index (weights_in new direction i) v
      → AreLinkedBy instance s i direction v x old new risen
  linked_by old new rest risen v x weight h none hv hx more enough = record {
    walks = h.walks;
    grows = h.grows;
    stays = h.stays;
    settled = λ u y hu hy on. h.settled u y hu hy on (none y);
    pair = pair (cases_Bool (row_has risen x));
    within = h.within;
  }
    where
      pair : (row_has risen x ≡ true) ⊎ (row_has risen x ≡ false)
          → HasNoHeavierRun (Leads (excludes s.trail) i direction) (λ u. side instance u i)
          (weights_in new direction i) v x
      pair (inl on) = h.settled v x hv hx on (none x)
      pair (inr off) = record { below = λ apart lead. (let e = h.stays x off in omega (arith, e, more, enough)) }

  -- what weights are linked to depends on those of their own direction and dimension alone
  pub linked_same : (old new old_also new_also : List (List ℕ)) (risen : List ℕ) (v x : ℕ)
      → weights_in old_also direction i ≡ weights_in old direction i
      → weights_in new_also direction i ≡ weights_in new direction i
      → AreLinkedBy instance s i direction v x old new risen
      → AreLinkedBy instance s i direction v x old_also new_also risen
  linked_same old new old_also new_also risen v x e f h = record {
    walks = subst (λ (ks : List ℕ). AreWalks (box_count instance) (Leads (excludes s.trail) i direction)
        (λ u. side instance u i) ks) (sym f) h.walks;
    grows = λ u. rw (e, f) (h.grows u);
    stays = λ u off. rw (e, f) (h.stays u off);
    settled = λ u y hu hy on. subst (λ (ks : List ℕ). HasNoHeavierRun (Leads (excludes s.trail) i direction)
        (λ u. side instance u i) ks u y) (sym f) (h.settled u y hu hy on);
    pair = subst (λ (ks : List ℕ). HasNoHeavierRun (Leads (excludes s.trail) i direction)
        (λ u. side instance u i) ks v x) (sym f) h.pair;
    within = h.within;
  }

-- one raise more lets all boxes be in the row again
pub raise_fewer : (words before after : ℕ) (rest more_rest : List ℕ) → after ≡ before + 1 → after ≤ 4096
    → raises_left words after more_rest ≤ raises_left words before rest
raise_fewer words before after rest more_rest e most = go (4096 - before) (4096 - after) (omega (arith, e, most))
  where
    m : ℕ
    m = 64 * words

    few : members_below (row_has more_rest) m ≤ m
    few = members_few (row_has more_rest) m

    go : (a b : ℕ) → a ≡ b + 1 → b * (m + 1) + members_below (row_has more_rest) m
        ≤ a * (m + 1) + members_below (row_has rest) m
    go a b h =
        let k : a * (m + 1) ≡ b * (m + 1) + (m + 1) = rw h (grind arith) in
        omega (arith, k, few)

-- a box that is taken out of the row makes it fewer
pub taken_fewer : (words before after : ℕ) (rest more_rest left : List ℕ) (x : ℕ)
    → raises_left words after more_rest ≤ raises_left words before rest
    → ((u : ℕ) → row_has left u ≡ row_has more_rest u && not (eqb u x)) → row_has more_rest x ≡ true → x < 64 * words
    → raises_left words after left < raises_left words before rest
taken_fewer words before after rest more_rest left x h less there small =
    let k = members_fewer (row_has more_rest) (row_has left) x (64 * words) less there small in
    omega (arith, h, k)

-- a box that wasn't propagated before the raises isn't after them
pub still_there : (instance : PlainInstance) (s : PlainEdges) (i : ℕ) (direction : Direction)
    (old new : List (List ℕ)) (rest more_rest risen more_risen : List ℕ) (x : ℕ)
    → AreRaised instance s i direction old new rest more_rest risen more_risen → row_has rest x ≡ true
    → row_has more_rest x ≡ true
still_there instance s i direction old new rest more_rest risen more_risen x f on = go (cases_Bool (row_has more_rest x))
  where
    go : (row_has more_rest x ≡ true) ⊎ (row_has more_rest x ≡ false) → row_has more_rest x ≡ true
    go (inl h) = h
    go (inr h) = absurd (true≢false (sym on ∙ (f.propagated x h).0))

-- one box more is settled with x, beside those that were
pub led_next : (n : ℕ) (R : ℕ → ℕ → Type 0) (w : ℕ → ℕ) (old new : List ℕ) (v x : ℕ) (before left : ℕ → Bool)
    → ((u : ℕ) → left u ≡ before u && not (eqb u v)) → (v ≡ x → ⊥)
    → ((u : ℕ) → (u ≡ v → ⊥) → slice_index new u ≡ slice_index old u)
    → ((u : ℕ) → u < n → before u ≡ false → HasNoHeavierRun R w old u x)
    → w v + slice_index old x ≤ slice_index new v
    → (u : ℕ) → u < n → left u ≡ false → HasNoHeavierRun R w new u x
led_next n R w old new v x before left less apart beside settled here u hu off = go (cases_eq u v)
  where
    same : slice_index new x ≡ slice_index old x
    same = beside x (λ e. apart (sym e))

    go : (u ≡ v) ⊎ (u ≢ v) → HasNoHeavierRun R w new u x
    go (inl e) = subst (λ (z : ℕ). HasNoHeavierRun R w new z x) (sym e)
        (record { below = λ d lead. omega (arith, here, same) })
    go (inr ne) = record {
      below = λ d lead. (let h = (settled u hu (off_left before left v less u ne off)).below d lead in
          let e = beside u ne in omega (arith, h, e, same));
    }

-- a box that leads on to another one, and a walk from there
pub walk_by : (n : ℕ) (R : ℕ → ℕ → Type 0) (w : ℕ → ℕ) (v x k weight : ℕ) → v < n → (v ≡ x → ⊥) → R v x
    → IsWalk n R w x k → weight ≡ w v + k → IsWalk n R w v weight
walk_by n R w v x k weight hv apart lead walk e =
    subst (λ (m : ℕ). IsWalk n R w v m) (sym e) (further v x k hv apart lead walk)

pub least_trans : (a b c : ℕ) → a ≤ b → b ≤ c → a ≤ c
least_trans a b c e f = omega (arith, e, f)
