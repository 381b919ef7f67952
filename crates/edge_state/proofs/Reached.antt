-- Instances that add the same, and what is settled after one exclusion more.
use Rattle.std.proofs.Common.{◌≡◌, ◌≢◌, ℕ, ◌⊎◌, inl, inr, refl, sym, ap, subst, ◌∙◌, arith, Bool, true, false, List}
use Rattle.std.proofs.Common.{[], ◌∷◌}
use Rattle.packing_terms.specs.declared.Rel.{Rel}
use Rattle.packing_terms.specs.declared.Rel.TheVariants.{Overlap, Before, After}
use Rattle.packing_terms.specs.declared.Exclusion.{Exclusion}
use Rattle.packing_terms.specs.Packing.{PlainInstance}
use Rattle.packing_terms.specs.Relations.{allows, mirror}
use Rattle.packing_terms.specs.Exclusions.{Exclusions, excludes, IsJoined, IsEdge}
use Rattle.packing_terms.specs.Rules.{Rule, Pair, Apart, Triple, Chain, Compose, Cycle, Order, AreBoxesAmong, Concludes}
use Rattle.packing_terms.specs.Closure.{IsSubset}
use Rattle.packing_terms.specs.Applied.{Adds, added, mirror_added}
use Rattle.packing_terms.proofs.Sets.{excludes_symmetric, mirror_twice}
use Rattle.packing_terms.proofs.Monotone.{open_less}
use Rattle.packing_terms.specs.Places.{HasNoEmptyMask}
use Rattle.packing_terms.proofs.Steps.{open_mirrored}
use Rattle.edge_state.specs.Work.{IsLocal, ReadsEdge, IsAppliedAt, IsDueAt, IsDue, IsCovered, IsNeeded, IsUpToDate}
use Rattle.edge_state.specs.Work.{IsPropagated}
use Rattle.edge_state.proofs.Touched.{IsTouched, IsAt, decide_at, touched_or_old, adds_more, still_open}

not_overlap : (r : Rel) → r ≢ Overlap → mirror r ≢ Overlap
not_overlap r other = λ e. other (sym (mirror_twice r) ∙ ap mirror e)

allows_turned : (q s r : Rel) → allows (mirror s) (mirror q) r ≡ allows q s (mirror r)
allows_turned Overlap Overlap Overlap = refl
allows_turned Overlap Overlap Before = refl
allows_turned Overlap Overlap After = refl
allows_turned Overlap Before Overlap = refl
allows_turned Overlap Before Before = refl
allows_turned Overlap Before After = refl
allows_turned Overlap After Overlap = refl
allows_turned Overlap After Before = refl
allows_turned Overlap After After = refl
allows_turned Before Overlap Overlap = refl
allows_turned Before Overlap Before = refl
allows_turned Before Overlap After = refl
allows_turned Before Before Overlap = refl
allows_turned Before Before Before = refl
allows_turned Before Before After = refl
allows_turned Before After Overlap = refl
allows_turned Before After Before = refl
allows_turned Before After After = refl
allows_turned After Overlap Overlap = refl
allows_turned After Overlap Before = refl
allows_turned After Overlap After = refl
allows_turned After Before Overlap = refl
allows_turned After Before Before = refl
allows_turned After Before After = refl
allows_turned After After Overlap = refl
allows_turned After After Before = refl
allows_turned After After After = refl

three_turned : (n u v x : ℕ) → AreBoxesAmong n (u ∷ v ∷ x ∷ []) → AreBoxesAmong n (v ∷ u ∷ x ∷ [])
three_turned n u v x h = (h.2.0, ((λ e. h.1.0 (sym e)), (h.2.1.0, tt)), (h.0, (h.1.1.0, tt), (h.2.2.0, tt, tt)))

three_back : (n u v x : ℕ) → AreBoxesAmong n (u ∷ v ∷ x ∷ []) → AreBoxesAmong n (x ∷ v ∷ u ∷ [])
three_back n u v x h = (
  h.2.2.0,
  ((λ e. h.2.1.0 (sym e)), ((λ e. h.1.1.0 (sym e)), tt)),
  (h.2.0, ((λ e. h.1.0 (sym e)), tt), (h.0, tt, tt)),
)

four_ac : (n a b c d : ℕ) → AreBoxesAmong n (a ∷ b ∷ c ∷ d ∷ []) → AreBoxesAmong n (c ∷ b ∷ a ∷ d ∷ [])
four_ac n a b c d h = (
  h.2.2.0,
  ((λ e. h.2.1.0 (sym e)), ((λ e. h.1.1.0 (sym e)), (h.2.2.1.0, tt))),
  (h.2.0, ((λ e. h.1.0 (sym e)), (h.2.1.1.0, tt)), (h.0, (h.1.1.1.0, tt), (h.2.2.2.0, tt, tt))),
)

four_bd : (n a b c d : ℕ) → AreBoxesAmong n (a ∷ b ∷ c ∷ d ∷ []) → AreBoxesAmong n (a ∷ d ∷ c ∷ b ∷ [])
four_bd n a b c d h = (
  h.0,
  (h.1.1.1.0, (h.1.1.0, (h.1.0, tt))),
  (
    h.2.2.2.0,
    ((λ e. h.2.2.1.0 (sym e)), ((λ e. h.2.1.1.0 (sym e)), tt)),
    (h.2.2.0, ((λ e. h.2.1.0 (sym e)), tt), (h.2.0, tt, tt)),
  ),
)

two_turned : (n u v : ℕ) → AreBoxesAmong n (u ∷ v ∷ []) → AreBoxesAmong n (v ∷ u ∷ [])
two_turned n u v h = (h.2.0, ((λ e. h.1.0 (sym e)), tt), (h.0, tt, tt))

-- PAIR adds the same with its two boxes swapped
pub pair_turned : (instance : PlainInstance) (X : Exclusions) (i u v j a b : ℕ) (r : Rel)
    → Adds instance X (Pair i u v) j a b r → Adds instance X (Pair i v u) j a b r
pair_turned instance X i u v _ _ _ _ (added r is p c) =
    subst (λ (s : Rel). Adds instance X (Pair i v u) i u v s) (mirror_twice r)
    (mirror_added (mirror r) (is.0, two_turned _ u v is.1) (omega (arith, p)) (not_overlap r c))
pair_turned instance X i u v _ _ _ _ (mirror_added r is p c) =
    added (mirror r) (is.0, two_turned _ u v is.1) (omega (arith, p)) (not_overlap r c)

module _ (instance : PlainInstance) (es : List Exclusion) where
  joined_turned : (i a b : ℕ) → IsJoined (excludes es) i a b → IsJoined (excludes es) i b a
  joined_turned i a b h = (excludes_symmetric es i a b After h.1, excludes_symmetric es i a b Before h.0)

  -- TRIPLE adds the same with its first two boxes swapped
  triple_turned : (i u v x j a b : ℕ) (r : Rel) → Adds instance (excludes es) (Triple i u v x) j a b r
      → Adds instance (excludes es) (Triple i v u x) j a b r
  triple_turned i u v x _ _ _ _ (added r is p c) =
      subst (λ (s : Rel). Adds instance (excludes es) (Triple i v u x) i u v s) (mirror_twice r)
      (mirror_added (mirror r) (is.0, three_turned _ u v x is.1) (p.1, p.0, omega (arith, p.2)) (not_overlap r c))
  triple_turned i u v x _ _ _ _ (mirror_added r is p c) =
      added (mirror r) (is.0, three_turned _ u v x is.1) (p.1, p.0, omega (arith, p.2)) (not_overlap r c)

  compose_concludes : (i u v x : ℕ) (r : Rel) → Concludes (excludes es) (Compose i u v x) r
      → Concludes (excludes es) (Compose i x v u) (mirror r)
  compose_concludes i u v x r c q s f g =
      sym (allows_turned q s r) ∙ c (mirror s) (mirror q) (open_mirrored es i v u s g) (open_mirrored es i x v q f)

  -- COMPOSE adds the same read backwards
  compose_turned : (i u v x j a b : ℕ) (r : Rel) → Adds instance (excludes es) (Compose i u v x) j a b r
      → Adds instance (excludes es) (Compose i x v u) j a b r
  compose_turned i u v x _ _ _ _ (added r is p c) =
      subst (λ (s : Rel). Adds instance (excludes es) (Compose i x v u) i u x s) (mirror_twice r)
      (mirror_added (mirror r) (is.0, three_back _ u v x is.1) tt (compose_concludes i u v x r c))
  compose_turned i u v x _ _ _ _ (mirror_added r is p c) =
      added (mirror r) (is.0, three_back _ u v x is.1) tt (compose_concludes i u v x r c)

  -- CYCLE adds the same with its first and third boxes swapped
  cycle_ac : (i a b c d j p q : ℕ) (r : Rel) → Adds instance (excludes es) (Cycle i a b c d) j p q r
      → Adds instance (excludes es) (Cycle i c b a d) j p q r
  cycle_ac i a b c d _ _ _ _ (added r is p k) = added r (is.0, four_ac _ a b c d is.1) (
    joined_turned i b c p.1,
    joined_turned i a b p.0,
    joined_turned i d a p.3,
    joined_turned i c d p.2,
    excludes_symmetric es i a c Overlap p.4,
  ) k
  cycle_ac i a b c d _ _ _ _ (mirror_added r is p k) = mirror_added r (is.0, four_ac _ a b c d is.1) (
    joined_turned i b c p.1,
    joined_turned i a b p.0,
    joined_turned i d a p.3,
    joined_turned i c d p.2,
    excludes_symmetric es i a c Overlap p.4,
  ) k

  -- and with its second and fourth
  cycle_bd : (i a b c d j p q : ℕ) (r : Rel) → Adds instance (excludes es) (Cycle i a b c d) j p q r
      → Adds instance (excludes es) (Cycle i a d c b) j p q r
  cycle_bd i a b c d _ _ _ _ (added r is p k) =
      subst (λ (s : Rel). Adds instance (excludes es) (Cycle i a d c b) i b d s) (mirror_twice r)
      (mirror_added (mirror r) (is.0, four_bd _ a b c d is.1)
      (joined_turned i d a p.3, joined_turned i c d p.2, joined_turned i b c p.1, joined_turned i a b p.0, p.4)
      (not_overlap r k))
  cycle_bd i a b c d _ _ _ _ (mirror_added r is p k) =
      added (mirror r) (is.0, four_bd _ a b c d is.1)
      (joined_turned i d a p.3, joined_turned i c d p.2, joined_turned i b c p.1, joined_turned i a b p.0, p.4)
      (not_overlap r k)

  -- an instance that is due for the edge and adds no less
  abbrev pub HasReached : (fresh : Rel → Bool) → ℕ → ℕ → ℕ → Rule → Type 0
  HasReached fresh j p q rule = (other : Rule) × IsDue fresh j p q other
      × ((k a b : ℕ) (r : Rel) → Adds instance (excludes es) rule k a b r → Adds instance (excludes es) other k a b r)
      × ((X : Exclusions) (r : Rel) → IsNeeded X rule r → IsNeeded X other r)

  pub reached : (fresh : Rel → Bool) (j p q : ℕ) (rule : Rule) → ReadsEdge fresh rule j p q
      → HasReached fresh j p q rule
  reached fresh j p q (Pair i u v) h = absurd h
  reached fresh j p q (Chain i before u v after) h = absurd h
  reached fresh j p q (Apart i u v) h = (Apart i u v, inl h, (λ k a b r x. x), λ X r n. tt)
  reached fresh j p q (Triple i u v x) ((d, inl h), new) = (Triple i u v x, inl ((d, h.0, h.1), new), (λ k a b r y. y), λ X r n. tt)
  reached fresh j p q (Triple i u v x) ((d, inr h), new) =
      (Triple i v u x, inl ((d, h.0, h.1), new), triple_turned i u v x, λ X r n. tt)
  reached fresh j p q (Compose i u v x) (d, inl h) = (Compose i u v x, inl (d, h.0, h.1), (λ k a b r y. y), λ X r n. tt)
  reached fresh j p q (Compose i u v x) (d, inr h) = (Compose i x v u, inr (d, h.1, h.0), compose_turned i u v x, λ X r n. tt)
  reached fresh j p q (Cycle i a b c d) (e, inl h) = (Cycle i a b c d, inl (e, inl h), (λ k x y r z. z), λ X r n. tt)
  reached fresh j p q (Cycle i a b c d) (e, inr (inl h)) =
      (Cycle i c b a d, inr (e, inl (h.1, h.0)), cycle_ac i a b c d, λ X r n. tt)
  reached fresh j p q (Cycle i a b c d) (e, inr (inr (inl h))) = (
    Cycle i c d a b,
    inl (e, inl h),
    (λ k x y r z. cycle_bd i c b a d k x y r (cycle_ac i a b c d k x y r z)),
    λ X r n. tt,
  )
  reached fresh j p q (Cycle i a b c d) (e, inr (inr (inr (inl h)))) =
      (Cycle i a d c b, inr (e, inl (h.1, h.0)), cycle_bd i a b c d, λ X r n. tt)
  reached fresh j p q (Cycle i a b c d) (e, inr (inr (inr (inr h)))) = (Cycle i a b c d, inl (e, inr h), (λ k x y r z. z), λ X r n. tt)
  reached fresh j p q (Order i a b c d) h = (Order i a b c d, inl h, (λ k x y r z. z), λ X r n. n)

-- an instance that is due among some relations is so among others that are the same
due_same : (f g : Rel → Bool) → ((r : Rel) → f r ≡ true → g r ≡ true) → (j p q : ℕ) (rule : Rule)
    → IsDueAt f j p q rule → IsDueAt g j p q rule
due_same f g same j p q (Pair i u v) h = h
due_same f g same j p q (Chain i before u v after) h = h
due_same f g same j p q (Apart i u v) h = h
due_same f g same j p q (Triple i u v x) (h, new) = (h, same Overlap new)
due_same f g same j p q (Compose i u v x) h = h
due_same f g same j p q (Cycle i a b c d) (e, inl h) = (e, inl h)
due_same f g same j p q (Cycle i a b c d) (e, inr (h, new)) = (e, inr (h, same Overlap new))
due_same f g same j p q (Order i a b c d) (e, inl h) = (e, inl h)
due_same f g same j p q (Order i a b c d) (e, inr (inl h)) = (e, inr (inl h))
due_same f g same j p q (Order i a b c d) (e, inr (inr (h, new))) = (e, inr (inr (h, same Before new)))

-- turned round twice, they are the same
due_swapped : (fresh : Rel → Bool) (j p q : ℕ) (rule : Rule) → IsDue (λ r. fresh (mirror r)) j q p rule
    → IsDue fresh j p q rule
due_swapped fresh j p q rule (inl h) = inr h
due_swapped fresh j p q rule (inr h) =
    inl (due_same (λ r. fresh (mirror (mirror r))) fresh
    (λ r k. subst (λ (s : Rel). fresh s ≡ true) (mirror_twice r) k) j p q rule h)

due_applied : (fresh : Rel → Bool) (j p q : ℕ) (rule : Rule) → IsDueAt fresh j p q rule → IsAppliedAt j p q rule
due_applied fresh j p q (Pair i u v) h = h
due_applied fresh j p q (Chain i before u v after) h = h
due_applied fresh j p q (Apart i u v) h = h
due_applied fresh j p q (Triple i u v x) h = h.0
due_applied fresh j p q (Compose i u v x) h = h
due_applied fresh j p q (Cycle i a b c d) (e, inl h) = (e, inl h)
due_applied fresh j p q (Cycle i a b c d) (e, inr h) = (e, inr h.0)
due_applied fresh j p q (Order i a b c d) (e, inl h) = (e, inl h)
due_applied fresh j p q (Order i a b c d) (e, inr (inl h)) = (e, inr (inl h))
due_applied fresh j p q (Order i a b c d) (e, inr (inr h)) = (e, inr (inr h.0))

-- The step of the worklist: where all instances that are due for the edge of the oldest exclusion that
-- wasn't propagated yet cover what they add, and each instance what it adds by the older ones,
-- each covers what it adds with that exclusion. Its relation is among the fresh ones. An instance
-- that asks there for another relation alone adds no more than before.
covered_due : (instance : PlainInstance) (fresh : Rel → Bool) (e : Exclusion) (seen old new : List Exclusion)
    → fresh e.rel ≡ true → IsSubset (excludes (e ∷ seen)) (excludes old)
    → ((rule : Rule) → IsLocal rule → IsCovered instance (excludes seen) new rule)
    → ((rule : Rule) → IsDue fresh e.dim e.u e.v rule → IsCovered instance (excludes old) new rule)
    → (rule : Rule) → IsLocal rule → IsCovered instance (excludes (e ∷ seen)) new rule
covered_due instance fresh e seen old new first within settled done rule local = record {
  holds = λ i u v r add need. go rule local i u v r add need
      (touched_or_old instance fresh e seen rule first local);
}
  where
    by_reached : (rule : Rule) (other : Rule) → IsCovered instance (excludes old) new other
        → ((j p q : ℕ) (s : Rel) → Adds instance (excludes (e ∷ seen)) rule j p q s
        → Adds instance (excludes (e ∷ seen)) other j p q s)
        → ((X : Exclusions) (s : Rel) → IsNeeded X rule s → IsNeeded X other s)
        → (i u v : ℕ) (r : Rel) → Adds instance (excludes (e ∷ seen)) rule i u v r → IsNeeded (excludes new) rule r
        → excludes new i u v r ≡ true
    by_reached rule other covers less needs i u v r add need =
        covers.holds i u v r
        (adds_more instance (excludes (e ∷ seen)) (excludes old) within other i u v r (less i u v r add))
        (needs (excludes new) r need)

    go : (rule : Rule) → IsLocal rule → (i u v : ℕ) (r : Rel) → Adds instance (excludes (e ∷ seen)) rule i u v r
        → IsNeeded (excludes new) rule r
        → IsTouched fresh e rule ⊎ ((j a b : ℕ) (s : Rel) → Adds instance (excludes (e ∷ seen)) rule j a b s
        → Adds instance (excludes seen) rule j a b s)
        → excludes new i u v r ≡ true
    go rule local i u v r add need (inr less) = (settled rule local).holds i u v r (less i u v r add) need
    go rule local i u v r add need (inl (inl t)) =
        let h = reached instance (e ∷ seen) fresh e.dim e.u e.v rule t in
        by_reached rule h.0 (done h.0 h.1) h.2 h.3 i u v r add need
    go rule local i u v r add need (inl (inr t)) =
        let h = reached instance (e ∷ seen) (λ s. fresh (mirror s)) e.dim e.v e.u rule t in
        by_reached rule h.0 (done h.0 (due_swapped fresh e.dim e.u e.v h.0 h.1)) h.2 h.3 i u v r add need

-- no mask is empty by the propagated exclusions, since that of the edge isn't
full_next : (instance : PlainInstance) (e : Exclusion) (seen old : List Exclusion)
    → IsSubset (excludes (e ∷ seen)) (excludes old) → HasNoEmptyMask instance (excludes seen)
    → ((r : Rel) × (excludes old e.dim e.u e.v r ≡ false)) → HasNoEmptyMask instance (excludes (e ∷ seen))
full_next instance e seen old within full left = λ i u v edge. still i u v edge (decide_at e i u v)
  where
    still : (i u v : ℕ) → IsEdge instance i u v → IsAt e i u v ⊎ (IsAt e i u v → ⊥)
        → (r : Rel) × (excludes (e ∷ seen) i u v r ≡ false)
    still i u v edge (inr off) = let k = full i u v edge in (k.0, still_open e seen i u v k.0 off k.1)
    still i u v edge (inl (d, inl h)) = (
      left.0,
      open_less (excludes (e ∷ seen)) (excludes old) within i u v left.0
          (subst (λ (j : ℕ). excludes old j u v left.0 ≡ false) d
          (subst (λ (a : ℕ). excludes old e.dim a v left.0 ≡ false) h.0
          (subst (λ (b : ℕ). excludes old e.dim e.u b left.0 ≡ false) h.1 left.1))),
    )
    still i u v edge (inl (d, inr h)) = (
      mirror left.0,
      open_less (excludes (e ∷ seen)) (excludes old) within i u v (mirror left.0)
          (subst (λ (j : ℕ). excludes old j u v (mirror left.0) ≡ false) d
          (subst (λ (a : ℕ). excludes old e.dim a v (mirror left.0) ≡ false) h.1
          (subst (λ (b : ℕ). excludes old e.dim e.v b (mirror left.0) ≡ false) h.0
          (open_mirrored old e.dim e.u e.v left.0 left.1)))),
    )

-- The step of the worklist's invariant.
pub settled_due : (instance : PlainInstance) (fresh : Rel → Bool) (e : Exclusion) (seen old new : List Exclusion)
    → fresh e.rel ≡ true → IsSubset (excludes (e ∷ seen)) (excludes old)
    → IsPropagated instance seen new → ((r : Rel) × (excludes old e.dim e.u e.v r ≡ false))
    → (HasNoEmptyMask instance (excludes new) → (rule : Rule) → IsDue fresh e.dim e.u e.v rule
    → IsCovered instance (excludes old) new rule)
    → IsPropagated instance (e ∷ seen) new
settled_due instance fresh e seen old new first within settled left done = record {
  covered = λ none. covered_due instance fresh e seen old new first within (settled.covered none) (done none);
  full = full_next instance e seen old within settled.full left;
}

-- The same where masks may be empty: all instances that are applied for the edge cover what they add.
pub settled_next : (instance : PlainInstance) (e : Exclusion) (seen old new : List Exclusion)
    → IsSubset (excludes (e ∷ seen)) (excludes old)
    → IsUpToDate instance seen new → ((r : Rel) × (excludes old e.dim e.u e.v r ≡ false))
    → ((rule : Rule) → IsAppliedAt e.dim e.u e.v rule ⊎ IsAppliedAt e.dim e.v e.u rule
    → IsCovered instance (excludes old) new rule)
    → IsUpToDate instance (e ∷ seen) new
settled_next instance e seen old new within settled left done = record {
  covered = covered_due instance (λ r. true) e seen old new refl within settled.covered (λ rule h. go rule h);
  full = full_next instance e seen old within settled.full left;
}
  where
    go : (rule : Rule) → IsDue (λ r. true) e.dim e.u e.v rule → IsCovered instance (excludes old) new rule
    go rule (inl h) = done rule (inl (due_applied (λ r. true) e.dim e.u e.v rule h))
    go rule (inr h) = done rule (inr (due_applied (λ r. true) e.dim e.v e.u rule h))
