-- What one exclusion more lets the rules add: it comes from instances that read the edge of that exclusion.
use Rattle.std.proofs.Common.{◌≡◌, ◌≢◌, ℕ, ◌⊎◌, inl, inr, sym, subst, ◌∙◌, Bool, true, false, List, ◌∷◌, IsTrue}
use Rattle.std.proofs.lemmas.Bool.{true≢false, cases_Bool, cases_eq, or_cases, and_parts, eqb-true}
use Rattle.packing_terms.specs.declared.Rel.{Rel}
use Rattle.packing_terms.specs.declared.Rel.TheVariants.{Overlap, Before, After}
use Rattle.packing_terms.specs.declared.Exclusion.{Exclusion}
use Rattle.packing_terms.specs.Packing.{PlainInstance}
use Rattle.packing_terms.specs.Relations.{mirror}
use Rattle.packing_terms.specs.Exclusions.{Exclusions, excludes, is_of, is_at}
use Rattle.packing_terms.specs.Rules.{Rule, Pair, Apart, Triple, Chain, Compose, Cycle, Order, Premises, Concludes}
use Rattle.packing_terms.specs.Closure.{IsSubset}
use Rattle.packing_terms.proofs.Sets.{same_rel}
use Rattle.packing_terms.proofs.Monotone.{premises_more, concludes_more}
use Rattle.packing_terms.specs.Applied.{Adds, added, mirror_added}
use Rattle.edge_state.specs.Work.{IsLocal, ReadsEdge}

-- the instance reads the edge of the exclusion, in one order or the other
abbrev pub IsTouched : (fresh : Rel → Bool) → Exclusion → Rule → Type 0
IsTouched fresh e rule =
    ReadsEdge fresh rule e.dim e.u e.v ⊎ ReadsEdge (λ r. fresh (mirror r)) rule e.dim e.v e.u

-- the edge is that of the exclusion
abbrev pub IsAt : Exclusion → ℕ → ℕ → ℕ → Type 0
IsAt e i a b = (e.dim ≡ i) × (((e.u ≡ a) × (e.v ≡ b)) ⊎ ((e.u ≡ b) × (e.v ≡ a)))

decide_pair : (p q a b : ℕ) → ((p ≡ a) × (q ≡ b)) ⊎ ((p ≡ a) × (q ≡ b) → ⊥)
decide_pair p q a b = go (cases_eq p a) (cases_eq q b)
  where
    go : (p ≡ a) ⊎ (p ≡ a → ⊥) → (q ≡ b) ⊎ (q ≡ b → ⊥) → ((p ≡ a) × (q ≡ b)) ⊎ ((p ≡ a) × (q ≡ b) → ⊥)
    go (inl f) (inl g) = inl (f, g)
    go (inr n) _ = inr (λ h. n h.0)
    go (inl f) (inr n) = inr (λ h. n h.1)

pub decide_at : (e : Exclusion) (i a b : ℕ) → IsAt e i a b ⊎ (IsAt e i a b → ⊥)
decide_at e i a b = go (cases_eq e.dim i) (decide_pair e.u e.v a b) (decide_pair e.u e.v b a)
  where
    neither : (((e.u ≡ a) × (e.v ≡ b)) → ⊥) → (((e.u ≡ b) × (e.v ≡ a)) → ⊥) → ((e.u ≡ a) × (e.v ≡ b))
        ⊎ ((e.u ≡ b) × (e.v ≡ a)) → ⊥
    neither n m (inl h) = n h
    neither n m (inr h) = m h

    go : (e.dim ≡ i) ⊎ (e.dim ≡ i → ⊥) → ((e.u ≡ a) × (e.v ≡ b)) ⊎ ((e.u ≡ a) × (e.v ≡ b) → ⊥)
        → ((e.u ≡ b) × (e.v ≡ a)) ⊎ ((e.u ≡ b) × (e.v ≡ a) → ⊥) → IsAt e i a b ⊎ (IsAt e i a b → ⊥)
    go (inr n) _ _ = inr (λ h. n h.0)
    go (inl d) (inl h) _ = inl (d, inl h)
    go (inl d) (inr n) (inl h) = inl (d, inr h)
    go (inl d) (inr n) (inr m) = inr (λ h. neither n m h.1)

-- an instance that reads the edge of the exclusion is touched by it
touched_at : (fresh : Rel → Bool) (e : Exclusion) (rule : Rule) (i a b : ℕ)
    → ((f : Rel → Bool) (j p q : ℕ) → i ≡ j → a ≡ p → b ≡ q → ReadsEdge f rule j p q)
    → IsAt e i a b → IsTouched fresh e rule
touched_at fresh e rule i a b reads at = go at.1
  where
    go : ((e.u ≡ a) × (e.v ≡ b)) ⊎ ((e.u ≡ b) × (e.v ≡ a)) → IsTouched fresh e rule
    go (inl h) = inl (reads fresh e.dim e.u e.v (sym at.0) (sym h.0) (sym h.1))
    go (inr h) = inr (reads (λ r. fresh (mirror r)) e.dim e.v e.u (sym at.0) (sym h.1) (sym h.0))

-- so is one that asks there that the relation of the exclusion is excluded
touched_of : (fresh : Rel → Bool) (e : Exclusion) (rule : Rule) (i a b : ℕ) (r : Rel) → fresh e.rel ≡ true
    → ((f : Rel → Bool) (j p q : ℕ) → i ≡ j → a ≡ p → b ≡ q → f r ≡ true → ReadsEdge f rule j p q)
    → is_of e i a b r ≡ true → IsTouched fresh e rule
touched_of fresh e rule i a b r new reads of = go (or_cases _ _ of)
  where
    go : (is_at e i a b r ≡ true) ⊎ (is_at e i b a (mirror r) ≡ true) → IsTouched fresh e rule
    go (inl k) =
        let k1 = and_parts _ _ k in
        let k2 = and_parts _ _ k1.0 in
        let k3 = and_parts _ _ k2.0 in
        inl (reads fresh e.dim e.u e.v (sym (eqb-true _ _ k3.0)) (sym (eqb-true _ _ k3.1)) (sym (eqb-true _ _ k2.1))
        (subst (λ (s : Rel). fresh s ≡ true) (same_rel _ _ k1.1) new))
    go (inr k) =
        let k1 = and_parts _ _ k in
        let k2 = and_parts _ _ k1.0 in
        let k3 = and_parts _ _ k2.0 in
        inr (reads (λ s. fresh (mirror s)) e.dim e.v e.u (sym (eqb-true _ _ k3.0)) (sym (eqb-true _ _ k2.1))
        (sym (eqb-true _ _ k3.1))
        (subst (λ (s : Rel). fresh s ≡ true) (same_rel _ _ k1.1) new))

-- a relation that the exclusion isn't of was excluded before
old_of : (e : Exclusion) (es : List Exclusion) (i a b : ℕ) (r : Rel) → is_of e i a b r ≡ false
    → IsTrue (excludes (e ∷ es) i a b r) → IsTrue (excludes es i a b r)
old_of e es i a b r off h = go (or_cases _ _ h)
  where
    go : (is_of e i a b r ≡ true) ⊎ (excludes es i a b r ≡ true) → excludes es i a b r ≡ true
    go (inl k) = absurd (true≢false (sym k ∙ off))
    go (inr k) = k

-- at another edge the longer list excludes no more
pub only_old : (e : Exclusion) (es : List Exclusion) (i a b : ℕ) (r : Rel) → (IsAt e i a b → ⊥)
    → IsTrue (excludes (e ∷ es) i a b r) → IsTrue (excludes es i a b r)
only_old e es i a b r off h = go (or_cases _ _ h)
  where
    at : (is_at e i a b r ≡ true) ⊎ (is_at e i b a (mirror r) ≡ true) → IsAt e i a b
    at (inl k) =
        let k1 = and_parts _ _ k in
        let k2 = and_parts _ _ k1.0 in
        let k3 = and_parts _ _ k2.0 in
        (eqb-true _ _ k3.0, inl (eqb-true _ _ k3.1, eqb-true _ _ k2.1))
    at (inr k) =
        let k1 = and_parts _ _ k in
        let k2 = and_parts _ _ k1.0 in
        let k3 = and_parts _ _ k2.0 in
        (eqb-true _ _ k3.0, inr (eqb-true _ _ k3.1, eqb-true _ _ k2.1))

    go : (is_of e i a b r ≡ true) ⊎ (excludes es i a b r ≡ true) → excludes es i a b r ≡ true
    go (inl k) = absurd (off (at (or_cases _ _ k)))
    go (inr k) = k

-- what the longer list leaves, the shorter leaves
pub still_open : (e : Exclusion) (es : List Exclusion) (i a b : ℕ) (r : Rel) → (IsAt e i a b → ⊥)
    → excludes es i a b r ≡ false → excludes (e ∷ es) i a b r ≡ false
still_open e es i a b r off h = go (cases_Bool (excludes (e ∷ es) i a b r))
  where
    go : (excludes (e ∷ es) i a b r ≡ true) ⊎ (excludes (e ∷ es) i a b r ≡ false) → excludes (e ∷ es) i a b r ≡ false
    go (inl k) = absurd (true≢false (sym (only_old e es i a b r off k) ∙ h))
    go (inr k) = k

pub old_adds : (instance : PlainInstance) (X Y : Exclusions) (rule : Rule)
    → (Premises instance X rule → Premises instance Y rule)
    → ((r : Rel) → Concludes X rule r → Concludes Y rule r) → (j a b : ℕ) (r : Rel) → Adds instance X rule j a b r
    → Adds instance Y rule j a b r
old_adds instance X Y rule p k _ _ _ _ (added r is pr c) = added r is (p pr) (k r c)
old_adds instance X Y rule p k _ _ _ _ (mirror_added r is pr c) = mirror_added r is (p pr) (k r c)

-- The instance is touched by the exclusion, or it adds no more by it.
pub touched_or_old : (instance : PlainInstance) (fresh : Rel → Bool) (e : Exclusion) (es : List Exclusion)
    (rule : Rule) → fresh e.rel ≡ true → IsLocal rule
    → IsTouched fresh e rule ⊎ ((j a b : ℕ) (r : Rel) → Adds instance (excludes (e ∷ es)) rule j a b r
    → Adds instance (excludes es) rule j a b r)
touched_or_old instance fresh e es (Chain i before u v after) new l = absurd l
touched_or_old instance fresh e es (Pair i u v) new l =
    inr (old_adds instance (excludes (e ∷ es)) (excludes es) (Pair i u v) (λ p. p) (λ r c. c))
touched_or_old instance fresh e es (Apart i u v) new l =
    go (cases_eq e.dim i) (decide_pair e.u e.v u v) (decide_pair e.u e.v v u)
  where
    untouched : ((j : ℕ) → j ≢ i → IsAt e j u v → ⊥)
        → IsTouched fresh e (Apart i u v)
        ⊎ ((j a b : ℕ) (r : Rel) → Adds instance (excludes (e ∷ es)) (Apart i u v) j a b r
        → Adds instance (excludes es) (Apart i u v) j a b r)
    untouched off = inr (old_adds instance (excludes (e ∷ es)) (excludes es) (Apart i u v)
        (λ p j hj ne. let q = p j hj ne in
        (only_old e es j u v Before (off j ne) q.0, only_old e es j u v After (off j ne) q.1)) (λ r c. c))

    neither : ((e.u ≡ u) × (e.v ≡ v) → ⊥) → ((e.u ≡ v) × (e.v ≡ u) → ⊥) → ((e.u ≡ u) × (e.v ≡ v))
        ⊎ ((e.u ≡ v) × (e.v ≡ u)) → ⊥
    neither n m (inl h) = n h
    neither n m (inr h) = m h

    go : (e.dim ≡ i) ⊎ (e.dim ≡ i → ⊥) → ((e.u ≡ u) × (e.v ≡ v)) ⊎ ((e.u ≡ u) × (e.v ≡ v) → ⊥) → ((e.u ≡ v) × (e.v ≡ u))
        ⊎ ((e.u ≡ v) × (e.v ≡ u) → ⊥)
        → IsTouched fresh e (Apart i u v)
        ⊎ ((j a b : ℕ) (r : Rel) → Adds instance (excludes (e ∷ es)) (Apart i u v) j a b r
        → Adds instance (excludes es) (Apart i u v) j a b r)
    go (inl d) _ _ = untouched (λ j ne at. ne (sym at.0 ∙ d))
    go (inr k) (inl h) _ = inl (inl (k, sym h.0, sym h.1))
    go (inr k) (inr n) (inl h) = inl (inr (k, sym h.1, sym h.0))
    go (inr k) (inr n) (inr m) = untouched (λ j ne at. neither n m at.1)
touched_or_old instance fresh e es (Triple i u v x) new l =
    go (cases_Bool (is_of e i u x Overlap)) (cases_Bool (is_of e i v x Overlap))
  where
    go : (is_of e i u x Overlap ≡ true) ⊎ (is_of e i u x Overlap ≡ false)
        → (is_of e i v x Overlap ≡ true) ⊎ (is_of e i v x Overlap ≡ false)
        → IsTouched fresh e (Triple i u v x)
        ⊎ ((j a b : ℕ) (r : Rel) → Adds instance (excludes (e ∷ es)) (Triple i u v x) j a b r
        → Adds instance (excludes es) (Triple i u v x) j a b r)
    go (inl t) _ = inl (touched_of fresh e (Triple i u v x) i u x Overlap new
        (λ h j p q d f g k. ((d, inl (f, g)), k)) t)
    go (inr n) (inl t) = inl (touched_of fresh e (Triple i u v x) i v x Overlap new
        (λ h j p q d f g k. ((d, inr (f, g)), k)) t)
    go (inr n) (inr m) = inr (old_adds instance (excludes (e ∷ es)) (excludes es) (Triple i u v x)
        (λ p. (old_of e es i u x Overlap n p.0, old_of e es i v x Overlap m p.1, p.2)) (λ r c. c))
touched_or_old instance fresh e es (Compose i u v x) new l = go (decide_at e i u v) (decide_at e i v x)
  where
    go : IsAt e i u v ⊎ (IsAt e i u v → ⊥) → IsAt e i v x ⊎ (IsAt e i v x → ⊥)
        → IsTouched fresh e (Compose i u v x)
        ⊎ ((j a b : ℕ) (r : Rel) → Adds instance (excludes (e ∷ es)) (Compose i u v x) j a b r
        → Adds instance (excludes es) (Compose i u v x) j a b r)
    go (inl t) _ = inl (touched_at fresh e (Compose i u v x) i u v (λ h j p q d f g. (d, inl (f, g))) t)
    go (inr n) (inl t) = inl (touched_at fresh e (Compose i u v x) i v x (λ h j p q d f g. (d, inr (f, g))) t)
    go (inr n) (inr m) = inr (old_adds instance (excludes (e ∷ es)) (excludes es) (Compose i u v x) (λ p. p)
        (λ r c q s f g. c q s (still_open e es i u v q n f) (still_open e es i v x s m g)))
touched_or_old instance fresh e es (Cycle i a b c d) new l =
    go (decide_at e i a b) (decide_at e i b c) (decide_at e i c d) (decide_at e i d a)
    (cases_Bool (is_of e i a c Overlap))
  where
    go : IsAt e i a b ⊎ (IsAt e i a b → ⊥) → IsAt e i b c ⊎ (IsAt e i b c → ⊥) → IsAt e i c d ⊎ (IsAt e i c d → ⊥)
        → IsAt e i d a ⊎ (IsAt e i d a → ⊥)
        → (is_of e i a c Overlap ≡ true) ⊎ (is_of e i a c Overlap ≡ false)
        → IsTouched fresh e (Cycle i a b c d)
        ⊎ ((j p q : ℕ) (r : Rel) → Adds instance (excludes (e ∷ es)) (Cycle i a b c d) j p q r
        → Adds instance (excludes es) (Cycle i a b c d) j p q r)
    go (inl t) _ _ _ _ = inl (touched_at fresh e (Cycle i a b c d) i a b (λ h j p q k f g. (k, inl (f, g))) t)
    go (inr n1) (inl t) _ _ _ =
        inl (touched_at fresh e (Cycle i a b c d) i b c (λ h j p q k f g. (k, inr (inl (f, g)))) t)
    go (inr n1) (inr n2) (inl t) _ _ =
        inl (touched_at fresh e (Cycle i a b c d) i c d (λ h j p q k f g. (k, inr (inr (inl (f, g))))) t)
    go (inr n1) (inr n2) (inr n3) (inl t) _ =
        inl (touched_at fresh e (Cycle i a b c d) i d a (λ h j p q k f g. (k, inr (inr (inr (inl (f, g)))))) t)
    go (inr n1) (inr n2) (inr n3) (inr n4) (inl t) =
        inl (touched_of fresh e (Cycle i a b c d) i a c Overlap new
        (λ h j p q k f g w. (k, inr (inr (inr (inr ((f, g), w)))))) t)
    go (inr n1) (inr n2) (inr n3) (inr n4) (inr n5) =
        inr (old_adds instance (excludes (e ∷ es)) (excludes es) (Cycle i a b c d)
        (λ p. (
          (only_old e es i a b Before n1 p.0.0, only_old e es i a b After n1 p.0.1),
          (only_old e es i b c Before n2 p.1.0, only_old e es i b c After n2 p.1.1),
          (only_old e es i c d Before n3 p.2.0, only_old e es i c d After n3 p.2.1),
          (only_old e es i d a Before n4 p.3.0, only_old e es i d a After n4 p.3.1),
          old_of e es i a c Overlap n5 p.4,
        )) (λ r k. k))
touched_or_old instance fresh e es (Order i a b c d) new l =
    go (decide_at e i a b) (decide_at e i c d) (cases_Bool (is_of e i a d Before))
  where
    go : IsAt e i a b ⊎ (IsAt e i a b → ⊥) → IsAt e i c d ⊎ (IsAt e i c d → ⊥)
        → (is_of e i a d Before ≡ true) ⊎ (is_of e i a d Before ≡ false)
        → IsTouched fresh e (Order i a b c d)
        ⊎ ((j p q : ℕ) (r : Rel) → Adds instance (excludes (e ∷ es)) (Order i a b c d) j p q r
        → Adds instance (excludes es) (Order i a b c d) j p q r)
    go (inl t) _ _ = inl (touched_at fresh e (Order i a b c d) i a b (λ h j p q k f g. (k, inl (f, g))) t)
    go (inr n1) (inl t) _ = inl (touched_at fresh e (Order i a b c d) i c d (λ h j p q k f g. (k, inr (inl (f, g)))) t)
    go (inr n1) (inr n2) (inl t) = inl (touched_of fresh e (Order i a b c d) i a d Before new
        (λ h j p q k f g w. (k, inr (inr ((f, g), w)))) t)
    go (inr n1) (inr n2) (inr n3) = inr (old_adds instance (excludes (e ∷ es)) (excludes es) (Order i a b c d)
        (λ p. (
          (only_old e es i a b Overlap n1 p.0.0, only_old e es i a b After n1 p.0.1),
          (only_old e es i c d Overlap n2 p.1.0, only_old e es i c d After n2 p.1.1),
          old_of e es i a d Before n3 p.2,
        )) (λ r k. k))

-- What adds by fewer exclusions adds by more.
pub adds_more : (instance : PlainInstance) (X Y : Exclusions) → IsSubset X Y → (rule : Rule) → (j a b : ℕ) (r : Rel)
    → Adds instance X rule j a b r → Adds instance Y rule j a b r
adds_more instance X Y more rule =
    old_adds instance X Y rule (premises_more instance X Y more rule) (concludes_more instance X Y more rule)
