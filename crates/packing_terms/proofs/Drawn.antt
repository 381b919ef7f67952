-- Tests of what differs, and lists of boxes that are drawn from others.
use Rattle.std.proofs.Common.{◌≡◌, ◌≢◌, ℕ, zero, suc, ◌<◌, ◌≤◌, inl, inr, refl, sym, subst, ◌∙◌, arith, Bool, true}
use Rattle.std.proofs.Common.{false, not, cond, ◌&&◌, ◌==◌, List, [], ◌∷◌, ◌++◌, map, length}
use Rattle.std.specs.List.{filter, AllByRecursion}
use Rattle.std.proofs.lemmas.Bool.{true≢false, and_parts, and_from, eqb-true, eq-eqb, not-true}
use Rattle.packing_terms.specs.declared.Rel.{Rel}
use Rattle.packing_terms.specs.Packing.{PlainInstance, box_count}
use Rattle.packing_terms.specs.Exclusions.{is_same_rel}
use Rattle.packing_terms.specs.Rules.{AreBoxes}
use Rattle.packing_terms.specs.Rounds.{chains, others}
use Rattle.packing_terms.specs.Sums.{below}
use Rattle.packing_terms.proofs.Sets.{same_rel, is_same_rel_refl}
use Rattle.packing_terms.proofs.Members.{IsIn, in_map, map_in, in_flat_map, flat_map_in, in_filter, filter_in, in_range}
use Rattle.packing_terms.proofs.Members.{range_in}

pub is_not : (b : Bool) → (b ≡ true → ⊥) → not b ≡ true
is_not true h = absurd (h refl)
is_not false h = refl

pub not_so : (b : Bool) → not b ≡ true → b ≡ true → ⊥
not_so b h k = true≢false (sym k ∙ not-true b h)

pub differs : (x y : ℕ) → x ≢ y → not (x == y) ≡ true
differs x y h = is_not (x == y) (λ e. h (eqb-true x y e))

pub differ : (x y : ℕ) → not (x == y) ≡ true → x ≢ y
differ x y h e = not_so (x == y) h (eq-eqb x y e)

pub rel_differs : (r s : Rel) → r ≢ s → not (is_same_rel r s) ≡ true
rel_differs r s h = is_not (is_same_rel r s) (λ e. h (same_rel r s e))

pub rel_differ : (r s : Rel) → not (is_same_rel r s) ≡ true → r ≢ s
rel_differ r s h e = not_so (is_same_rel r s) h (subst (λ x. is_same_rel r x ≡ true) e (is_same_rel_refl r))

-- the boxes but two
pub in_others : (n u v x : ℕ) → x < n → x ≢ u → x ≢ v → IsIn x (others n u v)
in_others n u v x h a b =
    in_filter (λ y. not (y == u) && not (y == v)) x (below n) (in_range 0 n x (omega arith) (omega arith))
    (and_from _ _ (differs x u a) (differs x v b))

pub record IsOther (n u v x : ℕ) : Type 0 where
  pub there : x < n
  pub first : x ≢ u
  pub second : x ≢ v

pub others_in : (n u v x : ℕ) → IsIn x (others n u v) → IsOther n u v x
others_in n u v x i =
    let h = filter_in (λ y. not (y == u) && not (y == v)) x (below n) i in
    let k = and_parts (not (x == u)) (not (x == v)) h.1 in
    let l = range_in 0 n x h.0 in
    record { there = omega (arith, l); first = differ x u k.0; second = differ x v k.1 }

-- a list of distinct elements of the other, each taken out as it is drawn
abbrev pub IsDrawn : List ℕ → List ℕ → Type 0
IsDrawn vs [] = Unit {0}
IsDrawn vs (v ∷ c) = IsIn v vs × IsDrawn (filter (λ u. not (u == v)) vs) c

pub fewer : (v : ℕ) (vs : List ℕ) → length (filter (λ u. not (u == v)) vs) ≤ length vs
fewer v [] = omega arith
fewer v (u ∷ us) = go (not (u == v)) (fewer v us)
  where
    go : (b : Bool) → length (filter (λ w. not (w == v)) us) ≤ length us
        → length (cond b (u ∷ filter (λ w. not (w == v)) us) (filter (λ w. not (w == v)) us)) ≤ suc (length us)
    go true h = omega arith
    go false h = omega arith

pub one_fewer : (v : ℕ) (vs : List ℕ) → IsIn v vs → length (filter (λ u. not (u == v)) vs) < length vs
one_fewer v [] i = absurd i
one_fewer v (u ∷ us) (inl e) = go (not (u == v)) refl
  where
    go : (b : Bool) → not (u == v) ≡ b
        → length (cond b (u ∷ filter (λ w. not (w == v)) us) (filter (λ w. not (w == v)) us)) < suc (length us)
    go true h = absurd (differ u v h (sym e))
    go false h = omega (arith, fewer v us)
one_fewer v (u ∷ us) (inr i) = go (not (u == v)) (one_fewer v us i)
  where
    go : (b : Bool) → length (filter (λ w. not (w == v)) us) < length us
        → length (cond b (u ∷ filter (λ w. not (w == v)) us) (filter (λ w. not (w == v)) us)) < suc (length us)
    go true h = omega arith
    go false h = omega arith

pub in_chains : (k : ℕ) (vs c : List ℕ) → length vs ≤ k → IsDrawn vs c → IsIn c (chains k vs)
in_chains zero vs [] h d = inl refl
in_chains (suc k) vs [] h d = inl refl
in_chains zero vs (v ∷ c) h d = absurd (omega (arith, one_fewer v vs d.0))
in_chains (suc k) vs (v ∷ c) h d =
    let rest = in_chains k (filter (λ u. not (u == v)) vs) c (omega (arith, one_fewer v vs d.0)) d.1 in
    inr (in_flat_map (λ w. map (λ e. w ∷ e) (chains k (filter (λ u. not (u == w)) vs))) v (v ∷ c) vs d.0
    (in_map (λ e. v ∷ e) c (chains k (filter (λ u. not (u == v)) vs)) rest))

pub chains_in : (k : ℕ) (vs c : List ℕ) → IsIn c (chains k vs) → IsDrawn vs c
chains_in zero vs c (inl e) = subst (λ x. IsDrawn vs x) (sym e) tt
chains_in zero vs c (inr i) = absurd i
chains_in (suc k) vs c (inl e) = subst (λ x. IsDrawn vs x) (sym e) tt
chains_in (suc k) vs c (inr i) =
    let h = flat_map_in (λ w. map (λ e. w ∷ e) (chains k (filter (λ u. not (u == w)) vs))) c vs i in
    let m = map_in (λ e. h.0 ∷ e) c (chains k (filter (λ u. not (u == h.0)) vs)) h.2 in
    subst (λ x. IsDrawn vs x) (sym m.2) (h.1, chains_in k (filter (λ u. not (u == h.0)) vs) m.0 m.1)

-- the boxes of a chain but its end, and all boxes of a chain but its start, are drawn from the others
module _ (instance : PlainInstance) where
  -- each element of the list is in the other, where the list has distinct boxes
  pub drawn : (c vs : List ℕ) → AreBoxes instance c → ((x : ℕ) → x < box_count instance → IsIn x c → IsIn x vs)
      → IsDrawn vs c
  drawn [] vs b h = tt
  drawn (v ∷ c) vs b h = (
    h v b.0 (inl refl),
    drawn c (filter (λ u. not (u == v)) vs) b.2 (λ x l i.
        in_filter (λ u. not (u == v)) x vs (h x l (inr i)) (differs x v (away c x b.1 i))),
  )
    where
      away : (c' : List ℕ) (x : ℕ) → AllByRecursion (λ u. v ≢ u) c' → IsIn x c' → x ≢ v
      away [] x a i = absurd i
      away (y ∷ ys) x a (inl e) = λ f. a.0 (sym f ∙ e)
      away (y ∷ ys) x a (inr i) = away ys x a.1 i

  pub boxes_drawn : (c vs : List ℕ) → ((x : ℕ) → IsIn x vs → x < box_count instance) → IsDrawn vs c
      → AreBoxes instance c
  boxes_drawn [] vs h d = tt
  boxes_drawn (v ∷ c) vs h d = (
    h v d.0,
    away c (filter (λ u. not (u == v)) vs) (λ x i. (filter_in (λ u. not (u == v)) x vs i).1) d.1,
    boxes_drawn c (filter (λ u. not (u == v)) vs) (λ x i. h x (filter_in (λ u. not (u == v)) x vs i).0) d.1,
  )
    where
      away : (c' ws : List ℕ) → ((x : ℕ) → IsIn x ws → not (x == v) ≡ true) → IsDrawn ws c'
          → AllByRecursion (λ u. v ≢ u) c'
      away [] ws k e = tt
      away (x ∷ xs) ws k e = (
        λ f. differ x v (k x e.0) (sym f),
        away xs (filter (λ u. not (u == x)) ws) (λ y i. k y (filter_in (λ u. not (u == x)) y ws i).0) e.1,
      )

  -- the boxes before the last, and the last
  pub record EndsIn (c : List ℕ) (u : ℕ) : Type 0 where
    pub front : AreBoxes instance c
    pub last : u < box_count instance
    pub away : (x : ℕ) → IsIn x c → x ≢ u

  later : (v : ℕ) (c : List ℕ) (u : ℕ) → v < box_count instance → AllByRecursion (λ w. v ≢ w) (c ++ u ∷ []) → EndsIn c u
      → EndsIn (v ∷ c) u
  later v c u h a e = record {
    front = (h, apart_front c a, e.front);
    last = e.last;
    away = λ x i. go x i;
  }
    where
      apart_front : (c' : List ℕ) → AllByRecursion (λ w. v ≢ w) (c' ++ u ∷ []) → AllByRecursion (λ w. v ≢ w) c'
      apart_front [] k = tt
      apart_front (y ∷ ys) k = (k.0, apart_front ys k.1)

      apart_last : (c' : List ℕ) → AllByRecursion (λ w. v ≢ w) (c' ++ u ∷ []) → v ≢ u
      apart_last [] k = k.0
      apart_last (y ∷ ys) k = apart_last ys k.1

      go : (x : ℕ) → IsIn x (v ∷ c) → x ≢ u
      go x (inl f) = λ g. apart_last c a (sym f ∙ g)
      go x (inr i) = e.away x i

  pub ends_in : (c : List ℕ) (u : ℕ) → AreBoxes instance (c ++ u ∷ []) → EndsIn c u
  ends_in [] u b = record { front = tt; last = b.0; away = λ x i. absurd i }
  ends_in (v ∷ c) u b = later v c u b.0 b.1 (ends_in c u b.2)

  pub ended : (c : List ℕ) (u : ℕ) → AreBoxes instance c → u < box_count instance → ((x : ℕ) → IsIn x c → x ≢ u)
      → AreBoxes instance (c ++ u ∷ [])
  ended [] u b h away = (h, tt, tt)
  ended (v ∷ c) u b h away = (b.0, all_away c b.1, ended c u b.2 h (λ x i. away x (inr i)))
    where
      all_away : (c' : List ℕ) → AllByRecursion (λ w. v ≢ w) c' → AllByRecursion (λ w. v ≢ w) (c' ++ u ∷ [])
      all_away [] k = (away v (inl refl), tt)
      all_away (y ∷ ys) k = (k.0, all_away ys k.1)

  pub away_from : (u : ℕ) (c : List ℕ) → AllByRecursion (λ w. u ≢ w) c → (x : ℕ) → IsIn x c → x ≢ u
  away_from u [] a x i = absurd i
  away_from u (y ∷ ys) a x (inl e) = λ f. a.0 (sym f ∙ e)
  away_from u (y ∷ ys) a x (inr i) = away_from u ys a.1 x i

  pub all_away : (u : ℕ) (c : List ℕ) → ((x : ℕ) → IsIn x c → x ≢ u) → AllByRecursion (λ w. u ≢ w) c
  all_away u [] h = tt
  all_away u (y ∷ ys) h = (λ e. h y (inl refl) (sym e), all_away u ys (λ x i. h x (inr i)))

  pub boxes3 : (u v x : ℕ) → u < box_count instance → v < box_count instance → x < box_count instance
      → u ≢ v → u ≢ x → v ≢ x → AreBoxes instance (u ∷ v ∷ x ∷ [])
  boxes3 u v x hu hv hx uv ux vx = (hu, (uv, (ux, tt)), (hv, (vx, tt), (hx, tt, tt)))

  pub boxes4 : (a b c d : ℕ) → a < box_count instance → b < box_count instance → c < box_count instance
      → d < box_count instance
      → a ≢ b → a ≢ c → a ≢ d → b ≢ c → b ≢ d → c ≢ d → AreBoxes instance (a ∷ b ∷ c ∷ d ∷ [])
  boxes4 a b c d ha hb hc hd ab ac ad bc bd cd =
      (ha, (ab, (ac, (ad, tt))), (hb, (bc, (bd, tt)), (hc, (cd, tt), (hd, tt, tt))))
