-- Runs are short, can be made longer, and numbers that can't be raised are the heaviest.
use Rattle.std.proofs.Common.{◌≡◌, ◌≢◌, ℕ, ◌+◌, ◌-◌, ◌*◌, ◌<◌, ◌≤◌, ◌⊎◌, inl, inr, refl, sym, ap, subst, ◌∙◌, arith}
use Rattle.std.proofs.Common.{Bool, true, false, ◌||◌, List, [], ◌∷◌, length, slice_index}
use Rattle.std.specs.List.{sum_by}
use Rattle.std.proofs.Math.ListN.{set}
use Rattle.std.proofs.lemmas.List.{get_or-set_same, get_or-set_other}
use Rattle.std.proofs.lemmas.List.Sums.{sum_by-cons, sum_by-set}
use Rattle.std.proofs.lemmas.Bool.{true≢false, cases_lt, cases_eq, or_cases, or_parts}
use Rattle.packing_terms.specs.Packing.{PlainInstance, box_count}
use Rattle.packing_terms.specs.Limits.{max_side, IsInternalInstance}
use Rattle.packing_terms.specs.Rules.{AreBoxesAmong}
use Rattle.packing_terms.specs.Runs.{IsRun, HasRun, AreRuns, IsHeaviestRun, IsTransitive, IsOneWay, room_to_rise, IsRaise}
use Rattle.packing_terms.specs.Runs.{HasNoHeavierRun, most_weight}
use Rattle.packing_terms.proofs.Members.{IsIn}
use Rattle.packing_terms.proofs.Boxes.{each_in, each_from, box_in, boxes_few}

module _ (n : ℕ) (R : ℕ → ℕ → Type 0) (w : ℕ → ℕ) where
  sum_small : (m : ℕ) → ((v : ℕ) → v < n → w v ≤ m) → (vs : List ℕ) → AreBoxesAmong n vs → sum_by w vs ≤ length vs * m
  sum_small m h [] b = omega arith
  sum_small m h (v ∷ vs) b = let l = sum_small m h vs b.2 in omega (arith, sum_by-cons w v vs, h v b.0)

  -- no run is heavier than all boxes could be
  pub run_small : (m v k : ℕ) → ((u : ℕ) → u < n → w u ≤ m) → HasRun n R w v k → k ≤ n * m
  run_small m v k h run =
      let l = sum_small m h (v ∷ run.rest) run.boxes in
      let s = boxes_few n (v ∷ run.rest) run.boxes in
      let p : length (v ∷ run.rest) * m ≤ n * m = grind arith in
      omega (arith, run.heavy)

  -- the first box of a run is related to each later one
  reaches : IsTransitive n R → (v : ℕ) (l : List ℕ) → AreBoxesAmong n (v ∷ l) → IsRun R (v ∷ l) → (x : ℕ)
      → IsIn x l → R v x
  reaches trans v [] b run x i = absurd i
  reaches trans v (y ∷ l) b run x (inl e) = subst (λ (z : ℕ). R v z) (sym e) run.0
  reaches trans v (y ∷ l) b run x (inr i) =
      trans v y x (
        b.0,
        (b.1.0, (each_in (λ z. v ≢ z) l b.1.1 x i, tt)),
        (b.2.0, (each_in (λ z. y ≢ z) l b.2.1 x i, tt), (box_in n l b.2.2 x i, tt, tt)),
      )
      run.0 (reaches trans y l b.2 run.1 x i)

  -- a run from x is made longer by a box that is related to x
  pub run_more : IsTransitive n R → IsOneWay n R → (v x k : ℕ) → v < n → v ≢ x → R v x → HasRun n R w x k
      → HasRun n R w v (w v + k)
  run_more trans one v x k hv ne vx run = record {
    rest = x ∷ run.rest;
    boxes = (hv, each_from (λ z. v ≢ z) (x ∷ run.rest) apart, run.boxes);
    run = (vx, run.run);
    heavy = sum_by-cons w v (x ∷ run.rest) ∙ ap (λ z. w v + z) run.heavy;
  }
    where
      apart : (z : ℕ) → IsIn z (x ∷ run.rest) → v ≢ z
      apart z (inl e) f = ne (f ∙ e)
      apart z (inr i) f =
          let back : R x z = reaches trans x run.rest run.boxes run.run z i in
          one v x (hv, (ne, tt), (run.boxes.0, tt, tt)) vx (subst (λ (y : ℕ). R x y) (sym f) back)

  -- where no number can be raised, each is the heaviest
  most_from : (ks : List ℕ) → AreRuns n R w ks → ((v x : ℕ) → v < n → x < n → HasNoHeavierRun R w ks v x)
      → (v : ℕ) (l : List ℕ) → AreBoxesAmong n (v ∷ l) → IsRun R (v ∷ l) → sum_by w (v ∷ l) ≤ slice_index ks v
  most_from ks runs settled v [] b run =
      let h = (runs v b.0).heavy in omega (arith, h, sum_by-cons w v (runs v b.0).rest, sum_by-cons w v [])
  most_from ks runs settled v (x ∷ l) b run =
      let rest = most_from ks runs settled x l b.2 run.1 in
      let here = (settled v x b.0 b.2.0).below b.1.0 run.0 in
      omega (arith, sum_by-cons w v (x ∷ l))

  pub heaviest : (ks : List ℕ) → AreRuns n R w ks → ((v x : ℕ) → v < n → x < n → HasNoHeavierRun R w ks v x)
      → (v : ℕ) → v < n → IsHeaviestRun n R w v (slice_index ks v)
  heaviest ks runs settled v hv = record { some = runs v hv; most = most_from ks runs settled v }

  -- a number is raised to the weight of a longer run
  pub raise_one : (m : ℕ) → n * m ≤ most_weight → ((u : ℕ) → u < n → w u ≤ m) → IsTransitive n R → IsOneWay n R
      → (ks : List ℕ) → length ks ≡ n → AreRuns n R w ks
      → (v x : ℕ) → v < n → x < n → v ≢ x → R v x → slice_index ks v < w v + slice_index ks x
      → IsRaise n R w ks (set ks v (w v + slice_index ks x)) true
  raise_one m few small trans one ks count runs v x hv hx ne vx less = record {
    runs = λ u hu. at u hu (cases_eq u v);
    fewer = omega (arith, falls);
    shrinks = λ e. falls;
    same = λ e. absurd (true≢false e);
  }
    where
      longer : HasRun n R w v (w v + slice_index ks x)
      longer = run_more trans one v x (slice_index ks x) hv ne vx (runs x hx)

      there : v < length ks
      there = rw count hv

      at : (u : ℕ) → u < n → (u ≡ v) ⊎ (u ≡ v → ⊥) → HasRun n R w u (slice_index (set ks v (w v + slice_index ks x)) u)
      at u hu (inl e) = rw e (rw (get_or-set_same ks v (w v + slice_index ks x) 0 there) longer)
      at u hu (inr e) = rw (get_or-set_other ks v u (w v + slice_index ks x) 0 e) (runs u hu)

      falls : room_to_rise (set ks v (w v + slice_index ks x)) < room_to_rise ks
      falls =
          let top = run_small m v (w v + slice_index ks x) small longer in
          let e = sum_by-set (λ (k : ℕ). most_weight - k) ks v (w v + slice_index ks x) 0 there in
          omega arith

  pub raise_trans : (a b c : List ℕ) (x y : Bool) → IsRaise n R w a b x → IsRaise n R w b c y
      → IsRaise n R w a c (x || y)
  raise_trans a b c x y h k = record {
    runs = k.runs;
    fewer = omega (arith, h.fewer, k.fewer);
    shrinks = λ e. fall (or_cases x y e);
    same = λ e. stay x y e h.same k.same;
  }
    where
      fall : (x ≡ true) ⊎ (y ≡ true) → room_to_rise c < room_to_rise a
      fall (inl e) = omega (arith, h.shrinks e, k.fewer)
      fall (inr e) = omega (arith, k.shrinks e, h.fewer)

      stay : (x y : Bool) → (x || y) ≡ false → (x ≡ false → b ≡ a) → (y ≡ false → c ≡ b) → c ≡ a
      stay false false e f g = g refl ∙ f refl
      stay true y e f g = absurd (true≢false e)
      stay false true e f g = absurd (true≢false e)

-- no weight of boxes is too large
pub few_boxes : (instance : PlainInstance) → IsInternalInstance instance → box_count instance * max_side ≤ most_weight
few_boxes instance limits = let h = limits.boxes.count.1 in omega arith

pub settled_rows : (n : ℕ) (R : ℕ → ℕ → Type 0) (w : ℕ → ℕ) (b c : List ℕ) (k : ℕ) (x y : Bool) → IsRaise n R w b c y
    → (x ≡ false → (v u : ℕ) → v < k → u < n → HasNoHeavierRun R w b v u)
    → (y ≡ false → (u : ℕ) → u < n → HasNoHeavierRun R w c k u)
    → (x || y) ≡ false → (v u : ℕ) → v < k + 1 → u < n → HasNoHeavierRun R w c v u
settled_rows n R w b c k x y raise before here e v u l hu =
    go (cases_lt v k) (raise.same (or_parts x y e).1) (before (or_parts x y e).0) (here (or_parts x y e).1)
  where
    go : (v < k) ⊎ (k ≤ v) → c ≡ b → ((v u : ℕ) → v < k → u < n → HasNoHeavierRun R w b v u)
        → ((u : ℕ) → u < n → HasNoHeavierRun R w c k u) → HasNoHeavierRun R w c v u
    go (inl f) cb old new = subst (λ (ks : List ℕ). HasNoHeavierRun R w ks v u) (sym cb) (old v u f hu)
    go (inr f) cb old new = let same : v ≡ k = omega arith in
        subst (λ (z : ℕ). HasNoHeavierRun R w c z u) (sym same) (new u hu)
