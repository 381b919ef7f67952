-- One more exclusion leaves fewer relations open, so a trail has room.
use Rattle.std.proofs.Common.{◌≡◌, ◌≢◌, ℕ, ◌+◌, ◌-◌, ◌*◌, ◌/◌, ◌<◌, ◌≤◌, ◌⊎◌, inl, inr, refl, sym, subst, ◌∙◌, arith}
use Rattle.std.proofs.Common.{true, false, not, List, [], ◌∷◌, length, replicate}
use Rattle.std.proofs.lemmas.Bool.{true≢false, cases_Bool, cases_lt, or_cases, and_parts, eqb-true}
use Rattle.std.proofs.lemmas.List.{length-replicate}
use Rattle.packing_terms.specs.declared.Rel.{Rel}
use Rattle.packing_terms.specs.declared.Exclusion.{Exclusion}
use Rattle.packing_terms.specs.Packing.{PlainInstance, no_box, dims, box_count}
use Rattle.packing_terms.specs.Relations.{mirror}
use Rattle.packing_terms.specs.Exclusions.{excludes, is_of, is_at, IsEdgeAmong}
use Rattle.packing_terms.specs.Rounds.{all_exclusions}
use Rattle.packing_terms.specs.Steps.{open_count, IsTrail}
use Rattle.packing_terms.proofs.Sets.{or_true, mirror_twice, excludes_symmetric}
use Rattle.packing_terms.proofs.RoundsLemmas.{length_filter_fewer, in_all, excludes_own, few_passing}
use Rattle.packing_terms.proofs.Drawn.{is_not, not_so}
use Rattle.packing_terms.proofs.Members.{IsIn}

-- an instance of `d` dimensions and `n` boxes
abbrev sized : ℕ → ℕ → PlainInstance
sized d n = record { container = replicate d 0; kerfs = replicate d 0; boxes = replicate n no_box }

in_sized : (d n i u v : ℕ) (r : Rel) → i < d → u < v → v < n
    → IsIn (record { dim = i; u = u; v = v; rel = r }) (all_exclusions d n)
in_sized d n i u v r hi huv hv =
    let e : dims (sized d n) ≡ d = length-replicate d 0 in
    let f : box_count (sized d n) ≡ n = length-replicate n no_box in
    let x : Exclusion = record { dim = i; u = u; v = v; rel = r } in
    let h : IsIn x (all_exclusions (dims (sized d n)) (box_count (sized d n))) =
    in_all (sized d n) i u v r (omega arith) huv (omega arith) in
    let h' : IsIn x (all_exclusions d (box_count (sized d n))) =
    subst (λ (k : ℕ). IsIn x (all_exclusions k (box_count (sized d n)))) e h in
    subst (λ (k : ℕ). IsIn x (all_exclusions d k)) f h'

pub few_open : (d n : ℕ) (es : List Exclusion) → open_count d n es ≤ 3 * d * n * (n - 1) / 2
few_open d n es =
    let e : dims (sized d n) ≡ d = length-replicate d 0 in
    let f : box_count (sized d n) ≡ n = length-replicate n no_box in
    let P : ℕ → ℕ → Type 0 = λ a b. open_count a b es ≤ 3 * a * b * (b - 1) / 2 in
    let h : P (dims (sized d n)) (box_count (sized d n)) =
    few_passing (sized d n) (λ x. not (excludes es x.dim x.u x.v x.rel)) in
    subst (λ (k : ℕ). P d k) f (subst (λ (k : ℕ). P k (box_count (sized d n))) e h)

-- an exclusion and its mirror are open together
pub open_mirrored : (es : List Exclusion) (i u v : ℕ) (r : Rel) → excludes es i u v r ≡ false
    → excludes es i v u (mirror r) ≡ false
open_mirrored es i u v r none = go (cases_Bool (excludes es i v u (mirror r)))
  where
    go : (excludes es i v u (mirror r) ≡ true) ⊎ (excludes es i v u (mirror r) ≡ false)
        → excludes es i v u (mirror r) ≡ false
    go (inr k) = k
    go (inl k) = absurd (true≢false (sym (subst (λ (x : Rel). excludes es i u v x ≡ true) (mirror_twice r)
        (excludes_symmetric es i v u (mirror r) k)) ∙ none))

-- one more exclusion at an edge leaves fewer relations open
pub fewer_open : (d n : ℕ) (es : List Exclusion) (e : Exclusion) → IsEdgeAmong d n e.dim e.u e.v
    → excludes es e.dim e.u e.v e.rel ≡ false → open_count d n (e ∷ es) < open_count d n es
fewer_open d n es e edge none = go (cases_lt e.u e.v)
  where
    less : (x : Exclusion) → IsIn x (all_exclusions d n) → excludes es x.dim x.u x.v x.rel ≡ false
        → excludes (e ∷ es) x.dim x.u x.v x.rel ≡ true → open_count d n (e ∷ es) < open_count d n es
    less x i shut there =
        length_filter_fewer (λ y. not (excludes es y.dim y.u y.v y.rel))
        (λ y. not (excludes (e ∷ es) y.dim y.u y.v y.rel))
        (all_exclusions d n)
        (λ y k. is_not (excludes es y.dim y.u y.v y.rel)
        (λ l. not_so (excludes (e ∷ es) y.dim y.u y.v y.rel) k (or_true _ _ (inr l))))
        x i (is_not (excludes es x.dim x.u x.v x.rel) (λ k. true≢false (sym k ∙ shut))) (rw there refl)

    go : (e.u < e.v) ⊎ (e.v ≤ e.u) → open_count d n (e ∷ es) < open_count d n es
    go (inl l) = less (record { dim = e.dim; u = e.u; v = e.v; rel = e.rel })
        (in_sized d n e.dim e.u e.v e.rel edge.dim l edge.second) none
        (excludes_own e (e ∷ es) (inl refl))
    go (inr l) = less (record { dim = e.dim; u = e.v; v = e.u; rel = mirror e.rel })
        (in_sized d n e.dim e.v e.u (mirror e.rel) edge.dim (let ne = edge.distinct in omega arith) edge.first)
        (open_mirrored es e.dim e.u e.v e.rel none)
        (excludes_symmetric (e ∷ es) e.dim e.u e.v e.rel (excludes_own e (e ∷ es) (inl refl)))

pub trail_room : (d n : ℕ) (es : List Exclusion) → IsTrail d n es → length es + open_count d n es ≤ open_count d n []
trail_room d n [] h = omega arith
trail_room d n (e ∷ es) h =
    let rest = trail_room d n es h.2 in
    let less = fewer_open d n es e h.0 h.1 in
    omega arith

-- where an exclusion is open, the trail has room for one more
pub trail_fits : (d n : ℕ) (es : List Exclusion) (e : Exclusion) → IsTrail d n es → IsEdgeAmong d n e.dim e.u e.v
    → excludes es e.dim e.u e.v e.rel ≡ false → length es < 3 * d * n * (n - 1) / 2
trail_fits d n es e h edge none =
    let room = trail_room d n es h in
    let less = fewer_open d n es e edge none in
    let most = few_open d n [] in
    omega arith

-- an exclusion of a trail names two boxes
pub trail_apart : (d n : ℕ) (es : List Exclusion) → IsTrail d n es → (i u v : ℕ) (r : Rel)
    → excludes es i u v r ≡ true → u ≢ v
trail_apart d n [] h i u v r x e = absurd (true≢false (sym x))
trail_apart d n (e ∷ es) h i u v r x same = go (or_cases _ _ x) (trail_apart d n es h.2 i u v r)
  where
    hit : (is_at e i u v r ≡ true) ⊎ (is_at e i v u (mirror r) ≡ true) → ⊥
    hit (inl k) =
        let k2 = and_parts _ _ (and_parts _ _ k).0 in
        h.0.distinct (eqb-true _ _ (and_parts _ _ k2.0).1 ∙ (same ∙ sym (eqb-true _ _ k2.1)))
    hit (inr k) =
        let k2 = and_parts _ _ (and_parts _ _ k).0 in
        h.0.distinct (eqb-true _ _ (and_parts _ _ k2.0).1 ∙ (sym same ∙ sym (eqb-true _ _ k2.1)))

    go : (is_of e i u v r ≡ true) ⊎ (excludes es i u v r ≡ true) → (excludes es i u v r ≡ true → u ≢ v) → ⊥
    go (inl k) rest = hit (or_cases _ _ k)
    go (inr k) rest = rest k same
