-- A box that starts where the heaviest chain that ends in it leaves it starts at the greatest end before it.
use Rattle.std.proofs.Common.{◌≡◌, ◌≢◌, ℕ, ◌+◌, ◌<◌, ◌≤◌, ◌⊎◌, inl, inr, sym, arith, List, [], ◌∷◌}
use Rattle.std.proofs.lemmas.List.Sums.{sum_by-cons}
use Rattle.packing_terms.specs.Packing.{PlainInstance, box_count, side, place}
use Rattle.packing_terms.specs.Exclusions.{Exclusions, IsSurelyBefore}
use Rattle.std.specs.List.{sum_by}
use Rattle.packing_terms.specs.Rules.{AreBoxesAmong}
use Rattle.packing_terms.specs.Places.{IsGreatestEnd}
use Rattle.packing_terms.specs.declared.Direction.TheVariants.{Backwards}
use Rattle.packing_terms.specs.Runs.{IsRun, IsHeaviestRun, IsHeaviestHead, Leads, IsTransitive, IsOneWay}
use Rattle.packing_terms.proofs.Runs.{run_more}
use Rattle.packing_terms.proofs.Turned.{run_of_heaviest}

pub ends_from_heads : (instance : PlainInstance) (X : Exclusions) (places : List ℕ) (i : ℕ)
    → ((u v : ℕ) → IsSurelyBefore X i u v → u ≢ v)
    → IsTransitive (box_count instance) (Leads X i Backwards) → IsOneWay (box_count instance) (Leads X i Backwards)
    → ((v : ℕ) → v < box_count instance → IsHeaviestHead instance X i v (place instance places v i + side instance v i))
    → (v : ℕ) → v < box_count instance → IsGreatestEnd instance X places i v
ends_from_heads instance X places i apart trans one heads v hv = record { above = above v hv; reached = reached }
  where
    run : (v : ℕ) → v < box_count instance
        → IsHeaviestRun (box_count instance) (Leads X i Backwards) (λ u. side instance u i) v
        (place instance places v i + side instance v i)
    run v hv = run_of_heaviest X i instance v (place instance places v i + side instance v i) (heads v hv)

    above : (v : ℕ) → v < box_count instance → (u : ℕ) → u < box_count instance → IsSurelyBefore X i u v
        → place instance places u i + side instance u i ≤ place instance places v i
    above v hv u hu uv =
        let longer = run_more (box_count instance) (Leads X i Backwards) (λ x. side instance x i) trans one v u
        (place instance places u i + side instance u i) hv (λ e. apart u v uv (sym e)) uv (run u hu).some in
        let most = (run v hv).most longer.rest longer.boxes longer.run in
        omega (arith, longer.heavy)

    from_run : (rest : List ℕ) → AreBoxesAmong (box_count instance) (v ∷ rest) → IsRun (Leads X i Backwards) (v ∷ rest)
        → sum_by (λ u. side instance u i) (v ∷ rest) ≡ place instance places v i + side instance v i
        → (place instance places v i ≡ 0)
        ⊎ ((u : ℕ) × (u < box_count instance) × IsSurelyBefore X i u v
        × (place instance places v i ≡ place instance places u i + side instance u i))
    from_run [] b r e = inl (omega (arith, e, sum_by-cons (λ (u : ℕ). side instance u i) v []))
    from_run (u ∷ l) b r e =
        let hu : u < box_count instance = b.2.0 in
        let most = (run u hu).most l b.2 r.1 in
        let low = above v hv u hu r.0 in
        let same : place instance places v i ≡ place instance places u i + side instance u i =
        omega (arith, e, sum_by-cons (λ (x : ℕ). side instance x i) v (u ∷ l)) in
        inr (u, hu, r.0, same)

    reached : (place instance places v i ≡ 0)
        ⊎ ((u : ℕ) × (u < box_count instance) × IsSurelyBefore X i u v
        × (place instance places v i ≡ place instance places u i + side instance u i))
    reached = from_run (run v hv).some.rest (run v hv).some.boxes (run v hv).some.run (run v hv).some.heavy
