-- Each corner of a walk is refuted by its tokens, and each point is packed by its places.
use Rattle.std.proofs.Common.{◌≡◌, ℕ, zero, suc, ◌<◌, ◌≤◌, ◌⊎◌, inl, inr, refl, subst, arith, Bool, true, false}
use Rattle.std.proofs.Common.{List, [], ◌∷◌, ◌++◌}
use Rattle.std.specs.List.{AllByRecursion}
use Rattle.std.proofs.lemmas.Bool.{cases_lt}
use Rattle.packing_terms.specs.Packing.{PlainInstance, IsPacking, Fits, dims, written_container}
use Rattle.packing_terms.specs.Limits.{IsInternalInstance}
use Rattle.packing_terms.specs.Tokens.{PlainToken}
use Rattle.packing_terms.specs.Refutation.{Refutes}
use Rattle.packing_terms.proofs.Internal.{some_box}
use Rattle.tree_terms.specs.Levels.{PlainLevel, PlacedBy, RefutedBy, SpentAt, PlainReached}
use Rattle.verdict_terms.specs.Fronts.{with_container}
use Rattle.answer_terms.specs.Walks.{PlainCorner, PlainPoint, PlainFront, corner_unless_empty, spent_front}
use Rattle.answer_terms.specs.Walks.{width_run, height_run, rest_by, round_by_heights, round_by_widths, round_by}
use Rattle.answer_terms.specs.Walks.{walk_on, walk}
use Rattle.verdict_terms.proofs.Sizes.{refuted_size, sides_at}
use Rattle.answer_terms.proofs.Rounds.{IsRightSize, AreRightSizes, IsNarrow, IsWidthEnd, IsHeightEnd, width_end}
use Rattle.answer_terms.proofs.Rounds.{height_end}

pub all_append : {A : Type 0} (P : A → Type 0) (xs ys : List A) → AllByRecursion P xs → AllByRecursion P ys
    → AllByRecursion P (xs ++ ys)
all_append P [] ys h k = k
all_append P (x ∷ xs) ys h k = (h.0, all_append P xs ys h.1 k)

module _ (instance : PlainInstance) where
  pub record IsBackedCorner (c : PlainCorner) : Type 0 where
    pub width_from : 1 ≤ c.width
    pub width_to : c.width ≤ written_container instance 0
    pub height_to : c.height ≤ written_container instance 1
    pub refutes : Refutes (with_container instance c.width c.height) [] c.tokens

  pub record IsBackedPoint (p : PlainPoint) : Type 0 where
    pub width_from : 1 ≤ p.width
    pub width_to : p.width ≤ written_container instance 0
    pub height_to : p.height ≤ written_container instance 1
    pub packs : IsPacking (with_container instance p.width p.height) p.places

  abbrev pub AreBacked : PlainFront → Type 0
  AreBacked front = AllByRecursion IsBackedCorner front.corners × AllByRecursion IsBackedPoint front.points

  corner_backed : (r h : ℕ) (ts : List PlainToken) → r ≤ written_container instance 0 → h ≤ written_container instance 1
      → IsNarrow instance h r ts → AllByRecursion IsBackedCorner (corner_unless_empty r h ts)
  corner_backed zero h ts l m narrow = tt
  corner_backed (suc r) h ts l m (inl e) = absurd (omega (arith, e))
  corner_backed (suc r) h ts l m (inr refutes) =
      (record { width_from = omega arith; width_to = l; height_to = m; refutes = refutes }, tt)

  module _ (limits : IsInternalInstance instance) (plane : dims instance ≡ 2) where
    packed_high : (a h : ℕ) (ps : List ℕ) → IsPacking (with_container instance a h) ps → 1 ≤ h
    packed_high a h ps packed =
        let w = packed.within 0 1 (some_box instance limits) (omega arith) in
        let s = sides_at instance limits plane a h 0 1 (some_box instance limits) (omega arith) in
        omega (arith, w, s)

    some_width : 1 ≤ written_container instance 0
    some_width = (limits.container.others 0 (omega (arith, plane))).0

    narrower : (a h : ℕ) (ts : List PlainToken) (ps : List ℕ) → a ≤ written_container instance 0
        → IsNarrow instance h a ts
        → IsPacking (with_container instance (written_container instance 0) h) ps → a < written_container instance 0
    narrower a h ts ps l (inl e) packed = let s = some_width in omega (arith, s, e)
    narrower a h ts ps l (inr refutes) packed = go (cases_lt a (written_container instance 0))
      where
        go : (a < written_container instance 0) ⊎ (written_container instance 0 ≤ a) → a < written_container instance 0
        go (inl k) = k
        go (inr k) =
            let e : written_container instance 0 ≡ a = omega (arith, k, l) in
            absurd (refuted_size instance limits plane a h ts refutes
            (subst (λ (x : ℕ). Fits (with_container instance x h)) e (ps, packed)))

    module _ (answer : ℕ → ℕ → PlainLevel) (right : AreRightSizes instance answer) where
      abbrev IsBackedWalk : ℕ → Type 0
      IsBackedWalk fuel = (h a : ℕ) (ts : List PlainToken) → h ≤ written_container instance 1
          → a ≤ written_container instance 0 → IsNarrow instance h a ts
          → AreBacked (walk_on answer (written_container instance 0) fuel h a ts)

      rest_backed : (more k a : ℕ) (ts : List PlainToken) → IsBackedWalk more → k ≤ written_container instance 1
          → a ≤ written_container instance 0 → (k ≡ 0) ⊎ Refutes (with_container instance a k) [] ts
          → AreBacked (rest_by answer (written_container instance 0)
          (walk_on answer (written_container instance 0) more) k a ts)
      rest_backed more zero a ts later l m low = (tt, tt)
      rest_backed more (suc k) a ts later l m (inl e) = absurd (omega (arith, e))
      rest_backed more (suc k) a ts later l m (inr refutes) = later (suc k) a ts l m (inr refutes)

      walk_backed : (fuel : ℕ) → IsBackedWalk fuel
      walk_backed zero h a ts high to narrow = (tt, tt)
      walk_backed (suc more) h a ts high to narrow =
          by_answer (answer (written_container instance 0) h)
          (right (written_container instance 0) h some_width (omega arith) high) (walk_backed more)
        where
          by_heights : 1 ≤ h → (W H : PlainReached) → IsWidthEnd instance h a W → IsHeightEnd instance W.placed h H
              → IsBackedWalk more → (b : Bool)
              → AreBacked (round_by_heights answer (written_container instance 0)
              (walk_on answer (written_container instance 0) more) h W H (spent_front a h ts) b)
          by_heights some W H we he later true = (corner_backed a h ts to high narrow, tt)
          by_heights some W H we he later false =
              let o = we.order in let t = we.high in let p = he.order in let q = he.high in
              let rest = rest_backed more H.refuted W.placed H.tokens later (omega (arith, p, q, high)) we.high
              he.refutes in (
                all_append IsBackedCorner (corner_unless_empty W.refuted h W.tokens) _
                    (corner_backed W.refuted h W.tokens (omega (arith, o, t)) high we.refutes) rest.0,
                (
                  record {
                    width_from = omega (arith, o);
                    width_to = we.high;
                    height_to = omega (arith, q, high);
                    packs = he.packs;
                  },
                  rest.1,
                ),
              )

          by_widths : 1 ≤ h → (W : PlainReached) → IsWidthEnd instance h a W → IsBackedWalk more → (b : Bool)
              → AreBacked (round_by_widths answer (written_container instance 0)
              (walk_on answer (written_container instance 0) more) h W (spent_front a h ts) b)
          by_widths some W we later true = (corner_backed a h ts to high narrow, tt)
          by_widths some W we later false =
              let o = we.order in
              by_heights some W (height_run answer (written_container instance 0) W.placed h W.numbers) we
              (height_end instance answer right W.placed h W.numbers (omega (arith, o)) we.high some high
              we.packs) later
              (height_run answer (written_container instance 0) W.placed h W.numbers).spent

          by_answer : (l : PlainLevel) → IsRightSize instance (written_container instance 0) h l → IsBackedWalk more
              → AreBacked (round_by answer (written_container instance 0)
              (walk_on answer (written_container instance 0) more) h a ts l)
          by_answer (RefutedBy us) is later =
              ((record { width_from = some_width; width_to = omega arith; height_to = high; refutes = is }, tt), tt)
          by_answer SpentAt is later = (corner_backed a h ts to high narrow, tt)
          by_answer (PlacedBy ps) is later =
              by_widths (packed_high (written_container instance 0) h ps is)
              (width_run answer (written_container instance 0) h a ts ps)
              (width_end instance answer right h a ts ps high (narrower a h ts ps to narrow is) narrow is) later
              (width_run answer (written_container instance 0) h a ts ps).spent

      pub front_backed : AreBacked (walk answer (written_container instance 0) (written_container instance 1))
      front_backed = walk_backed (suc (written_container instance 1)) (written_container instance 1) 0 [] (omega arith)
          (omega arith) (inl refl)
