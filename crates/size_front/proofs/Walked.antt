-- A walk round by round, and what its end says.
use Rattle.std.proofs.Common.{◌≡◌, ℕ, zero, suc, ◌+◌, ◌-◌, ◌*◌, ◌/◌, ◌^◌, ◌≤◌, ◌↔◌, refl, sym, ap, ◌∙◌, subst, arith}
use Rattle.std.proofs.Common.{Bool, true, false, List, [], ◌∷◌, ◌++◌, map, Option, Some, None, Result, Ok, Err, IfOk}
use Rattle.std.proofs.Common.{append_assoc}
use Rattle.std.specs.Prelude.{if◌then◌else◌}
use Rattle.packing_terms.specs.Packing.{PlainInstance, dims, box_count, written_container}
use Rattle.packing_terms.specs.Limits.{IsInternalInstance}
use Rattle.packing_terms.specs.Tokens.{PlainToken}
use Rattle.verdict_terms.specs.Fronts.{IsClaimed}
use Rattle.answer_terms.specs.Walks.{PlainCorner, PlainPoint, PlainFront, front_after, whole_front, sizes, walk_on}
use Rattle.answer_terms.specs.Walks.{size_answer, front_walk}
use Rattle.answer_terms.specs.Asked.{HasContainerPastBudget}
use Rattle.answer_terms.proofs.Decided.{walks_are_fronts}
use Rattle.answer_terms.proofs.Spent.{spent_exactly, enough}
use Rattle.size_front.specs.declared.front.Front.{Front}
use Rattle.size_front.specs.declared.rounds.WalkState.{WalkState}
use Rattle.size_front.specs.Plain.{plain_front, plain_corner, plain_point, IsRound, IsUnderWay}

pub ok_more : {A E : Type 0} (P Q : A → Type 0) (r : Result A E) → ((a : A) → P a → Q a) → IfOk r P → IfOk r Q
ok_more P Q (Ok a) f h = f a h
ok_more P Q (Err e) f h = tt

append_none : {A : Type 0} (xs : List A) → xs ++ [] ≡ xs
append_none [] = refl
append_none {A = A} (z ∷ zs) = ap (λ (l : List A). z ∷ l) (append_none zs)

-- what was found with what a round found, where the walk ends or goes on
pub joined_end : (cs0 cs x : List PlainCorner) (ps0 ps y : List PlainPoint) → x ≡ cs0 ++ cs → y ≡ ps0 ++ ps
    → front_after cs0 ps0 (front_after cs ps whole_front) ≡ record { complete = true; corners = x; points = y }
joined_end cs0 cs x ps0 ps y e f = rw (append_none cs, append_none ps, e, f) refl

pub joined_next : (cs0 cs x : List PlainCorner) (ps0 ps y : List PlainPoint) (rest : PlainFront) → x ≡ cs0 ++ cs
    → y ≡ ps0 ++ ps
    → front_after cs0 ps0 (front_after cs ps rest) ≡ front_after x y rest
joined_next cs0 cs x ps0 ps y rest e f =
    rw (e, f, append_assoc cs0 cs rest.corners, append_assoc ps0 ps rest.points) refl

begun : (front : ℕ → ℕ → List PlainToken → PlainFront) (cs : List PlainCorner) (ps : List PlainPoint) (h r : ℕ)
    (ts : List PlainToken) (highest : ℕ)
    → cs ≡ [] → ps ≡ [] → h ≡ highest → r ≡ 0 → ts ≡ [] → front_after cs ps (front h r ts) ≡ front highest 0 []
begun front cs ps h r ts highest e f g k t = rw (e, f, g, k, t) refl

module _ (instance : PlainInstance) (budget : ℕ) (scales : Bool) where
  pub started : (f : Front) (s : WalkState) → f.corners.items ≡ [] → f.points.items ≡ []
      → s.height ≡ written_container instance 1 → s.refuted ≡ 0 → s.tokens ≡ []
      → IsUnderWay instance budget scales f (Some s)
  started f s e f2 h r t = (
    omega (arith, h),
    omega (arith, r),
    (
      suc (written_container instance 1),
      omega (arith, h),
      begun (walk_on (size_answer instance budget scales) (written_container instance 0)
          (suc (written_container instance 1)))
          (map plain_corner f.corners.items) (map plain_point f.points.items) s.height s.refuted
          s.tokens (written_container instance 1)
          (ap (λ xs. map plain_corner xs) e) (ap (λ xs. map plain_point xs) f2) h r t,
    ),
  )

  pub under_way_next : (old new : Front) (s : WalkState) (next : Option WalkState)
      → IsUnderWay instance budget scales old (Some s) → IsRound instance budget scales old s new next
      → IsUnderWay instance budget scales new next
  under_way_next old new s next (l, m, (zero, less, e)) round = absurd (omega (arith, less))
  under_way_next old new s None (l, m, (suc more, less, e)) round = sym (round more) ∙ e
  under_way_next old new s (Some next) (l, m, (suc more, less, e)) round =
      let lower = round.0 in
      (omega (arith, lower, l), round.1, (more, omega (arith, lower, less), sym (round.2 more) ∙ e))

  module _ (limits : IsInternalInstance instance) (plane : dims instance ≡ 2) (f : Front)
      (walked : plain_front f ≡ front_walk instance budget scales) where
    pub front_claims : IsClaimed instance f.complete (sizes (map plain_point f.points.items))
    front_claims = subst (λ (x : PlainFront). IsClaimed instance x.complete (sizes x.points)) (sym walked)
        (walks_are_fronts instance budget scales limits plane)

    pub front_spent : (f.complete ≡ false) ↔ HasContainerPastBudget instance budget scales
    front_spent = subst (λ (x : PlainFront). (x.complete ≡ false) ↔ HasContainerPastBudget instance budget scales) (sym walked)
        (spent_exactly instance budget scales)

    pub front_enough : 3 ^ (dims instance * box_count instance * (box_count instance - 1) / 2) ≤ budget + 1
        → f.complete ≡ true
    front_enough l = ap (λ (x : PlainFront). x.complete) walked ∙ enough instance budget scales limits plane l
