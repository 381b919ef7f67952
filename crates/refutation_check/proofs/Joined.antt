-- Boxes that join a family at the first of the open nodes: what the type keeps, and what is
-- answered.
use Rattle.std.proofs.Common.{◌≡◌, ℕ, ◌+◌, sym, ap, subst, ◌∙◌, arith, Bool, List, ◌∷◌, ◌++◌, length, take, drop}
use Rattle.std.proofs.Common.{reverse, slice_index_or, Option, Some, None, Result, Ok, Err}
use Rattle.std.proofs.lemmas.List.{take-append-drop, length-take-le}
use Rattle.packing_terms.specs.declared.Exclusion.{Exclusion}
use Rattle.packing_terms.specs.Packing.{PlainInstance, dims}
use Rattle.packing_terms.specs.Goals.{subset}
use Rattle.edge_state.specs.Edges.{PlainEdges}
use Rattle.verdict_terms.specs.declared.check_answers.RefuseCode.{RefuseCode}
use Rattle.rule_passes.specs.Rooms.{PlainPropagator}
use Rattle.verdict_terms.specs.Families.{is_too_long}
use Rattle.refutation_check.specs.declared.node.OpenNode.{OpenNode}
use Rattle.refutation_check.specs.Nodes.{above, AreHeld}
use Rattle.refutation_check.specs.Refuters.{PlainRefuter, nodes_of, IsHeld}
use Rattle.refutation_check.specs.Joining.{unless_refused, joined_at, still_refused, join_answer, AreTested}
use Rattle.refutation_check.proofs.Stack.{held_same, held_less}
use Rattle.refutation_check.proofs.Feeding.{ns, split, stack, seen}

module _ (whole set : PlainInstance) (start splits : List Exclusion) (held : List OpenNode) (state : PlainEdges)
    (room : PlainPropagator) (sc nc : ℕ)
    (same : dims set ≡ dims whole) (h : IsHeld whole set start splits held state room sc nc) (last : ℕ)
    (count : last + 1 ≡ length held) (n : OpenNode)
    (here : n ≡ slice_index_or held last n) (new : PlainEdges) (sizes : new ≡ record state { trail = new.trail })
    (after : PlainPropagator) (kept : after ≡ room) (answer : Option RefuseCode) (i : ℕ) (us vs : List ℕ)
    (tested : AreTested set n state.trail new.trail answer i us vs) where
  abbrev behind : List OpenNode
  behind = ns whole set start splits held state room sc nc same h last count n here

  first : reverse held ≡ n ∷ behind
  first = split whole set start splits held state room sc nc same h last count n here

  nodes : AreHeld set start splits state.trail (length state.trail) (length splits) (n ∷ behind)
  nodes = stack whole set start splits held state room sc nc same h last count n here

  -- the node stays, whatever is answered
  pub held_kept : IsHeld whole set start splits held new after sc nc
  held_kept = record {
    within = h.within;
    same_dims = ap (λ (s : PlainEdges). s.dims) sizes ∙ h.same_dims;
    same_boxes = ap (λ (s : PlainEdges). s.boxes) sizes ∙ h.same_boxes;
    state_room = ap (λ (s : PlainEdges). s.room) sizes ∙ h.state_room;
    room_dims = rw kept h.room_dims;
    room_boxes = rw kept h.room_boxes;
    room_most = rw kept h.room_most;
    split_room = h.split_room;
    node_room = h.node_room;
    few = h.few;
    nodes = subst (λ (l : List OpenNode). AreHeld set start splits new.trail (length new.trail) (length splits) l)
        (sym first) (held_same set start splits state.trail new.trail n behind tested.within tested.kept nodes);
  }

  -- the node is taken away
  pub held_closed : (more : List OpenNode) → more ≡ take last held → (room_now : ℕ) → room_now ≡ nc
      → IsHeld whole set start splits more new after sc room_now
  held_closed more cut room_now capacity = record {
    within = h.within;
    same_dims = ap (λ (s : PlainEdges). s.dims) sizes ∙ h.same_dims;
    same_boxes = ap (λ (s : PlainEdges). s.boxes) sizes ∙ h.same_boxes;
    state_room = ap (λ (s : PlainEdges). s.room) sizes ∙ h.state_room;
    room_dims = rw kept h.room_dims;
    room_boxes = rw kept h.room_boxes;
    room_most = rw kept h.room_most;
    split_room = h.split_room;
    node_room = rw capacity h.node_room;
    few = (let least = length-take-le last held (omega (arith, count)) in
        let most = h.few in
        rw cut (omega (arith, least, most, count)));
    nodes = subst (λ (l : List OpenNode). AreHeld set start splits new.trail (length new.trail) (length splits)
        (reverse l)) (sym cut)
        (held_less set start splits state.trail new.trail n behind tested.within tested.kept nodes);
  }

  told : joined_at set (nodes_of start splits held) i us vs
      ≡ unless_refused answer (is_too_long set i (us ++ vs))
  told =
      ap (λ l. joined_at set l i us vs) (seen whole set start splits held state room sc nc same h last count n here)
      ∙ ap (λ o. unless_refused o (is_too_long set i (us ++ vs)))
      (sym (tested.value (above start splits n) nodes.2.stands))

  pub told_refused : (code : RefuseCode) → answer ≡ Some code
      → Err code ≡ joined_at set (nodes_of start splits held) i us vs
  told_refused code e = sym (told ∙ ap (λ o. unless_refused o (is_too_long set i (us ++ vs))) e)

  pub told_joined : (long : Bool) → answer ≡ None → (family : List ℕ) → us ++ vs ≡ family
      → long ≡ is_too_long set i family → Ok long ≡ joined_at set (nodes_of start splits held) i us vs
  told_joined long e family all f =
      sym (told ∙ ap (λ o. unless_refused o (is_too_long set i (us ++ vs))) e
      ∙ ap Ok (ap (is_too_long set i) all ∙ sym f))

-- the answer, by how the refuter is seen
pub answer_seen : (seen known : PlainRefuter) (i : ℕ) (us vs : List ℕ) (r : Result Bool RefuseCode) → seen ≡ known
    → r ≡ still_refused seen.checked.refused (joined_at (subset seen.instance seen.keep) seen.checked.nodes i us vs)
    → r ≡ join_answer known i us vs
answer_seen seen known i us vs r e f = f ∙ ap (λ k. join_answer k i us vs) e

pub both_parts : (vs : List ℕ) (k : ℕ) → take k vs ++ drop k vs ≡ vs
both_parts vs k = take-append-drop k vs
