-- Nodes that wait, while the list of the node that the walk is at grows.
use Rattle.std.proofs.Common.{◌≡◌, ◌≤◌, ℕ, refl, sym, ap, subst, ◌∙◌, arith, List, [], ◌∷◌, ◌++◌, length, reverse}
use Rattle.std.proofs.Common.{Option, Some, None}
use Rattle.std.proofs.lemmas.List.{reverse-append}
use Rattle.packing_terms.specs.declared.Exclusion.{Exclusion}
use Rattle.packing_terms.specs.Packing.{PlainInstance, dims, box_count}
use Rattle.packing_terms.specs.Exclusions.{excludes}
use Rattle.packing_terms.specs.Closure.{IsStable}
use Rattle.packing_terms.specs.Applied.{Extends}
use Rattle.packing_terms.specs.Places.{HasNoEmptyMask}
use Rattle.edge_state.specs.Edges.{PlainEdges, oldest}
use Rattle.edge_state.proofs.Oldest.{oldest_grown, oldest_all, oldest_count}
use Rattle.edge_state.specs.Ends.{IsClosureOf}
use Rattle.line_proofs.specs.Boxed.{Grows}
use Rattle.line_proofs.proofs.Lined.{grows_none, grows_then}
use Rattle.line_proofs.proofs.ChainBoxes.{grows_with}
use Rattle.refutation_steps.specs.declared.closings.Node.{Node}
use Rattle.refutation_steps.specs.Nodes.{IsClosedAt, IsKnown, IsAtAmong, with_some}
use Rattle.refutation_steps.specs.declared.closings.Closings.{Closings}
use Rattle.refutation_steps.specs.Traced.{IsWaiting, AreWaiting, IsTracked, IsClosedWhere, IsNodeClosed}
use Rattle.rule_closure.specs.declared.closer.Closed.{Closed}
use Rattle.rule_closure.specs.declared.closer.Closed.TheVariants.{Stable, Conflict}
use Rattle.rule_closure.specs.Closes.{IsClosed}
use Rattle.refutation_steps.proofs.Drawn.{longer}

some_grows : (es : List Exclusion) (o : Option Exclusion) → Grows es (with_some es o)
some_grows es None = grows_none es
some_grows es (Some e) = grows_with es e

pub node_grows : (es : List Exclusion) (first second : Option Exclusion)
    → Grows es (with_some (with_some es second) first)
node_grows es first second = grows_then es (with_some es second) (with_some (with_some es second) first)
    (some_grows es second) (some_grows (with_some es second) first)

module _ (instance : PlainInstance) where
  pub closed_on : (G G' : List Exclusion) (mark : ℕ) → Grows G G' → IsClosedAt instance G mark
      → IsClosedAt instance G' mark
  closed_on G G' mark g c =
      let same : oldest mark G' ≡ oldest mark G = oldest_grown g.more G G' mark g.grown c.within in
      record {
        within = (let k = c.within in let l = longer G G' g in omega (arith, k, l));
        stable = subst (λ (l : List Exclusion). IsStable instance (excludes l)) (sym same) c.stable;
        full = subst (λ (l : List Exclusion). HasNoEmptyMask instance (excludes l)) (sym same) c.full;
      }

  pub known_on : (G G' : List Exclusion) (closed : Option ℕ) → Grows G G' → IsKnown instance G closed
      → IsKnown instance G' closed
  known_on G G' None g k = tt
  known_on G G' (Some mark) g k = closed_on G G' mark g k

  pub waiting_on : (G G' : List Exclusion) (nodes : List Node) → Grows G G' → AreWaiting instance G nodes
      → AreWaiting instance G' nodes
  waiting_on G G' [] g a = tt
  waiting_on G G' (node ∷ nodes) g a =
      let same : oldest node.before G' ≡ oldest node.before G = oldest_grown g.more G G' node.before g.grown a.0 in (
        (let k = a.0 in let l = longer G G' g in omega (arith, k, l)),
        subst (λ (l : List Exclusion). IsWaiting instance l node) (sym same) a.1,
        subst (λ (l : List Exclusion). AreWaiting instance l nodes) (sym same) a.2,
      )

  -- a stable closing is closed at its end
  pub closed_there : (old new : List Exclusion) → IsClosureOf instance (excludes old) new
      → IsClosedAt instance new (length new)
  closed_there old new c =
      let same : oldest (length new) new ≡ new = oldest_all new (length new) refl in
      record {
        within = omega arith;
        stable = subst (λ (l : List Exclusion). IsStable instance (excludes l)) (sym same) c.stable;
        full = subst (λ (l : List Exclusion). HasNoEmptyMask instance (excludes l)) (sym same) c.full;
      }

  -- a child waits behind all of a closed list
  pub child_waits : (G : List Exclusion) (node : Node) (nodes : List Node) → node.before ≡ length G
      → node.closed ≡ Some (length G) → IsClosedAt instance G (length G)
      → IsAtAmong (dims instance) (box_count instance) node.first
      → IsAtAmong (dims instance) (box_count instance) node.second
      → AreWaiting instance G nodes → AreWaiting instance G (node ∷ nodes)
  child_waits G node nodes b k c first second a =
      let same : oldest node.before G ≡ G = oldest_all G node.before b in
      let waits : IsWaiting instance G node
      = record {
        known = subst (λ (o : Option ℕ). IsKnown instance G o) (sym k) c;
        first = first;
        second = second;
      }
      in (
        omega (arith, b),
        subst (λ (l : List Exclusion). IsWaiting instance l node) (sym same) waits,
        subst (λ (l : List Exclusion). AreWaiting instance l nodes) (sym same) a,
      )

  -- the next node was taken from the list, and entered
  pub next_waits : (G G' : List Exclusion) (old new : List Node) (node : Node) → old ≡ new ++ node ∷ []
      → G' ≡ with_some (with_some (oldest node.before G) node.second) node.first → AreWaiting instance G (reverse old)
      → AreWaiting instance G' (reverse new) × IsKnown instance G' node.closed × (node.before ≤ length G')
  next_waits G G' old new node e g a =
      let all : reverse old ≡ node ∷ reverse new =
      ap (λ (l : List Node). reverse l) e ∙ reverse-append new (node ∷ []) in
      let w : AreWaiting instance G (node ∷ reverse new) = subst (λ (l : List Node). AreWaiting instance G l) all a in
      let L : List Exclusion = oldest node.before G in
      let grown : Grows L G' = subst (λ (l : List Exclusion). Grows L l) (sym g) (node_grows L node.first node.second)
      in (
        waiting_on L G' (reverse new) grown w.2,
        known_on L G' node.closed grown w.1.known,
        (let k = oldest_count node.before G w.0 in let l = longer L G' grown in omega (arith, k, l)),
      )

  -- a closing's list grows
  pub closing_grows : (old new : List Exclusion) → Extends instance old new → Grows old new
  closing_grows old new x = record { more = x.more; grown = x.grown }

  pub closes_node : (at w : Closings) (ended : Closed) → IsTracked instance at → w.closer ≡ at.closer
      → w.waiting ≡ at.waiting → w.state ≡ record at.state { trail = w.state.trail }
      → Extends instance at.state.trail w.state.trail → IsClosed instance at.state.trail w.state.trail ended
      → IsNodeClosed instance w (Some ended)
  closes_node at w ended t closer waiting sizes x c = record {
    tracked = record {
      same_dims = ap (λ (s : PlainEdges). s.dims) sizes ∙ t.same_dims;
      same_boxes = ap (λ (s : PlainEdges). s.boxes) sizes ∙ t.same_boxes;
      closer_for = closer ∙ t.closer_for;
      waits = subst (λ v. AreWaiting instance w.state.trail (reverse v.items)) (sym waiting)
          (waiting_on at.state.trail w.state.trail (reverse at.waiting.items)
          (closing_grows at.state.trail w.state.trail x) t.waits);
    };
    closed = go ended c;
  }
    where
      go : (e : Closed) → IsClosed instance at.state.trail w.state.trail e → IsClosedWhere instance w (Some e)
      go Stable h = closed_there at.state.trail w.state.trail h
      go Conflict h = tt
