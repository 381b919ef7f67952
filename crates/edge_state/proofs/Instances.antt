-- The instances that are due for an edge are those that it reaches.
use Rattle.std.proofs.Common.{ℕ, inl, inr, refl, Bool}
use Rattle.packing_terms.specs.declared.Rel.{Rel}
use Rattle.packing_terms.specs.Packing.{PlainInstance}
use Rattle.packing_terms.specs.Exclusions.{excludes}
use Rattle.packing_terms.specs.Rules.{Rule, Pair, Apart, Triple, Chain, Compose, Cycle, Order, IsRuleInstance}
use Rattle.edge_state.specs.Edges.{PlainEdges}
use Rattle.edge_state.specs.Work.{IsDueAt, HasApplied}
use Rattle.edge_state.specs.Instances.{DueAll}
use Rattle.edge_state.proofs.Worked.{covered_if}

in_due : (instance : PlainInstance) (fresh : Rel → Bool) (j p q : ℕ) (rule : Rule) → IsDueAt fresh j p q rule
    → IsRuleInstance instance rule → DueAll instance fresh j p q rule
in_due instance fresh j p q (Pair i u v) h is = absurd h
in_due instance fresh j p q (Chain i before u v after) h is = absurd h
in_due instance fresh j p q (Compose i u v x) (e, f, g) is = inl (inl (inl (inl (x, is.1.2.2.0, rw (e, f, g) refl))))
in_due instance fresh j p q (Triple i u v x) ((e, f, g), new) is =
    inl (inl (inl (inr (new, inl (v, is.1.2.0, rw (e, f, g) refl)))))
in_due instance fresh j p q (Apart i u v) (d, f, g) is = inl (inl (inr (inl (i, is.0, (d, rw (f, g) refl)))))
in_due instance fresh j p q (Cycle i a b c d) (e, inl h) is =
    inl (inl (inr (inr (c, is.1.2.2.0, (d, is.1.2.2.2.0, rw (e, h.0, h.1) refl)))))
in_due instance fresh j p q (Cycle i a b c d) (e, inr (h, new)) is =
    inl (inl (inl (inr (new, inr (b, is.1.2.0, (d, is.1.2.2.2.0, rw (e, h.0, h.1) refl))))))
in_due instance fresh j p q (Order i a b c d) (e, inl h) is =
    inl (inr (inl (d, is.1.2.2.2.0, (c, is.1.2.2.0, rw (e, h.0, h.1) refl))))
in_due instance fresh j p q (Order i a b c d) (e, inr (inl h)) is =
    inl (inr (inr (a, is.1.0, (b, is.1.2.0, rw (e, h.0, h.1) refl))))
in_due instance fresh j p q (Order i a b c d) (e, inr (inr (h, new))) is =
    inr (new, (b, is.1.2.0, (c, is.1.2.2.0, rw (e, h.0, h.1) refl)))

pub worked_reached : (instance : PlainInstance) (a b : PlainEdges) (lost : Bool) (fresh : Rel → Bool)
    (j p q : ℕ) → HasApplied instance a b lost (DueAll instance fresh j p q)
    → HasApplied instance a b lost (IsDueAt fresh j p q)
worked_reached instance a b lost fresh j p q h = record {
  same_dims = h.same_dims;
  same_boxes = h.same_boxes;
  same_box_capacity = h.same_box_capacity;
  extends = h.extends;
  empty = h.empty;
  done = λ e rule r. covered_if instance (excludes a.trail) b.trail rule
      (λ is. h.done e rule (in_due instance fresh j p q rule r is));
}
