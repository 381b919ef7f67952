-- A token that was taken at its node.
use Rattle.std.proofs.Common.{◌≡◌, ℕ, suc, refl, sym, ap, subst, ◌∙◌, arith, List, [], ◌∷◌, ◌++◌, reverse, Option, Some}
use Rattle.std.proofs.Common.{None}
use Rattle.packing_terms.specs.declared.Rel.TheVariants.{Overlap, Before, After}
use Rattle.packing_terms.specs.declared.Exclusion.{Exclusion}
use Rattle.packing_terms.specs.Packing.{PlainInstance}
use Rattle.packing_terms.specs.Exclusions.{excludes}
use Rattle.packing_terms.specs.Closure.{HasConflict}
use Rattle.packing_terms.specs.Scales.{Exceeds}
use Rattle.packing_terms.specs.declared.ScaleFn.{ScaleFn}
use Rattle.packing_terms.specs.Tokens.{PlainToken}
use Rattle.packing_terms.specs.Tokens.PlainToken.{Apart, Order, Rules, TooLarge, Scales}
use Rattle.packing_terms.specs.Refutation.{exclusion_in_text, IsTooLarge, IsNamed}
use Rattle.packing_terms.specs.Applied.{Extends}
use Rattle.packing_terms.specs.Places.{HasNoEmptyMask}
use Rattle.edge_state.specs.Edges.{PlainEdges}
use Rattle.verdict_terms.specs.Steps.{PlainStep, tokens_among}
use Rattle.verdict_terms.specs.Steps.PlainStep.{Clash, Plain}
use Rattle.verdict_terms.specs.Explaining.{Explains, by_side, by_scales}
use Rattle.verdict_terms.proofs.Stepped.{steps_derived, tokens_joined}
use Rattle.refutation_steps.specs.declared.empties.Place.{Place}
use Rattle.refutation_steps.specs.declared.walk_state.Walk.{Walk}
use Rattle.refutation_steps.specs.Empties.{IsEmptyPlace}
use Rattle.refutation_steps.specs.Nodes.{IsSettled, IsWalking}
use Rattle.refutation_steps.specs.Walks.{child_of, IsFor, IsBetween, IsAt, Takes, IsLeafWritten, IsApartSplit}
use Rattle.refutation_steps.specs.Walks.{IsOrderSplit}
use Rattle.refutation_steps.proofs.Walking.{goes_tokens, clash_there}
use Rattle.refutation_steps.proofs.Going.{goes_nowhere}
use Rattle.refutation_steps.proofs.Drawn.{node_case, conflict_shows, no_stop}
use Rattle.refutation_steps.proofs.Waits.{node_on, leaf_after, apart_split, order_split}

module _ (instance : PlainInstance) where
  nothing_more : (es : List Exclusion) → Extends instance es es
  nothing_more es = record { more = []; grown = refl; derived = λ E h. h; kept = λ i u v r k. k; fewer = omega arith }

  -- ---- leaves

  leaf_tokens : (x lines : List PlainStep) (s : PlainStep) (t : PlainToken) → tokens_among (s ∷ []) ≡ t ∷ []
      → lines ≡ x ++ s ∷ []
      → tokens_among lines ≡ tokens_among x ++ t ∷ []
  leaf_tokens x lines s t one eq = ap tokens_among eq ∙
      (tokens_joined x (s ∷ []) ∙ ap (λ (k : List PlainToken). tokens_among x ++ k) one)

  -- the sizes stay where the state, what is given, the closer and the room do
  sizes_stay : (old new : Walk) → IsFor instance old → new.state ≡ old.state → new.given ≡ old.given
      → new.closer ≡ old.closer → new.room ≡ old.room → IsFor instance new
  sizes_stay old new f a b c d = record {
    same_dims = ap (λ (s : PlainEdges). s.dims) a ∙ f.same_dims;
    same_boxes = ap (λ (s : PlainEdges). s.boxes) a ∙ f.same_boxes;
    given_dims = ap (λ (s : PlainEdges). s.dims) b ∙ f.given_dims;
    given_boxes = ap (λ (s : PlainEdges). s.boxes) b ∙ f.given_boxes;
    closer_for = c ∙ f.closer_for;
    weights = rw d f.weights;
  }

  -- a walk whose lists are these
  between_by : (old new : Walk) (z : List PlainToken) → new.state ≡ old.state → new.given ≡ old.given
      → IsWalking instance old.given.trail old.state.trail (reverse new.pending.items) new.lines z
      → IsBetween instance new z
  between_by old new z a b w =
      subst (λ (s : PlainEdges). IsWalking instance s.trail new.state.trail (reverse new.pending.items)
      new.lines z) (sym b)
      (subst (λ (s : PlainEdges). IsWalking instance old.given.trail s.trail (reverse new.pending.items)
      new.lines z) (sym a) w)

  leaf_taken : (old new : Walk) (closed : Option ℕ) (t : PlainToken) → IsFor instance old → IsLeafWritten old new t
      → tokens_among (Plain t ∷ []) ≡ t ∷ []
      → ((z : List PlainToken) → (n : IsAt instance old closed (t ∷ z))
      → Explains instance old.state.trail (Plain t ∷ []) × (z ≡ n.others)) → Takes instance old new closed t
  leaf_taken old new closed t f w one by = record {
    sizes = sizes_stay old new f w.same_state w.same_given w.same_closer w.same_box_capacity;
    tokens = leaf_tokens old.lines new.lines (Plain t) t one w.lines;
    between = λ z n. between_by old new z w.same_state w.same_given
        (subst (λ p. IsWalking instance old.given.trail old.state.trail (reverse p.items) new.lines
        z) (sym w.same_pending)
        (leaf_after instance old.given.trail old.given.trail closed old.state old.state (reverse old.pending.items)
        old.lines old.lines
        new.lines z t (Plain t) n (by z n).1 (nothing_more old.given.trail)
        (goes_nowhere instance old.state old.lines) (by z n).0 w.lines));
  }

  pub side_taken : (old new : Walk) (closed : Option ℕ) (v i : ℕ) → IsFor instance old
      → IsLeafWritten old new (TooLarge v i) → Takes instance old new closed (TooLarge v i)
  side_taken old new closed v i f w = leaf_taken old new closed (TooLarge v i) f w refl
      (λ z n. let k : IsTooLarge instance v i × (z ≡ n.others) =
      node_case instance n.opened.refutes n.others z (TooLarge v i) n.parts in (by_side k.0, k.1))

  pub scales_taken : (old new : Walk) (closed : Option ℕ) (fs : List ScaleFn) → IsFor instance old
      → IsLeafWritten old new (Scales fs) → Takes instance old new closed (Scales fs)
  scales_taken old new closed fs f w = leaf_taken old new closed (Scales fs) f w refl
      (λ z n. let k : Exceeds instance fs 1 × (z ≡ n.others) =
      node_case instance n.opened.refutes n.others z (Scales fs) n.parts in (by_scales k.0, k.1))

  -- ---- what a closing came to

  pub settled_as : (old mid : Walk) (a b : Option ℕ) → a ≡ b
      → IsSettled instance old.state mid.state old.lines mid.lines
      mid.given.trail
      a
      → IsSettled instance old.state mid.state old.lines mid.lines
      mid.given.trail b
  settled_as old mid a b e s = subst (λ (k : Option ℕ). IsSettled instance old.state mid.state
      old.lines mid.lines mid.given.trail k) e s

  module _ (old mid : Walk) (closed : Option ℕ) (same : mid.pending ≡ old.pending)
      (extends : Extends instance old.given.trail mid.given.trail) where
    pub rules_show : (ended : Option ℕ) (z : List PlainToken)
        → IsSettled instance old.state mid.state old.lines mid.lines
        mid.given.trail ended
        → IsAt instance old closed (Rules ∷ z) → HasNoEmptyMask instance (excludes mid.state.trail) → ⊥
    rules_show ended z s n full =
        let k : HasConflict instance (excludes n.es) × (z ≡ n.others) =
        node_case instance n.opened.refutes n.others z Rules n.parts in
        conflict_shows instance n.es mid.given.trail mid.state.trail ended
        (λ i u v r h. extends.kept i u v r (n.opened.drawn.given_all i u v r h)) s.ended k.0 full

    stops : (z : List PlainToken) (t : PlainToken)
        → IsSettled instance old.state mid.state old.lines mid.lines
        mid.given.trail None
        → (n : IsAt instance old closed (t ∷ z)) → HasConflict instance (excludes n.es)
    stops z t s n = no_stop instance n.es mid.state.trail
        (steps_derived instance (excludes n.es) s.goes.rules old.state.trail mid.state.trail s.goes.steps
        n.opened.drawn.held_derived) s.ended

    pub apart_goes : (z : List PlainToken) (i u v : ℕ)
        → IsSettled instance old.state mid.state old.lines mid.lines
        mid.given.trail None
        → IsAt instance old closed (Apart i u v ∷ z) → ⊥
    apart_goes z i u v s n = (node_case instance n.opened.refutes n.others z (Apart i u v) n.parts).may.no_conflict
        (stops z (Apart i u v) s n)

    pub order_goes : (z : List PlainToken) (i u v : ℕ)
        → IsSettled instance old.state mid.state old.lines mid.lines
        mid.given.trail None
        → IsAt instance old closed (Order i u v ∷ z) → ⊥
    order_goes z i u v s n = (node_case instance n.opened.refutes n.others z (Order i u v) n.parts).may.no_conflict
        (stops z (Order i u v) s n)

    later_tokens : (new : Walk) (ended : Option ℕ) (s : PlainStep) (t : PlainToken)
        → IsSettled instance old.state mid.state old.lines mid.lines
        mid.given.trail ended
        → tokens_among (s ∷ []) ≡ t ∷ [] → new.lines ≡ mid.lines ++ s ∷ []
        → tokens_among new.lines ≡ tokens_among old.lines ++ t ∷ []
    later_tokens new ended s t settled one eq =
        leaf_tokens mid.lines new.lines s t one eq
        ∙ ap (λ (k : List PlainToken). k ++ t ∷ [])
        (goes_tokens instance old.state mid.state old.lines mid.lines
        settled.goes)

    pub rules_taken : (new : Walk) (ended : Option ℕ) (p : Place) → IsFor instance mid
        → IsSettled instance old.state mid.state old.lines mid.lines
        mid.given.trail ended → IsEmptyPlace mid.state p
        → new.state ≡ mid.state → new.given ≡ mid.given → new.closer ≡ mid.closer → new.room ≡ mid.room
        → new.pending ≡ mid.pending
        → new.lines ≡ mid.lines ++ Clash (suc p.dim) (suc p.u) (suc p.v) ∷ []
        → Takes instance old new closed Rules
    rules_taken new ended p f s place a b c d e eq = record {
      sizes = sizes_stay mid new f a b c d;
      tokens = later_tokens new ended (Clash (suc p.dim) (suc p.u) (suc p.v)) Rules s refl eq;
      between = λ z n.
          let k : HasConflict instance (excludes n.es) × (z ≡ n.others) =
          node_case instance n.opened.refutes n.others z Rules n.parts in
          between_by mid new z a b
          (subst (λ q. IsWalking instance mid.given.trail mid.state.trail (reverse q.items)
          new.lines z) (sym (e ∙ same))
          (leaf_after instance old.given.trail mid.given.trail closed old.state mid.state (reverse old.pending.items)
          old.lines mid.lines
          new.lines z Rules (Clash (suc p.dim) (suc p.u) (suc p.v)) n k.1 extends s.goes
          (clash_there instance mid.state p f.same_dims f.same_boxes place) eq));
    }

    pub apart_taken : (new : Walk) (mark i u v : ℕ) → IsFor instance mid
        → IsSettled instance old.state mid.state old.lines mid.lines
        mid.given.trail (Some mark)
        → IsApartSplit mid new mark i u v → Takes instance old new closed (Apart i u v)
    apart_taken new mark i u v f s w = record {
      sizes = sizes_stay mid new f w.same_state w.same_given w.same_closer w.same_box_capacity;
      tokens = later_tokens new (Some mark) (Plain (Apart i u v)) (Apart i u v) s refl w.lines;
      between = λ z n. between_by mid new z w.same_state w.same_given
          (apart_split instance mid.given.trail mid.state.trail mark (reverse old.pending.items)
          (reverse new.pending.items) mid.lines new.lines z i u v
          (node_on instance old.given.trail mid.given.trail closed old.state mid.state mark (reverse old.pending.items)
          old.lines mid.lines (Apart i u v ∷ z) n extends s.goes s.ended)
          (w.nodes ∙ ap (λ q. child_of mid mark (exclusion_in_text i u v Overlap) None ∷ child_of mid mark
          (exclusion_in_text i u v Before) (Some (exclusion_in_text i u v After)) ∷ reverse q.items) same) w.lines);
    }

    pub order_taken : (new : Walk) (mark i u v : ℕ) → IsFor instance mid
        → IsSettled instance old.state mid.state old.lines mid.lines
        mid.given.trail (Some mark)
        → IsOrderSplit mid new mark i u v → Takes instance old new closed (Order i u v)
    order_taken new mark i u v f s w = record {
      sizes = sizes_stay mid new f w.same_state w.same_given w.same_closer w.same_box_capacity;
      tokens = later_tokens new (Some mark) (Plain (Order i u v)) (Order i u v) s refl w.lines;
      between = λ z n. between_by mid new z w.same_state w.same_given
          (order_split instance mid.given.trail mid.state.trail mark (reverse old.pending.items)
          (reverse new.pending.items) mid.lines new.lines z i u v s.ended
          (node_on instance old.given.trail mid.given.trail closed old.state mid.state mark (reverse old.pending.items)
          old.lines mid.lines (Order i u v ∷ z) n extends s.goes s.ended)
          (w.nodes ∙ ap (λ q. child_of mid mark (exclusion_in_text i u v After) None ∷ child_of mid mark
          (exclusion_in_text i u v Before) None ∷ reverse q.items) same) w.lines);
    }

  -- ---- the numbers of a split

  pub apart_named : (old : Walk) (closed : Option ℕ) (z : List PlainToken) (i u v : ℕ)
      → IsAt instance old closed (Apart i u v ∷ z) → IsNamed instance i u v
  apart_named old closed z i u v n = (node_case instance n.opened.refutes n.others z (Apart i u v) n.parts).may.named

  pub order_named : (old : Walk) (closed : Option ℕ) (z : List PlainToken) (i u v : ℕ)
      → IsAt instance old closed (Order i u v ∷ z) → IsNamed instance i u v
  order_named old closed z i u v n = (node_case instance n.opened.refutes n.others z (Order i u v) n.parts).may.named
