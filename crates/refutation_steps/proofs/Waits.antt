-- Nodes that wait, while the lists of the node that the walk is at grow.
use Rattle.std.proofs.Common.{◌≡◌, ℕ, refl, sym, ap, subst, ◌∙◌, arith, List, [], ◌∷◌, ◌++◌, append_assoc, length}
use Rattle.std.proofs.Common.{Option, Some, None}
use Rattle.packing_terms.specs.declared.Rel.{Rel}
use Rattle.packing_terms.specs.declared.Rel.TheVariants.{Overlap, Before, After}
use Rattle.packing_terms.specs.declared.Exclusion.{Exclusion}
use Rattle.packing_terms.specs.Packing.{PlainInstance, dims, box_count}
use Rattle.packing_terms.specs.Exclusions.{excludes}
use Rattle.packing_terms.specs.Rules.{Rule}
use Rattle.packing_terms.specs.Tokens.{PlainToken}
use Rattle.packing_terms.specs.Tokens.PlainToken.{Apart, Order}
use Rattle.packing_terms.specs.Refutation.{exclusion_in_text, IsNamed}
use Rattle.packing_terms.specs.Applied.{Extends}
use Rattle.packing_terms.specs.Steps.{with_exclusion}
use Rattle.edge_state.specs.Edges.{PlainEdges, oldest}
use Rattle.edge_state.proofs.Oldest.{oldest_grown, oldest_all}
use Rattle.verdict_terms.specs.Steps.{PlainStep}
use Rattle.verdict_terms.specs.Steps.PlainStep.{Plain}
use Rattle.verdict_terms.specs.Explaining.{Explains, after_rule, by_apart, by_order}
use Rattle.verdict_terms.specs.Stepping.{StepsTo, lines_of_all}
use Rattle.verdict_terms.proofs.Few.{edge_of}
use Rattle.verdict_terms.proofs.Stepped.{steps_explain, steps_derived}
use Rattle.line_proofs.specs.Boxed.{Grows}
use Rattle.line_proofs.proofs.ChainBoxes.{grows_with}
use Rattle.line_proofs.proofs.Lined.{grows_none, grows_then, grows_rule}
use Rattle.refutation_steps.specs.declared.pending.Pending.{Pending}
use Rattle.refutation_steps.specs.Goes.{Goes}
use Rattle.refutation_steps.specs.Nodes.{IsEnd, IsDrawn, IsAwaited, AreAwaiting, held_of, entered, with_some, IsAtAmong}
use Rattle.refutation_steps.specs.Nodes.{ExplainsEach, LeadsOn, IsWalking, IsAtNode}
use Rattle.refutation_steps.proofs.Drawn.{longer, derived_on, node_case, may_part, may_order, child_drawn, IsApartCase}
use Rattle.refutation_steps.proofs.Drawn.{IsOrderCase}

-- ---- lists that grow

pub steps_grow : (instance : PlainInstance) (rules : List Rule) (es fs : List Exclusion) → StepsTo instance es rules fs
    → Grows es fs
steps_grow instance [] es fs h = subst (λ (l : List Exclusion). Grows es l) h (grows_none es)
steps_grow instance (rule ∷ rules) es fs h =
    grows_then es (after_rule es rule) fs (grows_rule es rule) (steps_grow instance rules (after_rule es rule) fs h.1)

pub extends_grow : (instance : PlainInstance) (old new : List Exclusion) → Extends instance old new → Grows old new
extends_grow instance old new x = record { more = x.more; grown = x.grown }

some_grows : (es : List Exclusion) (o : Option Exclusion) → Grows es (with_some es o)
some_grows es None = grows_none es
some_grows es (Some e) = grows_with es e

entered_grows : (p : Pending) (es : List Exclusion) → Grows es (entered p es)
entered_grows p es = grows_then es (with_some es p.second) (entered p es) (some_grows es p.second)
    (some_grows (with_some es p.second) p.first)

module _ (instance : PlainInstance) where
  -- ---- nodes that wait

  pub awaiting_on : (G G' H H' : List Exclusion) (ps : List Pending) (z : List PlainToken) → Grows G G' → Grows H H'
      → AreAwaiting instance G H ps z → AreAwaiting instance G' H' ps z
  awaiting_on G G' H H' [] z g h a = a
  awaiting_on G G' H H' (p ∷ ps) z g h a = (
    (let k = a.0 in let l = longer G G' g in omega (arith, k, l)),
    (let k = a.1 in let l = longer H H' h in omega (arith, k, l)),
    subst (λ (L : List Exclusion). IsAwaited instance L (oldest p.held H') p
        (AreAwaiting instance L (oldest p.held H') ps) z) (sym (oldest_grown g.more G G' p.given g.grown a.0))
        (subst (λ (M : List Exclusion). IsAwaited instance (oldest p.given G) M p
        (AreAwaiting instance (oldest p.given G) M ps) z) (sym (oldest_grown h.more H H' p.held h.grown a.1)) a.2),
  )

  pub held_on : (G H H' : List Exclusion) (ps : List Pending) (z : List PlainToken) → Grows H H'
      → AreAwaiting instance G H ps z → held_of H' ps ≡ held_of H ps
  held_on G H H' [] z h a = refl
  held_on G H H' (p ∷ ps) z h a = ap (λ (M : List Exclusion). entered p M ∷ held_of M ps)
      (oldest_grown h.more H H' p.held h.grown a.1)

  -- the next node is entered
  pub enters : (G H : List Exclusion) (p : Pending) (ps : List Pending) (lines : List PlainStep) (z : List PlainToken)
      → IsWalking instance G H (p ∷ ps) lines z
      → IsAtNode instance (entered p (oldest p.given G)) (entered p (oldest p.held H)) p.closed ps lines z
  enters G H p ps lines z w = record {
    es = n.es;
    own = n.own;
    others = n.others;
    parts = n.parts;
    opened = n.opened;
    rest = awaiting_on L (entered p L) M (entered p M) ps n.others (entered_grows p L) (entered_grows p M) n.after;
    leads = subst (λ (k : List (List Exclusion)). LeadsOn instance (entered p M ∷ k) lines)
        (sym (held_on L M (entered p M) ps n.others (entered_grows p M) n.after)) w.leads;
  }
    where
      L : List Exclusion
      L = oldest p.given G

      M : List Exclusion
      M = oldest p.held H

      n : IsAwaited instance L M p (AreAwaiting instance L M ps) z
      n = w.awaits.2

  -- ---- steps at a node

  pub node_on : (G G' : List Exclusion) (closed : Option ℕ) (a b : PlainEdges) (mark : ℕ) (ps : List Pending)
      (x y : List PlainStep) (z : List PlainToken)
      → IsAtNode instance G a.trail closed ps x z → Extends instance G G' → Goes instance a b x y
      → IsEnd instance G' b.trail (Some mark)
      → IsAtNode instance G' b.trail (Some mark) ps y z
  node_on G G' closed a b mark ps x y z n e g end = record {
    es = n.es;
    own = n.own;
    others = n.others;
    parts = n.parts;
    opened = record {
      refutes = n.opened.refutes;
      drawn = record {
        given_all = λ i u v r k. e.kept i u v r (d.given_all i u v r k);
        held_all = end.2;
        given_derived = derived_on instance n.es G G' e d.given_derived;
        held_derived = steps_derived instance (excludes n.es) g.rules a.trail b.trail g.steps d.held_derived;
        known = end.1;
      };
    };
    rest = awaiting_on G G' a.trail b.trail ps n.others (extends_grow instance G G' e) grows n.rest;
    leads = λ more h. subst (λ (l : List PlainStep). Explains instance [] l) (joined more)
        (n.leads (lines_of_all g.rules ++ more) (first more h));
  }
    where
      d : IsDrawn instance n.es G a.trail closed
      d = n.opened.drawn

      grows : Grows a.trail b.trail
      grows = steps_grow instance g.rules a.trail b.trail g.steps

      joined : (more : List PlainStep) → x ++ (lines_of_all g.rules ++ more) ≡ y ++ more
      joined more = sym (append_assoc x (lines_of_all g.rules) more) ∙ ap (λ (l : List PlainStep). l ++ more)
          (sym g.lines)

      first : (more : List PlainStep) → ExplainsEach instance (b.trail ∷ held_of b.trail ps) more
          → ExplainsEach instance (a.trail ∷ held_of a.trail ps) (lines_of_all g.rules ++ more)
      first more h = record {
        own = lines_of_all g.rules ++ h.own;
        others = h.others;
        parts = ap (λ (l : List PlainStep). lines_of_all g.rules ++ l) h.parts ∙
            sym (append_assoc (lines_of_all g.rules) h.own h.others);
        explains = steps_explain instance g.rules a.trail b.trail h.own g.steps h.explains;
        after = subst (λ (k : List (List Exclusion)). ExplainsEach instance k h.others)
            (held_on G a.trail b.trail ps n.others grows n.rest) h.after;
      }

  -- a leaf after steps
  pub leaf_after : (G G' : List Exclusion) (closed : Option ℕ) (a b : PlainEdges) (ps : List Pending)
      (x y lines : List PlainStep) (z : List PlainToken) (t : PlainToken) (s : PlainStep)
      → (n : IsAtNode instance G a.trail closed ps x (t ∷ z)) → z ≡ n.others → Extends instance G G'
      → Goes instance a b x y → Explains instance b.trail (s ∷ [])
      → lines ≡ y ++ s ∷ [] → IsWalking instance G' b.trail ps lines z
  leaf_after G G' closed a b ps x y lines z t s n same e g leaf eq = record {
    awaits = subst (λ (k : List PlainToken). AreAwaiting instance G' b.trail ps k) (sym same)
        (awaiting_on G G' a.trail b.trail ps n.others (extends_grow instance G G' e) grows n.rest);
    leads = λ more h. subst (λ (l : List PlainStep). Explains instance [] l) (joined more)
        (n.leads (lines_of_all g.rules ++ (s ∷ more)) (first more h));
  }
    where
      grows : Grows a.trail b.trail
      grows = steps_grow instance g.rules a.trail b.trail g.steps

      joined : (more : List PlainStep) → x ++ (lines_of_all g.rules ++ (s ∷ more)) ≡ lines ++ more
      joined more =
          sym (append_assoc x (lines_of_all g.rules) (s ∷ more))
          ∙ (ap (λ (l : List PlainStep). l ++ s ∷ more) (sym g.lines)
          ∙ (sym (append_assoc y (s ∷ []) more) ∙ ap (λ (l : List PlainStep). l ++ more) (sym eq)))

      first : (more : List PlainStep) → ExplainsEach instance (held_of b.trail ps) more
          → ExplainsEach instance (a.trail ∷ held_of a.trail ps) (lines_of_all g.rules ++ (s ∷ more))
      first more h = record {
        own = lines_of_all g.rules ++ s ∷ [];
        others = more;
        parts = sym (append_assoc (lines_of_all g.rules) (s ∷ []) more);
        explains = steps_explain instance g.rules a.trail b.trail (s ∷ []) g.steps leaf;
        after = subst (λ (k : List (List Exclusion)). ExplainsEach instance k more)
            (held_on G a.trail b.trail ps n.others grows n.rest) h;
      }

  -- ---- splits

  edge_named : (i u v : ℕ) (r : Rel) → IsNamed instance i u v
      → IsAtAmong (dims instance) (box_count instance) (Some (exclusion_in_text i u v r))
  edge_named i u v r h = edge_of instance i u v h

  module _ (G H : List Exclusion) (ps : List Pending) (near far : Pending) (near_given : near.given ≡ length G)
      (near_held : near.held ≡ length H)
      (far_given : far.given ≡ length G) (far_held : far.held ≡ length H) where
    pub held_split : held_of H (near ∷ far ∷ ps) ≡ entered near H ∷ entered far H ∷ held_of H ps
    held_split =
        ap (λ (M : List Exclusion). entered near M ∷ held_of M (far ∷ ps)) (oldest_all H near.held near_held)
        ∙ ap (λ (M : List Exclusion). entered near H ∷ (entered far M ∷ held_of M ps)) (oldest_all H far.held far_held)

    pub awaits_split : (z : List PlainToken)
        → IsAwaited instance G H near (λ (k : List PlainToken). IsAwaited instance G H far (AreAwaiting instance G H ps)
        k) z
        → AreAwaiting instance G H (near ∷ far ∷ ps) z
    awaits_split z n = (
      omega (arith, near_given),
      omega (arith, near_held),
      subst (λ (L : List Exclusion). IsAwaited instance L (oldest near.held H) near
          (AreAwaiting instance L (oldest near.held H) (far ∷ ps)) z) (sym (oldest_all G near.given near_given))
          (subst (λ (M : List Exclusion). IsAwaited instance G M near (AreAwaiting instance G M (far ∷ ps)) z)
          (sym (oldest_all H near.held near_held))
          (record {
            es = n.es;
            own = n.own;
            others = n.others;
            parts = n.parts;
            opened = n.opened;
            first =
                n.first;
            second = n.second;
            after = behind n.others n.after;
          })),
    )
      where
        behind : (k : List PlainToken) → IsAwaited instance G H far (AreAwaiting instance G H ps) k
            → AreAwaiting instance G H (far ∷ ps) k
        behind k m = (
          omega (arith, far_given),
          omega (arith, far_held),
          subst (λ (L : List Exclusion). IsAwaited instance L (oldest far.held H) far
              (AreAwaiting instance L (oldest far.held H) ps) k) (sym (oldest_all G far.given far_given))
              (subst (λ (M : List Exclusion). IsAwaited instance G M far (AreAwaiting instance G M ps) k)
              (sym (oldest_all H far.held far_held)) m),
        )

  -- the lines of a split, before those of its children
  split_leads : (ess : List (List Exclusion)) (H N F : List Exclusion) (x lines : List PlainStep) (s : PlainStep)
      → ((l r : List PlainStep) → Explains instance N l → Explains instance F r → Explains instance H (s ∷ (l ++ r)))
      → LeadsOn instance (H ∷ ess) x → lines ≡ x ++ s ∷ [] → LeadsOn instance (N ∷ F ∷ ess) lines
  split_leads ess H N F x lines s by leads eq more h =
      subst (λ (l : List PlainStep). Explains instance [] l)
      (sym (append_assoc x (s ∷ []) more) ∙ ap (λ (l : List PlainStep). l ++ more) (sym eq))
      (leads (s ∷ more) (record {
        own = s ∷ (h.own ++ h.after.own);
        others = h.after.others;
        parts = ap (λ (l : List PlainStep). s ∷ l)
            (h.parts ∙ (ap (λ (l : List PlainStep). h.own ++ l) h.after.parts ∙
            sym (append_assoc h.own h.after.own h.after.others)));
        explains = by h.own h.after.own h.explains h.after.explains;
        after = h.after.after;
      }))

  abbrev child : List Exclusion → List Exclusion → ℕ → Exclusion → Option Exclusion → Pending
  child G H mark first second = record {
    given = length G;
    held = length H;
    closed = Some mark;
    first =
        Some first;
    second = second;
  }

  pub apart_split : (G H : List Exclusion) (mark : ℕ) (ps qs : List Pending) (x lines : List PlainStep)
      (z : List PlainToken) (i u v : ℕ)
      → IsAtNode instance G H (Some mark) ps x (Apart i u v ∷ z)
      → qs ≡ child G H mark (exclusion_in_text i u v Overlap) None ∷ child G H mark (exclusion_in_text i u v Before)
      (Some (exclusion_in_text i u v After)) ∷ ps
      → lines ≡ x ++ Plain (Apart i u v) ∷ [] → IsWalking instance G H qs lines z
  apart_split G H mark ps qs x lines z i u v n eq le =
      subst (λ (k : List Pending). IsWalking instance G H k lines z) (sym eq) (record {
        awaits = awaits_split G H ps near far refl refl refl refl z (record {
          es = overlap ∷ n.es;
          own = k.l;
          others = k.r ++ n.others;
          parts = k.parts ∙ append_assoc k.l k.r n.others;
          opened = record { refutes = k.near; drawn = child_drawn instance n.es G H mark overlap n.opened.drawn };
          first = edge_named i u v Overlap k.may.named;
          second = tt;
          after = record {
            es = before ∷ after ∷ n.es;
            own = k.r;
            others = n.others;
            parts = refl;
            opened = record {
              refutes = k.far;
              drawn =
                  child_drawn instance (after ∷ n.es) (with_exclusion G after) (with_exclusion H after) mark before
                  (child_drawn instance n.es G H mark after n.opened.drawn);
            };
            first = edge_named i u v Before k.may.named;
            second = edge_named i u v After k.may.named;
            after = n.rest;
          };
        });
        leads = subst (λ (k : List (List Exclusion)). LeadsOn instance k lines)
            (sym (held_split G H ps near far refl refl refl refl))
            (split_leads (held_of H ps) H (entered near H) (entered far H) x lines (Plain (Apart i u v))
            (λ l r a b. by_apart (may_part instance n.es H i u v n.opened.drawn.held_derived k.may) refl a b) n.leads
            le);
      })
    where
      k : IsApartCase instance n.es n.others z i u v
      k = node_case instance n.opened.refutes n.others z (Apart i u v) n.parts

      overlap : Exclusion
      overlap = exclusion_in_text i u v Overlap

      before : Exclusion
      before = exclusion_in_text i u v Before

      after : Exclusion
      after = exclusion_in_text i u v After

      near : Pending
      near = child G H mark overlap None

      far : Pending
      far = child G H mark before (Some after)

  pub order_split : (G H : List Exclusion) (mark : ℕ) (ps qs : List Pending) (x lines : List PlainStep)
      (z : List PlainToken) (i u v : ℕ)
      → IsEnd instance G H (Some mark) → IsAtNode instance G H (Some mark) ps x (Order i u v ∷ z)
      → qs ≡ child G H mark (exclusion_in_text i u v After) None ∷ child G H mark (exclusion_in_text i u v Before) None
      ∷ ps
      → lines ≡ x ++ Plain (Order i u v) ∷ [] → IsWalking instance G H qs lines z
  order_split G H mark ps qs x lines z i u v end n eq le =
      subst (λ (k : List Pending). IsWalking instance G H k lines z) (sym eq) (record {
        awaits = awaits_split G H ps near far refl refl refl refl z (record {
          es = after ∷ n.es;
          own = k.l;
          others = k.r ++ n.others;
          parts = k.parts ∙ append_assoc k.l k.r n.others;
          opened = record { refutes = k.near; drawn = child_drawn instance n.es G H mark after n.opened.drawn };
          first = edge_named i u v After k.may.named;
          second = tt;
          after = record {
            es = before ∷ n.es;
            own = k.r;
            others = n.others;
            parts = refl;
            opened = record { refutes = k.far; drawn = child_drawn instance n.es G H mark before n.opened.drawn };
            first = edge_named i u v Before k.may.named;
            second = tt;
            after = n.rest;
          };
        });
        leads = subst (λ (k : List (List Exclusion)). LeadsOn instance k lines)
            (sym (held_split G H ps near far refl refl refl refl))
            (split_leads (held_of H ps) H (entered near H) (entered far H) x lines (Plain (Order i u v))
            (λ l r a b. by_order (may_order instance n.es G H mark i u v n.opened.drawn.given_all end
            n.opened.drawn.held_derived k.may) refl a b) n.leads le);
      })
    where
      k : IsOrderCase instance n.es n.others z i u v
      k = node_case instance n.opened.refutes n.others z (Order i u v) n.parts

      before : Exclusion
      before = exclusion_in_text i u v Before

      after : Exclusion
      after = exclusion_in_text i u v After

      near : Pending
      near = child G H mark after None

      far : Pending
      far = child G H mark before None
