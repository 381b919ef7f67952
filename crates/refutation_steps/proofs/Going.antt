-- Steps one after another.
use Rattle.std.proofs.Common.{◌≡◌, ◌<◌, Result, Ok, Err, OnOk, IfOk, ℕ, ◌⊎◌, inl, inr, refl, sym, ap, subst, ◌∙◌, true}
use Rattle.std.proofs.Common.{false, Bool, List, [], ◌∷◌, ◌++◌, append_assoc, append-nil, IsTrue, if◌then◌else◌}
use Rattle.std.proofs.lemmas.Bool.{true≢false, cases_Bool, and_parts}
use Rattle.packing_terms.specs.declared.Exclusion.{Exclusion}
use Rattle.packing_terms.specs.Packing.{PlainInstance, dims, box_count}
use Rattle.packing_terms.specs.Exclusions.{excludes}
use Rattle.packing_terms.specs.Rules.{Rule, AreBoxesAmong, IsRuleInstance, dim_of, first_of, second_of}
use Rattle.packing_terms.specs.Closure.{IsSubset}
use Rattle.packing_terms.specs.Applied.{added}
use Rattle.edge_state.specs.Edges.{PlainEdges}
use Rattle.verdict_terms.specs.Steps.{PlainStep, lines_of}
use Rattle.verdict_terms.specs.Explaining.{after_rule}
use Rattle.verdict_terms.specs.Stepping.{lines_of_all}
use Rattle.verdict_terms.proofs.Leaves.{applied, step_by, step_changes}
use Rattle.verdict_terms.proofs.Tests.{premises_test, premises_from}
use Rattle.verdict_terms.proofs.Stepped.{steps_then, steps_keep}
use Rattle.line_proofs.specs.Taken.{IsRuleTaken}
use Rattle.refutation_steps.specs.Goes.{Goes, IsThere, Gives, IsTried, IsStepped}

-- the lines of rules after rules
pub lines_joined : (a b : List Rule) → lines_of_all (a ++ b) ≡ lines_of_all a ++ lines_of_all b
lines_joined [] b = refl
lines_joined (rule ∷ a) b = ap (λ l. lines_of rule ++ l) (lines_joined a b) ∙
    sym (append_assoc (lines_of rule) (lines_of_all a) (lines_of_all b))

module _ (instance : PlainInstance) where
  pub goes_nowhere : (s : PlainEdges) (x : List PlainStep) → Goes instance s s x x
  goes_nowhere s x = record { rules = []; steps = refl; sizes = refl; lines = sym (append-nil x) }

  pub goes_on : (a b c : PlainEdges) (x y z : List PlainStep) → Goes instance a b x y → Goes instance b c y z
      → Goes instance a c x z
  goes_on a b c x y z g h = record {
    rules = g.rules ++ h.rules;
    steps = steps_then instance g.rules a.trail b.trail h.rules c.trail g.steps h.steps;
    sizes = h.sizes ∙ ap (λ (s : PlainEdges). record s { trail = c.trail }) g.sizes;
    lines = h.lines ∙ (ap (λ l. l ++ lines_of_all h.rules) g.lines ∙
        (append_assoc x (lines_of_all g.rules) (lines_of_all h.rules) ∙ ap (λ l. x ++ l)
        (sym (lines_joined g.rules h.rules))));
  }

  pub goes_keeps : (a b : PlainEdges) (x y : List PlainStep) → Goes instance a b x y
      → IsSubset (excludes a.trail) (excludes b.trail)
  goes_keeps a b x y g = steps_keep instance g.rules a.trail b.trail g.steps

  pub stepped : (old new : PlainEdges) (rule : Rule) (taken : Bool) (x y : List PlainStep)
      → IsRuleInstance instance rule → IsRuleTaken instance old new rule taken
      → y ≡ (if taken then x ++ lines_of rule else x) → IsStepped instance old new x y rule
  stepped old new rule true x y is t e =
      let parts = and_parts _ _ (sym t.told) in
      let there : (f : Exclusion) → IsTried instance old new rule f
      = λ f g. subst (λ (s : PlainEdges). IsThere s.trail f) (sym t.state) (at_place f g)
      in
      record {
        goes = record {
          rules = rule ∷ [];
          steps = (
            step_by instance old.trail rule is (premises_from instance (excludes old.trail) rule parts.0)
                parts.1,
            ap (λ (s : PlainEdges). s.trail) (sym t.state),
          );
          sizes = t.state ∙ ap (λ (l : List Exclusion). record old { trail = l })
              (ap (λ (s : PlainEdges). s.trail) (sym t.state));
          lines = e ∙ ap (λ l. x ++ l) (sym (append-nil (lines_of rule)));
        };
        tried = there;
      }
    where
      at_place : (f : Exclusion) → Gives instance (excludes old.trail) rule f → IsThere (after_rule old.trail rule) f
      at_place f g =
          subst (λ (i : ℕ). IsTrue (excludes (after_rule old.trail rule) i f.u f.v f.rel)) g.dim
          (subst (λ (u : ℕ). IsTrue (excludes (after_rule old.trail rule) (dim_of rule) u f.v f.rel)) g.first
          (subst (λ (v : ℕ). IsTrue (excludes (after_rule old.trail rule) (dim_of rule) (first_of rule) v f.rel))
          g.second
          (((applied instance old.trail rule g.is g.premises).exact (dim_of rule) (first_of rule) (second_of rule)
          f.rel).1 (inr (added f.rel g.is g.premises g.concluded)))))
  stepped old new rule false x y is t e =
      record {
        goes = record {
          rules = [];
          steps = ap (λ (s : PlainEdges). s.trail) (sym t.state);
          sizes =
              t.state ∙ ap (λ (l : List Exclusion). record old { trail = l })
              (ap (λ (s : PlainEdges). s.trail) (sym t.state));
          lines = e ∙ sym (append-nil x);
        };
        tried = λ f g. subst (λ (s : PlainEdges). IsThere s.trail f) (sym t.state) (at_place f g);
      }
    where
      at_place : (f : Exclusion) → Gives instance (excludes old.trail) rule f → IsThere old.trail f
      at_place f g =
          subst (λ (i : ℕ). IsTrue (excludes old.trail i f.u f.v f.rel)) g.dim
          (subst (λ (u : ℕ). IsTrue (excludes old.trail (dim_of rule) u f.v f.rel)) g.first
          (subst (λ (v : ℕ). IsTrue (excludes old.trail (dim_of rule) (first_of rule) v f.rel)) g.second
          (go (cases_Bool (excludes old.trail (dim_of rule) (first_of rule) (second_of rule) f.rel)))))
        where
          go : (excludes old.trail (dim_of rule) (first_of rule) (second_of rule) f.rel ≡ true) ⊎
              (excludes old.trail (dim_of rule) (first_of rule) (second_of rule) f.rel ≡ false)
              → IsTrue (excludes old.trail (dim_of rule) (first_of rule) (second_of rule) f.rel)
          go (inl k) = k
          go (inr k) =
              let change = step_changes instance old.trail rule
              (record { is = g.is; premises = g.premises; rel = f.rel; concluded = g.concluded; fresh = k }) in
              let holds = premises_test instance (excludes old.trail) rule g.premises in
              absurd (true≢false (sym (t.told ∙ rw (holds, change) refl)))

pub on_ok : {A E : Type 0} {P Q : Type 0} (r : Result A E) → (P → Q) → OnOk r P → OnOk r Q
on_ok (Ok a) f p = f p
on_ok (Err e) f p = tt

pub if_ok : {A E : Type 0} {P Q : A → Type 0} (r : Result A E) → ((a : A) → P a → Q a) → IfOk r P → IfOk r Q
if_ok (Ok a) f p = f a p
if_ok (Err e) f p = tt

pub instance_of : (instance : PlainInstance) (s : PlainEdges) (i : ℕ) (vs : List ℕ) → s.dims ≡ dims instance
    → s.boxes ≡ box_count instance → i < s.dims → AreBoxesAmong s.boxes vs
    → (i < dims instance) × AreBoxesAmong (box_count instance) vs
instance_of instance s i vs d n h b = (subst (λ (k : ℕ). i < k) d h, subst (λ (k : ℕ). AreBoxesAmong k vs) n b)
