-- Rows as filters: the members of a row are looked at one after another, and what isn't one is covered.
use Rattle.std.proofs.Common.{◌≡◌, ℕ, ◌<◌, ◌⊎◌, inl, inr, refl, sym, subst, ◌∙◌, Bool, true, false, not, ◌&&◌, eqb}
use Rattle.std.proofs.Common.{List}
use Rattle.std.proofs.lemmas.Bool.{cases_Bool, eqb-true}
use Rattle.packing_terms.specs.declared.Exclusion.{Exclusion}
use Rattle.packing_terms.specs.Packing.{PlainInstance}
use Rattle.packing_terms.specs.Exclusions.{excludes}
use Rattle.packing_terms.specs.Rules.{Rule}
use Rattle.edge_state.specs.Edges.{PlainEdges}
use Rattle.edge_state.specs.Work.{IsCovered, HasApplied}
use Rattle.edge_state.specs.Passes.{IsPass}
use Rattle.edge_state.proofs.Passes.{IsKept, pass_then, pass_as}
use Rattle.edge_state.proofs.Worked.{worked_none, worked_then, worked_as}

pub both_on : (a b : Bool) → b ≡ true → (a && b) ≡ false → a ≡ false
both_on true b e h = sym e ∙ h
both_on false b e h = refl

-- one box less of a row
pub worked_row : (instance : PlainInstance) (a b c : PlainEdges) (lost : Bool) (n y : ℕ) (before after : ℕ → Bool)
    (P : ℕ → Rule → Type 0)
    → ((x : ℕ) → after x ≡ before x && not (eqb x y))
    → HasApplied instance a b false (λ rule. (x : ℕ) × (x < n) × (before x ≡ false) × P x rule)
    → HasApplied instance b c lost (P y)
    → HasApplied instance a c lost (λ rule. (x : ℕ) × (x < n) × (after x ≡ false) × P x rule)
worked_row instance a b c lost n y before after P less h here =
    worked_as instance a c lost (λ rule. ((x : ℕ) × (x < n) × (before x ≡ false) × P x rule) ⊎ P y rule)
    (λ rule. (x : ℕ) × (x < n) × (after x ≡ false) × P x rule)
    (λ rule s. go rule s.0 s.1 (sym (less s.0) ∙ s.2) s.3 (cases_Bool (eqb s.0 y)))
    (worked_then instance a b c lost (λ rule. (x : ℕ) × (x < n) × (before x ≡ false) × P x rule) (P y) h here)
  where
    go : (rule : Rule) (x : ℕ) → x < n → (before x && not (eqb x y)) ≡ false → P x rule
        → (eqb x y ≡ true) ⊎ (eqb x y ≡ false)
        → ((z : ℕ) × (z < n) × (before z ≡ false) × P z rule) ⊎ P y rule
    go rule x l f p (inl k) = let same : x ≡ y = eqb-true x y k in inr (subst (λ (z : ℕ). P z rule) same p)
    go rule x l f p (inr k) = inl (x, l, both_on (before x) (not (eqb x y)) (rw k refl) f, p)

-- before the first member
pub worked_rest : (instance : PlainInstance) (s : PlainEdges) (n : ℕ) (row : ℕ → Bool) (P : ℕ → Rule → Type 0)
    → ((x : ℕ) → x < n → row x ≡ false → (rule : Rule) → P x rule → IsCovered instance (excludes s.trail) s.trail rule)
    → HasApplied instance s s false (λ rule. (x : ℕ) × (x < n) × (row x ≡ false) × P x rule)
worked_rest instance s n row P others =
    worked_none instance s (λ rule. (x : ℕ) × (x < n) × (row x ≡ false) × P x rule)
    (λ rule h. others h.0 h.1 h.2 rule h.3)

-- what is covered, by its name
pub covered_named : (instance : PlainInstance) (es : List Exclusion) (rule named : Rule) → rule ≡ named
    → IsCovered instance (excludes es) es named
    → IsCovered instance (excludes es) es rule
covered_named instance es rule named e h = subst (λ (t : Rule). IsCovered instance (excludes es) es t) (sym e) h

-- behind the last member
pub worked_all : (instance : PlainInstance) (a b : PlainEdges) (n : ℕ) (row : ℕ → Bool) (P : ℕ → Rule → Type 0)
    → ((x : ℕ) → row x ≡ false)
    → HasApplied instance a b false (λ rule. (x : ℕ) × (x < n) × (row x ≡ false) × P x rule)
    → HasApplied instance a b false (λ rule. (x : ℕ) × (x < n) × P x rule)
worked_all instance a b n row P none h =
    worked_as instance a b false (λ rule. (x : ℕ) × (x < n) × (row x ≡ false) × P x rule)
    (λ rule. (x : ℕ) × (x < n) × P x rule)
    (λ rule s. (s.0, s.1, none s.0, s.2)) h

-- the same of passes: one box less of a row
pub pass_row : (instance : PlainInstance) (a b c : PlainEdges) (n y : ℕ) (before after : ℕ → Bool)
    (P : ℕ → List Exclusion → Type 0)
    → ((x : ℕ) → after x ≡ before x && not (eqb x y)) → ((x : ℕ) → IsKept (P x))
    → IsPass instance a b (λ es. (x : ℕ) → x < n → before x ≡ false → P x es) → IsPass instance b c (P y)
    → IsPass instance a c (λ es. (x : ℕ) → x < n → after x ≡ false → P x es)
pass_row instance a b c n y before after P less kept h here =
    pass_as instance a c (λ es. ((x : ℕ) → x < n → before x ≡ false → P x es) × P y es)
    (λ es. (x : ℕ) → x < n → after x ≡ false → P x es)
    (λ es p x l f. go es p x l (sym (less x) ∙ f) (cases_Bool (eqb x y)))
    (pass_then instance a b c (λ es. (x : ℕ) → x < n → before x ≡ false → P x es) (P y)
    (λ es fs more f x l off. kept x es fs more (f x l off)) h here)
  where
    go : (es : List Exclusion) → ((x : ℕ) → x < n → before x ≡ false → P x es) × P y es → (x : ℕ) → x < n
        → (before x && not (eqb x y)) ≡ false
        → (eqb x y ≡ true) ⊎ (eqb x y ≡ false) → P x es
    go es p x l f (inl k) = let same : x ≡ y = eqb-true x y k in subst (λ (z : ℕ). P z es) (sym same) p.1
    go es p x l f (inr k) = p.0 x l (both_on (before x) (not (eqb x y)) (rw k refl) f)

-- behind the last member
pub pass_all : (instance : PlainInstance) (a b : PlainEdges) (n : ℕ) (row : ℕ → Bool) (P : ℕ → List Exclusion → Type 0)
    → ((x : ℕ) → row x ≡ false)
    → IsPass instance a b (λ es. (x : ℕ) → x < n → row x ≡ false → P x es)
    → IsPass instance a b (λ es. (x : ℕ) → x < n → P x es)
pass_all instance a b n row P none h =
    pass_as instance a b (λ es. (x : ℕ) → x < n → row x ≡ false → P x es) (λ es. (x : ℕ) → x < n → P x es)
    (λ es p x l. p x l (none x)) h

-- what holds of each member that was looked at, with one more
pub member_next : (row before after : ℕ → Bool) (y : ℕ) (P : ℕ → Type 0)
    → ((x : ℕ) → after x ≡ before x && not (eqb x y))
    → ((x : ℕ) → row x ≡ true → before x ≡ false → P x) → P y → (x : ℕ) → row x ≡ true → after x ≡ false → P x
member_next row before after y P less h here x on off = go (cases_Bool (eqb x y)) (sym (less x) ∙ off)
  where
    go : (eqb x y ≡ true) ⊎ (eqb x y ≡ false) → (before x && not (eqb x y)) ≡ false → P x
    go (inl k) f = let same : x ≡ y = eqb-true x y k in subst P (sym same) here
    go (inr k) f = h x on (both_on (before x) (not (eqb x y)) (rw k refl) f)

-- where no member and no other box does anything
pub none_worked : (instance : PlainInstance) (s : PlainEdges) (n : ℕ) (row : ℕ → Bool) (Q : ℕ → ℕ → Rule)
    → ((x : ℕ) → row x ≡ true → (y : ℕ) → y < n → IsCovered instance (excludes s.trail) s.trail (Q x y))
    → ((x : ℕ) → x < n → row x ≡ false → (y : ℕ) → IsCovered instance (excludes s.trail) s.trail (Q x y))
    → HasApplied instance s s false (λ rule. (x : ℕ) × (x < n) × ((y : ℕ) × (y < n) × (rule ≡ Q x y)))
none_worked instance s n row Q members others =
    worked_none instance s (λ rule. (x : ℕ) × (x < n) × ((y : ℕ) × (y < n) × (rule ≡ Q x y)))
    (λ rule h. covered_named instance s.trail rule (Q h.0 h.2.0) h.2.2 (go h.0 h.2.0 h.1 h.2.1 (cases_Bool (row h.0))))
  where
    go : (x y : ℕ) → x < n → y < n → (row x ≡ true) ⊎ (row x ≡ false)
        → IsCovered instance (excludes s.trail) s.trail (Q x y)
    go x y hx hy (inl on) = members x on y hy
    go x y hx hy (inr off) = others x hx off y
