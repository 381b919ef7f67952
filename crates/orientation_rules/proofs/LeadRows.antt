-- Rows of successors.
use Rattle.std.proofs.Common.{◌≡◌, ◌≢◌, ℕ, ◌<◌, ◌≤◌, ◌⊎◌, inl, inr, arith, slice_index, refl, sym, ap, subst, ◌∙◌, Bool}
use Rattle.std.proofs.Common.{true, false, not, ◌&&◌, eqb, ltb, List}
use Rattle.std.proofs.lemmas.Bool.{true≢false, cases_Bool, and_parts, ltb-true, eqb-true, eq-eqb}
use Rattle.packing_terms.specs.declared.Rel.{Rel}
use Rattle.packing_terms.specs.declared.Rel.TheVariants.{Overlap, Before, After}
use Rattle.packing_terms.specs.declared.Exclusion.{Exclusion}
use Rattle.packing_terms.specs.Exclusions.{Exclusions, excludes}
use Rattle.packing_terms.proofs.Sets.{excludes_symmetric}
use Rattle.packing_terms.specs.declared.Direction.TheVariants.{Forwards, Backwards}
use Rattle.packing_terms.specs.Runs.{Leads, HasNoHeavierRun, IsOneWay}
use Rattle.edge_state.specs.Edges.{is_other_box}
use Rattle.edge_state.proofs.Kept.{row_open, row_shut}
use Rattle.orientation_rules.specs.Weights.{OthersStay}

minus_of : (a b : Bool) → (a && not b) ≡ false → b ≡ false → a ≡ false
minus_of false b h e = refl
minus_of true true h e = absurd (true≢false e)
minus_of true false h e = absurd (true≢false h)

-- a member of the row is a box
pub alone_within : (n u v : ℕ) (a x o b m e : Bool) → a ≡ is_other_box n u v && x → m ≡ a && not o → e ≡ m && not b
    → e ≡ true → v < n
alone_within n u v a x o b m e ha hm he on =
    ltb-true v n (and_parts _ _ (and_parts _ _
    (sym ha ∙ (and_parts _ _ (sym hm ∙ (and_parts _ _ (sym he ∙ on)).0)).0)).0).0

none_of : (n i u v : ℕ) (X : Exclusions) (r : Rel) (b : Bool) → b ≡ is_other_box n u v && not (X i u v r)
    → X i u v r ≡ true → b ≡ false
none_of n i u v X r true e h = absurd (true≢false (sym h ∙ row_open n i u v X r true e refl))
none_of n i u v X r false e h = refl

-- where a box isn't in the row and two relations to it are excluded, the third is too
pub alone_other : (n i u v : ℕ) (X : Exclusions) (ahead behind : Rel) (a o b m e : Bool) → v < n → u ≢ v
    → a ≡ is_other_box n u v && not (X i u v ahead)
    → o ≡ is_other_box n u v && not (X i u v Overlap) → b ≡ is_other_box n u v && not (X i u v behind) → m ≡ a && not o
    → e ≡ m && not b → e ≡ false
    → X i u v Overlap ≡ true → X i u v behind ≡ true → X i u v ahead ≡ true
alone_other n i u v X ahead behind a o b m e small ne ha ho hb hm he off f g =
    let inner : m ≡ false = minus_of m b (sym he ∙ off) (none_of n i u v X behind b hb g) in
    row_shut n i u v X ahead a small ne ha (minus_of a o (sym hm ∙ inner) (none_of n i u v X Overlap o ho f))

-- to a member of the row the other two relations are excluded
pub alone_leads : (n i u v : ℕ) (X : Exclusions) (behind : Rel) (x : Bool) (a o b m e : Bool)
    → a ≡ is_other_box n u v && x
    → o ≡ is_other_box n u v && not (X i u v Overlap) → b ≡ is_other_box n u v && not (X i u v behind) → m ≡ a && not o
    → e ≡ m && not b → e ≡ true
    → (u ≡ v → ⊥) × (X i u v Overlap ≡ true) × (X i u v behind ≡ true)
alone_leads n i u v X behind x a o b m e ha ho hb hm he on =
    let outer = and_parts _ _ (sym he ∙ on) in
    let inner = and_parts _ _ (sym hm ∙ outer.0) in
    let other : is_other_box n u v ≡ true = (and_parts _ _ (sym ha ∙ inner.0)).0 in (
      distinct other,
      shut (X i u v Overlap) o other ho (not_of o inner.1),
      shut (X i u v behind) b other hb (not_of b outer.1),
    )
  where
    not_of : (t : Bool) → not t ≡ true → t ≡ false
    not_of false h = refl
    not_of true h = absurd (true≢false (sym h))

    distinct : is_other_box n u v ≡ true → u ≡ v → ⊥
    distinct h e = true≢false (sym (eq-eqb v u (sym e)) ∙ not_of (eqb v u) (and_parts (ltb v n) (not (eqb v u)) h).1)

    shut : (t s : Bool) → is_other_box n u v ≡ true → s ≡ is_other_box n u v && not t → s ≡ false → t ≡ true
    shut true s h e f = refl
    shut false s h e f = absurd (true≢false (sym (sym f ∙ e ∙ ap (λ z. z && true) h)))

-- where the third relation is excluded with the other two, what leads on leads both ways
pub led_on : (es : List Exclusion) (i v x : ℕ)
    → (excludes es i v x Overlap ≡ true → excludes es i v x After ≡ true → excludes es i v x Before ≡ true)
    → Leads (excludes es) i Forwards v x → Leads (excludes es) i Forwards x v
led_on es i v x third lead = (
  excludes_symmetric es i v x Overlap lead.0,
  excludes_symmetric es i v x Before (third lead.0 lead.1),
)

pub led_back : (es : List Exclusion) (i v x : ℕ)
    → (excludes es i v x Overlap ≡ true → excludes es i v x Before ≡ true → excludes es i v x After ≡ true)
    → Leads (excludes es) i Backwards v x → Leads (excludes es) i Backwards x v
led_back es i v x third lead =
    let near = excludes_symmetric es i x v Overlap lead.0 in
    (near, third near (excludes_symmetric es i x v After lead.1))

-- what the two excluded relations say, read backwards
pub leads_back : (es : List Exclusion) (i v x : ℕ) → excludes es i v x Overlap ≡ true → excludes es i v x Before ≡ true
    → Leads (excludes es) i Backwards v x
leads_back es i v x near behind = (excludes_symmetric es i v x Overlap near, excludes_symmetric es i v x Before behind)

-- where one number rises and the others stay, it is still settled beside the boxes that it was settled beside
pub settled_more : (R : ℕ → ℕ → Type 0) (w : ℕ → ℕ) (b c : List ℕ) (v x : ℕ) → OthersStay v b c
    → slice_index b v ≤ slice_index c v → HasNoHeavierRun R w b v x
    → HasNoHeavierRun R w c v x
settled_more R w b c v x stay grows s =
    record {
      below = λ ne lead. (let h = s.below ne lead in let e = stay x (λ q. ne (sym q)) in
          omega (arith, h, e, grows));
    }

-- one box less of a row is left to be settled
pub settled_along : (R : ℕ → ℕ → Type 0) (w : ℕ → ℕ) (b c : List ℕ) (v y : ℕ) (row before after : ℕ → Bool)
    → ((x : ℕ) → after x ≡ before x && not (eqb x y)) → OthersStay v b c → slice_index b v ≤ slice_index c v
    → ((x : ℕ) → row x ≡ true → before x ≡ false → HasNoHeavierRun R w b v x) → HasNoHeavierRun R w c v y
    → (x : ℕ) → row x ≡ true → after x ≡ false → HasNoHeavierRun R w c v x
settled_along R w b c v y row before after less stay grows settled here x member off = go (cases_Bool (eqb x y))
  where
    go : (eqb x y ≡ true) ⊎ (eqb x y ≡ false) → HasNoHeavierRun R w c v x
    go (inl k) = subst (λ (z : ℕ). HasNoHeavierRun R w c v z) (sym (eqb-true x y k)) here
    go (inr k) = settled_more R w b c v x stay grows
        (settled x member (minus_of (before x) (eqb x y) (sym (less x) ∙ off) k))

-- where no two boxes lead both ways, a box that would do so isn't led to
pub unled : (n : ℕ) (R : ℕ → ℕ → Type 0) (w : ℕ → ℕ) (ks : List ℕ) (v x : ℕ) → IsOneWay n R → v < n → x < n
    → (v ≢ x → R v x → R x v) → HasNoHeavierRun R w ks v x
unled n R w ks v x one_way hv hx both =
    record { below = λ ne lead. absurd (one_way v x (hv, (ne, tt), (hx, tt, tt)) lead (both ne lead)) }

-- a box that is settled beside the boxes of its row is settled beside all
pub led_settled : (n : ℕ) (R : ℕ → ℕ → Type 0) (w : ℕ → ℕ) (ks : List ℕ) (v : ℕ) (row : ℕ → Bool) → IsOneWay n R → v < n
    → ((x : ℕ) → row x ≡ true → HasNoHeavierRun R w ks v x)
    → ((x : ℕ) → x < n → (v ≡ x → ⊥) → row x ≡ false → R v x → R x v)
    → (x : ℕ) → x < n → HasNoHeavierRun R w ks v x
led_settled n R w ks v row one_way hv members others x small = go (cases_Bool (row x))
  where
    go : (row x ≡ true) ⊎ (row x ≡ false) → HasNoHeavierRun R w ks v x
    go (inl on) = members x on
    go (inr off) = unled n R w ks v x one_way hv small (λ ne lead. others x small ne off lead)

pub least_trans : (a b c : ℕ) → a ≤ b → b ≤ c → a ≤ c
least_trans a b c e f = omega (arith, e, f)
