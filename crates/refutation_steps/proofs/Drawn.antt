-- A node, the closing of what is given there, and its children.
use Rattle.std.proofs.Common.{◌≡◌, ◌≤◌, ℕ, pred, ◌⊎◌, inl, inr, sym, ap, subst, ◌∙◌, arith, true, false, List, [], ◌∷◌}
use Rattle.std.proofs.Common.{◌++◌, length, Option, Some, None, IsTrue}
use Rattle.std.proofs.lemmas.Bool.{true≢false, cases_Bool}
use Rattle.std.proofs.lemmas.List.{length-append}
use Rattle.packing_terms.specs.declared.Rel.{Rel}
use Rattle.packing_terms.specs.declared.Rel.TheVariants.{Overlap, Before, After}
use Rattle.packing_terms.specs.declared.Exclusion.{Exclusion}
use Rattle.packing_terms.specs.Packing.{PlainInstance}
use Rattle.packing_terms.specs.Exclusions.{Exclusions, excludes, is_of}
use Rattle.packing_terms.specs.Closure.{IsDerivation, IsDerived, HasConflict, IsSubset, IsStable, AreDerived}
use Rattle.packing_terms.specs.Scales.{Exceeds}
use Rattle.packing_terms.specs.Tokens.{PlainToken}
use Rattle.packing_terms.specs.Tokens.PlainToken.{Apart, Order, Rules, TooLarge, Scales, Assign, Choose, SetRefuted}
use Rattle.packing_terms.specs.Tokens.PlainToken.{ValueShort, GlobalScales}
use Rattle.packing_terms.specs.Refutation.{Refutes, by_rules, by_side, by_scales, by_apart, by_order, exclusion_in_text}
use Rattle.packing_terms.specs.Refutation.{IsTooLarge, MaySplitApart, MaySplitOrder, LeavesOpen}
use Rattle.packing_terms.proofs.Sets.{excludes_first, excludes_rest, or_true, excludes_symmetric}
use Rattle.packing_terms.proofs.Closures.{derives_from, given_derived}
use Rattle.packing_terms.proofs.Derivations.{stable_holds}
use Rattle.packing_terms.specs.Steps.{with_exclusion}
use Rattle.packing_terms.specs.Applied.{Extends}
use Rattle.packing_terms.specs.Places.{HasNoEmptyMask}
use Rattle.packing_terms.proofs.Applied.{with_cases}
use Rattle.edge_state.specs.Edges.{oldest}
use Rattle.edge_state.proofs.Oldest.{oldest_grown, oldest_all}
use Rattle.edge_state.specs.States.{HasEmptyMask}
use Rattle.verdict_terms.specs.Explaining.{MayPart, MayOrder}
use Rattle.verdict_terms.proofs.Stepped.{child_there, child_derived}
use Rattle.line_proofs.specs.Boxed.{Grows}
use Rattle.line_proofs.proofs.ChainBoxes.{grows_with}
use Rattle.refutation_steps.specs.Nodes.{IsClosedAt, IsEnd, IsDrawn}

pub longer : (old new : List Exclusion) → Grows old new → length old ≤ length new
longer old new g =
    let e : length new ≡ length (g.more ++ old) = ap length g.grown in
    let a = length-append g.more old in omega (arith, e, a)

module _ (instance : PlainInstance) where
  -- ---- the token of a node

  pub record IsApartCase (es : List Exclusion) (others z : List PlainToken) (i u v : ℕ) : Type 0 where
    pub l : List PlainToken
    pub r : List PlainToken
    pub may : MaySplitApart instance es i u v
    pub near : Refutes instance (exclusion_in_text i u v Overlap ∷ es) l
    pub far : Refutes instance (exclusion_in_text i u v Before ∷ exclusion_in_text i u v After ∷ es) r
    pub parts : z ≡ (l ++ r) ++ others

  pub record IsOrderCase (es : List Exclusion) (others z : List PlainToken) (i u v : ℕ) : Type 0 where
    pub l : List PlainToken
    pub r : List PlainToken
    pub may : MaySplitOrder instance es i u v
    pub near : Refutes instance (exclusion_in_text i u v After ∷ es) l
    pub far : Refutes instance (exclusion_in_text i u v Before ∷ es) r
    pub parts : z ≡ (l ++ r) ++ others

  abbrev pub NodeCase : List Exclusion → List PlainToken → List PlainToken → PlainToken → Type 0
  NodeCase es others z Rules = HasConflict instance (excludes es) × (z ≡ others)
  NodeCase es others z (TooLarge v i) = IsTooLarge instance v i × (z ≡ others)
  NodeCase es others z (Scales fs) = Exceeds instance fs 1 × (z ≡ others)
  NodeCase es others z (Apart i u v) = IsApartCase es others z i u v
  NodeCase es others z (Order i u v) = IsOrderCase es others z i u v
  NodeCase es others z (Assign v) = ⊥
  NodeCase es others z (Choose v) = ⊥
  NodeCase es others z (SetRefuted bin) = ⊥
  NodeCase es others z ValueShort = ⊥
  NodeCase es others z (GlobalScales fs) = ⊥

  head_same : (g k : PlainToken) (l m : List PlainToken) → g ∷ l ≡ k ∷ m → g ≡ k
  head_same g k l m q = cc

  tail_same : (g k : PlainToken) (l m : List PlainToken) → g ∷ l ≡ k ∷ m → l ≡ m
  tail_same g k l m q = cc

  pub node_case : {es : List Exclusion} {own : List PlainToken} → Refutes instance es own
      → (others z : List PlainToken) (t : PlainToken) → t ∷ z ≡ own ++ others → NodeCase es others z t
  node_case (by_rules {es = es} c) others z t e =
      subst (λ (k : PlainToken). NodeCase es others z k) (sym (head_same _ _ _ _ e)) (c, tail_same _ _ _ _ e)
  node_case (by_side {es = es} h) others z t e =
      subst (λ (k : PlainToken). NodeCase es others z k) (sym (head_same _ _ _ _ e)) (h, tail_same _ _ _ _ e)
  node_case (by_scales {es = es} h) others z t e =
      subst (λ (k : PlainToken). NodeCase es others z k) (sym (head_same _ _ _ _ e)) (h, tail_same _ _ _ _ e)
  node_case (by_apart {es = es} {l = l} {r = r} {z = y} may parts near far) others z t e =
      subst (λ (k : PlainToken). NodeCase es others z k) (sym (head_same _ _ _ _ e))
      (record {
        l = l;
        r = r;
        may = may;
        near = near;
        far = far;
        parts =
            tail_same _ _ _ _ e ∙ ap (λ (k : List PlainToken). k ++ others) parts;
      })
  node_case (by_order {es = es} {l = l} {r = r} {z = y} may parts near far) others z t e =
      subst (λ (k : PlainToken). NodeCase es others z k) (sym (head_same _ _ _ _ e))
      (record {
        l = l;
        r = r;
        may = may;
        near = near;
        far = far;
        parts =
            tail_same _ _ _ _ e ∙ ap (λ (k : List PlainToken). k ++ others) parts;
      })

  -- ---- closed lists

  -- what a closing adds is derived too
  pub derived_on : (es given more : List Exclusion) → Extends instance given more
      → AreDerived instance (excludes es) (excludes given) → AreDerived instance (excludes es) (excludes more)
  derived_on es given more x d i u v r h =
      derives_from instance (excludes given) (excludes es) d i u v r
      (record {
        steps = more;
        derivation = x.derived (excludes given) (given_list given (λ j a b s k. k));
        stands =
            h;
      })
    where
      given_list : (fs : List Exclusion) → IsSubset (excludes fs) (excludes given)
          → IsDerivation instance (excludes given) fs
      given_list [] k = tt
      given_list (f ∷ fs) k = (
        inl (k f.dim f.u f.v f.rel (excludes_first f fs)),
        given_list fs (λ j a b s l. k j a b s (excludes_rest f fs j a b s l)),
      )

  pub closed_on : (old new : List Exclusion) (mark : ℕ) → Grows old new → IsClosedAt instance old mark
      → IsClosedAt instance new mark
  closed_on old new mark g c =
      let same : oldest mark new ≡ oldest mark old = oldest_grown g.more old new mark g.grown c.within in
      record {
        within = (let l = longer old new g in let w = c.within in omega (arith, l, w));
        stable = subst (λ (l : List Exclusion). IsStable instance (excludes l)) (sym same) c.stable;
        full = subst (λ (l : List Exclusion). HasNoEmptyMask instance (excludes l)) (sym same) c.full;
      }

  -- a closed list holds all that is derived from what it holds
  closed_holds : (es given : List Exclusion) (mark : ℕ) → mark ≡ length given → IsClosedAt instance given mark
      → IsSubset (excludes es) (excludes given)
      → (i u v : ℕ) (r : Rel) → IsDerived instance (excludes es) i u v r → IsTrue (excludes given i u v r)
  closed_holds es given mark e c h i u v r d =
      let stable = subst (λ (l : List Exclusion). IsStable instance (excludes l)) (oldest_all given mark e) c.stable in
      stable_holds instance (excludes es) (excludes given) (excludes_symmetric given) h stable d.steps d.derivation i u
      v r d.stands

  -- where the tokens say that there is a conflict, a mask is empty
  pub conflict_shows : (es given held : List Exclusion) (ended : Option ℕ) → IsSubset (excludes es) (excludes given)
      → IsEnd instance given held ended
      → HasConflict instance (excludes es) → HasNoEmptyMask instance (excludes held) → ⊥
  conflict_shows es given held None h end c full = let k =
      full end.dim end.u end.v end.edge in true≢false (sym (end.each k.0) ∙ k.1)
  conflict_shows es given held (Some mark) h end c full =
      let k = full c.dim c.u c.v c.edge in
      let there = closed_holds es given mark end.0 end.1 h c.dim c.u c.v k.0 (c.each k.0) in
      true≢false (sym (end.2 c.dim c.u c.v k.0 there) ∙ k.1)

  -- where they say that there is none, no mask is empty
  pub no_stop : (es held : List Exclusion) → AreDerived instance (excludes es) (excludes held)
      → HasEmptyMask instance (excludes held) → HasConflict instance (excludes es)
  no_stop es held d m = record {
    dim = m.dim;
    u = m.u;
    v = m.v;
    edge = m.edge;
    each =
        λ r. d m.dim m.u m.v r (m.each r);
  }

  -- ---- the masks of splits

  open_of : (E : Exclusions) (X : List Exclusion) → AreDerived instance E (excludes X) → (i u v : ℕ) (r : Rel)
      → ¬ IsDerived instance E i u v r → excludes X i u v r ≡ false
  open_of E X derived i u v r h = go (cases_Bool (excludes X i u v r))
    where
      go : (excludes X i u v r ≡ true) ⊎ (excludes X i u v r ≡ false) → excludes X i u v r ≡ false
      go (inl k) = absurd (h (derived i u v r k))
      go (inr k) = k

  pub may_part : (es held : List Exclusion) (i u v : ℕ) → AreDerived instance (excludes es) (excludes held)
      → MaySplitApart instance es i u v → MayPart instance held i u v
  may_part es held i u v d h = record {
    named = h.named;
    overlap =
        open_of (excludes es) held d _ _ _ Overlap h.overlap;
    other = go h.other;
  }
    where
      go : LeavesOpen instance es (exclusion_in_text i u v Before) ⊎ LeavesOpen instance es
          (exclusion_in_text i u v After)
          → (excludes held (pred i) (pred u) (pred v) Before ≡ false) ⊎
          (excludes held (pred i) (pred u) (pred v) After ≡ false)
      go (inl k) = inl (open_of (excludes es) held d _ _ _ Before k)
      go (inr k) = inr (open_of (excludes es) held d _ _ _ After k)

  pub may_order : (es given held : List Exclusion) (mark i u v : ℕ) → IsSubset (excludes es) (excludes given)
      → IsEnd instance given held (Some mark)
      → AreDerived instance (excludes es) (excludes held) → MaySplitOrder instance es i u v
      → MayOrder instance held i u v
  may_order es given held mark i u v h end d may = record {
    named = may.named;
    overlap = end.2 _ _ _ Overlap (closed_holds es given mark end.0 end.1 h _ _ _ Overlap may.overlap);
    before = open_of (excludes es) held d _ _ _ Before may.before;
    after = open_of (excludes es) held d _ _ _ After may.after;
  }

  -- ---- children

  no_more : (X : List Exclusion) (e : Exclusion) → IsSubset (excludes (with_exclusion X e)) (excludes (e ∷ X))
  no_more X e i u v r h = go (with_cases X e i u v r h)
    where
      go : (excludes X i u v r ≡ true) ⊎ (is_of e i u v r ≡ true) → IsTrue (excludes (e ∷ X) i u v r)
      go (inl k) = or_true _ _ (inr k)
      go (inr k) = or_true _ _ (inl k)

  -- a child has one exclusion more in each list
  pub child_drawn : (es given held : List Exclusion) (mark : ℕ) (e : Exclusion)
      → IsDrawn instance es given held (Some mark)
      → IsDrawn instance (e ∷ es) (with_exclusion given e) (with_exclusion held e) (Some mark)
  child_drawn es given held mark e d = record {
    given_all = child_there instance es given e d.given_all;
    held_all = λ i u v r k. child_there instance given held e d.held_all i u v r (no_more given e i u v r k);
    given_derived = child_derived instance es given e d.given_derived;
    held_derived = child_derived instance es held e d.held_derived;
    known = closed_on given (with_exclusion given e) mark (grows_with given e) d.known;
  }
