-- A token isn't refused exactly where the node accepts it.
use Rattle.std.proofs.Common.{◌≡◌, ℕ, pred, ◌+◌, ◌≤◌, ◌*◌, ◌⊎◌, inl, inr, refl, sym, ◌∙◌, arith, Bool, true, false, not}
use Rattle.std.proofs.Common.{◌&&◌, ◌||◌, List, length, Option, Some, None}
use Rattle.std.specs.Prelude.{nat_le, ◌↔◌}
use Rattle.std.specs.List.{list_all, list_any}
use Rattle.std.proofs.lemmas.Bool.{true≢false, cases_Bool, and_parts, and_from, or_cases, or_left, or_right, leb-true}
use Rattle.std.proofs.lemmas.Bool.{le-leb, ltb-true, lt-ltb, eqb-true, eq-eqb, not-true, not_from_false}
use Rattle.packing_terms.specs.declared.Rel.{Rel}
use Rattle.packing_terms.specs.declared.Rel.TheVariants.{Overlap, Before, After}
use Rattle.packing_terms.specs.declared.Exclusion.{Exclusion}
use Rattle.packing_terms.specs.declared.ScaleFn.{ScaleFn}
use Rattle.packing_terms.specs.declared.ScaleFn.TheVariants.{Id, Step, Cut, Count}
use Rattle.packing_terms.specs.Packing.{PlainInstance, dims, box_count, container_side, side}
use Rattle.packing_terms.specs.Exclusions.{excludes}
use Rattle.packing_terms.specs.Closure.{IsDerived, HasConflict}
use Rattle.packing_terms.specs.Scales.{IsLegalScale, function_at, SidesFit, Exceeds}
use Rattle.packing_terms.specs.Goals.{subset, worth}
use Rattle.packing_terms.specs.Tokens.{PlainToken}
use Rattle.packing_terms.specs.Tokens.PlainToken.{Apart, Order, Rules, TooLarge, Scales, Assign, Choose, SetRefuted}
use Rattle.packing_terms.specs.Tokens.PlainToken.{ValueShort, GlobalScales}
use Rattle.packing_terms.specs.Refutation.{IsNamed, MaySplitApart, MaySplitOrder}
use Rattle.packing_terms.specs.Feeding.{Accepts}
use Rattle.packing_terms.specs.OuterRefutation.{Bins, Choice as BoxChoice, has_box, undecided}
use Rattle.packing_terms.specs.OuterFeeding.{OpenNode, Outer, Inner, AcceptsBins, AcceptsValue}
use Rattle.packing_terms.proofs.Members.{all_at, all_from, in_range, range_in}
use Rattle.packing_terms.specs.Sums.{below}
use Rattle.packing_terms.proofs.RoundsLemmas.{closure_is}
use Rattle.packing_terms.proofs.Conflicts.{calm, stormy}
use Rattle.packing_terms.proofs.Drawn.{is_not}
use Rattle.verdict_terms.specs.declared.check_answers.RefuseCode.{RefuseCode}
use Rattle.verdict_terms.specs.Judging.{unless, names_pair, closed, is_conflict, may_part, may_order, is_legal, sides_fit}
use Rattle.verdict_terms.specs.Judging.{tuple_refusal, refusal}
use Rattle.verdict_terms.specs.OuterJudging.{bin_refusal, value_refusal}

pub passed : (b : Bool) (code : RefuseCode) (rest : Option RefuseCode) → unless b code rest ≡ None
    → (b ≡ true) × (rest ≡ None)
passed true code rest e = (refl, e)
passed false code rest e = absurd (cc)

pub passes : (b : Bool) (code : RefuseCode) (rest : Option RefuseCode) → b ≡ true → rest ≡ None
    → unless b code rest ≡ None
passes true code rest h e = e
passes false code rest h e = absurd (true≢false (sym h))

pub unless_false : (b : Bool) (code : RefuseCode) (rest : Option RefuseCode) → b ≡ false
    → Some code ≡ unless b code rest
unless_false false code rest h = refl
unless_false true code rest h = absurd (true≢false h)

pub unless_true : (b : Bool) (code : RefuseCode) (rest : Option RefuseCode) → b ≡ true → rest ≡ unless b code rest
unless_true true code rest h = refl
unless_true false code rest h = absurd (true≢false (sym h))

pub within : (low high n : ℕ) → (nat_le low n && nat_le n high) ≡ true → (low ≤ n) × (n ≤ high)
within low high n h = let p = and_parts _ _ h in (leb-true low n p.0, leb-true n high p.1)

pub is_within : (low high n : ℕ) → low ≤ n → n ≤ high → (nat_le low n && nat_le n high) ≡ true
is_within low high n a b = and_from _ _ (le-leb low n a) (le-leb n high b)

module _ (instance : PlainInstance) where
  pub named : (dim u v : ℕ) → names_pair instance dim u v ≡ true → IsNamed instance dim u v
  named dim u v h =
      let a = and_parts _ _ h in
      let b = and_parts _ _ a.0 in
      let c = and_parts _ _ b.0 in
      let i = within 1 (dims instance) dim c.0 in
      record {
        dim_from = i.0;
        dim_to = i.1;
        u_from = leb-true 1 u c.1;
        rising = ltb-true u v b.1;
        v_to = leb-true v (box_count instance) a.1;
      }

  pub is_named : (dim u v : ℕ) → IsNamed instance dim u v → names_pair instance dim u v ≡ true
  is_named dim u v n =
      and_from _ _ (and_from _ _ (and_from _ _ (is_within 1 (dims instance) dim n.dim_from n.dim_to)
      (le-leb 1 u n.u_from)) (lt-ltb u v n.rising))
      (le-leb v (box_count instance) n.v_to)

  module _ (es : List Exclusion) where
    open_one : (i u v : ℕ) (r : Rel) → not (closed instance es i u v r) ≡ true
        → ¬ IsDerived instance (excludes es) i u v r
    open_one i u v r h d = true≢false
        (sym ((closure_is instance es i u v r).1 d) ∙ not-true (closed instance es i u v r) h)

    is_open : (i u v : ℕ) (r : Rel) → ¬ IsDerived instance (excludes es) i u v r
        → not (closed instance es i u v r) ≡ true
    is_open i u v r h = is_not (closed instance es i u v r) (λ e. h ((closure_is instance es i u v r).0 e))

    conflict_is : HasConflict instance (excludes es) → is_conflict instance (closed instance es) ≡ true
    conflict_is c = go (cases_Bool (is_conflict instance (closed instance es)))
      where
        go : (is_conflict instance (closed instance es) ≡ true) ⊎ (is_conflict instance (closed instance es) ≡ false)
            → is_conflict instance (closed instance es) ≡ true
        go (inl e) = e
        go (inr e) = absurd (calm instance es e c)

    no_conflict : not (is_conflict instance (closed instance es)) ≡ true → ¬ HasConflict instance (excludes es)
    no_conflict h = calm instance es (not-true (is_conflict instance (closed instance es)) h)

    is_calm : ¬ HasConflict instance (excludes es) → not (is_conflict instance (closed instance es)) ≡ true
    is_calm h = is_not (is_conflict instance (closed instance es)) (λ e. h (stormy instance es e))

    parts : (dim u v : ℕ) → names_pair instance dim u v ≡ true → may_part instance (closed instance es) dim u v ≡ true
        → MaySplitApart instance es dim u v
    parts dim u v n h =
        let a = and_parts _ _ h in
        let b = and_parts _ _ a.0 in
        record {
          named = named dim u v n;
          no_conflict = no_conflict b.0;
          overlap = open_one (pred dim) (pred u) (pred v) Overlap b.1;
          other = go (or_cases _ _ a.1);
        }
      where
        go : (not (closed instance es (pred dim) (pred u) (pred v) Before) ≡ true)
            ⊎ (not (closed instance es (pred dim) (pred u) (pred v) After) ≡ true)
            → (¬ IsDerived instance (excludes es) (pred dim) (pred u) (pred v) Before)
            ⊎ (¬ IsDerived instance (excludes es) (pred dim) (pred u) (pred v) After)
        go (inl e) = inl (open_one (pred dim) (pred u) (pred v) Before e)
        go (inr e) = inr (open_one (pred dim) (pred u) (pred v) After e)

    is_parted : (dim u v : ℕ) → MaySplitApart instance es dim u v
        → may_part instance (closed instance es) dim u v ≡ true
    is_parted dim u v m = and_from _ _
        (and_from _ _ (is_calm m.no_conflict) (is_open (pred dim) (pred u) (pred v) Overlap m.overlap)) (go m.other)
      where
        go : (¬ IsDerived instance (excludes es) (pred dim) (pred u) (pred v) Before)
            ⊎ (¬ IsDerived instance (excludes es) (pred dim) (pred u) (pred v) After)
            → (not (closed instance es (pred dim) (pred u) (pred v) Before)
            || not (closed instance es (pred dim) (pred u) (pred v) After)) ≡ true
        go (inl e) = or_left _ _ (is_open (pred dim) (pred u) (pred v) Before e)
        go (inr e) = or_right _ _ (is_open (pred dim) (pred u) (pred v) After e)

    orders : (dim u v : ℕ) → names_pair instance dim u v ≡ true → may_order instance (closed instance es) dim u v ≡ true
        → MaySplitOrder instance es dim u v
    orders dim u v n h =
        let a = and_parts _ _ h in
        let b = and_parts _ _ a.0 in
        let c = and_parts _ _ b.0 in
        record {
          named = named dim u v n;
          no_conflict = no_conflict c.0;
          overlap = (closure_is instance es (pred dim) (pred u) (pred v) Overlap).0 c.1;
          before = open_one (pred dim) (pred u) (pred v) Before b.1;
          after = open_one (pred dim) (pred u) (pred v) After a.1;
        }

    is_ordered : (dim u v : ℕ) → MaySplitOrder instance es dim u v
        → may_order instance (closed instance es) dim u v ≡ true
    is_ordered dim u v m =
        and_from _ _ (and_from _ _ (and_from _ _ (is_calm m.no_conflict)
        ((closure_is instance es (pred dim) (pred u) (pred v) Overlap).1 m.overlap))
        (is_open (pred dim) (pred u) (pred v) Before m.before)) (is_open (pred dim) (pred u) (pred v) After m.after)

  pub legal : (W : ℕ) (f : ScaleFn) → is_legal W f ≡ true → IsLegalScale f W
  legal W Id h = tt
  legal W (Step k) h = let a = and_parts _ _ h in let b = within 1 16 k a.0 in (b.0, b.1, leb-true 1 W a.1)
  legal W (Cut e) h = let a = and_parts _ _ h in (leb-true 1 e a.0, leb-true (2 * e) W a.1)
  legal W (Count e) h = let a = and_parts _ _ h in (leb-true 1 e a.0, leb-true (2 * e) W a.1)

  pub legal_is : (W : ℕ) (f : ScaleFn) → IsLegalScale f W → is_legal W f ≡ true
  legal_is W Id h = refl
  legal_is W (Step k) h = and_from _ _ (is_within 1 16 k h.0 h.1) (le-leb 1 W h.2)
  legal_is W (Cut e) h = and_from _ _ (le-leb 1 e h.0) (le-leb (2 * e) W h.1)
  legal_is W (Count e) h = and_from _ _ (le-leb 1 e h.0) (le-leb (2 * e) W h.1)

  pub sides_are : sides_fit instance ≡ true → SidesFit instance
  sides_are h v i v_there i_there =
      leb-true (side instance v i) (container_side instance i)
      (all_at (λ i. nat_le (side instance v i) (container_side instance i)) i (below (dims instance))
      (all_at (λ v. list_all (λ i. nat_le (side instance v i) (container_side instance i)) (below (dims instance))) v
      (below (box_count instance)) h
      (in_range 0 (box_count instance) v (omega arith) (omega arith)))
      (in_range 0 (dims instance) i (omega arith) (omega arith)))

  pub are_sides : SidesFit instance → sides_fit instance ≡ true
  are_sides h =
      all_from (λ v. list_all (λ i. nat_le (side instance v i) (container_side instance i)) (below (dims instance)))
      (below (box_count instance)) (λ v a.
      all_from (λ i. nat_le (side instance v i) (container_side instance i)) (below (dims instance)) (λ i b.
      let p = range_in 0 (box_count instance) v a in let q = range_in 0 (dims instance) i b in
      le-leb (side instance v i) (container_side instance i) (h v i (omega (arith, p.1)) (omega (arith, q.1)))))

  pub tuple_exact : (copies : ℕ) (fs : List ScaleFn)
      → (tuple_refusal instance copies fs ≡ None) ↔ Exceeds instance fs copies
  tuple_exact copies fs = (there, back)
    where
      there : tuple_refusal instance copies fs ≡ None → Exceeds instance fs copies
      there e =
          let a = passed _ _ _ e in
          let b = passed _ _ _ a.1 in
          let c = passed _ _ _ b.1 in
          let d = and_parts _ _ c.0 in
          record {
            tuple = record {
              count = eqb-true (length fs) (dims instance) a.0;
              legal = λ i h. legal (container_side instance i) (function_at fs i)
                  (all_at (λ i. is_legal (container_side instance i) (function_at fs i)) i (below (dims instance)) b.0
                  (in_range 0 (dims instance) i (omega arith) (omega arith)));
            };
            fit = sides_are d.0;
            more = ltb-true _ _ d.1;
          }

      back : Exceeds instance fs copies → tuple_refusal instance copies fs ≡ None
      back x =
          passes _ _ _ (eq-eqb (length fs) (dims instance) x.tuple.count)
          (passes _ _ _ (all_from (λ i. is_legal (container_side instance i) (function_at fs i))
          (below (dims instance)) (λ i h.
          let p = range_in 0 (dims instance) i h in
          legal_is (container_side instance i) (function_at fs i) (x.tuple.legal i (omega (arith, p.1)))))
          (passes _ _ _ (and_from _ _ (are_sides x.fit) (lt-ltb _ _ x.more)) refl))

  pub inner_exact : (es : List Exclusion) (t : PlainToken) → (refusal instance es t ≡ None) ↔ Accepts instance es t
  inner_exact es (Apart dim u v) = (
    λ e. let a = passed _ _ _ e in let b = passed _ _ _ a.1 in parts es dim u v a.0 b.0,
    λ m. passes _ _ _ (is_named dim u v m.named) (passes _ _ _ (is_parted es dim u v m) refl),
  )
  inner_exact es (Order dim u v) = (
    λ e. let a = passed _ _ _ e in let b = passed _ _ _ a.1 in orders es dim u v a.0 b.0,
    λ m. passes _ _ _ (is_named dim u v m.named) (passes _ _ _ (is_ordered es dim u v m) refl),
  )
  inner_exact es Rules = (
    λ e. let a = passed _ _ _ e in
        stormy instance es a.0,
    λ c. passes _ _ _ (conflict_is es c) refl,
  )
  inner_exact es (TooLarge v i) = (
    λ e.
        let a = passed _ _ _ e in
        let b = passed _ _ _ a.1 in
        let c = and_parts _ _ a.0 in
        let d = within 1 (box_count instance) v c.0 in
        let f = within 1 (dims instance) i c.1 in
        record { box_from = d.0; box_to = d.1; dim_from = f.0; dim_to = f.1; large = ltb-true _ _ b.0 },
    λ l.
        passes _ _ _ (and_from _ _ (is_within 1 (box_count instance) v l.box_from l.box_to)
        (is_within 1 (dims instance) i l.dim_from l.dim_to))
        (passes _ _ _ (lt-ltb _ _ l.large) refl),
  )
  inner_exact es (Scales fs) = tuple_exact 1 fs
  inner_exact es (Assign v) = (λ e. absurd (cc), λ h. absurd h)
  inner_exact es (Choose v) = (λ e. absurd (cc), λ h. absurd h)
  inner_exact es (SetRefuted b) = (λ e. absurd (cc), λ h. absurd h)
  inner_exact es ValueShort = (λ e. absurd (cc), λ h. absurd h)
  inner_exact es (GlobalScales fs) = (λ e. absurd (cc), λ h. absurd h)

pub bins_exact : (instance : PlainInstance) (k : ℕ) (node : OpenNode Bins) (t : PlainToken)
    → (bin_refusal instance k node t ≡ None) ↔ AcceptsBins instance k node t
bins_exact instance k (Inner keep es) t = inner_exact (subset instance keep) es t
bins_exact instance k (Outer bins) (GlobalScales fs) = tuple_exact instance k fs
bins_exact instance k (Outer bins) (SetRefuted (Some b)) = (
  λ e. let a = passed _ _ _ e in let p = within 1 (length bins) b a.0 in record { from = p.0; to = p.1 },
  λ u. passes _ _ _ (is_within 1 (length bins) b u.from u.to) refl,
)
bins_exact instance k (Outer bins) (SetRefuted None) = (λ e. absurd (cc), λ h. absurd h)
bins_exact instance k (Outer bins) (Assign v) = (
  λ e.
      let a = passed _ _ _ e in
      let b = passed _ _ _ a.1 in
      let p = within 1 (box_count instance) v a.0 in
      record { from = p.0; to = p.1; unplaced = not-true (list_any (has_box (pred v)) bins) b.0 },
  λ u. passes _ _ _ (is_within 1 (box_count instance) v u.from u.to)
      (passes _ _ _ (not_from_false (list_any (has_box (pred v)) bins) u.unplaced) refl),
)
bins_exact instance k (Outer bins) (Apart dim u v) = (λ e. absurd (cc), λ h. absurd h)
bins_exact instance k (Outer bins) (Order dim u v) = (λ e. absurd (cc), λ h. absurd h)
bins_exact instance k (Outer bins) Rules = (λ e. absurd (cc), λ h. absurd h)
bins_exact instance k (Outer bins) (TooLarge v i) = (λ e. absurd (cc), λ h. absurd h)
bins_exact instance k (Outer bins) (Scales fs) = (λ e. absurd (cc), λ h. absurd h)
bins_exact instance k (Outer bins) (Choose v) = (λ e. absurd (cc), λ h. absurd h)
bins_exact instance k (Outer bins) ValueShort = (λ e. absurd (cc), λ h. absurd h)

pub value_exact : (instance : PlainInstance) (goal : ℕ) (node : OpenNode BoxChoice) (t : PlainToken)
    → (value_refusal instance goal node t ≡ None) ↔ AcceptsValue instance goal node t
value_exact instance goal (Inner keep es) t = inner_exact (subset instance keep) es t
value_exact instance goal (Outer c) ValueShort = (
  λ e. let a = passed _ _ _ e in ltb-true (worth instance c.taken + worth instance (undecided instance c)) goal a.0,
  λ s. passes _ _ _ (lt-ltb (worth instance c.taken + worth instance (undecided instance c)) goal s) refl,
)
value_exact instance goal (Outer c) (SetRefuted None) = (
  λ e. let a = passed _ _ _ e in leb-true 1 (length c.taken) a.0,
  λ s. passes _ _ _ (le-leb 1 (length c.taken) s) refl,
)
value_exact instance goal (Outer c) (SetRefuted (Some b)) = (λ e. absurd (cc), λ h. absurd h)
value_exact instance goal (Outer c) (Choose v) = (
  λ e.
      let a = passed _ _ _ e in
      let b = passed _ _ _ a.1 in
      let p = within 1 (box_count instance) v a.0 in
      let q = and_parts _ _ b.0 in
      record {
        from = p.0;
        to = p.1;
        not_taken = not-true (has_box (pred v) c.taken) q.0;
        not_left = not-true (has_box (pred v) c.left) q.1;
      },
  λ u.
      passes _ _ _ (is_within 1 (box_count instance) v u.from u.to)
      (passes _ _ _ (and_from _ _ (not_from_false (has_box (pred v) c.taken) u.not_taken)
      (not_from_false (has_box (pred v) c.left) u.not_left)) refl),
)
value_exact instance goal (Outer c) (Apart dim u v) = (λ e. absurd (cc), λ h. absurd h)
value_exact instance goal (Outer c) (Order dim u v) = (λ e. absurd (cc), λ h. absurd h)
value_exact instance goal (Outer c) Rules = (λ e. absurd (cc), λ h. absurd h)
value_exact instance goal (Outer c) (TooLarge v i) = (λ e. absurd (cc), λ h. absurd h)
value_exact instance goal (Outer c) (Scales fs) = (λ e. absurd (cc), λ h. absurd h)
value_exact instance goal (Outer c) (Assign v) = (λ e. absurd (cc), λ h. absurd h)
value_exact instance goal (Outer c) (GlobalScales fs) = (λ e. absurd (cc), λ h. absurd h)
