-- A token of a bounded refutation isn't refused exactly where the node accepts it, and tokens
-- are taken one by one and leave no node open exactly where they are a refutation.
use Rattle.std.proofs.Common.{◌≡◌, ◌∙◌, ℕ, pred, refl, ap, arith, Bool, true, ◌&&◌, nat_le, List, [], ◌∷◌, ◌++◌, length, Option, Some, None, Ok}
use Rattle.std.specs.Prelude.{◌↔◌, IsTrue}
use Rattle.std.proofs.lemmas.Bool.{and_parts, and_from, ltb-true, lt-ltb, eqb-true, eq-eqb, leb-true, le-leb}
use Rattle.packing_terms.specs.declared.ScaleFn.{ScaleFn}
use Rattle.packing_terms.specs.Packing.{PlainInstance, dims, box_count, container_side}
use Rattle.packing_terms.specs.Scales.{IsTuple, function_at}
use Rattle.packing_terms.specs.Sums.{below}
use Rattle.packing_terms.specs.Tokens.{PlainToken}
use Rattle.packing_terms.specs.Results.{◌>>=◌}
use Rattle.packing_terms.specs.OuterRefutation.{Choice as BoxChoice, has_box, no_choice}
use Rattle.packing_terms.specs.OuterFeeding.{OpenNode, Outer, Inner}
use Rattle.packing_terms.proofs.Members.{all_at, all_from, in_range, range_in}
use Rattle.packing_terms.proofs.Boxes.{each_in, each_from}
use Rattle.verdict_terms.specs.declared.check_answers.RefuseCode.{RefuseCode}
use Rattle.verdict_terms.specs.declared.check_answers.RefuseCode.TheVariants.{Range, Choice}
use Rattle.verdict_terms.specs.Judging.{unless, names_box, is_legal, are_legal}
use Rattle.verdict_terms.specs.Checking.{left_by, value_after}
use Rattle.verdict_terms.proofs.Judged.{passed, passes, legal, legal_is, value_exact}
use Rattle.verdict_terms.specs.Shares.{fits_alone, IsPricedOut}
use Rattle.verdict_terms.specs.Exchanges.{comes_before, IsExchange}
use Rattle.verdict_terms.specs.BoundedRefutation.{BoundedToken, Plain, PricedOut, Exchange, IsBoundedRefutation}
use Rattle.verdict_terms.specs.BoundedFeeding.{AcceptsBounded, bounded_children, FeedsBounded}
use Rattle.verdict_terms.specs.BoundedJudging.{price_refusal, exchange_refusal, bounded_refusal, bounded_after, bounded_after_all}
use Rattle.verdict_terms.proofs.BoundedFed.{bounded_fed, fed_refutes_bounded}

module _ (instance : PlainInstance) where
  -- the functions are legal where the test says so
  tuple_is : (fs : List ScaleFn) → length fs ≡ dims instance → are_legal instance fs ≡ true → IsTuple instance fs
  tuple_is fs count tested = record {
    count = count;
    legal = λ i h. legal instance (container_side instance i) (function_at fs i)
        (all_at (λ i. is_legal (container_side instance i) (function_at fs i)) i (below (dims instance)) tested
        (in_range 0 (dims instance) i (omega arith) (omega arith)));
  }

  is_tuple : (fs : List ScaleFn) → IsTuple instance fs → are_legal instance fs ≡ true
  is_tuple fs tuple =
      all_from (λ i. is_legal (container_side instance i) (function_at fs i)) (below (dims instance)) (λ i h.
      let p = range_in 0 (dims instance) i h in
      legal_is instance (container_side instance i) (function_at fs i) (tuple.legal i (omega (arith, p.1))))

  price_exact : (goal : ℕ) (c : BoxChoice) (q p : ℕ) (fs : List ScaleFn)
      → (price_refusal instance goal c q p fs ≡ None) ↔ IsPricedOut instance goal fs q p c
  price_exact goal c q p fs = (there, back)
    where
      there : price_refusal instance goal c q p fs ≡ None → IsPricedOut instance goal fs q p c
      there e =
          let count = passed _ _ _ e in
          let range = passed _ _ _ count.1 in
          let excess = passed _ _ _ range.1 in
          let both = and_parts _ _ excess.0 in
          record {
            tuple = tuple_is fs (eqb-true (length fs) (dims instance) count.0) range.0;
            fit = each_from (λ v. IsTrue (fits_alone instance v)) c.taken
                (λ v i. all_at (fits_alone instance) v c.taken both.0 i);
            more = ltb-true _ _ both.1;
          }

      back : IsPricedOut instance goal fs q p c → price_refusal instance goal c q p fs ≡ None
      back out =
          passes _ _ _ (eq-eqb (length fs) (dims instance) out.tuple.count)
          (passes _ _ _ (is_tuple fs out.tuple)
          (passes _ _ _ (and_from _ _ (all_from (fits_alone instance) c.taken
          (each_in (λ v. IsTrue (fits_alone instance v)) c.taken out.fit)) (lt-ltb _ _ out.more)) refl))

  exchange_exact : (c : BoxChoice) (u v : ℕ)
      → (exchange_refusal instance c u v ≡ None) ↔ IsExchange instance c u v
  exchange_exact c u v = (there, back)
    where
      is_out : Bool
      is_out = has_box (pred u) c.left

      is_in : Bool
      is_in = has_box (pred v) c.taken

      is_before : Bool
      is_before = comes_before instance (pred u) (pred v)

      there : exchange_refusal instance c u v ≡ None → IsExchange instance c u v
      there e =
          let range = passed (names_box instance u && names_box instance v) Range
          (unless (is_out && is_in && is_before) Choice None) e in
          let here = passed (is_out && is_in && is_before) Choice None range.1 in
          let names = and_parts (names_box instance u) (names_box instance v) range.0 in
          let first = and_parts (nat_le 1 u) (nat_le u (box_count instance)) names.0 in
          let second = and_parts (nat_le 1 v) (nat_le v (box_count instance)) names.1 in
          let tests = and_parts (is_out && is_in) is_before here.0 in
          let sides = and_parts is_out is_in tests.0 in
          record {
            out_from = leb-true 1 u first.0;
            out_to = leb-true u (box_count instance) first.1;
            in_from = leb-true 1 v second.0;
            in_to = leb-true v (box_count instance) second.1;
            out = sides.0;
            taken = sides.1;
            before = tests.1;
          }

      back : IsExchange instance c u v → exchange_refusal instance c u v ≡ None
      back x =
          passes (names_box instance u && names_box instance v) Range (unless (is_out && is_in && is_before) Choice None)
          (and_from (names_box instance u) (names_box instance v)
          (and_from (nat_le 1 u) (nat_le u (box_count instance)) (le-leb 1 u x.out_from)
          (le-leb u (box_count instance) x.out_to))
          (and_from (nat_le 1 v) (nat_le v (box_count instance)) (le-leb 1 v x.in_from)
          (le-leb v (box_count instance) x.in_to)))
          (passes (is_out && is_in && is_before) Choice None
          (and_from (is_out && is_in) is_before (and_from is_out is_in x.out x.taken) x.before) refl)

  module _ (goal : ℕ) where
    pub bounded_exact : (node : OpenNode BoxChoice) (t : BoundedToken)
        → (bounded_refusal instance goal node t ≡ None) ↔ AcceptsBounded instance goal node t
    bounded_exact node (Plain t) = value_exact instance goal node t
    bounded_exact (Outer c) (PricedOut q p fs) = price_exact goal c q p fs
    bounded_exact (Inner keep es) (PricedOut q p fs) = (λ e. absurd (cc), λ h. absurd h)
    bounded_exact (Outer c) (Exchange u v) = exchange_exact c u v
    bounded_exact (Inner keep es) (Exchange u v) = (λ e. absurd (cc), λ h. absurd h)

    -- tokens that are taken one by one are those that are fed
    taken_fed : (nodes : List (OpenNode BoxChoice)) (ts : List BoundedToken) (left : List (OpenNode BoxChoice))
        → bounded_after_all instance goal nodes ts ≡ Ok left → FeedsBounded instance goal nodes ts left
    taken_fed nodes [] left e = cc (e)
    taken_fed [] (t ∷ ts) left e = absurd (cc (e))
    taken_fed (n ∷ nodes) (t ∷ ts) left e =
        go (bounded_refusal instance goal n t) refl e (taken_fed (bounded_children n t ++ nodes) ts left)
      where
        go : (o : Option RefuseCode) → bounded_refusal instance goal n t ≡ o
            → (left_by o (bounded_children n t) nodes >>= λ more. bounded_after_all instance goal more ts) ≡ Ok left
            → (bounded_after_all instance goal (bounded_children n t ++ nodes) ts ≡ Ok left
            → FeedsBounded instance goal (bounded_children n t ++ nodes) ts left)
            → AcceptsBounded instance goal n t × FeedsBounded instance goal (bounded_children n t ++ nodes) ts left
        go None f k later = ((bounded_exact n t).0 f, later k)
        go (Some code) f k later = absurd (cc (k))

    fed_taken : (nodes : List (OpenNode BoxChoice)) (ts : List BoundedToken) (left : List (OpenNode BoxChoice))
        → FeedsBounded instance goal nodes ts left → bounded_after_all instance goal nodes ts ≡ Ok left
    fed_taken nodes [] left e = ap Ok e
    fed_taken [] (t ∷ ts) left e = absurd e
    fed_taken (n ∷ nodes) (t ∷ ts) left e =
        ap (λ o. (left_by o (bounded_children n t) nodes >>= λ more. bounded_after_all instance goal more ts))
        ((bounded_exact n t).1 e.0)
        ∙ fed_taken (bounded_children n t ++ nodes) ts left e.1

    pub bounded_refutes : (tokens : List BoundedToken)
        → (bounded_after_all instance goal (Outer no_choice ∷ []) tokens ≡ Ok [])
        ↔ IsBoundedRefutation instance goal tokens
    bounded_refutes tokens = (
      λ e. fed_refutes_bounded instance goal tokens (no_choice ∷ [])
          (taken_fed (Outer no_choice ∷ []) tokens [] e),
      λ h. fed_taken (Outer no_choice ∷ []) tokens [] (bounded_fed instance goal h),
    )

    pub plain_after : (nodes : List (OpenNode BoxChoice)) (t : PlainToken)
        → bounded_after instance goal nodes (Plain t) ≡ value_after instance goal nodes t
    plain_after [] t = refl
    plain_after (n ∷ nodes) t = refl
