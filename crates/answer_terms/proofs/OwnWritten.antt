-- The tokens of a refutation have lines.
use Rattle.std.proofs.Common.{◌≡◌, ℕ, zero, suc, ◌+◌, ◌*◌, ◌<◌, ◌≤◌, sym, subst, arith, List, [], ◌∷◌}
use Rattle.std.proofs.Common.{◌++◌, length}
use Rattle.packing_terms.specs.declared.Exclusion.{Exclusion}
use Rattle.packing_terms.specs.declared.ScaleFn.{ScaleFn}
use Rattle.packing_terms.specs.declared.ScaleFn.TheVariants.{Id, Step, Cut, Count}
use Rattle.packing_terms.specs.Packing.{PlainInstance, dims, box_count, container_side}
use Rattle.packing_terms.specs.Limits.{IsInternalInstance, max_boxes, max_height}
use Rattle.packing_terms.proofs.Internal.{container_small}
use Rattle.packing_terms.specs.Scales.{IsLegalScale, function_at, IsTuple}
use Rattle.packing_terms.specs.Tokens.{PlainToken}
use Rattle.packing_terms.specs.Tokens.PlainToken.{TooLarge}
use Rattle.packing_terms.specs.Refutation.{Refutes, by_rules, by_side, by_scales, by_apart, by_order, IsNamed}
use Rattle.packing_terms.specs.Refutation.{IsTooLarge}
use Rattle.text_terms.specs.TokenLines.{IsParameter, AreWritten, IsWrittenTuple, HasLine}
use Rattle.verdict_terms.specs.Form.{AreTokenLines}
use Rattle.text_terms.proofs.TokensBack.{tokens_are_read_back}
use Rattle.answer_terms.specs.Answers.{token_lines}
use Rattle.text_terms.proofs.TokensPlain.{token_plain}
use Rattle.answer_terms.proofs.Filled.{AreFilled}

-- each token has a line with d dimensions
abbrev pub HaveLines : ℕ → List PlainToken → Type 0
HaveLines d [] = Unit {0}
HaveLines d (t ∷ ts) = HasLine d t × HaveLines d ts

pub lines_joined : (d : ℕ) (z xs ys : List PlainToken) → z ≡ xs ++ ys → HaveLines d xs → HaveLines d ys → HaveLines d z
lines_joined d z xs ys e h k = subst (HaveLines d) (sym e) (go xs h)
  where
    go : (ts : List PlainToken) → HaveLines d ts → HaveLines d (ts ++ ys)
    go [] h = k
    go (t ∷ ts) h = (h.0, go ts h.1)

-- ---- their lines

pub tokens_filled : (d : ℕ) (ts : List PlainToken) → HaveLines d ts → AreFilled (token_lines ts)
tokens_filled d [] h = tt
tokens_filled d (t ∷ ts) h = let p = token_plain d t h.0 in (p.0, p.1, tokens_filled d ts h.1)

pub tokens_are_lines : (d : ℕ) (ts : List PlainToken) → HaveLines d ts → AreTokenLines d (token_lines ts) ts
tokens_are_lines d [] h = tt
tokens_are_lines d (t ∷ ts) h = (tokens_are_read_back d t h.0, tokens_are_lines d ts h.1)

-- ---- refutations

-- Few dimensions, few boxes, and no long container side. A set is known to have at most twice as
-- many boxes as there are, which is few enough.
pub record IsBounded (instance : PlainInstance) : Type 0 where
  pub dimensions : dims instance ≤ 4
  pub boxes : box_count instance ≤ 2 * max_boxes
  pub sides : (i : ℕ) → i < dims instance → container_side instance i ≤ max_height + 100000

pub internal_bounded : (instance : PlainInstance) → IsInternalInstance instance → IsBounded instance
internal_bounded instance limits = record {
  dimensions = limits.container.dimensions.1;
  boxes = (let n = limits.boxes.count.1 in omega (arith, n));
  sides = container_small instance limits;
}

-- a function that is legal for some container side of an instance
pub record IsLegalSomewhere (f : ScaleFn) : Type 0 where
  pub whole : ℕ
  pub few : whole ≤ max_height + 100000
  pub legal : IsLegalScale f whole

legal_parameter : (f : ScaleFn) (fs : List ScaleFn) → IsLegalSomewhere f → AreWritten fs → AreWritten (f ∷ fs)
legal_parameter Id fs h k = k
legal_parameter (Step n) fs h k = (let l = h.legal in omega (arith, l), k)
legal_parameter (Cut e) fs h k = (let l = h.legal in let w = h.few in omega (arith, l, w), k)
legal_parameter (Count e) fs h k = (let l = h.legal in let w = h.few in omega (arith, l, w), k)

legal_written : (fs : List ScaleFn) → ((i : ℕ) → i < length fs → IsLegalSomewhere (function_at fs i)) → AreWritten fs
legal_written [] h = tt
legal_written (f ∷ fs) h = legal_parameter f fs (h zero (omega arith))
    (legal_written fs (λ i l. h (suc i) (omega arith)))

pub tuple_written : (instance : PlainInstance) (fs : List ScaleFn) → IsBounded instance → IsTuple instance fs
    → IsWrittenTuple (dims instance) fs
tuple_written instance fs bounded tuple = (
  tuple.count,
  legal_written fs (λ i h. let l : i < dims instance = omega (arith, tuple.count) in
      record { whole = container_side instance i; few = bounded.sides i l; legal = tuple.legal i l }),
)

pub named_written : (instance : PlainInstance) (i u v : ℕ) → IsBounded instance → IsNamed instance i u v
    → IsParameter i × IsParameter u × IsParameter v
named_written instance i u v b n =
    let d = b.dimensions in let m = b.boxes in let t = n.dim_to in let r = n.rising in let w = n.v_to in
    (omega (arith, d, t), omega (arith, m, r, w), omega (arith, m, w))

pub large_written : (instance : PlainInstance) (v i : ℕ) → IsBounded instance → IsTooLarge instance v i
    → HasLine (dims instance) (TooLarge v i)
large_written instance v i b h =
    let d = b.dimensions in let m = b.boxes in let t = h.box_to in let s = h.dim_to in
    (omega (arith, m, t), omega (arith, d, s))

module _ (instance : PlainInstance) (bounded : IsBounded instance) where
  pub refuted_written : {es : List Exclusion} {z : List PlainToken} → Refutes instance es z
      → HaveLines (dims instance) z
  refuted_written (by_rules c) = (tt, tt)
  refuted_written (by_side {v = v} {i = i} h) = (large_written instance v i bounded h, tt)
  refuted_written (by_scales {fs = fs} h) = (tuple_written instance fs bounded h.tuple, tt)
  refuted_written (by_apart {i = i} {u = u} {v = v} {l = l} {r = r} {z = z} h e left right) = (
    named_written instance i u v bounded h.named,
    lines_joined (dims instance) z l r e (refuted_written left) (refuted_written right),
  )
  refuted_written (by_order {i = i} {u = u} {v = v} {l = l} {r = r} {z = z} h e left right) = (
    named_written instance i u v bounded h.named,
    lines_joined (dims instance) z l r e (refuted_written left) (refuted_written right),
  )
