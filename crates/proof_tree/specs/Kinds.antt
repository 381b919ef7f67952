-- Token lines by what their first word says.
use Rattle.std.specs.Prelude.{ℕ, ◌≡◌, ◌==◌, ◌<◌, ◌≤◌, ◌+◌, cond, List, [], ◌∷◌, Option, Some, None, length, drop, codes}
use Rattle.packing_terms.specs.declared.ScaleFn.{ScaleFn}
use Rattle.packing_terms.specs.Tokens.{PlainToken}
use Rattle.packing_terms.specs.Tokens.PlainToken.{Apart, Order, Rules, TooLarge, Scales, Assign, Choose, ValueShort}
use Rattle.packing_terms.specs.Tokens.PlainToken.{GlobalScales}
use Rattle.text_terms.specs.Lines.{same_bytes}
use Rattle.text_terms.specs.TokenLines.{parameters, in_front, functions, tuple_of, of_none, of_one, of_two}
use Rattle.text_terms.specs.TokenLines.{of_three, set_token}
use Rattle.proof_tree.specs.declared.reading.Kind.{Kind}
use Rattle.proof_tree.specs.declared.reading.Kind.TheVariants.{Apart as IsApart, Order as IsOrder, Rules as IsRules}
use Rattle.proof_tree.specs.declared.reading.Kind.TheVariants.{TooLarge as IsTooLarge, Scales as IsScales}
use Rattle.proof_tree.specs.declared.reading.Kind.TheVariants.{Assign as IsAssign, Choose as IsChoose}
use Rattle.proof_tree.specs.declared.reading.Kind.TheVariants.{SetRefuted as IsSetRefuted, ValueShort as IsValueShort}
use Rattle.proof_tree.specs.declared.reading.Kind.TheVariants.{GlobalScales as IsGlobalScales}
use Rattle.proof_tree.specs.declared.reading.Named.{Named}

-- the kind of a first word
abbrev pub kind_of : List ℕ → Option Kind
kind_of word =
    cond (same_bytes word (codes "a")) (Some IsApart) (
    cond (same_bytes word (codes "d")) (Some IsOrder) (
    cond (same_bytes word (codes "x")) (Some IsRules) (
    cond (same_bytes word (codes "t")) (Some IsTooLarge) (
    cond (same_bytes word (codes "v")) (Some IsScales) (
    cond (same_bytes word (codes "b")) (Some IsAssign) (
    cond (same_bytes word (codes "c")) (Some IsChoose) (
    cond (same_bytes word (codes "s")) (Some IsSetRefuted) (
    cond (same_bytes word (codes "w")) (Some IsValueShort) (
    cond (same_bytes word (codes "g")) (Some IsGlobalScales) (
    None))))))))))

-- the token of a kind with these words behind the first
abbrev pub of_kind : ℕ → Kind → List (List ℕ) → Option PlainToken
of_kind d IsApart words = of_three Apart (parameters words)
of_kind d IsOrder words = of_three Order (parameters words)
of_kind d IsRules words = of_none Rules (parameters words)
of_kind d IsTooLarge words = of_two TooLarge (parameters words)
of_kind d IsScales words = tuple_of d Scales (functions words)
of_kind d IsAssign words = of_one Assign (parameters words)
of_kind d IsChoose words = of_one Choose (parameters words)
of_kind d IsSetRefuted words = set_token (parameters words)
of_kind d IsValueShort words = of_none ValueShort (parameters words)
of_kind d IsGlobalScales words = tuple_of d GlobalScales (functions words)

-- the parameters, where there are exactly as many as the result holds
abbrev pub only : Option (List ℕ) → Option ℕ
only (Some (x ∷ [])) = Some x
only _ = None

abbrev pub two_only : Option (List ℕ) → Option (ℕ × ℕ)
two_only (Some (x ∷ y ∷ [])) = Some (x, y)
two_only _ = None

abbrev pub three_only : Option (List ℕ) → Option (ℕ × ℕ × ℕ)
three_only (Some (x ∷ y ∷ z ∷ [])) = Some (x, y, z)
three_only _ = None

-- functions, where there is one for each dimension
abbrev pub tuple_only : ℕ → Option (List ScaleFn) → Option (List ScaleFn)
tuple_only d None = None
tuple_only d (Some fs) = cond (length fs == d) (Some fs) None

-- the function whose name is word k comes before those behind it
pub record IsNamedAt (words : List (List ℕ)) (k : ℕ) (named : Named) : Type 0 where
  pub front : functions (drop k words) ≡ in_front (Some named.function) (functions (drop named.next words))
  pub later : k < named.next
  pub few : named.next ≤ k + 2
  pub within : named.next ≤ length words

-- word k names a function, or the words from k on aren't functions
abbrev pub IsFunctionAt : List (List ℕ) → ℕ → Option Named → Type 0
IsFunctionAt words k None = functions (drop k words) ≡ None
IsFunctionAt words k (Some named) = IsNamedAt words k named
