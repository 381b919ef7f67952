-- Lists of tokens that are held in a few bytes each, beside those that are wider.
use Rattle.std.specs.Prelude.{ℕ, ◌+◌, ◌≡◌, List, [], ◌∷◌, ◌++◌, take, drop, Option, Some, None, Bool, true, false}
use Rattle.packing_terms.specs.Tokens.{PlainToken}
use Rattle.packing_terms.specs.Tokens.PlainToken.{Apart as PlainApart, Order as PlainOrder, Rules as PlainRules}
use Rattle.packing_terms.specs.Tokens.PlainToken.{Assign as PlainAssign, Choose as PlainChoose, SetRefuted}
use Rattle.packing_terms.specs.Tokens.PlainToken.{ValueShort as PlainValueShort}
use Rattle.packing_terms.specs.Tokens.PlainToken.{Scales as PlainScales}
use Rattle.packing_terms.specs.declared.ScaleFn.{ScaleFn}
use Rattle.packing_terms.specs.declared.ScaleFn.TheVariants.{Id as PlainId, Step as PlainStep, Cut as PlainCut}
use Rattle.packing_terms.specs.declared.ScaleFn.TheVariants.{Count as PlainCount}
use Rattle.proof_tree.specs.Lines.{token_line}
use Rattle.proof_tree.specs.declared.function.ShortFn.{ShortFn}
use Rattle.proof_tree.specs.declared.function.ShortFn.TheVariants.{Id, Step, Cut, Count}
use Rattle.proof_tree.specs.declared.short.Short.{Short}
use Rattle.proof_tree.specs.declared.short.Short.TheVariants.{Apart, Order, Rules, Scales, Assign, Choose, TakenRefuted}
use Rattle.proof_tree.specs.declared.short.Short.TheVariants.{BinRefuted, ValueShort, Wide}

-- the scale function that it is
abbrev pub shown_fn : ShortFn → ScaleFn
shown_fn Id = PlainId
shown_fn (Step k) = PlainStep k
shown_fn (Cut e) = PlainCut e
shown_fn (Count e) = PlainCount e

-- the token that it is, and none for the next of the wider ones
abbrev pub shown : Short → Option PlainToken
shown (Apart i u v) = Some (PlainApart i u v)
shown (Order i u v) = Some (PlainOrder i u v)
shown Rules = Some PlainRules
shown (Scales f g) = Some (PlainScales (shown_fn f ∷ shown_fn g ∷ []))
shown (Assign v) = Some (PlainAssign v)
shown (Choose v) = Some (PlainChoose v)
shown TakenRefuted = Some (SetRefuted None)
shown (BinRefuted b) = Some (SetRefuted (Some b))
shown ValueShort = Some PlainValueShort
shown Wide = None

-- what one stands for before the others: its token, or the next of the wider ones
abbrev pub put_shown : Option PlainToken → (List PlainToken → List PlainToken) → List PlainToken → List PlainToken
put_shown (Some t) more wides = t ∷ more wides
put_shown None more wides = take 1 wides ++ more (drop 1 wides)

-- the tokens of a list, whose wider ones stand in a list of their own, in the same order
abbrev pub listed : List Short → List PlainToken → List PlainToken
listed [] wides = []
listed (s ∷ ss) wides = put_shown (shown s) (listed ss) wides

-- how many of them are wider
abbrev pub count_wide : Option PlainToken → ℕ
count_wide (Some t) = 0
count_wide None = 1

abbrev pub wide_count : List Short → ℕ
wide_count [] = 0
wide_count (s ∷ ss) = count_wide (shown s) + wide_count ss

-- whether another token stands in its place, and the line of its own
abbrev pub is_none_shown : Option PlainToken → Bool
is_none_shown (Some t) = false
is_none_shown None = true

abbrev pub shown_line : Option PlainToken → List ℕ
shown_line (Some t) = token_line t
shown_line None = []

-- the tokens are those of before, with some more behind them at most
abbrev pub AreLonger : List PlainToken → List PlainToken → Type 0
AreLonger old new = (rest : List PlainToken) × (new ≡ old ++ rest)
