-- The tree of an instance, whose set has all boxes.
use Rattle.std.proofs.Common.{◌≡◌, refl, sym, ap, List, [], ◌∷◌, get_or, None, Result, Ok, Err}
use Rattle.std.proofs.lemmas.List.FromFn.{fill_by_all}
use Rattle.packing_terms.specs.declared.Exclusion.{Exclusion}
use Rattle.packing_terms.specs.Packing.{PlainInstance, no_box, box_count}
use Rattle.packing_terms.specs.Goals.{subset}
use Rattle.box_instances.specs.Sets.{all_boxes}
use Rattle.verdict_terms.specs.declared.check_answers.RefuseCode.{RefuseCode}
use Rattle.verdict_terms.specs.declared.check_answers.FeedVerdict.{FeedVerdict}
use Rattle.verdict_terms.specs.declared.check_answers.FeedVerdict.TheVariants.{More, Done, Refused}
use Rattle.verdict_terms.specs.Checking.{Checked, checked_by, answered}

-- the set of all boxes has the instance itself
pub whole_set : (instance : PlainInstance) → subset instance (all_boxes instance) ≡ instance
whole_set instance =
    ap (λ bs. record instance { boxes = bs })
    (sym (fill_by_all (λ v. get_or instance.boxes v no_box) instance.boxes (box_count instance) no_box refl
    (λ k l. refl)))

-- a token that is taken, where the tree isn't whole with it
pub record IsFedOn (res : Result (List (List Exclusion)) RefuseCode) (c : Checked (List Exclusion)) : Type 0 where
  pub left : res ≡ Ok c.nodes
  pub on : c.refused ≡ None
  pub node : List Exclusion
  pub nodes : List (List Exclusion)
  pub opens : c.nodes ≡ node ∷ nodes

-- the answer to a token states what the token leaves
abbrev pub IsFedAs : Result (List (List Exclusion)) RefuseCode → Checked (List Exclusion) → FeedVerdict → Type 0
IsFedAs res c More = IsFedOn res c
IsFedAs res c Done = res ≡ Ok []
IsFedAs res c (Refused code) = res ≡ Err code

pub fed_as : (nodes : List (List Exclusion)) (res : Result (List (List Exclusion)) RefuseCode)
    → IsFedAs res (checked_by nodes res) (answered (checked_by nodes res))
fed_as nodes (Ok []) = refl
fed_as nodes (Ok (n ∷ ns)) = record { left = refl; on = refl; node = n; nodes = ns; opens = refl }
fed_as nodes (Err code) = refl
