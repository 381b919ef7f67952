use Rattle.std.proofs.Common.{rules, Bool, true, false, MatchBool, refl}
use Rattle.std.proofs.lemmas.Bool.Decides.{not_from_Decides}
use Rattle.std.proofs.lemmas.Slice.Eq.{slice_eq-Decides}
use Rattle.std.specs.Bool.{Decides}
use Rattle.class_search.proofs.same.are_same_exclusions.Goals as goal

by_decision : {P : Type 0} → (r : Bool) → Decides r P → MatchBool r P (¬ P)
by_decision true d = d.0 refl
by_decision false d = not_from_Decides false d refl

pub returns : goal.returns
returns c =
    let first = c.args.first.now in
    let second = c.args.second.now in
    let decides = slice_eq-Decides (λ a b. (search rules, search rules)) first second c.eq.result c.eq.ensures in
    by_decision c.eq.result decides
