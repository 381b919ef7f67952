use Rattle.std.proofs.Common.{◌∷◌, [], ◌++◌, List, sym, ap, ◌∙◌, get_or, append_assoc}
use Rattle.packing_terms.specs.Packing.{dims}
use Rattle.packing_terms.proofs.Ranges.{flat_map_last_below}
use Rattle.tree_terms.specs.OuterTrees.{coordinates_at}
use Rattle.choice_search.proofs.numbers.choice_numbers.Goals as goal

pub loop-k-preserved : goal.loop-k-preserved
loop-k-preserved c =
    c.in_ok-push_coordinates.ensures.appends
    ∙ (ap (λ (l : List _). l ++ coordinates_at (dims c.args.instance.now) c.args.numbers.now c.loop-k.k)
    (c.in-Ok.ensures.items ∙ ap (λ (l : List _). l ++ get_or c.args.taken.now c.loop-k.k 0 ∷ []) c.loop-k.invariant)
    ∙ (append_assoc _ (get_or c.args.taken.now c.loop-k.k 0 ∷ []) _
    ∙ sym (flat_map_last_below (λ k. get_or c.args.taken.now k 0
    ∷ coordinates_at (dims c.args.instance.now) c.args.numbers.now k) c.loop-k.k)))
