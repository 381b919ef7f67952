use Rattle.std.proofs.Common.{◌+◌, ◌*◌, arith, ◌∷◌, [], ◌++◌, List, length, map, sym, ap, ◌∙◌, get_or, append_assoc}
use Rattle.std.proofs.Common.{length-append}
use Rattle.std.proofs.lemmas.List.FromFn.{map-range_with_len_more, length-map-range_with_len}
use Rattle.packing_terms.specs.Sums.{below}
use Rattle.set_search.proofs.answer.push_coordinates.Goals as goal

pub push_reserved-requires : goal.push_reserved-requires
push_reserved-requires c =
    let pushed = map (λ i. get_or c.args.numbers.now (c.args.k * c.dims-dims.result + i) 0) (below c.loop-i.i) in
    let whole = ap length c.loop-i.invariant.0 ∙ length-append c.args.into.now.items pushed in
    let count = length-map-range_with_len (λ i. get_or c.args.numbers.now (c.args.k * c.dims-dims.result + i) 0) 0
    c.loop-i.i in
    omega (arith, whole, count, c.loop-i.invariant.1, c.loop-i-test.true)

pub loop-i-preserved : goal.loop-i-preserved
loop-i-preserved c = (
  c.push_reserved.ensures.items
      ∙ (ap (λ (l : List _). l ++ get_or c.args.numbers.now (c.args.k * c.dims-dims.result + c.loop-i.i) 0 ∷ [])
      c.loop-i.invariant.0
      ∙ (append_assoc c.args.into.now.items _ _
      ∙ ap (λ (l : List _). c.args.into.now.items ++ l)
      (sym (map-range_with_len_more (λ i. get_or c.args.numbers.now (c.args.k * c.dims-dims.result + i) 0) 0
      c.loop-i.i c.loop-i.i (omega arith))))),
  rw c.push_reserved.ensures.capacity c.loop-i.invariant.1,
)
