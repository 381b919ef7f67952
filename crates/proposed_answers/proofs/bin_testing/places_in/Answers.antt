use Rattle.std.proofs.Common.{◌≡◌, ◌∙◌, ap, ap₂, arith, not, if◌then◌else◌, ◌++◌, ◌*◌, ◌+◌, ◌-◌, ◌<◌, take, drop}
use Rattle.packing_terms.specs.Packing.{box_count}
use Rattle.proposed_answers.proofs.BinNumbers.{rows_more}
use Rattle.proposed_answers.proofs.bin_testing.places_in.Goals as goal

pub loop-v-preserved : goal.loop-v-preserved
loop-v-preserved c =
    let d = c.dims-dims.ensures.value in
    let first = c.loop-v.v * (c.dims-dims.result + 1) + 1 in
    let width : first + c.dims-dims.result - first ≡ c.dims-dims.result = omega arith in
    let here : c.loop-v.v < box_count c.args.instance.now =
    omega (arith, c.loop-v-test.true, c.len-v-end.ensures.value) in
    rows_more c.args.instance.now c.args.numbers.now c.requires c.loop-v.places.items c.extend_from_slice.new.self.items
    c.loop-v.v here c.loop-v.invariant
    (c.extend_from_slice.ensures.items
    ∙ (ap (λ t. if t then c.loop-v.places.items
    ++ take (first + c.dims-dims.result - first) (drop first c.args.numbers.now) else c.loop-v.places.items)
    (c.is_err.ensures.negation ∙ ap not c.if-is_err.false)
    ∙ ap₂ (λ n m. c.loop-v.places.items ++ take n (drop (c.loop-v.v * (m + 1) + 1) c.args.numbers.now)) (width ∙ d) d))
