use Rattle.std.proofs.Common.{◌≡◌, ◌∙◌, ap, ap₂, arith, not, if◌then◌else◌, ◌++◌, ◌*◌, ◌+◌, ◌-◌, get_or, take, drop}
use Rattle.document_lines.proofs.PlacesIn.{rows_more}
use Rattle.document_lines.proofs.bins.places_in.Goals as goal

pub loop-v-preserved : goal.loop-v-preserved
loop-v-preserved c =
    let d = c.dims-dims.ensures.value in
    let v = get_or c.args.keep.now c.loop-v.v-index 0 in
    let width : v * c.dims-dims.result + c.dims-dims.result - v * c.dims-dims.result ≡ c.dims-dims.result =
    omega arith in
    rows_more c.args.instance.now c.args.places.now c.requires.count c.args.keep.now c.loop-v.list.items
    c.extend_from_slice.new.self.items c.loop-v.v-index c.loop-v-test.true c.requires.there c.loop-v.invariant
    (c.extend_from_slice.ensures.items
    ∙ (ap (λ t. if t then c.loop-v.list.items
    ++ take (v * c.dims-dims.result + c.dims-dims.result - v * c.dims-dims.result)
    (drop (v * c.dims-dims.result) c.args.places.now) else c.loop-v.list.items)
    (c.is_err.ensures.negation ∙ ap not c.if-is_err.false)
    ∙ ap₂ (λ n m. c.loop-v.list.items ++ take n (drop (v * m) c.args.places.now)) (width ∙ d) d))
