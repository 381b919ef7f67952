use Rattle.std.proofs.Common.{◌<◌, ◌++◌, ℕ, List, ap, ◌∙◌, arith, Vec, Global, ◌==◌}
use Rattle.std.specs.List.{position_or_len}
use Rattle.std.proofs.lemmas.List.{length-map}
use Rattle.packing_terms.specs.Packing.{dims, box_count}
use Rattle.tree_terms.specs.OuterTrees.{coordinates_at}
use Rattle.bin_search.specs.Lists.{lists_of}
use Rattle.bin_search.proofs.ListsOf.{list_at, numbers_next}
use Rattle.bin_search.proofs.numbers.bin_numbers.Goals as goal

pub overflow_cast-b : goal.overflow_cast-b
overflow_cast-b c =
    let l : c.loop-v.v < box_count c.args.instance.now = omega (arith, c.loop-v-test.true, c.len-v-end.ensures.value) in
    let h = c.requires c.loop-v.v l c.bin_of-b.result c.bin_of-b.ensures in
    omega (arith, h)

pub offset_bounds-bins-b : goal.offset_bounds-bins-b
offset_bounds-bins-b c =
    let l : c.loop-v.v < box_count c.args.instance.now = omega (arith, c.loop-v-test.true, c.len-v-end.ensures.value) in
    let h = c.requires c.loop-v.v l c.bin_of-b.result c.bin_of-b.ensures in
    omega (arith, h)

pub bounds-bins-b : goal.bounds-bins-b
bounds-bins-b c =
    let l : c.loop-v.v < box_count c.args.instance.now = omega (arith, c.loop-v-test.true, c.len-v-end.ensures.value) in
    let h = c.requires c.loop-v.v l c.bin_of-b.result c.bin_of-b.ensures in
    let n = length-map c.args.bins.now (λ (x : Vec ℕ Global). x.items) in
    omega (arith, h, n)

pub offset_bounds-answers-b : goal.offset_bounds-answers-b
offset_bounds-answers-b c =
    let l : c.loop-v.v < box_count c.args.instance.now = omega (arith, c.loop-v-test.true, c.len-v-end.ensures.value) in
    let h = c.requires c.loop-v.v l c.bin_of-b.result c.bin_of-b.ensures in
    omega (arith, h)

pub bounds-answers-b : goal.bounds-answers-b
bounds-answers-b c =
    let l : c.loop-v.v < box_count c.args.instance.now = omega (arith, c.loop-v-test.true, c.len-v-end.ensures.value) in
    let h = c.requires c.loop-v.v l c.bin_of-b.result c.bin_of-b.ensures in
    let n = length-map c.args.answers.now (λ (x : Vec ℕ Global). x.items) in
    omega (arith, h, n)

pub push_coordinates-requires : goal.push_coordinates-requires
push_coordinates-requires c =
    let l : c.loop-v.v < box_count c.args.instance.now = omega (arith, c.loop-v-test.true, c.len-v-end.ensures.value) in
    let h = c.requires c.loop-v.v l c.bin_of-b.result c.bin_of-b.ensures in
    let n = length-map c.args.bins.now (λ (x : Vec ℕ Global). x.items) in
    let m = length-map c.args.answers.now (λ (x : Vec ℕ Global). x.items) in
    let e = c.as_slice.ensures.value ∙ list_at c.args.bins.now c.bin_of-b.result c.index-bins-b.result
    (omega (arith, h, n)) c.index-bins-b.is in
    let f = c.as_slice-in-loop-v.ensures.value ∙ list_at c.args.answers.now c.bin_of-b.result c.index-answers-b.result
    (omega (arith, h, m)) c.index-answers-b.is in
    rw (c.position_of.ensures, e, f) h.3

pub loop-v-preserved : goal.loop-v-preserved
loop-v-preserved c =
    let l : c.loop-v.v < box_count c.args.instance.now = omega (arith, c.loop-v-test.true, c.len-v-end.ensures.value) in
    let h = c.requires c.loop-v.v l c.bin_of-b.result c.bin_of-b.ensures in
    let n = length-map c.args.bins.now (λ (x : Vec ℕ Global). x.items) in
    let m = length-map c.args.answers.now (λ (x : Vec ℕ Global). x.items) in
    let e = c.as_slice.ensures.value ∙ list_at c.args.bins.now c.bin_of-b.result c.index-bins-b.result
    (omega (arith, h, n)) c.index-bins-b.is in
    let f = c.as_slice-in-loop-v.ensures.value ∙ list_at c.args.answers.now c.bin_of-b.result c.index-answers-b.result
    (omega (arith, h, m)) c.index-answers-b.is in
    c.in_ok-push_coordinates.ensures.appends
    ∙ (ap (λ (x : List ℕ). x ++ coordinates_at (dims c.args.instance.now) c.as_slice-in-loop-v.result.now
    c.position_of.result) c.in-Ok.ensures.items
    ∙ numbers_next (lists_of c.args.bins.now) (lists_of c.args.answers.now) (dims c.args.instance.now) c.loop-v.v
    c.bin_of-b.result c.position_of.result c.loop-v.all.items c.as_slice-in-loop-v.result.now
    c.loop-v.invariant c.bin_of-b.ensures (c.position_of.ensures ∙ ap (position_or_len (λ u. u == c.loop-v.v)) e) f)
