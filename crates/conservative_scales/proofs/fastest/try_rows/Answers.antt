use Rattle.std.proofs.Common.{◌≡◌, ◌<◌, ◌+◌, arith, refl, ◌∙◌, drop, length, get_or}
use Rattle.packing_terms.specs.Scales.{function_at}
use Rattle.conservative_scales.proofs.Searching.{at_written, kept_written}
use Rattle.conservative_scales.proofs.Trying.{tuple_tested, tried_found, tried_none, none_more, row_within}
use Rattle.conservative_scales.proofs.fastest.try_rows.Goals as goal

pub exceeds_with-requires-clause-made_room : goal.exceeds_with-requires-clause-made_room
exceeds_with-requires-clause-made_room c =
    rw c.len-boxes.ensures.value
    (row_within c.args.instance.now c.loop-row.row (length c.args.functions.now) (length c.args.made.now)
    c.requires.rows_room (omega arith))

pub returns-then-exceeds_with-clause-found : goal.returns-then-exceeds_with-clause-found
returns-then-exceeds_with-clause-found c =
    let k : 0 < length c.args.tuple.now = omega arith in
    let t = tuple_tested c.args.instance.now c.args.copies (drop 1 c.args.tuple.now)
    (function_at c.args.functions.now c.loop-row.row)
    (λ v. get_or c.args.images.now (c.args.at + v) 0) c.args.whole_product c.exceeds_with.result c.requires.limits
    c.requires.fit c.requires.there (c.requires.rows.legal c.loop-row.row (omega arith)) c.requires.partial
    c.exceeds_with.ensures in
    let e = at_written c.args.instance.now 0 1 0 0 _ c.args.tuple.now
    (function_at c.args.functions.now c.loop-row.row) refl k refl in
    rw (c.loop-row.invariant.same, e)
    (tried_found c.args.instance.now c.args.copies (drop 1 c.args.tuple.now) c.args.functions.now c.args.most
    c.loop-row.row c.requires.most (omega arith) c.loop-row.invariant.none (t ∙ c.if-exceeds_with.true))

pub returns-then-exceeds_with-clause-kept : goal.returns-then-exceeds_with-clause-kept
returns-then-exceeds_with-clause-kept c =
    let k : 0 < length c.args.tuple.now = omega arith in
    rw c.loop-row.invariant.same
    (kept_written c.args.instance.now 0 1 0 0 _ c.args.tuple.now
    (function_at c.args.functions.now c.loop-row.row) refl k refl _ refl)

pub loop-row-preserved : goal.loop-row-preserved
loop-row-preserved c =
    let t = tuple_tested c.args.instance.now c.args.copies (drop 1 c.args.tuple.now)
    (function_at c.args.functions.now c.loop-row.row)
    (λ v. get_or c.args.images.now (c.args.at + v) 0) c.args.whole_product c.exceeds_with.result c.requires.limits
    c.requires.fit c.requires.there (c.requires.rows.legal c.loop-row.row (omega arith)) c.requires.partial
    c.exceeds_with.ensures in
    record {
      none = none_more c.args.instance.now c.args.copies (drop 1 c.args.tuple.now) c.args.functions.now
          c.loop-row.row c.loop-row.invariant.none (t ∙ c.if-exceeds_with.false);
      same = c.loop-row.invariant.same;
    }

pub returns-clause-found : goal.returns-clause-found
returns-clause-found c =
    let e : c.loop-row.row ≡ c.args.most = omega arith in
    tried_none c.args.instance.now c.args.copies (drop 1 c.args.tuple.now) c.args.functions.now c.args.most
    c.requires.most (rw e at c.loop-row.invariant.none)
