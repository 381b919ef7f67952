use Rattle.std.proofs.Common.{◌+◌, ◌^◌, arith, refl, get_or}
use Rattle.std.proofs.lemmas.Nat.{mul-le}
use Rattle.conservative_scales.proofs.Shares.{shared_next, shared_test}
use Rattle.conservative_scales.proofs.fastest.may_exceed_narrow.Goals as goal

pub overflow_mul-total : goal.overflow_mul-total
overflow_mul-total c =
    let s = c.requires.shares c.loop-box_no.box_no (omega arith) in
    let small = c.requires.small c.loop-box_no.box_no (omega arith) in
    let product = mul-le (get_or c.args.images.now (c.args.at + c.loop-box_no.box_no) 0)
    (get_or c.args.shares.now c.loop-box_no.box_no 0) (2 ^ 32) (2 ^ 20) small (omega (arith, s.1)) in
    omega (arith, product)

pub overflow_add-total-in-loop-box_no : goal.overflow_add-total-in-loop-box_no
overflow_add-total-in-loop-box_no c =
    let s = c.requires.shares c.loop-box_no.box_no (omega arith) in
    let small = c.requires.small c.loop-box_no.box_no (omega arith) in
    let product = mul-le (get_or c.args.images.now (c.args.at + c.loop-box_no.box_no) 0)
    (get_or c.args.shares.now c.loop-box_no.box_no 0) (2 ^ 32) (2 ^ 20) small (omega (arith, s.1)) in
    let so_far = c.loop-box_no.invariant.limit in
    let few = c.requires.limits.boxes.count.1 in
    omega (arith, product, so_far, few)

pub loop-box_no-preserved : goal.loop-box_no-preserved
loop-box_no-preserved c =
    let s = c.requires.shares c.loop-box_no.box_no (omega arith) in
    let small = c.requires.small c.loop-box_no.box_no (omega arith) in
    let product = mul-le (get_or c.args.images.now (c.args.at + c.loop-box_no.box_no) 0)
    (get_or c.args.shares.now c.loop-box_no.box_no 0) (2 ^ 32) (2 ^ 20) small (omega (arith, s.1)) in
    let so_far = c.loop-box_no.invariant.limit in
    record {
      shared = shared_next c.args.instance.now (λ v. get_or c.args.images.now (c.args.at + v) 0) c.loop-box_no.box_no
          c.loop-box_no.total (get_or c.args.shares.now c.loop-box_no.box_no 0) _
          c.loop-box_no.invariant.shared s.0 s.1 refl (omega (arith, small));
      limit = omega (arith, product, so_far);
    }

pub returns : goal.returns
returns c =
    shared_test c.args.instance.now (λ v. get_or c.args.images.now (c.args.at + v) 0) c.args.copies c.loop-box_no.box_no
    c.loop-box_no.total c.args.whole
    c.loop-box_no.invariant.shared (omega arith)
