use Rattle.std.proofs.Common.{arith}
use Rattle.document_lines.proofs.taking.reason_of.Goals as goal

pub group_reason-requires-clause-few : goal.group_reason-requires-clause-few
group_reason-requires-clause-few c = λ k d l. let a = c.requires.set.there k d l in let b =
    c.len-max_boxes.ensures.limits in omega (arith, a, b)
