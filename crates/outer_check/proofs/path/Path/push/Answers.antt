use Rattle.std.proofs.Common.{arith, ap, length}
use Rattle.std.proofs.lemmas.List.{length-reverse}
use Rattle.outer_check.specs.Frames.{PlainPath}
use Rattle.outer_check.proofs.Paths.{few_splits}
use Rattle.outer_check.proofs.path.Path.push.Goals as goal

pub push_reserved-requires : goal.push_reserved-requires
push_reserved-requires c =
    let few = few_splits _ c.requires in
    let seen = ap (λ (p : PlainPath). length p.frames) c.self.view_is in
    let boxes = ap (λ (p : PlainPath). p.boxes) c.self.view_is in
    let turned = length-reverse c.self.inside.frames.items in
    let room = c.self.invariant.room in
    omega (arith, few, seen, boxes, turned, room)
