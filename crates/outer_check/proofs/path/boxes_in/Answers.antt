use Rattle.std.proofs.Common.{false}
use Rattle.std.proofs.lemmas.List.{get_or-replicate}
use Rattle.outer_check.proofs.path.boxes_in.Goals as goal

pub loop-frame-init : goal.loop-frame-init
loop-frame-init c v small = get_or-replicate 128 v false false small
