use Rattle.outer_check.proofs.Paths.{entered}
use Rattle.outer_check.proofs.path.Path.enter.Goals as goal

pub push-requires : goal.push-requires
push-requires c =
    entered c.args.self.now c.args.box_no c.args.children c.args.used c.boxes-boxes.ensures.path c.requires.from
    c.requires.to c.requires.new c.requires.some
    c.ranges.children.fits
