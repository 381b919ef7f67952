use Rattle.work_share.specs.Outcomes.{plain_outcome}
use Rattle.set_search.proofs.Memories.{put_after}
use Rattle.set_search.proofs.cache.SetCache.keep.Goals as goal

pub returns : goal.returns
returns c = put_after c.args.self.now c.make_room.new.self c.keep_within.new.self
    (record {
      boxes = c.args.key.now.boxes;
      budget = c.args.budget;
      outcome = plain_outcome c.args.outcome.now;
    })
    c.make_room.ensures c.keep_within.ensures
