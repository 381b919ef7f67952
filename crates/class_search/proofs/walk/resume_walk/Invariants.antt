use Rattle.std.proofs.Common.{◌≡◌, ◌≤◌, ◌+◌, ◌-◌, ◌*◌, reverse}
use Rattle.class_search.specs.Walks.{walk_tree, IsAtPlace, turns_of, place_turns}
use Rattle.class_search.proofs.walk.resume_walk.Given as goal

abbrev pub invariant-loop-place : goal.invariant-loop-place
invariant-loop-place l = record {
  stands : IsAtPlace l.search.instance.now (walk_tree l.search.instance.now l.fn.state.trail l.fn.walk)
      (reverse l.frames.items) l.state.trail l.tokens l.count l.place;
  within : l.count ≤ l.cap;
  same_dims : l.state.dims ≡ l.fn.state.dims;
  same_boxes : l.state.boxes ≡ l.fn.state.boxes;
  sizes : l.state ≡ record l.fn.state { trail = l.state.trail };
  same_closer : l.closer ≡ l.fn.closer;
}

abbrev pub decreases-loop-place : goal.decreases-loop-place
decreases-loop-place l = 4 * (l.cap - l.count) + (turns_of (reverse l.frames.items) + place_turns l.place)
