use Rattle.std.proofs.Common.{reverse, sym, arith}
use Rattle.tree_terms.specs.Trees.{outcome}
use Rattle.tree_terms.proofs.UnderBudget.{over_budget}
use Rattle.class_search.specs.Visits.{kind_tree}
use Rattle.class_search.specs.Kept.{standing_tree}
use Rattle.class_search.proofs.Ways.{met_count}
use Rattle.class_search.proofs.kept.PausedWalk.explored.Goals as goal

pub returns-then-walk-cap : goal.returns-then-walk-cap
returns-then-walk-cap c =
    let s = c.args.self in
    let m = met_count s.instance.now (reverse s.walk.frames.items) s.state.trail
    (kind_tree s.instance.now s.state.trail s.walk.node) s.walk.tokens s.walk.count
    c.requires.known.walks.met in
    record {
      told_so = sym (over_budget c.args.cap (outcome (standing_tree s))
          (omega (arith, m, c.if-walk-cap.true)));
      left = tt;
    }
