use Rattle.packing_terms.proofs.RankLemmas.{ranked_are_boxes}
use Rattle.choice_search.proofs.tree.ChoiceTree.tell_root.Goals as goal

pub meet-kind-requires-clause-rest : goal.meet-kind-requires-clause-rest
meet-kind-requires-clause-rest c = ranked_are_boxes c.self.inside.instance.now

pub tell-requires-clause-boxes : goal.tell-requires-clause-boxes
tell-requires-clause-boxes c = ranked_are_boxes c.self.inside.instance.now
