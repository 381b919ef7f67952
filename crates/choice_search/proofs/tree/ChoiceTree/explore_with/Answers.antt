use Rattle.choice_search.proofs.Choosing.{nothing_chosen}
use Rattle.choice_search.proofs.tree.ChoiceTree.explore_with.Goals as goal

pub walk-requires-clause-node : goal.walk-requires-clause-node
walk-requires-clause-node c = rw (c.new.ensures.items, c.new-2.ensures.items)
    (nothing_chosen c.self.inside.instance.now)
