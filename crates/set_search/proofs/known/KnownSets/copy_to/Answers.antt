use Rattle.std.proofs.Common.{sym, subst, ◌∙◌}
use Rattle.set_search.specs.Memories.{AreVerdicts}
use Rattle.set_search.specs.Searches.{PlainSetSearch}
use Rattle.set_search.proofs.Memories.{verdicts_copied}
use Rattle.set_search.proofs.known.KnownSets.copy_to.Goals as goal

pub invariant_of-other : goal.invariant_of-other
invariant_of-other c =
    let same = c.other.view_is ∙ (c.requires ∙ sym c.self.view_is) in
    verdicts_copied c.other.inside.whole.now c.other.inside.scales c.self.inside.memory c.other.inside.memory
    c.copy_to.new.other
    (subst (λ (s : PlainSetSearch). AreVerdicts s.instance s.scales c.self.inside.memory) (sym same) c.self.invariant)
    c.other.invariant c.copy_to.ensures
