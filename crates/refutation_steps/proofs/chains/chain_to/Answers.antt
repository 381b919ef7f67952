use Rattle.std.proofs.Common.{◌∙◌, ap, List, ℕ, reverse}
use Rattle.std.proofs.lemmas.List.{with_items_is}
use Rattle.refutation_steps.proofs.Chaining.{chain_to_by}
use Rattle.refutation_steps.proofs.chains.chain_to.Goals as goal

pub returns : goal.returns
returns c = rw (with_items_is c.push_run.new.boxes c.reverse.new.self
    (c.reverse.auto.self ∙ c.as_mut_slice.ensures.len))
    (chain_to_by c.args.instance.now c.args.state.now c.args.dim c.args.head.now c.args.v _ _ _ c.clear.ensures.items
    c.in_ok-push_run.ensures
    (c.reverse.ensures.after ∙ ap (λ (l : List ℕ). reverse l) c.as_mut_slice.ensures.value))
