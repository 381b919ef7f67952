use Rattle.std.proofs.Common.{◌≡◌, ◌∙◌, length, arith}
use Rattle.std.proofs.lemmas.List.{with_items_is}
use Rattle.refutation_steps.proofs.Chaining.{weighed_heads, weighed_tails}
use Rattle.refutation_steps.proofs.chain_steps.weigh_chains.Goals as goal

heads : (c : goal.After-room-2-1) → length c.heads_and_tails.new.head ≡ c.args.room.now.head.len
heads c = c.heads_and_tails.auto.head ∙ c.as_mut_slice-head.ensures.len

tails : (c : goal.After-room-2-1) → length c.heads_and_tails.new.tail ≡ c.args.room.now.tail.len
tails c = c.heads_and_tails.auto.tail ∙ c.as_mut_slice-tail.ensures.len

pub returns-clause-heads : goal.returns-clause-heads
returns-clause-heads c = rw (with_items_is c.args.room.now.head c.heads_and_tails.new.head (heads c))
    (weighed_heads c.args.instance.now c.args.state.now c.args.dim c.requires.sizes c.requires.full
    c.requires.transitive c.len-count.ensures.limits c.heads_and_tails.new.head
    (omega (arith, heads c, c.args.room.now.head.ok.0, c.requires.room.heads)) c.heads_and_tails.ensures.heads)

pub returns-clause-tails : goal.returns-clause-tails
returns-clause-tails c = rw (with_items_is c.args.room.now.tail c.heads_and_tails.new.tail (tails c))
    (weighed_tails c.args.instance.now c.args.state.now c.args.dim c.requires.sizes c.requires.full
    c.requires.transitive c.len-count.ensures.limits c.heads_and_tails.new.tail
    (omega (arith, tails c, c.args.room.now.tail.ok.0, c.requires.room.tails)) c.heads_and_tails.ensures.tails)
