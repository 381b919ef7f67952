use Rattle.std.proofs.Common.{rules, ◌≤◌, ◌<◌, ◌⊎◌, inl, inr, ◌∙◌, sym, length}
use Rattle.std.proofs.lemmas.Bool.{cases_lt}
use Rattle.work_share.proofs.Stacks.{left_ends}
use Rattle.work_share.proofs.stack.leads_left.Goals as goal

pub returns : goal.returns
returns c = sym (left_ends c.args.path.now c.args.other.now c.loop-k.k
    (go (cases_lt (length c.args.path.now) (length c.args.other.now)))) ∙ c.loop-k.invariant
  where
    go : (length c.args.path.now < length c.args.other.now) ⊎ (length c.args.other.now ≤ length c.args.path.now)
        → (length c.args.path.now ≤ c.loop-k.k) ⊎ (length c.args.other.now ≤ c.loop-k.k)
    go (inl l) = inl (let e = c.min-len.ensures in let t = c.loop-k-test.false in search (rules, l))
    go (inr l) = inr (let e = c.min-len.ensures in let t = c.loop-k-test.false in search (rules, l))
