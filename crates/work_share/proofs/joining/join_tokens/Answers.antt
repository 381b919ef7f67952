use Rattle.std.proofs.Common.{rules, ◌≡◌, ◌<◌, ◌++◌, ◌+◌, ◌∙◌, sym, ap, subst, add-one, length, drop, set, get_or}
use Rattle.std.proofs.Common.{vec_len, Some}
use Rattle.std.specs.Prelude.{slice_get}
use Rattle.std.proofs.lemmas.List.{length-set}
use Rattle.std.proofs.lemmas.Option.{slice_get_within, get_or_from_slice_get}
use Rattle.work_share.specs.Kept.{AreBelow}
use Rattle.work_share.specs.Slots.{entries_of}
use Rattle.work_share.specs.Links.{next_of, order_of}
use Rattle.work_share.specs.Joining.{entry_tokens}
use Rattle.work_share.proofs.Links.{chain_next, link_set}
use Rattle.work_share.proofs.Advance.{below_there}
use Rattle.work_share.proofs.Tokens.{tokens_more}
use Rattle.work_share.proofs.joining.join_tokens.Goals as goal

pub next_of-behind-requires : goal.next_of-behind-requires
next_of-behind-requires c =
    let order = order_of c.args.slots.items in
    let there : slice_get order c.loop-position._position ≡ Some c.in-Some.number = sym c.loop-position.invariant.here
    ∙ c.in-Some.is in
    let size = ap length c.deref.ensures.value ∙ c.loop-position.invariant.size in
    subst (λ k. c.in-Some.number < k) (sym size)
    (below_there (length c.args.slots.items) order c.loop-position._position c.in-Some.number c.requires.below
    there)

pub index_mut-requires : goal.index_mut-requires
index_mut-requires c =
    let order = order_of c.args.slots.items in
    let there : slice_get order c.loop-position._position ≡ Some c.in-Some.number = sym c.loop-position.invariant.here
    ∙ c.in-Some.is in
    let size : vec_len c.loop-position.slots ≡ length c.args.slots.items =
    search (rules, c.loop-position.invariant.size) in
    subst (λ k. c.in-Some.number < k) (sym size)
    (below_there (length c.args.slots.items) order c.loop-position._position c.in-Some.number c.requires.below
    there)

pub loop-position-preserved : goal.loop-position-preserved
loop-position-preserved c =
    let slots = c.loop-position.slots.items in
    let order = order_of c.args.slots.items in
    let k = c.loop-position._position in
    let n = c.in-Some.number in
    let old = c.index_mut.result.now in
    let new = c.push_tokens.new.slot in
    let there : slice_get order k ≡ Some n = sym c.loop-position.invariant.here ∙ c.in-Some.is in
    let number : get_or order k 0 ≡ n = get_or_from_slice_get order k n 0 there in
    let size = c.loop-position.invariant.size in
    let below = subst (λ m. AreBelow m order) (sym size) c.requires.below in
    let inside = below_there (length slots) order k n below there in
    let value : old ≡ get_or slots n old = c.index_mut.ensures.value in
    let more = tokens_more slots order k old new c.loop-position.tokens
    c.push_tokens.new.tokens (entry_tokens (entries_of c.args.slots.items order)) below
    c.requires.distinct
    (slice_get_within order k n there) (subst (λ m. old ≡ get_or slots m old) (sym number) value)
    c.in_ok-push_tokens.ensures.tokens c.loop-position.invariant.left in
    record {
      left = subst (λ m. c.push_tokens.new.tokens ++ entry_tokens
          (entries_of (set slots m new) (drop (k + 1) order))
          ≡ entry_tokens (entries_of c.args.slots.items order)) number more;
      size = length-set slots n new ∙ size;
      links = λ m. link_set slots n m old new inside value c.push_tokens.ensures.link
          ∙ c.loop-position.invariant.links m;
      here = c.next_of-behind.ensures ∙ (ap (λ ss. next_of ss n) c.deref.ensures.value
          ∙ (c.loop-position.invariant.links n
          ∙ (chain_next c.args.slots.items (Some 0) order k n c.requires.chain there
          ∙ ap (slice_get order) (sym (add-one k)))));
    }
