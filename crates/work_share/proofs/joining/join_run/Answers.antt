use Rattle.std.proofs.Common.{rules, arith, ◌≡◌, ◌<◌, ◌+◌, ◌∙◌, sym, ap, subst, length, take, drop, get_or, vec_len}
use Rattle.std.proofs.Common.{true, ℕ, List, Bool}
use Rattle.work_share.specs.Board.{PlainEntry}
use Rattle.std.proofs.lemmas.List.{length-map}
use Rattle.tree_terms.specs.Trees.{No, Decided, under_budget, join}
use Rattle.work_share.specs.Runs.{run_of, with_entry}
use Rattle.work_share.specs.Slots.{entry_at, entries_of}
use Rattle.work_share.specs.Links.{order_of}
use Rattle.work_share.specs.Fronts.{IsFront, Ends, piece_of}
use Rattle.work_share.specs.Joining.{entry_tokens}
use Rattle.work_share.proofs.Links.{number_there}
use Rattle.work_share.proofs.Advance.{no_entry, entry_read, linked_below, linked_entry}
use Rattle.work_share.proofs.Tokens.{joined_all, joined_end, ends_at, piece_any}
use Rattle.work_share.proofs.joining.join_run.Goals as goal

ended_front : {budget len count : ℕ} {es : List PlainEntry} {ended : Bool} → IsFront budget es len count ended
    → ended ≡ true → IsFront budget es len count true
ended_front {budget} {len} {count} {es} f e = subst (λ b. IsFront budget es len count b) e f

pub unreachable-requires : goal.unreachable-requires
unreachable-requires c =
    let order = order_of c.args.slots.items in
    let es = entries_of c.args.slots.items order in
    let at = ends_at c.args.budget c.args.front.len c.args.front.count es no_entry
    (ended_front c.requires.front c.if-front.true) in
    let inside : c.args.front.len < length order =
    subst (λ n. c.args.front.len < n) (length-map order (entry_at c.args.slots.items)) at.0 in
    c.in_default.not-Some (get_or order c.args.front.len 0)
    (number_there c.args.slots.items c.args.front.len c.args.front.behind c.requires.linked inside)

pub index_mut-requires : goal.index_mut-requires
index_mut-requires c =
    let size : vec_len c.args.slots ≡ length c.args.slots.items = search rules in
    subst (λ n. c.in-Some.number < n) (sym size)
    (linked_below c.args.slots.items c.args.front.len c.in-Some.number c.args.front.behind c.requires.linked
    c.in-Some.is c.requires.below)

pub end_run-requires-clause-ends : goal.end_run-requires-clause-ends
end_run-requires-clause-ends c number =
    let slots = c.args.slots.items in
    let es = entries_of slots (order_of slots) in
    let n = c.in-Some.number in
    let slot = c.index_mut.result.now in
    let at = ends_at c.args.budget c.args.front.len c.args.front.count es no_entry
    (ended_front c.requires.front c.if-front.true) in
    let inside = linked_below c.args.slots.items c.args.front.len c.in-Some.number c.args.front.behind
    c.requires.linked c.in-Some.is c.requires.below in
    let is = linked_entry c.args.slots.items c.args.front.len c.in-Some.number c.args.front.behind c.requires.linked
    c.in-Some.is no_entry ∙ entry_read slots n slot inside c.index_mut.ensures.value in
    subst (Ends c.args.budget c.args.front.count) (ap piece_of is ∙ piece_any n number slot) at.1

pub returns-then-front : goal.returns-then-front
returns-then-front c =
    let slots = c.args.slots.items in
    let es = entries_of slots (order_of slots) in
    let n = c.in-Some.number in
    let slot = c.index_mut.result.now in
    let f = ended_front c.requires.front c.if-front.true in
    let inside = linked_below c.args.slots.items c.args.front.len c.in-Some.number c.args.front.behind
    c.requires.linked c.in-Some.is c.requires.below in
    let is = linked_entry c.args.slots.items c.args.front.len c.in-Some.number c.args.front.behind c.requires.linked
    c.in-Some.is no_entry ∙ entry_read slots n slot inside c.index_mut.ensures.value in
    let rest = run_of c.args.budget (drop (c.args.front.len + 1) es) in
    c.end_run.ensures n (entry_tokens (take c.args.front.len es)) rest
    ∙ (ap (λ e. under_budget c.args.budget
    (join (No (entry_tokens (take c.args.front.len es)) c.args.front.count)
    (with_entry c.args.budget e rest).verdict)) (sym is)
    ∙ joined_end c.args.budget c.args.front.len c.args.front.count es no_entry f)

pub returns : goal.returns
returns c =
    let slots = c.args.slots.items in
    let es = entries_of slots (order_of slots) in
    let f = subst (λ b. IsFront c.args.budget es c.args.front.len c.args.front.count b) c.if-front.false
    c.requires.front in
    let len = c.requires.over c.if-front.false in
    let size = c.requires.size in
    let all = length-map (order_of slots) (entry_at slots) in
    ap (λ ts. Decided (No ts c.args.front.count)) c.in_ok-tokens.ensures
    ∙ joined_all c.args.budget c.args.front.len c.args.front.count es f (omega (arith, len, size, all))
