use Rattle.std.proofs.Common.{rules, arith, ◌≡◌, ◌≤◌, ◌+◌, ◌*◌, ◌-◌, ◌++◌, ◌∷◌, [], ◌∙◌, sym, ap, ap₂, subst, length}
use Rattle.std.proofs.Common.{reverse, take, drop, vec_len, vec_capacity, Some, IfSome}
use Rattle.tree_terms.specs.Trees.{node_at}
use Rattle.tree_terms.specs.Paths.{Splits, node_view}
use Rattle.work_share.specs.declared.Event.TheVariants as event
use Rattle.work_share.specs.Board.{out_path, children_from}
use Rattle.proof_tree.specs.Plain.{plain_token}
use Rattle.work_share.specs.declared.slot.SlotState.TheVariants as stored
use Rattle.work_share.specs.Slots.{entries_from, with_slot}
use Rattle.work_share.specs.Links.{next_of, order_of, link_to, links_from, links_of, with_link}
use Rattle.work_share.specs.Stacks.{count_left}
use Rattle.work_share.specs.Boards.{PlainBoard, waiting_tasks}
use Rattle.work_share.proofs.Kept.{kept_roomier}
use Rattle.work_share.proofs.Finishing.{out_inside, out_room}
use Rattle.work_share.proofs.Splitting.{split_made, split_tasks}
use Rattle.work_share.proofs.Dividing.{divide_below, divide_size, divide_linked, divide_known, divide_step, divide_kept}
use Rattle.work_share.proofs.board.Board.split.Goals as goal

pub next_of-behind-requires : goal.next_of-behind-requires
next_of-behind-requires g c =
    let b = c.self.inside in
    let n = c.args.task.number in
    let p = c.args.task.path in
    let out = subst (λ (v : PlainBoard g.row.T.Denot). out_path n v.state.entries ≡ Some p) (sym c.self.view_is)
    c.requires.out in
    let inside = out_inside (g.T.Tree.shape b.tree.now) b.budget b.slots.items (order_of b.slots.items) b.waiting.items
    b.front.len b.front.count b.front.is_ended b.is_short
    b.history.items (vec_capacity b.history) c.self.invariant.0 n p out in
    rw (c.number-number.ensures, c.deref.ensures.value) inside

pub invariant_of-self : goal.invariant_of-self
invariant_of-self g c =
    let b = c.self.inside in
    let kept = kept_roomier (g.T.Tree.shape b.tree.now) b.budget b.slots.items (order_of b.slots.items) b.waiting.items
    b.front.len b.front.count b.front.is_ended b.is_short
    b.history.items (vec_capacity b.history) (vec_capacity c.reserve_for.new.history) c.self.invariant.0
    c.reserve_for.ensures.kept in
    rw (c.reserve_for.ensures.slots, c.reserve_for.ensures.waiting, c.reserve_for.ensures.history)
    (kept, c.self.invariant.1)

pub put_children-requires-clause-inside : goal.put_children-requires-clause-inside
put_children-requires-clause-inside g c =
    let b = c.self.inside in
    let n = c.args.task.number in
    let p = c.args.task.path in
    let out = subst (λ (v : PlainBoard g.row.T.Denot). out_path n v.state.entries ≡ Some p) (sym c.self.view_is)
    c.requires.out in
    let inside = out_inside (g.T.Tree.shape b.tree.now) b.budget b.slots.items (order_of b.slots.items) b.waiting.items
    b.front.len b.front.count b.front.is_ended b.is_short
    b.history.items (vec_capacity b.history) c.self.invariant.0 n p out in
    let size : vec_len c.reserve_for.new.slots ≡ length b.slots.items = search (rules, c.reserve_for.ensures.slots) in
    let number = c.number-number.ensures in
    omega (arith, inside, size, number)

pub put_children-requires-clause-enough : goal.put_children-requires-clause-enough
put_children-requires-clause-enough g c =
    let few = c.count_left-left.ensures.few in
    let same = ap length c.deref-2.ensures.value in
    let size : vec_len c.reserve_for.new.waiting ≡ length c.reserve_for.new.waiting.items = search rules in
    omega (arith, few, same, size)

pub put_children-requires-clause-slots_room : goal.put_children-requires-clause-slots_room
put_children-requires-clause-slots_room g c =
    let b = c.self.inside in
    let n = c.args.task.number in
    let p = c.args.task.path in
    let out = subst (λ (v : PlainBoard g.row.T.Denot). out_path n v.state.entries ≡ Some p) (sym c.self.view_is)
    c.requires.out in
    let made = c.in-Ok.made in
    let size : vec_len b.slots ≡ length b.slots.items = search rules in
    let fresh : c.len.result ≡ length b.slots.items = c.len.ensures ∙ size in
    let behind : c.next_of-behind.result ≡ next_of b.slots.items n = c.next_of-behind.ensures
    ∙ ap₂ next_of c.deref.ensures.value c.number-number.ensures in
    let children : entries_from (length b.slots.items) made.slots.items
    ≡ children_from p 0 c.args.children (length b.slots.items) =
    subst (λ k. entries_from k made.slots.items ≡ children_from p 0 c.args.children k) fresh
    (subst (λ q. entries_from c.len.result made.slots.items ≡ children_from q 0 c.args.children c.len.result)
    c.path.ensures c.in-Ok.ensures.slots) in
    let links : links_of made.slots.items ≡ links_from (length b.slots.items) c.args.children
    (next_of b.slots.items n) =
    c.in-Ok.ensures.links ∙ ap₂ (λ k h. links_from k c.args.children h) fresh behind in
    let link : made.link ≡ link_to (length b.slots.items) c.args.children (next_of b.slots.items n) =
    c.in-Ok.ensures.link ∙ ap₂ (λ k h. link_to k c.args.children h) fresh behind in
    let tasks : made.tasks.items ≡ reverse (waiting_tasks (children_from p 0 c.args.children (length b.slots.items))) =
    c.in-Ok.ensures.tasks ∙ ap₂ (λ q k. reverse (waiting_tasks (children_from q 0 c.args.children k)))
    c.path.ensures fresh in
    let made_len = split_made b.slots.items p c.args.children made.slots.items children in
    let count : vec_len made.slots ≡ length made.slots.items = search rules in
    let room = c.in-Ok-reserve_for.ensures.slots_room in
    omega (arith, made_len, count, room)

pub put_children-requires-clause-waiting_room : goal.put_children-requires-clause-waiting_room
put_children-requires-clause-waiting_room g c =
    let b = c.self.inside in
    let n = c.args.task.number in
    let p = c.args.task.path in
    let out = subst (λ (v : PlainBoard g.row.T.Denot). out_path n v.state.entries ≡ Some p) (sym c.self.view_is)
    c.requires.out in
    let made = c.in-Ok.made in
    let size : vec_len b.slots ≡ length b.slots.items = search rules in
    let fresh : c.len.result ≡ length b.slots.items = c.len.ensures ∙ size in
    let behind : c.next_of-behind.result ≡ next_of b.slots.items n = c.next_of-behind.ensures
    ∙ ap₂ next_of c.deref.ensures.value c.number-number.ensures in
    let children : entries_from (length b.slots.items) made.slots.items
    ≡ children_from p 0 c.args.children (length b.slots.items) =
    subst (λ k. entries_from k made.slots.items ≡ children_from p 0 c.args.children k) fresh
    (subst (λ q. entries_from c.len.result made.slots.items ≡ children_from q 0 c.args.children c.len.result)
    c.path.ensures c.in-Ok.ensures.slots) in
    let links : links_of made.slots.items ≡ links_from (length b.slots.items) c.args.children
    (next_of b.slots.items n) =
    c.in-Ok.ensures.links ∙ ap₂ (λ k h. links_from k c.args.children h) fresh behind in
    let link : made.link ≡ link_to (length b.slots.items) c.args.children (next_of b.slots.items n) =
    c.in-Ok.ensures.link ∙ ap₂ (λ k h. link_to k c.args.children h) fresh behind in
    let tasks : made.tasks.items ≡ reverse (waiting_tasks (children_from p 0 c.args.children (length b.slots.items))) =
    c.in-Ok.ensures.tasks ∙ ap₂ (λ q k. reverse (waiting_tasks (children_from q 0 c.args.children k)))
    c.path.ensures fresh in
    let made_len = ap length tasks ∙ split_tasks p c.args.children (length b.slots.items) in
    let count : vec_len made.tasks ≡ length made.tasks.items = search rules in
    let room = c.in-Ok-reserve_for.ensures.waiting_room in
    omega (arith, made_len, count, room)

pub advance-self-inside-requires-clause-below : goal.advance-self-inside-requires-clause-below
advance-self-inside-requires-clause-below g c =
    let b = c.self.inside in
    let n = c.args.task.number in
    let p = c.args.task.path in
    let out = subst (λ (v : PlainBoard g.row.T.Denot). out_path n v.state.entries ≡ Some p) (sym c.self.view_is)
    c.requires.out in
    let made = c.in-Ok.made in
    let size : vec_len b.slots ≡ length b.slots.items = search rules in
    let fresh : c.len.result ≡ length b.slots.items = c.len.ensures ∙ size in
    let behind : c.next_of-behind.result ≡ next_of b.slots.items n = c.next_of-behind.ensures
    ∙ ap₂ next_of c.deref.ensures.value c.number-number.ensures in
    let children : entries_from (length b.slots.items) made.slots.items
    ≡ children_from p 0 c.args.children (length b.slots.items) =
    subst (λ k. entries_from k made.slots.items ≡ children_from p 0 c.args.children k) fresh
    (subst (λ q. entries_from c.len.result made.slots.items ≡ children_from q 0 c.args.children c.len.result)
    c.path.ensures c.in-Ok.ensures.slots) in
    let links : links_of made.slots.items ≡ links_from (length b.slots.items) c.args.children
    (next_of b.slots.items n) =
    c.in-Ok.ensures.links ∙ ap₂ (λ k h. links_from k c.args.children h) fresh behind in
    let link : made.link ≡ link_to (length b.slots.items) c.args.children (next_of b.slots.items n) =
    c.in-Ok.ensures.link ∙ ap₂ (λ k h. link_to k c.args.children h) fresh behind in
    let tasks : made.tasks.items ≡ reverse (waiting_tasks (children_from p 0 c.args.children (length b.slots.items))) =
    c.in-Ok.ensures.tasks ∙ ap₂ (λ q k. reverse (waiting_tasks (children_from q 0 c.args.children k)))
    c.path.ensures fresh in
    let slots : c.put_children.new.slots.items
    ≡ with_slot (with_link b.slots.items n (link_to (length b.slots.items) c.args.children
    (next_of b.slots.items n))) n (stored.Split c.args.token c.args.own c.args.children) ++ made.slots.items =
    c.put_children.ensures.slots
    ∙ (ap₂ (λ ss k. with_slot (with_link ss k made.link) k
    (stored.Split c.args.token c.args.own c.args.children) ++ made.slots.items) c.reserve_for.ensures.slots
    c.number-number.ensures
    ∙ ap (λ l. with_slot (with_link b.slots.items n l) n
    (stored.Split c.args.token c.args.own c.args.children) ++ made.slots.items) link) in
    rw (c.deref-3.ensures.value, slots) (divide_below (g.T.Tree.shape b.tree.now) b.budget b.slots.items
    (order_of b.slots.items) b.waiting.items b.front.len b.front.count b.front.is_ended b.is_short
    b.history.items (vec_capacity b.history) c.self.invariant.0
    n p out c.args.token c.args.own c.args.children made.slots.items children links c.self.invariant.1.chain)

pub advance-self-inside-requires-clause-size : goal.advance-self-inside-requires-clause-size
advance-self-inside-requires-clause-size g c =
    let b = c.self.inside in
    let n = c.args.task.number in
    let p = c.args.task.path in
    let out = subst (λ (v : PlainBoard g.row.T.Denot). out_path n v.state.entries ≡ Some p) (sym c.self.view_is)
    c.requires.out in
    let made = c.in-Ok.made in
    let size : vec_len b.slots ≡ length b.slots.items = search rules in
    let fresh : c.len.result ≡ length b.slots.items = c.len.ensures ∙ size in
    let behind : c.next_of-behind.result ≡ next_of b.slots.items n = c.next_of-behind.ensures
    ∙ ap₂ next_of c.deref.ensures.value c.number-number.ensures in
    let children : entries_from (length b.slots.items) made.slots.items
    ≡ children_from p 0 c.args.children (length b.slots.items) =
    subst (λ k. entries_from k made.slots.items ≡ children_from p 0 c.args.children k) fresh
    (subst (λ q. entries_from c.len.result made.slots.items ≡ children_from q 0 c.args.children c.len.result)
    c.path.ensures c.in-Ok.ensures.slots) in
    let links : links_of made.slots.items ≡ links_from (length b.slots.items) c.args.children
    (next_of b.slots.items n) =
    c.in-Ok.ensures.links ∙ ap₂ (λ k h. links_from k c.args.children h) fresh behind in
    let link : made.link ≡ link_to (length b.slots.items) c.args.children (next_of b.slots.items n) =
    c.in-Ok.ensures.link ∙ ap₂ (λ k h. link_to k c.args.children h) fresh behind in
    let tasks : made.tasks.items ≡ reverse (waiting_tasks (children_from p 0 c.args.children (length b.slots.items))) =
    c.in-Ok.ensures.tasks ∙ ap₂ (λ q k. reverse (waiting_tasks (children_from q 0 c.args.children k)))
    c.path.ensures fresh in
    let slots : c.put_children.new.slots.items
    ≡ with_slot (with_link b.slots.items n (link_to (length b.slots.items) c.args.children
    (next_of b.slots.items n))) n (stored.Split c.args.token c.args.own c.args.children) ++ made.slots.items =
    c.put_children.ensures.slots
    ∙ (ap₂ (λ ss k. with_slot (with_link ss k made.link) k
    (stored.Split c.args.token c.args.own c.args.children) ++ made.slots.items) c.reserve_for.ensures.slots
    c.number-number.ensures
    ∙ ap (λ l. with_slot (with_link b.slots.items n l) n
    (stored.Split c.args.token c.args.own c.args.children) ++ made.slots.items) link) in
    rw (c.deref-3.ensures.value, slots) (divide_size (g.T.Tree.shape b.tree.now) b.budget b.slots.items
    (order_of b.slots.items) b.waiting.items b.front.len b.front.count b.front.is_ended b.is_short
    b.history.items (vec_capacity b.history) c.self.invariant.0
    n p out c.args.token c.args.own c.args.children made.slots.items children links c.self.invariant.1.chain)

pub advance-self-inside-requires-clause-linked : goal.advance-self-inside-requires-clause-linked
advance-self-inside-requires-clause-linked g c =
    let b = c.self.inside in
    let n = c.args.task.number in
    let p = c.args.task.path in
    let out = subst (λ (v : PlainBoard g.row.T.Denot). out_path n v.state.entries ≡ Some p) (sym c.self.view_is)
    c.requires.out in
    let made = c.in-Ok.made in
    let size : vec_len b.slots ≡ length b.slots.items = search rules in
    let fresh : c.len.result ≡ length b.slots.items = c.len.ensures ∙ size in
    let behind : c.next_of-behind.result ≡ next_of b.slots.items n = c.next_of-behind.ensures
    ∙ ap₂ next_of c.deref.ensures.value c.number-number.ensures in
    let children : entries_from (length b.slots.items) made.slots.items
    ≡ children_from p 0 c.args.children (length b.slots.items) =
    subst (λ k. entries_from k made.slots.items ≡ children_from p 0 c.args.children k) fresh
    (subst (λ q. entries_from c.len.result made.slots.items ≡ children_from q 0 c.args.children c.len.result)
    c.path.ensures c.in-Ok.ensures.slots) in
    let links : links_of made.slots.items ≡ links_from (length b.slots.items) c.args.children
    (next_of b.slots.items n) =
    c.in-Ok.ensures.links ∙ ap₂ (λ k h. links_from k c.args.children h) fresh behind in
    let link : made.link ≡ link_to (length b.slots.items) c.args.children (next_of b.slots.items n) =
    c.in-Ok.ensures.link ∙ ap₂ (λ k h. link_to k c.args.children h) fresh behind in
    let tasks : made.tasks.items ≡ reverse (waiting_tasks (children_from p 0 c.args.children (length b.slots.items))) =
    c.in-Ok.ensures.tasks ∙ ap₂ (λ q k. reverse (waiting_tasks (children_from q 0 c.args.children k)))
    c.path.ensures fresh in
    let slots : c.put_children.new.slots.items
    ≡ with_slot (with_link b.slots.items n (link_to (length b.slots.items) c.args.children
    (next_of b.slots.items n))) n (stored.Split c.args.token c.args.own c.args.children) ++ made.slots.items =
    c.put_children.ensures.slots
    ∙ (ap₂ (λ ss k. with_slot (with_link ss k made.link) k
    (stored.Split c.args.token c.args.own c.args.children) ++ made.slots.items) c.reserve_for.ensures.slots
    c.number-number.ensures
    ∙ ap (λ l. with_slot (with_link b.slots.items n l) n
    (stored.Split c.args.token c.args.own c.args.children) ++ made.slots.items) link) in
    rw (c.deref-3.ensures.value, slots) (divide_linked (g.T.Tree.shape b.tree.now) b.budget b.slots.items
    (order_of b.slots.items) b.waiting.items b.front.len b.front.count b.front.is_ended b.is_short
    b.history.items (vec_capacity b.history) c.self.invariant.0
    n p out c.args.token c.args.own c.args.children made.slots.items children links c.self.invariant.1.chain
    b.front.behind c.self.invariant.1.here)

pub advance-self-inside-requires-clause-known : goal.advance-self-inside-requires-clause-known
advance-self-inside-requires-clause-known g c =
    let b = c.self.inside in
    let n = c.args.task.number in
    let p = c.args.task.path in
    let out = subst (λ (v : PlainBoard g.row.T.Denot). out_path n v.state.entries ≡ Some p) (sym c.self.view_is)
    c.requires.out in
    let made = c.in-Ok.made in
    let size : vec_len b.slots ≡ length b.slots.items = search rules in
    let fresh : c.len.result ≡ length b.slots.items = c.len.ensures ∙ size in
    let behind : c.next_of-behind.result ≡ next_of b.slots.items n = c.next_of-behind.ensures
    ∙ ap₂ next_of c.deref.ensures.value c.number-number.ensures in
    let children : entries_from (length b.slots.items) made.slots.items
    ≡ children_from p 0 c.args.children (length b.slots.items) =
    subst (λ k. entries_from k made.slots.items ≡ children_from p 0 c.args.children k) fresh
    (subst (λ q. entries_from c.len.result made.slots.items ≡ children_from q 0 c.args.children c.len.result)
    c.path.ensures c.in-Ok.ensures.slots) in
    let links : links_of made.slots.items ≡ links_from (length b.slots.items) c.args.children
    (next_of b.slots.items n) =
    c.in-Ok.ensures.links ∙ ap₂ (λ k h. links_from k c.args.children h) fresh behind in
    let link : made.link ≡ link_to (length b.slots.items) c.args.children (next_of b.slots.items n) =
    c.in-Ok.ensures.link ∙ ap₂ (λ k h. link_to k c.args.children h) fresh behind in
    let tasks : made.tasks.items ≡ reverse (waiting_tasks (children_from p 0 c.args.children (length b.slots.items))) =
    c.in-Ok.ensures.tasks ∙ ap₂ (λ q k. reverse (waiting_tasks (children_from q 0 c.args.children k)))
    c.path.ensures fresh in
    let slots : c.put_children.new.slots.items
    ≡ with_slot (with_link b.slots.items n (link_to (length b.slots.items) c.args.children
    (next_of b.slots.items n))) n (stored.Split c.args.token c.args.own c.args.children) ++ made.slots.items =
    c.put_children.ensures.slots
    ∙ (ap₂ (λ ss k. with_slot (with_link ss k made.link) k
    (stored.Split c.args.token c.args.own c.args.children) ++ made.slots.items) c.reserve_for.ensures.slots
    c.number-number.ensures
    ∙ ap (λ l. with_slot (with_link b.slots.items n l) n
    (stored.Split c.args.token c.args.own c.args.children) ++ made.slots.items) link) in
    rw (c.deref-3.ensures.value, slots) (divide_known (g.T.Tree.shape b.tree.now) b.budget b.slots.items
    (order_of b.slots.items) b.waiting.items b.front.len b.front.count b.front.is_ended b.is_short
    b.history.items (vec_capacity b.history) c.self.invariant.0
    n p out c.args.token c.args.own c.args.children made.slots.items children links c.self.invariant.1.chain)

pub push_reserved-requires : goal.push_reserved-requires
push_reserved-requires g c =
    let b = c.self.inside in
    let n = c.args.task.number in
    let p = c.args.task.path in
    let out = subst (λ (v : PlainBoard g.row.T.Denot). out_path n v.state.entries ≡ Some p) (sym c.self.view_is)
    c.requires.out in
    let room = out_room (g.T.Tree.shape b.tree.now) b.budget b.slots.items (order_of b.slots.items) b.waiting.items
    b.front.len b.front.count b.front.is_ended b.is_short
    b.history.items (vec_capacity b.history) c.self.invariant.0 n p out in
    let more = c.reserve_for.ensures.kept in
    let size : vec_len c.reserve_for.new.history ≡ length b.history.items =
    search (rules, c.reserve_for.ensures.history) in
    omega (arith, room, more, size)

pub invariant_of-self-2 : goal.invariant_of-self-2
invariant_of-self-2 g c =
    let b = c.self.inside in
    let n = c.args.task.number in
    let p = c.args.task.path in
    let out = subst (λ (v : PlainBoard g.row.T.Denot). out_path n v.state.entries ≡ Some p) (sym c.self.view_is)
    c.requires.out in
    let made = c.in-Ok.made in
    let size : vec_len b.slots ≡ length b.slots.items = search rules in
    let fresh : c.len.result ≡ length b.slots.items = c.len.ensures ∙ size in
    let behind : c.next_of-behind.result ≡ next_of b.slots.items n = c.next_of-behind.ensures
    ∙ ap₂ next_of c.deref.ensures.value c.number-number.ensures in
    let children : entries_from (length b.slots.items) made.slots.items
    ≡ children_from p 0 c.args.children (length b.slots.items) =
    subst (λ k. entries_from k made.slots.items ≡ children_from p 0 c.args.children k) fresh
    (subst (λ q. entries_from c.len.result made.slots.items ≡ children_from q 0 c.args.children c.len.result)
    c.path.ensures c.in-Ok.ensures.slots) in
    let links : links_of made.slots.items ≡ links_from (length b.slots.items) c.args.children
    (next_of b.slots.items n) =
    c.in-Ok.ensures.links ∙ ap₂ (λ k h. links_from k c.args.children h) fresh behind in
    let link : made.link ≡ link_to (length b.slots.items) c.args.children (next_of b.slots.items n) =
    c.in-Ok.ensures.link ∙ ap₂ (λ k h. link_to k c.args.children h) fresh behind in
    let tasks : made.tasks.items ≡ reverse (waiting_tasks (children_from p 0 c.args.children (length b.slots.items))) =
    c.in-Ok.ensures.tasks ∙ ap₂ (λ q k. reverse (waiting_tasks (children_from q 0 c.args.children k)))
    c.path.ensures fresh in
    let slots : c.put_children.new.slots.items
    ≡ with_slot (with_link b.slots.items n (link_to (length b.slots.items) c.args.children
    (next_of b.slots.items n))) n (stored.Split c.args.token c.args.own c.args.children) ++ made.slots.items =
    c.put_children.ensures.slots
    ∙ (ap₂ (λ ss k. with_slot (with_link ss k made.link) k
    (stored.Split c.args.token c.args.own c.args.children) ++ made.slots.items) c.reserve_for.ensures.slots
    c.number-number.ensures
    ∙ ap (λ l. with_slot (with_link b.slots.items n l) n
    (stored.Split c.args.token c.args.own c.args.children) ++ made.slots.items) link) in
    let right = subst (λ (v : PlainBoard g.row.T.Denot). IfSome (node_at (Some (g.T.Tree.shape v.tree)) p)
    (λ node. node_view node ≡ Splits (plain_token c.args.token) c.args.own c.args.children))
    (sym c.self.view_is) c.requires.told in
    let waiting = c.reserve_for.ensures.waiting in
    let left : c.count_left-left.result ≡ count_left p (reverse b.waiting.items) =
    c.count_left-left.ensures.count ∙ ap₂ (λ q ts. count_left q (reverse ts)) c.path-2.ensures (c.deref-2.ensures.value
    ∙ waiting) in
    let old_len : vec_len c.reserve_for.new.waiting ≡ length b.waiting.items = search (rules, waiting) in
    let stacked : c.put_children.new.waiting.items ≡ _ = c.put_children.ensures.waiting
    ∙ (ap₂ (λ k ts. take (k - c.count_left-left.result)
    ts ++ (made.tasks.items ++ drop (k - c.count_left-left.result) ts)) old_len waiting
    ∙ ap (λ ts. take (length b.waiting.items - c.count_left-left.result)
    b.waiting.items ++ (ts ++ drop (length b.waiting.items - c.count_left-left.result) b.waiting.items)) tasks) in
    let slots_len : vec_len c.reserve_for.new.slots
    ≡ length b.slots.items = search (rules, c.reserve_for.ensures.slots) in
    let old_size = c.self.invariant.0.size in
    let roomy : 2 * (length (order_of b.slots.items) + c.args.children) + 1 ≤ vec_capacity c.reserve_for.new.history =
    let r = c.in-Ok-reserve_for.ensures.history_room in omega (arith, r, slots_len, old_size) in
    let front = rw (c.deref-3.ensures.value, slots) at c.advance-self-inside.ensures.front in
    let linked = rw (c.deref-3.ensures.value, slots) at c.advance-self-inside.ensures.linked in
    let kept = divide_kept (g.T.Tree.shape b.tree.now) b.budget b.slots.items (order_of b.slots.items) b.waiting.items
    b.front.len b.front.count b.front.is_ended b.is_short
    b.history.items (vec_capacity b.history) c.self.invariant.0
    n p out c.args.token c.args.own c.args.children made.slots.items children links c.self.invariant.1.chain right
    c.put_children.new.waiting.items (vec_capacity c.reserve_for.new.history) c.count_left-left.result left stacked
    roomy
    c.advance-self-inside.result.len c.advance-self-inside.result.count c.advance-self-inside.result.is_ended front in
    let history = c.push_reserved.ensures.items ∙ ap₂ (λ h k. h ++ event.Split k ∷ []) c.reserve_for.ensures.history
    c.number.ensures in
    rw (slots, history, c.push_reserved.ensures.capacity) (kept, linked)

pub returns-clause-step : goal.returns-clause-step
returns-clause-step g c =
    let b = c.self.inside in
    let n = c.args.task.number in
    let p = c.args.task.path in
    let out = subst (λ (v : PlainBoard g.row.T.Denot). out_path n v.state.entries ≡ Some p) (sym c.self.view_is)
    c.requires.out in
    let made = c.in-Ok.made in
    let size : vec_len b.slots ≡ length b.slots.items = search rules in
    let fresh : c.len.result ≡ length b.slots.items = c.len.ensures ∙ size in
    let behind : c.next_of-behind.result ≡ next_of b.slots.items n = c.next_of-behind.ensures
    ∙ ap₂ next_of c.deref.ensures.value c.number-number.ensures in
    let children : entries_from (length b.slots.items) made.slots.items
    ≡ children_from p 0 c.args.children (length b.slots.items) =
    subst (λ k. entries_from k made.slots.items ≡ children_from p 0 c.args.children k) fresh
    (subst (λ q. entries_from c.len.result made.slots.items ≡ children_from q 0 c.args.children c.len.result)
    c.path.ensures c.in-Ok.ensures.slots) in
    let links : links_of made.slots.items ≡ links_from (length b.slots.items) c.args.children
    (next_of b.slots.items n) =
    c.in-Ok.ensures.links ∙ ap₂ (λ k h. links_from k c.args.children h) fresh behind in
    let link : made.link ≡ link_to (length b.slots.items) c.args.children (next_of b.slots.items n) =
    c.in-Ok.ensures.link ∙ ap₂ (λ k h. link_to k c.args.children h) fresh behind in
    let tasks : made.tasks.items ≡ reverse (waiting_tasks (children_from p 0 c.args.children (length b.slots.items))) =
    c.in-Ok.ensures.tasks ∙ ap₂ (λ q k. reverse (waiting_tasks (children_from q 0 c.args.children k)))
    c.path.ensures fresh in
    let slots : c.put_children.new.slots.items
    ≡ with_slot (with_link b.slots.items n (link_to (length b.slots.items) c.args.children
    (next_of b.slots.items n))) n (stored.Split c.args.token c.args.own c.args.children) ++ made.slots.items =
    c.put_children.ensures.slots
    ∙ (ap₂ (λ ss k. with_slot (with_link ss k made.link) k
    (stored.Split c.args.token c.args.own c.args.children) ++ made.slots.items) c.reserve_for.ensures.slots
    c.number-number.ensures
    ∙ ap (λ l. with_slot (with_link b.slots.items n l) n
    (stored.Split c.args.token c.args.own c.args.children) ++ made.slots.items) link) in
    let right = subst (λ (v : PlainBoard g.row.T.Denot). IfSome (node_at (Some (g.T.Tree.shape v.tree)) p)
    (λ node. node_view node ≡ Splits (plain_token c.args.token) c.args.own c.args.children))
    (sym c.self.view_is) c.requires.told in
    rw (slots, ← c.self.view_is) (divide_step (g.T.Tree.shape b.tree.now) b.budget b.slots.items
    (order_of b.slots.items) b.waiting.items b.front.len b.front.count b.front.is_ended b.is_short
    b.history.items (vec_capacity b.history) c.self.invariant.0
    n p out c.args.token c.args.own c.args.children made.slots.items children links c.self.invariant.1.chain right)
