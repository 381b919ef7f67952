use Rattle.std.proofs.Common.{◌≡◌, ◌∙◌, sym, subst, length, true, false}
use Rattle.std.proofs.lemmas.Bool.{eqb-true}
use Rattle.std.proofs.lemmas.List.{length-map}
use Rattle.std.proofs.lemmas.Result.{IfOk-weaker}
use Rattle.work_share.specs.Runs.{is_board_over}
use Rattle.work_share.proofs.RunRight.{joins_right}
use Rattle.work_share.specs.Slots.{entry_at, entries_of}
use Rattle.work_share.specs.Boards.{PlainBoard, stored_state}
use Rattle.work_share.specs.Links.{order_of}
use Rattle.work_share.proofs.Fronts.{over_len}
use Rattle.work_share.proofs.Kept.{keeps_stored, distinct_order, below_order}
use Rattle.work_share.proofs.board.Board.joined.Goals as goal

pub join_run-requires-clause-below : goal.join_run-requires-clause-below
join_run-requires-clause-below g c =
    let b = c.self.inside in
    let keeps = keeps_stored (g.T.Tree.shape b.tree.now) b.budget b.slots.items (order_of b.slots.items) b.is_short
    b.history.items c.self.invariant.0.replays in
    (below_order (g.T.Tree.shape b.tree.now) b.budget b.slots.items (order_of b.slots.items) keeps
    c.self.invariant.0.size)

pub join_run-requires-clause-distinct : goal.join_run-requires-clause-distinct
join_run-requires-clause-distinct g c =
    let b = c.self.inside in
    let keeps = keeps_stored (g.T.Tree.shape b.tree.now) b.budget b.slots.items (order_of b.slots.items) b.is_short
    b.history.items c.self.invariant.0.replays in
    (distinct_order (g.T.Tree.shape b.tree.now) b.budget b.slots.items (order_of b.slots.items) keeps)

pub join_run-requires-clause-over : goal.join_run-requires-clause-over
join_run-requires-clause-over g c = λ not_ended.
    let b = c.self.inside in
    let es = entries_of b.slots.items (order_of b.slots.items) in
    let over = subst (λ (v : PlainBoard g.row.T.Denot). is_board_over v.budget v.state ≡ true) (sym c.self.view_is)
    c.requires.over in
    let enough = subst (λ (v : PlainBoard g.row.T.Denot). v.state.is_short ≡ false) (sym c.self.view_is)
    c.requires.enough in
    let len = over_len b.budget b.front.len b.front.count es b.is_short b.front.is_ended c.self.invariant.0.front
    not_ended enough in
    let all = eqb-true b.front.len (length es) (len ∙ over) in
    all ∙ (length-map (order_of b.slots.items) (entry_at b.slots.items) ∙ sym c.self.invariant.0.size)

pub returns-clause-outcome : goal.returns-clause-outcome
returns-clause-outcome g c =
    let b = c.self.inside in
    let tree = g.T.Tree.shape b.tree.now in
    let keeps = keeps_stored tree b.budget b.slots.items (order_of b.slots.items) b.is_short b.history.items
    c.self.invariant.0.replays in
    let over = subst (λ (v : PlainBoard g.row.T.Denot). is_board_over v.budget v.state ≡ true) (sym c.self.view_is)
    c.requires.over in
    let enough = subst (λ (v : PlainBoard g.row.T.Denot). v.state.is_short ≡ false) (sym c.self.view_is)
    c.requires.enough in
    let joins = joins_right tree b.budget (stored_state b.slots.items (order_of b.slots.items) b.is_short) keeps over
    enough in
    rw (← c.self.view_is) (IfOk-weaker c.join_run.result _ _ (λ r h. h ∙ joins) c.join_run.ensures)
