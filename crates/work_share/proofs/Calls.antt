-- Steps of a board are what their events replay to.
use Rattle.std.proofs.Common.{◌≡◌, ℕ, ◌<◌, refl, sym, ap, ◌∙◌, List, [], ◌∷◌, ◌++◌, length, Some, Bool, true, false}
use Rattle.std.proofs.Common.{if◌then◌else◌}
use Rattle.std.proofs.lemmas.List.Sums.{fold-append}
use Rattle.packing_terms.specs.Tokens.{PlainToken}
use Rattle.tree_terms.specs.Trees.{SearchTree, Verdict, under_budget, count_of, node_at}
use Rattle.tree_terms.specs.Paths.{Splits, node_view, outcome_at}
use Rattle.tree_terms.proofs.UnderBudget.{over_budget}
use Rattle.work_share.specs.Board.{BoardState, PlainEntry, TaskEntry, Out, Done, is_out, entry_path, out_path}
use Rattle.work_share.specs.Board.{at_first, with_state, split_into}
use Rattle.work_share.specs.Steps.{Request, AskTask, AskSplit, AskFinish, NoteShort, Reply, Job, NoneWaits, IsOver}
use Rattle.work_share.specs.Steps.{IsDone, divided, finished, outcome_given, with_entries, BoardStep, Call, AreSteps}
use Rattle.work_share.specs.Steps.{event_of, events_of}
use Rattle.work_share.specs.Replay.{told_there, split_as, split_by, outcome_read, done_with, done_by, happens}
use Rattle.work_share.specs.Replay.{replay_from}
use Rattle.work_share.proofs.Outs.{out_is, same_path}

-- where the task of a number is out, two changes that agree on it leave the same
pub same_at_out : (f g : PlainEntry → List PlainEntry) (n : ℕ) (p : List ℕ)
    → f (TaskEntry n p Out) ≡ g (TaskEntry n p Out) → (es : List PlainEntry)
    → out_path n es ≡ Some p → at_first (is_out n) f es ≡ at_first (is_out n) g es
same_at_out f g n p same [] h = refl
same_at_out f g n p same (e ∷ es) h =
    elim (is_out n e) as (λ b. is_out n e ≡ b → (if b then entry_path e else out_path n es) ≡ Some p
    → (if b then f e ++ es else e ∷ at_first (is_out n) f es)
    ≡ (if b then g e ++ es else e ∷ at_first (is_out n) g es)) [
      | true ↦ λ k r. ap (λ xs. xs ++ es) (agree e k r)
      | false ↦ λ _ r. ap (λ xs. e ∷ xs) (same_at_out f g n p same es r)
    ] refl h
  where
    agree : (x : PlainEntry) → is_out n x ≡ true → entry_path x ≡ Some p → f x ≡ g x
    agree x k r =
        let at = out_is n x k in
        let where_at = same_path at.0 p (sym (ap entry_path at.1) ∙ r) in
        let is = at.1 ∙ ap (λ q. TaskEntry n q Out) where_at in
        ap f is ∙ (same ∙ sym (ap g is))

pub divided_is : (tree : SearchTree) (n : ℕ) (path : List ℕ) (node : SearchTree) (token : PlainToken) (own children : ℕ)
    (es : List PlainEntry)
    → out_path n es ≡ Some path → node_at (Some tree) path ≡ Some node → node_view node ≡ Splits token own children
    → divided token own children n es ≡ at_first (is_out n) (split_by tree (length es)) es
divided_is tree n path node token own children es handed there told =
    same_at_out (split_into token own children (length es)) (split_by tree (length es)) n path
    (sym (ap (λ t. split_as t (length es) (TaskEntry n path Out)) (ap told_there there ∙ told))) es handed

pub read_given : (budget : ℕ) (past : Bool) (verdict : Verdict) → (past ≡ true → budget < count_of verdict)
    → outcome_read budget past verdict ≡ outcome_given past verdict
read_given budget true verdict above = over_budget budget verdict (above refl)
read_given budget false verdict above = refl

pub finished_is : (tree : SearchTree) (budget n : ℕ) (past : Bool) (path : List ℕ) (verdict : Verdict)
    (es : List PlainEntry)
    → out_path n es ≡ Some path → outcome_at tree path ≡ Some verdict → (past ≡ true → budget < count_of verdict)
    → finished (outcome_given past verdict) n es ≡ at_first (is_out n) (done_by tree budget past) es
finished_is tree budget n past path verdict es handed there above =
    same_at_out (λ e. with_state (Done (outcome_given past verdict)) e ∷ []) (done_by tree budget past) n path
    (sym (ap (λ o. done_with budget past o (TaskEntry n path Out) ∷ []) there
    ∙ ap (λ o. TaskEntry n path (Done o) ∷ []) (read_given budget past verdict above))) es handed

pub step_happens : (tree : SearchTree) (budget : ℕ) (old : BoardState) (request : Request) (reply : Reply)
    (new : BoardState)
    → BoardStep tree budget old request reply new → new ≡ replay_from tree budget old (event_of request reply)
step_happens tree budget old AskTask (Job task) new s = s.2
step_happens tree budget old AskTask NoneWaits new s = s.2
step_happens tree budget old AskTask IsOver new s = s.1
step_happens tree budget old AskTask IsDone new s = absurd s
step_happens tree budget old (AskSplit number) IsDone new s =
    s.after ∙ ap (with_entries old)
    (divided_is tree number s.path s.node s.token s.own s.children old.entries s.handed s.there s.told)
step_happens tree budget old (AskSplit number) (Job task) new s = absurd s
step_happens tree budget old (AskSplit number) NoneWaits new s = absurd s
step_happens tree budget old (AskSplit number) IsOver new s = absurd s
step_happens tree budget old (AskFinish number past) IsDone new s =
    s.after ∙ ap (with_entries old)
    (finished_is tree budget number past s.path s.verdict old.entries s.handed s.there s.above)
step_happens tree budget old (AskFinish number past) (Job task) new s = absurd s
step_happens tree budget old (AskFinish number past) NoneWaits new s = absurd s
step_happens tree budget old (AskFinish number past) IsOver new s = absurd s
step_happens tree budget old NoteShort IsDone new s = s
step_happens tree budget old NoteShort (Job task) new s = absurd s
step_happens tree budget old NoteShort NoneWaits new s = absurd s
step_happens tree budget old NoteShort IsOver new s = absurd s

pub steps_replay : (tree : SearchTree) (budget : ℕ) (calls : List Call) (old new : BoardState)
    → AreSteps tree budget old calls new
    → new ≡ replay_from tree budget old (events_of calls)
steps_replay tree budget [] old new s = s
steps_replay tree budget (c ∷ cs) old new s =
    steps_replay tree budget cs s.0 new s.2
    ∙ (ap (λ b. replay_from tree budget b (events_of cs)) (step_happens tree budget old c.request c.reply s.0 s.1)
    ∙ sym (fold-append (happens tree budget) old (event_of c.request c.reply) (events_of cs)))
