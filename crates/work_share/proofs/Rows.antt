-- Two runs of a board over the class tree of four boxes that don't fit in a row, computed from the definitions.
use Rattle.std.proofs.Common.{◌≡◌, ℕ, refl, List, [], ◌∷◌, Option, Some, false}
use Rattle.packing_terms.specs.Packing.{PlainInstance, PlainBox}
use Rattle.packing_terms.specs.Tokens.{PlainToken}
use Rattle.packing_terms.specs.Tokens.PlainToken.{Order, Rules}
use Rattle.tree_terms.specs.Trees.{SearchTree, No, Decided, Past, node_at}
use Rattle.tree_terms.specs.ClassTree.{class_tree}
use Rattle.work_share.specs.Board.{BoardState, PlainTask, board_start, SplitEntry, TaskEntry, Waits, Out, Done}
use Rattle.work_share.specs.Runs.{is_board_over, board_joined}
use Rattle.work_share.specs.Steps.{Request, AskTask, AskSplit, AskFinish, Reply, Job, NoneWaits, IsOver, IsDone, Call}
use Rattle.work_share.specs.Steps.{AreSteps}
use Rattle.work_share.specs.Replay.{replay}
use Rattle.work_share.specs.declared.Event.TheVariants as stored

abbrev box : ℕ → ℕ → PlainBox
box a b = record { sides = a ∷ b ∷ []; value = 1 }

-- four boxes that must stand in a row, where only three have room
abbrev row_of_four : PlainInstance
row_of_four = record {
  container = 10 ∷ 10 ∷ [];
  kerfs = 0 ∷ 0 ∷ [];
  boxes = box 3 6 ∷ box 3 6 ∷ box 3 6
      ∷ box 3 6 ∷ [];
}

abbrev four : SearchTree
four = class_tree row_of_four [] false

abbrev first_tokens : List PlainToken
first_tokens = Order 1 1 3 ∷ Order 1 2 3 ∷ Rules ∷ Rules ∷ Rules ∷ []

abbrev second_tokens : List PlainToken
second_tokens = Order 1 1 3 ∷ Rules ∷ Order 1 2 3 ∷ Rules ∷ Rules ∷ []

abbrev all_tokens : List PlainToken
all_tokens =
    Order 1 1 2 ∷ Order 1 1 3 ∷ Order 1 2 3 ∷ Rules ∷ Rules ∷ Rules ∷ Order 1 1 3 ∷ Rules ∷ Order 1 2 3 ∷ Rules
    ∷ Rules ∷ []

abbrev task : List ℕ → ℕ → PlainTask
task path number = record { path = path; number = number }

abbrev asked : Request → Reply → Call
asked request reply = record { request = request; reply = reply }

-- Under a budget of 5 the second child is finished before the first.
abbrev whole_calls : List Call
whole_calls =
    asked AskTask (Job (task [] 0)) ∷ asked (AskSplit 0) IsDone ∷ asked AskTask (Job (task (0 ∷ []) 1))
    ∷ asked AskTask (Job (task (1 ∷ []) 2))
    ∷ asked AskTask NoneWaits ∷ asked (AskFinish 2 false) IsDone ∷ asked AskTask NoneWaits
    ∷ asked (AskFinish 1 false) IsDone ∷ asked AskTask IsOver ∷ []

abbrev root_out : BoardState
root_out = record { entries = TaskEntry 0 [] Out ∷ []; is_short = false }

abbrev after_split : BoardState
after_split = record {
  entries = SplitEntry 0 [] (Order 1 1 2) 1 2 ∷ TaskEntry 1 (0 ∷ []) Waits ∷ TaskEntry 2 (1 ∷ []) Waits ∷ [];
  is_short = false;
}

abbrev first_out : BoardState
first_out = record {
  entries = SplitEntry 0 [] (Order 1 1 2) 1 2 ∷ TaskEntry 1 (0 ∷ []) Out ∷ TaskEntry 2 (1 ∷ []) Waits ∷ [];
  is_short = false;
}

abbrev both_out : BoardState
both_out = record {
  entries = SplitEntry 0 [] (Order 1 1 2) 1 2 ∷ TaskEntry 1 (0 ∷ []) Out ∷ TaskEntry 2 (1 ∷ []) Out ∷ [];
  is_short = false;
}

abbrev second_done : BoardState
second_done = record {
  entries = SplitEntry 0 [] (Order 1 1 2) 1 2 ∷ TaskEntry 1 (0 ∷ []) Out
      ∷ TaskEntry 2 (1 ∷ []) (Done (Decided (No second_tokens 2))) ∷ [];
  is_short = false;
}

abbrev both_done : BoardState
both_done = record {
  entries =
      SplitEntry 0 [] (Order 1 1 2) 1 2 ∷ TaskEntry 1 (0 ∷ []) (Done (Decided (No first_tokens 2)))
      ∷ TaskEntry 2 (1 ∷ []) (Done (Decided (No second_tokens 2))) ∷ [];
  is_short = false;
}

abbrev root : Option SearchTree
root = node_at (Some four) []

whole_run : AreSteps four 5 board_start whole_calls both_done
whole_run = (
  root_out,
  (refl, refl, refl),
  (
    after_split,
    record {
      path = [];
      handed = refl;
      node = four;
      there = refl;
      token = Order 1 1 2;
      own = 1;
      children = 2;
      told = refl;
      after = refl;
    },
    (
      first_out,
      (refl, refl, refl),
      (
        both_out,
        (refl, refl, refl),
        (
          both_out,
          (refl, refl, refl),
          (
            second_done,
            record {
              path = 1 ∷ [];
              handed = refl;
              verdict = No second_tokens 2;
              there = refl;
              above = λ e. absurd (cc e);
              after = refl;
            },
            (
              second_done,
              (refl, refl, refl),
              (
                both_done,
                record {
                  path = 0 ∷ [];
                  handed = refl;
                  verdict = No first_tokens 2;
                  there = refl;
                  above = λ e. absurd (cc e);
                  after = refl;
                },
                (both_done, (refl, refl), refl),
              ),
            ),
          ),
        ),
      ),
    ),
  ),
)

whole_joined : board_joined 5 both_done ≡ Decided (No all_tokens 5)
whole_joined = refl

whole_replayed : replay four 5
    (stored.Take 0 ∷ stored.Split 0 ∷ stored.Take 1 ∷ stored.Take 2 ∷ stored.Finish 2 false ∷ stored.Finish 1 false
    ∷ []) ≡ both_done
whole_replayed = refl

-- Under a budget of 2 the leftmost run is past the budget while the second child waits.
abbrev past_calls : List Call
past_calls =
    asked AskTask (Job (task [] 0)) ∷ asked (AskSplit 0) IsDone ∷ asked AskTask (Job (task (0 ∷ []) 1))
    ∷ asked (AskFinish 1 false) IsDone
    ∷ asked AskTask IsOver ∷ []

abbrev first_done : BoardState
first_done = record {
  entries = SplitEntry 0 [] (Order 1 1 2) 1 2 ∷ TaskEntry 1 (0 ∷ []) (Done (Decided (No first_tokens 2)))
      ∷ TaskEntry 2 (1 ∷ []) Waits ∷ [];
  is_short = false;
}

past_run : AreSteps four 2 board_start past_calls first_done
past_run = (
  root_out,
  (refl, refl, refl),
  (
    after_split,
    record {
      path = [];
      handed = refl;
      node = four;
      there = refl;
      token = Order 1 1 2;
      own = 1;
      children = 2;
      told = refl;
      after = refl;
    },
    (
      first_out,
      (refl, refl, refl),
      (
        first_done,
        record {
          path = 0 ∷ [];
          handed = refl;
          verdict = No first_tokens 2;
          there = refl;
          above = λ e. absurd (cc e);
          after = refl;
        },
        (first_done, (refl, refl), refl),
      ),
    ),
  ),
)

past_joined : board_joined 2 first_done ≡ Past
past_joined = refl

-- Without a budget that is spent the same board isn't over.
not_over_yet : is_board_over 5 first_done ≡ false
not_over_yet = refl
