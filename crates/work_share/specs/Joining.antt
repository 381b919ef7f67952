-- The tokens of finished entries.
use Rattle.std.specs.Prelude.{List, [], ◌∷◌, ◌++◌}
use Rattle.packing_terms.specs.Tokens.{PlainToken}
use Rattle.tree_terms.specs.Trees.{Yes, No, PlainOutcome, Decided, Past}
use Rattle.work_share.specs.Board.{PlainEntry, SplitEntry, TaskEntry, PlainTaskState, Waits, Out, Done}

abbrev pub tokens_told : PlainOutcome → List PlainToken
tokens_told (Decided (Yes numbers count)) = []
tokens_told (Decided (No tokens count)) = tokens
tokens_told Past = []

abbrev pub tokens_done : PlainTaskState → List PlainToken
tokens_done Waits = []
tokens_done Out = []
tokens_done (Done outcome) = tokens_told outcome

-- the tokens of an entry: a split's token, or those of a task that is done with no
abbrev pub tokens_in : PlainEntry → List PlainToken
tokens_in (SplitEntry number path token own children) = token ∷ []
tokens_in (TaskEntry number path state) = tokens_done state

abbrev pub entry_tokens : List PlainEntry → List PlainToken
entry_tokens [] = []
entry_tokens (e ∷ es) = tokens_in e ++ entry_tokens es
