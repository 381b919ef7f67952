-- What every replayed board keeps.
use Rattle.std.proofs.Common.{◌≡◌, ℕ, sym, ◌∙◌, subst, arith, List, [], ◌∷◌, length, map, Bool}
use Rattle.std.proofs.lemmas.List.{length-map}
use Rattle.tree_terms.specs.Trees.{SearchTree, outcome}
use Rattle.tree_terms.proofs.Joins.{join_nothing}
use Rattle.tree_terms.proofs.Reached.{root_reached}
use Rattle.work_share.specs.Board.{BoardState, board_start, PlainEntry, at_first, entry_number, with_state, Out}
use Rattle.work_share.specs.Board.{waits_as, is_out}
use Rattle.work_share.specs.Replay.{split_by, done_by, happens, replay, replay_from}
use Rattle.work_share.specs.Kept.{AreFromLeft, task_paths, AreDistinct, AreBelow, AreTasksRight}
use Rattle.work_share.specs.declared.Event.{Event}
use Rattle.work_share.specs.declared.Event.TheVariants as stored
use Rattle.work_share.proofs.Chain.{chain, chain_at_first}
use Rattle.work_share.proofs.Changes.{IsFair, IsInserted, right_at_first, order_at_first, numbers_at_first}
use Rattle.work_share.proofs.Changes.{inserted_numbers, same_changes}
use Rattle.work_share.proofs.Fair.{fair_state, out_keeps, done_keeps, done_entry, done_one, split_fair}

pub record Keeps (tree : SearchTree) (budget : ℕ) (entries : List PlainEntry) : Type 0 where
  pub whole : chain tree entries ≡ outcome tree
  pub right : AreTasksRight tree budget entries
  pub order : AreFromLeft (task_paths entries)
  pub numbers : AreDistinct (map entry_number entries)
  pub below : AreBelow (length entries) (map entry_number entries)

pub keeps_start : (tree : SearchTree) (budget : ℕ) → Keeps tree budget board_start.entries
keeps_start tree budget = record {
  whole = join_nothing (outcome tree);
  right = ((root_reached tree, tt), tt);
  order = (tt, tt);
  numbers = (tt, tt);
  below = (omega arith, tt);
}

-- a fair change keeps it all
pub keeps_change : (tree : SearchTree) (budget : ℕ) (test : PlainEntry → Bool) (change : PlainEntry → List PlainEntry)
    (es : List PlainEntry)
    → IsFair tree budget (length es) change → Keeps tree budget es → Keeps tree budget (at_first test change es)
keeps_change tree budget test change es fair k = record {
  whole = chain_at_first tree test change fair.whole es ∙ k.whole;
  right = right_at_first tree budget (length es) test change fair es k.right;
  order = order_at_first tree budget (length es) test change fair es k.order;
  numbers = both.0;
  below = subst (λ n. AreBelow n (map entry_number (at_first test change es)))
      (length-map (at_first test change es) entry_number) both.1;
}
  where
    size : length (map entry_number es) ≡ length es
    size = length-map es entry_number

    both : AreDistinct (map entry_number (at_first test change es))
        × AreBelow (length (map entry_number (at_first test change es))) (map entry_number (at_first test change es))
    both = inserted_numbers (map entry_number es) (map entry_number (at_first test change es))
        (subst (λ n. IsInserted n (map entry_number es) (map entry_number (at_first test change es))) (sym size)
        (numbers_at_first tree budget (length es) test change fair es))
        k.numbers (subst (λ n. AreBelow n (map entry_number es)) (sym size) k.below)

pub keeps_happens : (tree : SearchTree) (budget : ℕ) (board : BoardState) (event : Event)
    → Keeps tree budget board.entries
    → Keeps tree budget (happens tree budget board event).entries
keeps_happens tree budget board (stored.Take number) k =
    keeps_change tree budget (waits_as number) (λ e. with_state Out e ∷ []) board.entries
    (fair_state tree budget (length board.entries) (with_state Out) (out_keeps tree budget)) k
keeps_happens tree budget board (stored.Split number) k =
    keeps_change tree budget (is_out number) (split_by tree (length board.entries)) board.entries
    (split_fair tree budget (length board.entries)) k
keeps_happens tree budget board (stored.Finish number past) k =
    subst (λ es. Keeps tree budget es) (sym (finishes board.entries))
    (keeps_change tree budget (is_out number) (λ e. done_entry tree budget past e ∷ []) board.entries
    (fair_state tree budget (length board.entries) (done_entry tree budget past) (done_keeps tree budget past)) k)
  where
    finishes : (es : List PlainEntry) → at_first (is_out number) (done_by tree budget past) es
        ≡ at_first (is_out number) (λ e. done_entry tree budget past e ∷ []) es
    finishes es = same_changes (is_out number) (done_by tree budget past) (λ e. done_entry tree budget past e ∷ [])
        (done_one tree budget past) es
keeps_happens tree budget board stored.Short k = k

pub keeps_from : (tree : SearchTree) (budget : ℕ) (board : BoardState) (events : List Event)
    → Keeps tree budget board.entries
    → Keeps tree budget (replay_from tree budget board events).entries
keeps_from tree budget board [] k = k
keeps_from tree budget board (e ∷ es) k =
    keeps_from tree budget (happens tree budget board e) es (keeps_happens tree budget board e k)

pub keeps_replay : (tree : SearchTree) (budget : ℕ) (events : List Event)
    → Keeps tree budget (replay tree budget events).entries
keeps_replay tree budget events = keeps_from tree budget board_start events (keeps_start tree budget)
