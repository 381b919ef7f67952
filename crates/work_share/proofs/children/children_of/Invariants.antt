use Rattle.std.proofs.Common.{◌≡◌, ◌+◌, ◌-◌, ◌++◌, length}
use Rattle.work_share.specs.Board.{children_from}
use Rattle.work_share.specs.Slots.{entries_from}
use Rattle.work_share.specs.Links.{links_from, links_of}
use Rattle.work_share.specs.Boards.{waiting_tasks}
use Rattle.work_share.proofs.children.children_of.Given as goal

abbrev pub invariant-loop-k : goal.invariant-loop-k
invariant-loop-k l = record {
  made : entries_from l.first l.slots.items ++ children_from l.path l.k (l.children - l.k) (l.first + l.k)
      ≡ children_from l.path 0 l.children l.first;
  linked : links_of l.slots.items ++ links_from (l.first + l.k) (l.children - l.k) l.behind
      ≡ links_from l.first l.children l.behind;
  waiting : l.tasks.items ++ waiting_tasks (children_from l.path l.k (l.children - l.k) (l.first + l.k))
      ≡ waiting_tasks (children_from l.path 0 l.children l.first);
  size : length l.slots.items ≡ l.k;
}
