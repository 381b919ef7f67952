use Rattle.std.proofs.Common.{◌≡◌, ◌+◌, ◌*◌, ◌-◌, ◌≤◌, ◌∷◌, ◌++◌, [], length, take, drop, map, replicate}
use Rattle.std.specs.Fmt.{decimal}
use Rattle.instance_text.specs.Writing.{after_spaces}
use Rattle.proof_tree.proofs.line.put_numbers.Given as goal

-- the last k numbers stand before the line feed, and spaces alone before them
abbrev pub invariant-loop-k : goal.invariant-loop-k
invariant-loop-k l =
    (l.k ≤ length l.numbers)
    × ((64 ≤ l.start + 21 * l.k)
    × ((l.start ≤ 64)
    × ((take l.start l.room ≡ replicate l.start 32)
    × (drop l.start l.room ≡ after_spaces (map decimal (drop (length l.numbers - l.k) l.numbers)) ++ 10 ∷ []))))
