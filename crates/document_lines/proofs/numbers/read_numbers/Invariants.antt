use Rattle.std.proofs.Common.{◌≡◌, length, take, drop, Ok}
use Rattle.verdict_terms.specs.Numbers.{all_wanted}
use Rattle.document_lines.proofs.numbers.read_numbers.Given as goal

abbrev pub invariant-loop-k : goal.invariant-loop-k
invariant-loop-k l = (length l.numbers.items ≡ l.k)
    × (all_wanted (take l.k (drop 1 l.line.held.words)) ≡ Ok l.numbers.items)
