-- Small texts, computed.
use Rattle.std.proofs.Common.{◌≡◌, refl, true, false, codes}
use Rattle.text_terms.specs.Lines.{same_bytes}
use Rattle.document_audits.specs.Openings.{tells_kind, IsReadByLines}

comment_first : tells_kind (codes "# a comment\n\n bounded  knapsack # more\n") ≡ true
comment_first = refl

not_ended : tells_kind (codes "\nbounded knapsack") ≡ false
not_ended = refl

blank_alone : tells_kind (codes " \t\r\n# bounded knapsack\n\n") ≡ false
blank_alone = refl

bad_byte : tells_kind (codes "\u{b}\n") ≡ true
bad_byte = refl

nothing : tells_kind (codes "") ≡ false
nothing = refl

-- the heading ends within 18 bytes, and not within 17
by_lines : IsReadByLines 18 (codes "\nbounded knapsack\nformat 1\n")
unfolding same_bytes
by_lines = record { kind = refl; told = refl }

strip_by_lines : IsReadByLines 14 (codes "bounded strip\nformat 1\n")
unfolding same_bytes
strip_by_lines = record { kind = refl; told = refl }
