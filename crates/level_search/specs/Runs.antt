-- Runs of levels that are followed decision by decision.
--
--     refuted        ?        ?       next       ?      placed       or with the two the other way round
--      |-------------|--------|--------|--------|--------|
use Rattle.std.specs.Prelude.{ℕ, ◌≡◌, List, false}
use Rattle.packing_terms.specs.Tokens.{PlainToken}
use Rattle.tree_terms.specs.Levels.{PlainLevel, PlacedBy, RefutedBy, SpentAt, PlainReached, halfway, is_run_over}
use Rattle.level_search.specs.declared.level.Level.{Level}
use Rattle.level_search.specs.declared.level.Level.TheVariants.{Fits, Refuted, Spent}
use Rattle.level_search.specs.declared.level.Reached.{Reached}

-- an answer at a level, with plain lists
abbrev pub plain_level : Level → PlainLevel
plain_level (Fits numbers) = PlacedBy numbers.items
plain_level (Refuted tokens) = RefutedBy tokens
plain_level Spent = SpentAt

-- how far a run came, with plain lists
abbrev pub plain_reached : Reached → PlainReached
plain_reached r = record {
  refuted = r.refuted;
  tokens = r.tokens;
  placed = r.placed;
  numbers = r.numbers.items;
  spent = r.spent;
}

-- the first two levels of a run
abbrev pub first_two : ℕ → List PlainToken → ℕ → List ℕ → PlainReached
first_two refuted tokens placed numbers =
    record { refuted = refuted; tokens = tokens; placed = placed; numbers = numbers; spent = false }

-- the run isn't over, and this level is decided next
abbrev pub IsNext : PlainReached → ℕ → Type 0
IsNext r level = (is_run_over r ≡ false) × (level ≡ halfway r)
