-- Lines that are left out.
use Rattle.std.specs.Prelude.{◌≡◌, [], ◌∷◌}
use Rattle.verdict_terms.specs.Steps.{PlainStep, tokens_among}

-- the line is no token
abbrev pub IsNoToken : PlainStep → Type 0
IsNoToken line = tokens_among (line ∷ []) ≡ []
