-- The claim of a result line, by how many words it has.
use Rattle.std.proofs.Common.{◌≡◌, ℕ, ◌≤◌, refl, arith, List, [], ◌∷◌, length, get_or, Err, codes}
use Rattle.packing_terms.specs.Packing.{PlainInstance, box_count}
use Rattle.packing_terms.specs.Limits.{max_height}
use Rattle.text_terms.specs.Claims.{max_worth}
use Rattle.text_terms.specs.declared.claim.Claim.TheVariants.{NoHeight, LeastHeight, HeightBetween, NoBins}
use Rattle.text_terms.specs.declared.claim.Claim.TheVariants.{LeastBins, BinsBetween, GreatestValue, ValueBetween}
use Rattle.text_terms.specs.declared.claim.SolvingJob.{SolvingJob}
use Rattle.text_terms.specs.declared.claim.SolvingJob.TheVariants.{Fit, Strip, Bins, Knapsack}
use Rattle.verdict_terms.specs.Reasons.{form}
use Rattle.verdict_terms.specs.Results.{none_claim, one_claim, two_claim, claim_of}
use Rattle.verdict_terms.specs.Stages.{rest_of}
use Rattle.document_lines.specs.Words.{claimed_fit}

module _ (instance : PlainInstance) where
  pub strip_none : (ws : List (List ℕ)) → length ws ≡ 2
      → none_claim NoHeight (get_or ws 1 []) ≡ claim_of Strip instance (rest_of ws)
  unfolding claim_of
  strip_none [] e = absurd (omega (arith, e))
  strip_none (a ∷ []) e = absurd (omega (arith, e))
  strip_none (a ∷ b ∷ []) e = refl
  strip_none (a ∷ b ∷ c ∷ ws) e = absurd (omega (arith, e))

  pub strip_least : (ws : List (List ℕ)) → length ws ≡ 3
      → one_claim (codes "least") 1 max_height LeastHeight (get_or ws 1 []) (get_or ws 2 [])
      ≡ claim_of Strip instance (rest_of ws)
  unfolding claim_of
  strip_least [] e = absurd (omega (arith, e))
  strip_least (a ∷ []) e = absurd (omega (arith, e))
  strip_least (a ∷ b ∷ []) e = absurd (omega (arith, e))
  strip_least (a ∷ b ∷ c ∷ []) e = refl
  strip_least (a ∷ b ∷ c ∷ d ∷ ws) e = absurd (omega (arith, e))

  pub strip_between : (ws : List (List ℕ)) → length ws ≡ 4
      → two_claim max_height HeightBetween (get_or ws 1 []) (get_or ws 2 []) (get_or ws 3 [])
      ≡ claim_of Strip instance (rest_of ws)
  unfolding claim_of
  strip_between [] e = absurd (omega (arith, e))
  strip_between (a ∷ []) e = absurd (omega (arith, e))
  strip_between (a ∷ b ∷ []) e = absurd (omega (arith, e))
  strip_between (a ∷ b ∷ c ∷ []) e = absurd (omega (arith, e))
  strip_between (a ∷ b ∷ c ∷ d ∷ []) e = refl
  strip_between (a ∷ b ∷ c ∷ d ∷ x ∷ ws) e = absurd (omega (arith, e))

  pub bins_none : (ws : List (List ℕ)) → length ws ≡ 2
      → none_claim NoBins (get_or ws 1 []) ≡ claim_of Bins instance (rest_of ws)
  unfolding claim_of
  bins_none [] e = absurd (omega (arith, e))
  bins_none (a ∷ []) e = absurd (omega (arith, e))
  bins_none (a ∷ b ∷ []) e = refl
  bins_none (a ∷ b ∷ c ∷ ws) e = absurd (omega (arith, e))

  pub bins_least : (ws : List (List ℕ)) → length ws ≡ 3
      → one_claim (codes "least") 1 (box_count instance) LeastBins (get_or ws 1 []) (get_or ws 2 [])
      ≡ claim_of Bins instance (rest_of ws)
  unfolding claim_of
  bins_least [] e = absurd (omega (arith, e))
  bins_least (a ∷ []) e = absurd (omega (arith, e))
  bins_least (a ∷ b ∷ []) e = absurd (omega (arith, e))
  bins_least (a ∷ b ∷ c ∷ []) e = refl
  bins_least (a ∷ b ∷ c ∷ d ∷ ws) e = absurd (omega (arith, e))

  pub bins_between : (ws : List (List ℕ)) → length ws ≡ 4
      → two_claim (box_count instance) BinsBetween (get_or ws 1 []) (get_or ws 2 []) (get_or ws 3 [])
      ≡ claim_of Bins instance (rest_of ws)
  unfolding claim_of
  bins_between [] e = absurd (omega (arith, e))
  bins_between (a ∷ []) e = absurd (omega (arith, e))
  bins_between (a ∷ b ∷ []) e = absurd (omega (arith, e))
  bins_between (a ∷ b ∷ c ∷ []) e = absurd (omega (arith, e))
  bins_between (a ∷ b ∷ c ∷ d ∷ []) e = refl
  bins_between (a ∷ b ∷ c ∷ d ∷ x ∷ ws) e = absurd (omega (arith, e))

  pub value_greatest : (ws : List (List ℕ)) → length ws ≡ 3
      → one_claim (codes "greatest") 0 max_worth GreatestValue (get_or ws 1 []) (get_or ws 2 [])
      ≡ claim_of Knapsack instance (rest_of ws)
  unfolding claim_of
  value_greatest [] e = absurd (omega (arith, e))
  value_greatest (a ∷ []) e = absurd (omega (arith, e))
  value_greatest (a ∷ b ∷ []) e = absurd (omega (arith, e))
  value_greatest (a ∷ b ∷ c ∷ []) e = refl
  value_greatest (a ∷ b ∷ c ∷ d ∷ ws) e = absurd (omega (arith, e))

  pub value_between : (ws : List (List ℕ)) → length ws ≡ 4
      → two_claim max_worth ValueBetween (get_or ws 1 []) (get_or ws 2 []) (get_or ws 3 [])
      ≡ claim_of Knapsack instance (rest_of ws)
  unfolding claim_of
  value_between [] e = absurd (omega (arith, e))
  value_between (a ∷ []) e = absurd (omega (arith, e))
  value_between (a ∷ b ∷ []) e = absurd (omega (arith, e))
  value_between (a ∷ b ∷ c ∷ []) e = absurd (omega (arith, e))
  value_between (a ∷ b ∷ c ∷ d ∷ []) e = refl
  value_between (a ∷ b ∷ c ∷ d ∷ x ∷ ws) e = absurd (omega (arith, e))

  -- another number of words
  pub no_claim : (job : SolvingJob) (ws : List (List ℕ)) → 1 ≤ length ws → (length ws ≡ 2 → ⊥) → (length ws ≡ 3 → ⊥)
      → (length ws ≡ 4 → ⊥) → Err form ≡ claim_of job instance (rest_of ws)
  unfolding claim_of
  no_claim job [] some two three four = absurd (omega (arith, some))
  no_claim job (a ∷ b ∷ []) some two three four = absurd (two refl)
  no_claim job (a ∷ b ∷ c ∷ []) some two three four = absurd (three refl)
  no_claim job (a ∷ b ∷ c ∷ d ∷ []) some two three four = absurd (four refl)
  no_claim Fit (a ∷ []) some two three four = refl
  no_claim Strip (a ∷ []) some two three four = refl
  no_claim Bins (a ∷ []) some two three four = refl
  no_claim Knapsack (a ∷ []) some two three four = refl
  no_claim Fit (a ∷ b ∷ c ∷ d ∷ x ∷ ws) some two three four = refl
  no_claim Strip (a ∷ b ∷ c ∷ d ∷ x ∷ ws) some two three four = refl
  no_claim Bins (a ∷ b ∷ c ∷ d ∷ x ∷ ws) some two three four = refl
  no_claim Knapsack (a ∷ b ∷ c ∷ d ∷ x ∷ ws) some two three four = refl

  -- two words never claim a value
  pub no_value : (ws : List (List ℕ)) → 1 ≤ length ws → (length ws ≡ 3 → ⊥) → (length ws ≡ 4 → ⊥)
      → Err form ≡ claim_of Knapsack instance (rest_of ws)
  unfolding claim_of
  no_value [] some three four = absurd (omega (arith, some))
  no_value (a ∷ []) some three four = refl
  no_value (a ∷ b ∷ []) some three four = refl
  no_value (a ∷ b ∷ c ∷ []) some three four = absurd (three refl)
  no_value (a ∷ b ∷ c ∷ d ∷ []) some three four = absurd (four refl)
  no_value (a ∷ b ∷ c ∷ d ∷ x ∷ ws) some three four = refl

  pub fit_one : (ws : List (List ℕ)) → length ws ≡ 2 → claimed_fit (get_or ws 1 []) ≡ claim_of Fit instance (rest_of ws)
  unfolding claim_of
  fit_one [] e = absurd (omega (arith, e))
  fit_one (a ∷ []) e = absurd (omega (arith, e))
  fit_one (a ∷ b ∷ []) e = refl
  fit_one (a ∷ b ∷ c ∷ ws) e = absurd (omega (arith, e))

  pub fit_none : (ws : List (List ℕ)) → 1 ≤ length ws → (length ws ≡ 2 → ⊥)
      → Err form ≡ claim_of Fit instance (rest_of ws)
  unfolding claim_of
  fit_none [] some two = absurd (omega (arith, some))
  fit_none (a ∷ []) some two = refl
  fit_none (a ∷ b ∷ []) some two = absurd (two refl)
  fit_none (a ∷ b ∷ c ∷ ws) some two = refl
