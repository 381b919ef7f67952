-- Proposed boxes, and their numbers in an answer.
use Rattle.std.proofs.Common.{◌≡◌, ◌∙◌, ℕ, ◌+◌, ◌-◌, ◌*◌, ◌<◌, ◌≤◌, sym, ap, arith, eqb, List, length, get_or, Bool}
use Rattle.std.proofs.Common.{true, false}
use Rattle.std.proofs.lemmas.Bool.{eqb-true, eqb-false}
use Rattle.std.specs.Prelude.{MatchBool}
use Rattle.std.specs.List.Sorted.{IsStrictlyIncreasing}
use Rattle.std.proofs.lemmas.List.{length-map, nil_from_length}
use Rattle.packing_terms.specs.Packing.{PlainInstance, IsPacking, dims}
use Rattle.packing_terms.specs.Goals.{subset, worth, IsBoxSet}
use Rattle.packing_terms.proofs.Neighbours.{none_packed}
use Rattle.verdict_terms.specs.declared.check_answers.PlaceVerdict.{PlaceVerdict}
use Rattle.verdict_terms.specs.declared.check_answers.PlaceVerdict.TheVariants.{Good, Overlap}
use Rattle.verdict_terms.specs.Placing.{place_verdict}
use Rattle.verdict_terms.proofs.Places.{places_tested}
use Rattle.tree_terms.specs.OuterTrees.{choice_numbers}
use Rattle.proposed_answers.specs.Values.{IsChoice, top_value, ShowsLevel}

-- as many coordinates as the boxes have
pub choice_places : (instance : PlainInstance) (taken places : List ℕ) → IsChoice instance taken places
    → length taken * dims instance ≡ length places
choice_places instance taken places is = ap (λ n. n * dims instance) (sym (length-map taken _)) ∙ sym (is.packing).count

-- whether a set of boxes and their places are a choice, by whether the places are a packing
pub choice_by : (instance : PlainInstance) (taken places : List ℕ) → IsBoxSet instance taken → (b : Bool)
    → MatchBool b (IsPacking (subset instance taken) places) (¬ IsPacking (subset instance taken) places)
    → MatchBool b (IsChoice instance taken places) (¬ IsChoice instance taken places)
choice_by instance taken places set true packing = record { set = set; packing = packing }
choice_by instance taken places set false none = λ c. none c.packing

-- no box has a packing by no coordinate, and by nothing else
pub none_packed_by : (instance : PlainInstance) (taken places : List ℕ) → length taken ≡ 0 → (b : Bool)
    → b ≡ eqb (length places) 0
    → MatchBool b (IsPacking (subset instance taken) places) (¬ IsPacking (subset instance taken) places)
none_packed_by instance taken places none true e =
    rw (nil_from_length taken none, nil_from_length places (eqb-true (length places) 0 (sym e))) (none_packed instance)
none_packed_by instance taken places none false e =
    λ p. let z : 0 * dims instance ≡ 0 = grind arith in
    eqb-false (length places) 0 (sym e) (p.count ∙ (ap (λ n. n * dims instance) (length-map taken _ ∙ none) ∙ z))

-- places of which two boxes overlap are none of a packing
pub crossing_bad : (set : PlainInstance) (places : List ℕ) (verdict : PlaceVerdict) → verdict ≡ place_verdict set places
    → (first second : ℕ)
    → verdict ≡ Overlap first second → ¬ IsPacking set places
crossing_bad set places verdict is first second e p = other (sym e ∙ (is ∙ (places_tested set places Good p.count).1 p))
  where
    other : ¬ (Overlap first second ≡ Good)
    other f = absurd (cc f)

-- a number that isn't below the next
pub not_rising : (numbers : List ℕ) (k : ℕ) → 1 ≤ k → k < length numbers → get_or numbers k 0 ≤ get_or numbers (k - 1) 0
    → ¬ IsStrictlyIncreasing numbers
not_rising numbers k one below more rising =
    let e : k - 1 + 1 ≡ k = omega (arith, one) in
    let r = rising (k - 1) (omega (arith, one, below)) in
    let s = ap (λ j. get_or numbers j 0) e in
    omega (arith, r, s, more)

-- the level of what proposed boxes are worth is shown by their numbers
pub choice_shown : (instance : PlainInstance) (taken places numbers : List ℕ) (level : ℕ)
    → IsChoice instance taken places
    → level ≡ top_value instance - worth instance taken → numbers ≡ choice_numbers instance taken places
    → ShowsLevel instance level numbers
choice_shown instance taken places numbers level is e written = record {
  taken = taken;
  places = places;
  set = is.set;
  reached = omega (arith, e);
  packing = is.packing;
  written = written;
}
