-- A taken box with its coordinates.
use Rattle.std.proofs.Common.{◌≡◌, ℕ, zero, suc, ◌+◌, ◌-◌, ◌*◌, ◌<◌, refl, sym, ap, subst, ◌∙◌, arith, true, false}
use Rattle.std.proofs.Common.{List, [], ◌∷◌, ◌++◌, length, take, drop, get_or, nat_lt, Ok, Err}
use Rattle.std.specs.List.{list_all}
use Rattle.std.proofs.lemmas.Bool.{and_parts, leb-true}
use Rattle.std.proofs.lemmas.List.{length-append, length-drop, take_all}
use Rattle.std.proofs.Math.Nat.{suc-mul}
use Rattle.packing_terms.specs.Packing.{PlainInstance, dims, box_count}
use Rattle.packing_terms.specs.Goals.{IsBoxSet}
use Rattle.verdict_terms.specs.Judging.{names_box}
use Rattle.text_terms.specs.declared.claim.Claim.{Claim}
use Rattle.verdict_terms.specs.declared.heading.Heading.{Heading}
use Rattle.verdict_terms.specs.Reasons.{range}
use Rattle.verdict_terms.specs.Numbers.{coordinates}
use Rattle.verdict_terms.specs.Stages.{take_box_line}
use Rattle.verdict_terms.specs.Stages.Stage.{Taking}
use Rattle.verdict_terms.proofs.PlacesTold.{set_push}
use Rattle.document_lines.specs.Takings.{AreBoxesTaken}

-- all numbers behind the first
pub all_behind : (numbers : List ℕ) → take (length numbers - 1) (drop 1 numbers) ≡ drop 1 numbers
all_behind [] = refl
all_behind (n ∷ ns) = take_all (length (n ∷ ns) - 1) ns (omega arith)

minus_one : (v : ℕ) → suc v - 1 ≡ v
minus_one v = omega arith

there_by : (instance : PlainInstance) (n : ℕ) → names_box instance n ≡ true → n - 1 < box_count instance
there_by instance n named =
    let parts = and_parts _ _ named in
    let low = leb-true 1 n parts.0 in
    let high = leb-true n (box_count instance) parts.1 in
    omega (arith, low, high)

module _ (instance : PlainInstance) (taken places : List ℕ) where
  pub taken_late : (numbers : List ℕ) → length numbers ≡ dims instance + 1
      → names_box instance (get_or numbers 0 0) ≡ true → list_all (λ u. nat_lt u (get_or numbers 0 0 - 1)) taken ≡ false
      → (heading : Heading) (claim : Claim) (value : ℕ) → take_box_line heading instance claim value taken places numbers ≡ Err range
  taken_late [] count named late heading claim value = absurd (omega (arith, count))
  taken_late (zero ∷ ns) count named late heading claim value = absurd (cc (named))
  taken_late (suc v ∷ ns) count named late heading claim value =
      let l : list_all (λ u. nat_lt u v) taken ≡ false =
      subst (λ x. list_all (λ u. nat_lt u x) taken ≡ false) (minus_one v) late in
      rw (named, l) refl

  pub taken_next : (numbers : List ℕ) → length numbers ≡ dims instance + 1
      → names_box instance (get_or numbers 0 0) ≡ true → list_all (λ u. nat_lt u (get_or numbers 0 0 - 1)) taken ≡ true
      → coordinates (drop 1 numbers) ≡ Ok (drop 1 numbers)
      → (heading : Heading) (claim : Claim) (value : ℕ) → take_box_line heading instance claim value taken places numbers
      ≡ Ok (Taking heading instance claim value (taken ++ (get_or numbers 0 0 - 1) ∷ []) (places ++ drop 1 numbers))
  taken_next [] count named before good heading claim value = absurd (omega (arith, count))
  taken_next (zero ∷ ns) count named before good heading claim value = absurd (cc (named))
  taken_next (suc v ∷ ns) count named before good heading claim value =
      let l : list_all (λ u. nat_lt u v) taken ≡ true =
      subst (λ x. list_all (λ u. nat_lt u x) taken ≡ true) (minus_one v) before in
      let m : v ≡ suc v - 1 = sym (minus_one v) in
      rw (named, l, good) (ap (λ x. Ok (Taking heading instance claim value (taken ++ x ∷ []) (places ++ ns))) m)

  -- the lists with the box
  module _ (numbers more more_places : List ℕ) (count : length numbers ≡ dims instance + 1)
      (named : names_box instance (get_or numbers 0 0) ≡ true)
      (before : list_all (λ u. nat_lt u (get_or numbers 0 0 - 1)) taken ≡ true)
      (are : more ≡ taken ++ (get_or numbers 0 0 - 1) ∷ [])
      (are_places : more_places ≡ places ++ drop 1 numbers) where
    pub taken_line : coordinates (drop 1 numbers) ≡ Ok (drop 1 numbers) → (heading : Heading) (claim : Claim) (value : ℕ)
        → take_box_line heading instance claim value taken places numbers ≡ Ok (Taking heading instance claim value more more_places)
    taken_line good heading claim value =
        taken_next numbers count named before good heading claim value
        ∙ (ap (λ x. Ok (Taking heading instance claim value x (places ++ drop 1 numbers))) (sym are)
        ∙ ap (λ x. Ok (Taking heading instance claim value more x)) (sym are_places))

    longer : length more ≡ suc (length taken)
    longer = ap length are ∙ (length-append taken ((get_or numbers 0 0 - 1) ∷ []) ∙ omega arith)

    pub taken_kept : AreBoxesTaken instance taken places → AreBoxesTaken instance more more_places
    taken_kept held = record {
      set = subst (IsBoxSet instance) (sym are)
          (set_push instance taken (get_or numbers 0 0 - 1) held.set
          (there_by instance (get_or numbers 0 0) named) before);
      enough =
          ap length are_places
          ∙ (length-append places (drop 1 numbers)
          ∙ (let d = length-drop 1 numbers in let e = held.enough in let s = suc-mul (length taken) (dims instance) in
          omega (arith, d, e, s, count)
          ∙ ap (λ k. k * dims instance) (sym longer)));
    }
