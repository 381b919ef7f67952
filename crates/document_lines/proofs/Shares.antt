-- The bins of a document, one box after another.
use Rattle.std.proofs.Common.{◌≡◌, ℕ, zero, suc, pred, ◌+◌, ◌-◌, ◌*◌, ◌<◌, ◌≤◌, ◌⊎◌, inl, inr, refl, sym, ap, ap₂}
use Rattle.std.proofs.Common.{subst, ◌∙◌, arith, Bool, true, false, ◌&&◌, List, [], ◌∷◌, ◌++◌, length, drop, get_or}
use Rattle.std.proofs.Common.{nat_le, ◌==◌, Option, Some, None, Result, Ok}
use Rattle.std.specs.List.{All}
use Rattle.std.proofs.lemmas.Bool.{cases_lt, eq-eqb}
use Rattle.std.proofs.lemmas.List.{length-append, length-drop}
use Rattle.std.proofs.lemmas.List.Elements.{All-append}
use Rattle.std.proofs.Math.Nat.{suc-mul}
use Rattle.packing_terms.specs.Packing.{PlainInstance, dims, box_count, side, container_side}
use Rattle.packing_terms.specs.Scales.{SidesFit}
use Rattle.packing_terms.proofs.TooLarge.{too_large}
use Rattle.text_terms.specs.declared.claim.Claim.{Claim}
use Rattle.verdict_terms.specs.declared.heading.Heading.TheVariants.{Answer}
use Rattle.verdict_terms.specs.declared.reason.Reason.{Reason}
use Rattle.verdict_terms.specs.Numbers.{coordinates}
use Rattle.verdict_terms.specs.Stages.{Stage, placed, refutation_goal, refused_by, bins_reason, share_line}
use Rattle.verdict_terms.specs.Stages.Stage.{Sharing}
use Rattle.verdict_terms.proofs.BinsGood.{bins_good}
use Rattle.document_lines.specs.Sharings.{AreShares, shared_by}

-- ---- behind all bins

module _ (instance : PlainInstance) (k : ℕ) (bins places : List ℕ) where
  pub sides_fit : length bins ≡ box_count instance → AreShares instance k bins places
      → bins_reason instance k bins places ≡ None → SidesFit instance
  sides_fit count shares good v i lv li = go (cases_lt (container_side instance i) (side instance v i))
    where
      go : (container_side instance i < side instance v i) ⊎ (side instance v i ≤ container_side instance i)
          → side instance v i ≤ container_side instance i
      go (inr l) = l
      go (inl large) =
          absurd (too_large instance k (record { box_no = v; dim = i; there = lv; in_range = li; large = large })
          (bins, places, bins_good instance k bins places count shares.enough shares.below good))

  -- what the last line comes to
  pub tested : length bins ≡ box_count instance → bins_reason instance k bins places ≡ None
      → (claim : Claim) → shared_by instance claim k bins places ≡ Ok (placed Answer claim (refutation_goal Answer instance claim))
  tested count good claim = by (length bins == box_count instance) (eq-eqb _ _ count)
      (bins_reason instance k bins places) good
    where
      by : (t : Bool) → t ≡ true → (r : Option Reason) → r ≡ None
          → ◌≡◌ {A = Result Stage Reason}
          (elim t [
            | true ↦ refused_by r (Ok (placed Answer claim (refutation_goal Answer instance claim)))
            | false ↦
                Ok (Sharing instance claim k bins places)
          ]) (Ok (placed Answer claim (refutation_goal Answer instance claim)))
      by true e None f = refl
      by true e (Some x) f = absurd (cc (f))
      by false e r f = absurd (cc (e))

-- ---- a line

module _ (instance : PlainInstance) (k : ℕ) (bins places : List ℕ) where
  one_less : (b : ℕ) → 1 ≤ b → pred b ≡ b - 1
  one_less zero l = absurd (omega (arith, l))
  one_less (suc b) l = omega arith

  shared_next : (numbers : List ℕ) → length numbers ≡ dims instance + 1
      → (nat_le 1 (get_or numbers 0 0) && nat_le (get_or numbers 0 0) k) ≡ true
      → 1 ≤ get_or numbers 0 0 → coordinates (drop 1 numbers) ≡ Ok (drop 1 numbers)
      → (claim : Claim) → share_line instance claim k bins places numbers
      ≡ shared_by instance claim k (bins ++ (get_or numbers 0 0 - 1) ∷ []) (places ++ drop 1 numbers)
  shared_next [] count e from good claim = absurd (omega (arith, count))
  shared_next (b ∷ ns) count e from good claim =
      rw (e, good) (ap (λ x. shared_by instance claim k (bins ++ x ∷ []) (places ++ ns)) (one_less b from))

  -- the lists with the box
  module _ (numbers more more_places : List ℕ) (count : length numbers ≡ dims instance + 1)
      (from : 1 ≤ get_or numbers 0 0) (to : get_or numbers 0 0 ≤ k)
      (are : more ≡ bins ++ (get_or numbers 0 0 - 1) ∷ []) (are_places : more_places ≡ places ++ drop 1 numbers) where
    pub shared_line : (nat_le 1 (get_or numbers 0 0) && nat_le (get_or numbers 0 0) k) ≡ true
        → coordinates (drop 1 numbers) ≡ Ok (drop 1 numbers)
        → (claim : Claim) → share_line instance claim k bins places numbers
        ≡ shared_by instance claim k more more_places
    shared_line named good claim =
        shared_next numbers count named from good claim
        ∙ ap₂ (λ x y. shared_by instance claim k x y) (sym are) (sym are_places)

    longer : length more ≡ suc (length bins)
    longer = ap length are ∙ (length-append bins ((get_or numbers 0 0 - 1) ∷ []) ∙ omega arith)

    one : All (λ b. b < k) ((get_or numbers 0 0 - 1) ∷ [])
    one zero d l = omega (arith, from, to)
    one (suc i) d l = absurd (omega (arith, l))

    pub shares_kept : AreShares instance k bins places → AreShares instance k more more_places
    shares_kept held = record {
      enough =
          ap length are_places
          ∙ (length-append places (drop 1 numbers)
          ∙ (let d = length-drop 1 numbers in let e = held.enough in let s = suc-mul (length bins) (dims instance) in
          omega (arith, d, e, s, count)
          ∙ ap (λ n. n * dims instance) (sym longer)));
      below = subst (All (λ b. b < k)) (sym are)
          (All-append (λ b. b < k) bins ((get_or numbers 0 0 - 1) ∷ []) held.below one);
    }
