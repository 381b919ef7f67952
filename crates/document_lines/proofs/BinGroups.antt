-- Why the places of several bins are refused, by one bin after another.
use Rattle.std.proofs.Common.{◌≡◌, ◌∙◌, ℕ, ◌+◌, ◌-◌, ◌<◌, ◌≤◌, refl, sym, ap, subst, arith, true, false, List, [], ◌∷◌}
use Rattle.std.proofs.Common.{◌++◌, map, Option, Some, None}
use Rattle.std.specs.List.{range_with_len}
use Rattle.std.specs.Option.{is_some}
use Rattle.std.proofs.lemmas.List.{map-append}
use Rattle.packing_terms.specs.Packing.{PlainInstance}
use Rattle.packing_terms.proofs.Ranges.{range_split}
use Rattle.verdict_terms.specs.declared.check_answers.PlaceVerdict.{PlaceVerdict}
use Rattle.verdict_terms.specs.declared.check_answers.PlaceVerdict.TheVariants.{Good, Outside, Overlap}
use Rattle.verdict_terms.specs.declared.reason.Reason.{Reason}
use Rattle.verdict_terms.specs.Stages.{first_outside, first_overlap, first_reason, groups_reason}
use Rattle.document_lines.specs.Sharings.{bin_group, bin_groups, is_outside}

abbrev Group : Type 0
Group = List ℕ × PlaceVerdict

outside_append : (gs hs : List Group) → first_outside (gs ++ hs) ≡ first_reason (first_outside gs) (first_outside hs)
outside_append [] hs = refl
outside_append ((keep, Good) ∷ gs) hs = outside_append gs hs
outside_append ((keep, Overlap u v) ∷ gs) hs = outside_append gs hs
outside_append ((keep, Outside v i) ∷ gs) hs = refl

overlap_append : (gs hs : List Group) → first_overlap (gs ++ hs) ≡ first_reason (first_overlap gs) (first_overlap hs)
overlap_append [] hs = refl
overlap_append ((keep, Good) ∷ gs) hs = overlap_append gs hs
overlap_append ((keep, Outside v i) ∷ gs) hs = overlap_append gs hs
overlap_append ((keep, Overlap u v) ∷ gs) hs = refl

-- one bin, by whether a box leaves the container
one_outside : (g : Group) → is_outside (groups_reason (g ∷ [])) ≡ true → first_outside (g ∷ []) ≡ groups_reason (g ∷ [])
one_outside (keep, Good) e = absurd (cc (e))
one_outside (keep, Outside v i) e = refl
one_outside (keep, Overlap u v) e = absurd (cc (e))

one_inside : (g : Group) → is_outside (groups_reason (g ∷ [])) ≡ false → (first_outside (g ∷ []) ≡ None)
    × (first_overlap (g ∷ []) ≡ groups_reason (g ∷ []))
one_inside (keep, Good) e = (refl, refl)
one_inside (keep, Outside v i) e = absurd (cc (e))
one_inside (keep, Overlap u v) e = (refl, refl)

-- the first overlap, or the one found before
pub overlap_first : (o r new : Option Reason) → is_some o ≡ false → new ≡ r → new ≡ first_reason o r
overlap_first None r new e f = f
overlap_first (Some x) r new e f = absurd (cc (e))

pub overlap_kept : (o r new : Option Reason) → is_some o ≡ true → new ≡ o → new ≡ first_reason o r
overlap_kept None r new e f = absurd (cc (e))
overlap_kept (Some x) r new e f = f

module _ (instance : PlainInstance) (bins places : List ℕ) where
  -- the bins behind the first ones
  groups_split : (m k : ℕ) → m ≤ k → bin_groups instance bins places k ≡ bin_groups instance bins places m
      ++ map (bin_group instance bins places) (range_with_len m (k - m))
  groups_split m k l =
      ap (bin_groups instance bins places) (let e : k ≡ m + (k - m) = omega (arith, l) in e)
      ∙ (ap (map (bin_group instance bins places))
      (range_split 0 m (k - m) ∙ ap (λ x. range_with_len 0 m ++ range_with_len x (k - m))
      (let e : 0 + m ≡ m = omega arith in e))
      ∙ map-append (bin_group instance bins places) (range_with_len 0 m) (range_with_len m (k - m)))

  group_more : (b : ℕ) → bin_groups instance bins places (b + 1) ≡ bin_groups instance bins places b
      ++ bin_group instance bins places b ∷ []
  group_more b =
      groups_split b (b + 1) (omega arith)
      ∙ ap (λ n. bin_groups instance bins places b ++ map (bin_group instance bins places) (range_with_len b n))
      (let e : b + 1 - b ≡ 1 = omega arith in e)

  module _ (b : ℕ) (reason : Option Reason) (is : reason ≡ groups_reason (bin_group instance bins places b ∷ []))
      (before : first_outside (bin_groups instance bins places b) ≡ None) where
    -- a box of this bin leaves the container
    outside_so_far : is_outside reason ≡ true → first_outside (bin_groups instance bins places (b + 1)) ≡ reason
    outside_so_far e =
        ap first_outside (group_more b)
        ∙ (outside_append (bin_groups instance bins places b) (bin_group instance bins places b ∷ [])
        ∙ (ap (λ r. first_reason r (first_outside (bin_group instance bins places b ∷ []))) before
        ∙ (one_outside (bin_group instance bins places b) (subst (λ r. is_outside r ≡ true) is e) ∙ sym is)))

    pub outside_found : (k : ℕ) → b < k → is_outside reason ≡ true
        → reason ≡ groups_reason (bin_groups instance bins places k)
    outside_found k l e =
        sym (ap (λ gs. groups_reason gs) (groups_split (b + 1) k (omega (arith, l)))
        ∙ go reason e (outside_so_far e) (map (bin_group instance bins places) (range_with_len (b + 1) (k - (b + 1)))))
      where
        go : (r : Option Reason) → is_outside r ≡ true → first_outside (bin_groups instance bins places (b + 1)) ≡ r
            → (rest : List Group)
            → groups_reason (bin_groups instance bins places (b + 1) ++ rest) ≡ r
        go None f found rest = absurd (cc (f))
        go (Some x) f found rest =
            ap (λ r. first_reason r (first_overlap (bin_groups instance bins places (b + 1) ++ rest)))
            (outside_append (bin_groups instance bins places (b + 1)) rest
            ∙ ap (λ r. first_reason r (first_outside rest)) found)

    -- none of this bin does
    pub outside_more : is_outside reason ≡ false → first_outside (bin_groups instance bins places (b + 1)) ≡ None
    outside_more e =
        ap first_outside (group_more b)
        ∙ (outside_append (bin_groups instance bins places b) (bin_group instance bins places b ∷ [])
        ∙ (ap (λ r. first_reason r (first_outside (bin_group instance bins places b ∷ []))) before
        ∙ (one_inside (bin_group instance bins places b) (subst (λ r. is_outside r ≡ false) is e)).0))

    pub overlap_more : (overlap : Option Reason) → overlap ≡ first_overlap (bin_groups instance bins places b)
        → is_outside reason ≡ false
        → first_overlap (bin_groups instance bins places (b + 1)) ≡ first_reason overlap reason
    overlap_more overlap o e =
        ap first_overlap (group_more b)
        ∙ (overlap_append (bin_groups instance bins places b) (bin_group instance bins places b ∷ [])
        ∙ (ap (λ r. first_reason r (first_overlap (bin_group instance bins places b ∷ []))) (sym o)
        ∙ ap (first_reason overlap) ((one_inside (bin_group instance bins places b)
        (subst (λ r. is_outside r ≡ false) is e)).1 ∙ sym is)))
