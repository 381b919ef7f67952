-- Places in bins for which there is no reason to refuse them are a packing of the bins.
use Rattle.std.proofs.Common.{◌≡◌, ℕ, ◌*◌, ◌<◌, sym, ap, ◌∙◌, arith, List, length, map, None}
use Rattle.std.specs.List.{All, range_with_len}
use Rattle.std.proofs.lemmas.List.{length-map}
use Rattle.std.proofs.lemmas.List.FromFn.{length-map-range_with_len}
use Rattle.packing_terms.specs.Packing.{PlainInstance, dims, box_count, place}
use Rattle.packing_terms.specs.Goals.{subset, in_bin, places_of, IsBinPacking}
use Rattle.packing_terms.proofs.Members.{in_map, in_range}
use Rattle.packing_terms.proofs.Lengths.{length_parts}
use Rattle.verdict_terms.specs.declared.check_answers.PlaceVerdict.TheVariants.{Good}
use Rattle.verdict_terms.specs.Placing.{place_verdict}
use Rattle.verdict_terms.proofs.Places.{places_tested}
use Rattle.verdict_terms.specs.Stages.{bins_reason}
use Rattle.verdict_terms.proofs.PlacesTold.{group_good}

-- as many coordinates as a set has
pub set_places : (instance : PlainInstance) (places keep : List ℕ)
    → length (places_of instance places keep) ≡ box_count (subset instance keep) * dims (subset instance keep)
set_places instance places keep =
    length_parts (λ v. map (λ i. place instance places v i) (range_with_len 0 (dims instance))) (dims instance)
    (λ v. length-map-range_with_len (λ i. place instance places v i) 0 (dims instance)) keep
    ∙ ap (λ n. n * dims instance) (sym (length-map keep _))

pub bins_good : (instance : PlainInstance) (k : ℕ) (bins places : List ℕ) → length bins ≡ box_count instance
    → length places ≡ length bins * dims instance → All (λ b. b < k) bins
    → bins_reason instance k bins places ≡ None → IsBinPacking instance k bins places
bins_good instance k bins places count enough below good = record {
  count = count;
  placed = enough ∙ ap (λ n. n * dims instance) count;
  numbers = below;
  packed = λ b h.
      (places_tested (subset instance (in_bin bins b)) (places_of instance places (in_bin bins b)) Good
      (set_places instance places (in_bin bins b))).0
      (group_good (map (λ b. (
        in_bin bins b,
        place_verdict (subset instance (in_bin bins b)) (places_of instance places (in_bin bins b)),
      ))
      (range_with_len 0 k)) good
      (in_bin bins b, place_verdict (subset instance (in_bin bins b)) (places_of instance places (in_bin bins b)))
      (in_map (λ b. (
        in_bin bins b,
        place_verdict (subset instance (in_bin bins b))
            (places_of instance places (in_bin bins b)),
      )) b (range_with_len 0 k)
      (in_range 0 k b (omega arith) (omega (arith, h)))));
}
