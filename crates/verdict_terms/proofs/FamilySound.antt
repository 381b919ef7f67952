-- What a refutation with families refutes holds no packing, and a plain refutation is one with
-- families. The cases of plain leaves and of splits are those of plain refutations.
use Rattle.std.proofs.Common.{ℕ, pred, ◌⊎◌, inl, inr, sym, ap, subst, ◌∙◌, arith, List, []}
use Rattle.std.proofs.Common.{◌++◌, map}
use Rattle.std.proofs.lemmas.Bool.{true≢false, ltb-true}
use Rattle.std.proofs.lemmas.List.{map-append}
use Rattle.packing_terms.specs.declared.Exclusion.{Exclusion}
use Rattle.packing_terms.specs.Packing.{PlainInstance, IsPacking, HasPositiveSides, Fits, container_side}
use Rattle.packing_terms.specs.Exclusions.{Respects, excludes}
use Rattle.packing_terms.specs.ExcessLaw.{ExcessLaw}
use Rattle.packing_terms.specs.Tokens.{PlainToken}
use Rattle.packing_terms.specs.Refutation as plain
use Rattle.packing_terms.specs.Refutation.{Refutes}
use Rattle.packing_terms.proofs.Derivations.{conflict_sound}
use Rattle.packing_terms.proofs.Refuted.{apart_covers, order_covers}
use Rattle.packing_terms.proofs.Working.{working}
use Rattle.verdict_terms.specs.Families.{IsFamily, family_length}
use Rattle.verdict_terms.specs.FamilyRefutation.{FamilyToken, Plain, FamilyNode, Free, Begun, exclusions_of}
use Rattle.verdict_terms.specs.FamilyRefutation.{boxes_of, MayJoin, RefutesFamilies, by_rules, by_side}
use Rattle.verdict_terms.specs.FamilyRefutation.{by_scales, by_family, by_part, by_apart, by_order}
use Rattle.verdict_terms.proofs.Aside.{aside_append, all_append, family_fits}

-- a family that is begun at the node is one
abbrev pub HasFamily : PlainInstance → FamilyNode → Type 0
HasFamily instance (Free es) = Unit {0}
HasFamily instance (Begun es i us) = IsFamily instance es i us

-- and stays one
pub grown : (instance : PlainInstance) (n : FamilyNode) (i : ℕ) (vs : List ℕ) → HasFamily instance n
    → MayJoin instance n i vs → IsFamily instance (exclusions_of n) i (boxes_of n ++ vs)
grown instance (Free es) i vs h j = record {
  dim_from = j.dim_from;
  dim_to = j.dim_to;
  boxes = j.boxes;
  aside = j.aside;
}
grown instance (Begun es k us) i vs h j =
    let f = subst (λ m. IsFamily instance es m us) (sym j.own_dim) h in
    record {
      dim_from = j.dim_from;
      dim_to = j.dim_to;
      boxes = all_append _ us vs f.boxes j.boxes;
      aside = aside_append instance es i [] us vs f.aside j.aside;
    }

either : {A B : Type 0} → A ⊎ B → ¬ A → ¬ B → ⊥
either (inl x) f g = f x
either (inr x) f g = g x

module _ (law : ExcessLaw) (instance : PlainInstance) (sides : HasPositiveSides instance) (places : List ℕ)
    (packing : IsPacking instance places) where
  pub families_sound : {n : FamilyNode} {z : List FamilyToken} → RefutesFamilies instance n z → HasFamily instance n
      → ¬ Respects instance places (excludes (exclusions_of n))
  families_sound (by_rules {es = es} c) h respects =
      conflict_sound instance places (excludes es) sides packing c respects
  families_sound (by_side {v = v} {i = i} large) h respects =
      let inside = (working instance places packing).inside (pred v) (pred i) (omega arith) (omega arith) in
      omega arith
  families_sound (by_scales x) h respects = law.one instance _ x (places, packing)
  families_sound (by_family {n = n} {i = i} {vs = vs} j long) h respects =
      let most = family_fits instance places (exclusions_of n) i sides packing respects (boxes_of n ++ vs)
      (grown instance n i vs h j) in
      let more = ltb-true (container_side instance (pred i)) (family_length instance i (boxes_of n ++ vs)) long in
      omega (arith, most, more)
  families_sound (by_part {n = n} {i = i} {vs = vs} j short rest) h respects =
      families_sound rest (grown instance n i vs h j) respects
  families_sound (by_apart {es = es} {i = i} {u = u} {v = v} m _ left right) h respects =
      either (apart_covers instance places es i u v respects) (families_sound left tt) (families_sound right tt)
  families_sound (by_order {es = es} {i = i} {u = u} {v = v} m _ left right) h respects =
      either (order_covers instance places sides packing es i u v m respects) (families_sound left tt)
      (families_sound right tt)

-- an instance that is refuted without exclusions doesn't fit
pub none_fits_families : ExcessLaw → (instance : PlainInstance) → HasPositiveSides instance → (z : List FamilyToken)
    → RefutesFamilies instance (Free []) z → ¬ Fits instance
none_fits_families law instance sides z h (places, packing) =
    families_sound law instance sides places packing h tt (λ i u v r k. absurd (true≢false (sym k)))

abbrev as_families : List PlainToken → List FamilyToken
as_families x = map (λ t. Plain t) x

-- a plain refutation is one with families
pub plain_refutes : (instance : PlainInstance) {es : List Exclusion} {z : List PlainToken} → Refutes instance es z
    → RefutesFamilies instance (Free es) (as_families z)
plain_refutes instance (plain.by_rules c) = by_rules c
plain_refutes instance (plain.by_side h) = by_side h
plain_refutes instance (plain.by_scales x) = by_scales x
plain_refutes instance (plain.by_apart {l = x} {r = y} m e left right) =
    by_apart m (ap as_families e ∙ map-append (λ t. Plain t) x y) (plain_refutes instance left)
    (plain_refutes instance right)
plain_refutes instance (plain.by_order {l = x} {r = y} m e left right) =
    by_order m (ap as_families e ∙ map-append (λ t. Plain t) x y) (plain_refutes instance left)
    (plain_refutes instance right)
