-- A token of a refutation with families isn't refused exactly where the node accepts it, and tokens
-- are taken one by one and leave no node open exactly where they are a refutation.
use Rattle.std.proofs.Common.{◌≡◌, ◌∙◌, ℕ, pred, refl, sym, ap, true, not, List, [], ◌∷◌, ◌++◌}
use Rattle.std.proofs.Common.{Option, Some, None, Ok}
use Rattle.std.specs.Prelude.{◌↔◌, ◌==◌}
use Rattle.std.specs.List.{list_all, AllByRecursion}
use Rattle.std.proofs.lemmas.Bool.{and_parts, and_from, eqb-true, eq-eqb, not-true}
use Rattle.std.proofs.lemmas.List.{map-append}
use Rattle.packing_terms.specs.declared.Rel.TheVariants.{Overlap}
use Rattle.packing_terms.specs.declared.Exclusion.{Exclusion}
use Rattle.packing_terms.specs.Packing.{PlainInstance, dims, box_count}
use Rattle.packing_terms.specs.Tokens.{PlainToken}
use Rattle.packing_terms.specs.Feeding.{children}
use Rattle.packing_terms.specs.Results.{◌>>=◌}
use Rattle.packing_terms.proofs.Members.{all_at, all_from}
use Rattle.packing_terms.proofs.Boxes.{each_in, each_from}
use Rattle.packing_terms.proofs.RoundsLemmas.{closure_is}
use Rattle.packing_terms.proofs.Conflicts.{calm, stormy}
use Rattle.packing_terms.proofs.Drawn.{is_not, differs, differ}
use Rattle.verdict_terms.specs.declared.check_answers.RefuseCode.{RefuseCode}
use Rattle.verdict_terms.specs.Judging.{names_box, closed, is_conflict, refusal}
use Rattle.verdict_terms.specs.Checking.{left_by, inner_after}
use Rattle.verdict_terms.proofs.Judged.{passed, passes, within, is_within, inner_exact}
use Rattle.verdict_terms.specs.Families.{AreBeside, AreAside, IsBoxNo}
use Rattle.verdict_terms.specs.FamilyRefutation.{FamilyToken, Plain, Family, FamilyNode, Free, Begun, exclusions_of}
use Rattle.verdict_terms.specs.FamilyRefutation.{boxes_of, IsOwnDim, MayJoin, RefutesFamilies}
use Rattle.verdict_terms.specs.FamilyFeeding.{AcceptsFamily, family_children, FeedsFamilies}
use Rattle.verdict_terms.specs.FamilyJudging.{is_beside, are_aside, is_own_dim, join_refusal, family_refusal}
use Rattle.verdict_terms.specs.FamilyChecking.{families_after, families_after_all, all_free, freed}
use Rattle.verdict_terms.proofs.FamilyFed.{families_fed, fed_refutes_families}

module _ (instance : PlainInstance) where
  module _ (es : List Exclusion) (i : ℕ) where
    beside : (u v : ℕ) → is_beside (closed instance es) i u v ≡ true → AreBeside instance es i u v
    beside u v h =
        let both = and_parts (not (u == v)) (closed instance es (pred i) (pred u) (pred v) Overlap) h in
        (differ u v both.0, (closure_is instance es (pred i) (pred u) (pred v) Overlap).0 both.1)

    are_beside : (u v : ℕ) → AreBeside instance es i u v → is_beside (closed instance es) i u v ≡ true
    are_beside u v h =
        and_from (not (u == v)) (closed instance es (pred i) (pred u) (pred v) Overlap) (differs u v h.0)
        ((closure_is instance es (pred i) (pred u) (pred v) Overlap).1 h.1)

    aside : (us vs : List ℕ) → are_aside (closed instance es) i us vs ≡ true → AreAside instance es i us vs
    aside us [] h = tt
    aside us (v ∷ vs) h =
        let both = and_parts (list_all (λ u. is_beside (closed instance es) i u v) us)
        (are_aside (closed instance es) i (us ++ v ∷ []) vs) h in (
          each_from (λ u. AreBeside instance es i u v) us
              (λ u k. beside u v (all_at (λ w. is_beside (closed instance es) i w v) u us both.0 k)),
          aside (us ++ v ∷ []) vs both.1,
        )

    is_aside : (us vs : List ℕ) → AreAside instance es i us vs → are_aside (closed instance es) i us vs ≡ true
    is_aside us [] h = refl
    is_aside us (v ∷ vs) h =
        and_from (list_all (λ u. is_beside (closed instance es) i u v) us)
        (are_aside (closed instance es) i (us ++ v ∷ []) vs)
        (all_from (λ u. is_beside (closed instance es) i u v) us
        (λ u k. are_beside u v (each_in (λ w. AreBeside instance es i w v) us h.0 u k)))
        (is_aside (us ++ v ∷ []) vs h.1)

  named : (vs : List ℕ) → list_all (names_box instance) vs ≡ true → AllByRecursion (λ v. IsBoxNo instance v) vs
  named vs h = each_from (λ v. IsBoxNo instance v) vs
      (λ v k. within 1 (box_count instance) v (all_at (names_box instance) v vs h k))

  is_named : (vs : List ℕ) → AllByRecursion (λ v. IsBoxNo instance v) vs → list_all (names_box instance) vs ≡ true
  is_named vs h = all_from (names_box instance) vs
      (λ v k. let p = each_in (λ w. IsBoxNo instance w) vs h v k in is_within 1 (box_count instance) v p.0 p.1)

  own : (n : FamilyNode) (i : ℕ) → is_own_dim n i ≡ true → IsOwnDim n i
  own (Free es) i h = tt
  own (Begun es j us) i h = eqb-true i j h

  is_own : (n : FamilyNode) (i : ℕ) → IsOwnDim n i → is_own_dim n i ≡ true
  is_own (Free es) i h = refl
  is_own (Begun es j us) i h = eq-eqb i j h

  join_exact : (n : FamilyNode) (i : ℕ) (vs : List ℕ) → (join_refusal instance n i vs ≡ None) ↔ MayJoin instance n i vs
  join_exact n i vs = (there, back)
    where
      es : List Exclusion
      es = exclusions_of n

      there : join_refusal instance n i vs ≡ None → MayJoin instance n i vs
      there e =
          let kind = passed _ _ _ e in
          let range = passed _ _ _ kind.1 in
          let choice = passed _ _ _ range.1 in
          let numbers = and_parts _ _ range.0 in
          let dim = within 1 (dims instance) i numbers.0 in
          let both = and_parts _ _ choice.0 in
          record {
            own_dim = own n i kind.0;
            dim_from = dim.0;
            dim_to = dim.1;
            boxes = named vs numbers.1;
            no_conflict = calm instance es (not-true (is_conflict instance (closed instance es)) both.0);
            aside = aside es i (boxes_of n) vs both.1;
          }

      back : MayJoin instance n i vs → join_refusal instance n i vs ≡ None
      back m =
          passes _ _ _ (is_own n i m.own_dim)
          (passes _ _ _ (and_from _ _ (is_within 1 (dims instance) i m.dim_from m.dim_to) (is_named vs m.boxes))
          (passes _ _ _ (and_from _ _
          (is_not (is_conflict instance (closed instance es)) (λ e. m.no_conflict (stormy instance es e)))
          (is_aside es i (boxes_of n) vs m.aside)) refl))

  pub family_exact : (n : FamilyNode) (t : FamilyToken)
      → (family_refusal instance n t ≡ None) ↔ AcceptsFamily instance n t
  family_exact n (Family i vs) = join_exact n i vs
  family_exact (Free es) (Plain t) = inner_exact instance es t
  family_exact (Begun es i us) (Plain t) = (λ e. absurd (cc (e)), λ h. absurd h)

  -- tokens that are taken one by one are those that are fed
  taken_fed : (nodes : List FamilyNode) (ts : List FamilyToken) (left : List FamilyNode)
      → families_after_all instance nodes ts ≡ Ok left → FeedsFamilies instance nodes ts left
  taken_fed nodes [] left e = cc (e)
  taken_fed [] (t ∷ ts) left e = absurd (cc (e))
  taken_fed (n ∷ nodes) (t ∷ ts) left e =
      go (family_refusal instance n t) refl e (taken_fed (family_children instance n t ++ nodes) ts left)
    where
      go : (o : Option RefuseCode) → family_refusal instance n t ≡ o
          → (left_by o (family_children instance n t) nodes >>= λ more. families_after_all instance more ts) ≡ Ok left
          → (families_after_all instance (family_children instance n t ++ nodes) ts ≡ Ok left
          → FeedsFamilies instance (family_children instance n t ++ nodes) ts left)
          → AcceptsFamily instance n t × FeedsFamilies instance (family_children instance n t ++ nodes) ts left
      go None f k later = ((family_exact n t).0 f, later k)
      go (Some code) f k later = absurd (cc (k))

  fed_taken : (nodes : List FamilyNode) (ts : List FamilyToken) (left : List FamilyNode)
      → FeedsFamilies instance nodes ts left → families_after_all instance nodes ts ≡ Ok left
  fed_taken nodes [] left e = ap Ok e
  fed_taken [] (t ∷ ts) left e = absurd e
  fed_taken (n ∷ nodes) (t ∷ ts) left e =
      ap (λ o. (left_by o (family_children instance n t) nodes >>= λ more. families_after_all instance more ts))
      ((family_exact n t).1 e.0)
      ∙ fed_taken (family_children instance n t ++ nodes) ts left e.1

  pub families_refute : (n : FamilyNode) (tokens : List FamilyToken)
      → (families_after_all instance (n ∷ []) tokens ≡ Ok []) ↔ RefutesFamilies instance n tokens
  families_refute n tokens = (
    λ e. fed_refutes_families instance n tokens (taken_fed (n ∷ []) tokens [] e),
    λ h. fed_taken (n ∷ []) tokens [] (families_fed instance h []),
  )

  -- a plain token among free nodes
  pub plain_families_after : (nodes : List (List Exclusion)) (t : PlainToken)
      → families_after instance (all_free nodes) (Plain t) ≡ freed (inner_after instance nodes t)
  plain_families_after [] t = refl
  plain_families_after (es ∷ nodes) t = go (refusal instance es t)
    where
      go : (o : Option RefuseCode) → left_by o (all_free (children es t)) (all_free nodes)
          ≡ freed (left_by o (children es t) nodes)
      go (Some code) = refl
      go None = ap Ok (sym (map-append (λ fs. Free fs) (children es t) nodes))
