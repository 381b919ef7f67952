-- A search depends on the closure of its exclusions alone, and the outcome of a search is right.
use Rattle.std.proofs.Common.{◌≡◌, ℕ, zero, suc, ◌<◌, ◌⊎◌, inl, inr, refl, sym, ap, subst, ◌∙◌, arith, List, [], ◌∷◌}
use Rattle.std.proofs.Common.{◌++◌, length, get_or, append-nil}
use Rattle.packing_terms.specs.declared.Rel.TheVariants.{Overlap, Before, After}
use Rattle.packing_terms.specs.declared.Exclusion.{Exclusion}
use Rattle.packing_terms.specs.Packing.{PlainInstance}
use Rattle.packing_terms.specs.Exclusions.{excludes}
use Rattle.packing_terms.specs.Closure.{Derives}
use Rattle.packing_terms.specs.Tokens.{PlainToken}
use Rattle.packing_terms.specs.Tokens.PlainToken.{Apart, Order, Rules, TooLarge, Scales, Assign, Choose, SetRefuted}
use Rattle.packing_terms.specs.Tokens.PlainToken.{ValueShort, GlobalScales}
use Rattle.packing_terms.specs.Refutation.{exclusion_in_text, Refutes, by_rules, by_side, by_scales, by_apart, by_order}
use Rattle.packing_terms.specs.Refutation.{LeavesOpen}
use Rattle.packing_terms.specs.Feeding.{Accepts, children}
use Rattle.packing_terms.proofs.Closures.{derives_more, conflict_from}
use Rattle.packing_terms.proofs.Refuted.{refutes_same}
use Rattle.tree_terms.specs.Trees.{SearchTree, Settled, Refuted, Split, Verdict, Yes, No, no_tokens, join, join_from}
use Rattle.tree_terms.specs.Trees.{outcome}
use Rattle.tree_terms.specs.Search.{IsSearch, IsRightUnder}

module _ (instance : PlainInstance) where
  -- a token is accepted under each list with the same closure
  accepts_same : (es fs : List Exclusion) → Derives instance (excludes es) (excludes fs)
      → Derives instance (excludes fs) (excludes es)
      → (t : PlainToken) → Accepts instance es t → Accepts instance fs t
  accepts_same es fs there back Rules h = conflict_from instance (excludes es) (excludes fs) there h
  accepts_same es fs there back (TooLarge v i) h = h
  accepts_same es fs there back (Scales t) h = h
  accepts_same es fs there back (Apart i u v) h = record {
    named = h.named;
    no_conflict = λ c. h.no_conflict (conflict_from instance (excludes fs) (excludes es) back c);
    overlap = λ d. h.overlap (back _ _ _ _ d);
    other = other h.other;
  }
    where
      other : LeavesOpen instance es (exclusion_in_text i u v Before)
          ⊎ LeavesOpen instance es (exclusion_in_text i u v After)
          → LeavesOpen instance fs (exclusion_in_text i u v Before)
          ⊎ LeavesOpen instance fs (exclusion_in_text i u v After)
      other (inl k) = inl (λ d. k (back _ _ _ _ d))
      other (inr k) = inr (λ d. k (back _ _ _ _ d))
  accepts_same es fs there back (Order i u v) h = record {
    named = h.named;
    no_conflict = λ c. h.no_conflict (conflict_from instance (excludes fs) (excludes es) back c);
    overlap = there _ _ _ _ h.overlap;
    before = λ d. h.before (back _ _ _ _ d);
    after = λ d. h.after (back _ _ _ _ d);
  }
  accepts_same es fs there back (Assign v) h = absurd h
  accepts_same es fs there back (Choose v) h = absurd h
  accepts_same es fs there back (SetRefuted b) h = absurd h
  accepts_same es fs there back ValueShort h = absurd h
  accepts_same es fs there back (GlobalScales t) h = absurd h

  abbrev child_of : List Exclusion → PlainToken → ℕ → List Exclusion
  child_of es t k = get_or (children es t) k []

  -- and so are its children
  children_derive : (es fs : List Exclusion) → Derives instance (excludes es) (excludes fs) → (t : PlainToken) (k : ℕ)
      → Derives instance (excludes (child_of es t k)) (excludes (child_of fs t k))
  children_derive es fs h (Apart i u v) zero = derives_more instance (exclusion_in_text i u v Overlap) es fs h
  children_derive es fs h (Apart i u v) (suc zero) =
      derives_more instance (exclusion_in_text i u v Before) (exclusion_in_text i u v After ∷ es)
      (exclusion_in_text i u v After ∷ fs) (derives_more instance (exclusion_in_text i u v After) es fs h)
  children_derive es fs h (Apart i u v) (suc (suc k)) = λ j a b r d. d
  children_derive es fs h (Order i u v) zero = derives_more instance (exclusion_in_text i u v After) es fs h
  children_derive es fs h (Order i u v) (suc zero) = derives_more instance (exclusion_in_text i u v Before) es fs h
  children_derive es fs h (Order i u v) (suc (suc k)) = λ j a b r d. d
  children_derive es fs h Rules k = λ j a b r d. d
  children_derive es fs h (TooLarge v i) k = λ j a b r d. d
  children_derive es fs h (Scales t) k = λ j a b r d. d
  children_derive es fs h (Assign v) k = λ j a b r d. d
  children_derive es fs h (Choose v) k = λ j a b r d. d
  children_derive es fs h (SetRefuted b) k = λ j a b r d. d
  children_derive es fs h ValueShort k = λ j a b r d. d
  children_derive es fs h (GlobalScales t) k = λ j a b r d. d

  children_count : (es fs : List Exclusion) (t : PlainToken) → length (children es t) ≡ length (children fs t)
  children_count es fs (Apart i u v) = refl
  children_count es fs (Order i u v) = refl
  children_count es fs Rules = refl
  children_count es fs (TooLarge v i) = refl
  children_count es fs (Scales t) = refl
  children_count es fs (Assign v) = refl
  children_count es fs (Choose v) = refl
  children_count es fs (SetRefuted b) = refl
  children_count es fs ValueShort = refl
  children_count es fs (GlobalScales t) = refl

  pub search_same : (tree : SearchTree) (es fs : List Exclusion) → Derives instance (excludes es) (excludes fs)
      → Derives instance (excludes fs) (excludes es)
      → IsSearch instance es tree → IsSearch instance fs tree
  search_same (Settled places own) es fs there back h = h
  search_same (Refuted tokens own) es fs there back h = refutes_same instance h fs there back
  search_same (Split token own n child) es fs there back h = (
    accepts_same es fs there back token h.0,
    h.1 ∙ children_count es fs token,
    λ k l. search_same (child k) (child_of es token k) (child_of fs token k) (children_derive es fs there token k)
        (children_derive fs es back token k) (h.2 k l),
  )

  -- the outcome of a leaf token, and of a split in two
  no_children : (es : List Exclusion) (t : PlainToken) (own n : ℕ) (f : ℕ → Verdict) → n ≡ 0
      → Refutes instance es (t ∷ [])
      → IsRightUnder instance es (join (No (t ∷ []) own) (join_from 0 n f))
  no_children es t own n f e h =
      subst (λ (m : ℕ). IsRightUnder instance es (join (No (t ∷ []) own) (join_from 0 m f))) (sym e) h

  two_children : (es l r : List Exclusion) (t : PlainToken) (own : ℕ)
      → ((x y z : List PlainToken) → Refutes instance l x → Refutes instance r y → z ≡ x ++ y
      → Refutes instance es (t ∷ z))
      → (a b : Verdict) → IsRightUnder instance l a → IsRightUnder instance r b
      → IsRightUnder instance es (join (No (t ∷ []) own)
      (elim a [
        | Yes ns c ↦ Yes ns c
        | No ts c ↦
            join (No ts c) (elim b [ Yes ns d ↦ Yes ns d | No us d ↦ join (No us d) no_tokens ])
      ]))
  two_children es l r t own build (Yes ns c) b ha hb = ha
  two_children es l r t own build (No x c) (Yes ns d) ha hb = hb
  two_children es l r t own build (No x c) (No y d) ha hb =
      build x y (x ++ (y ++ [])) ha hb (ap (λ w. x ++ w) (append-nil y))

  both : (es l r : List Exclusion) (t : PlainToken) (own n : ℕ) (f : ℕ → Verdict) → n ≡ 2
      → ((x y z : List PlainToken) → Refutes instance l x → Refutes instance r y → z ≡ x ++ y
      → Refutes instance es (t ∷ z))
      → IsRightUnder instance l (f 0) → IsRightUnder instance r (f 1)
      → IsRightUnder instance es (join (No (t ∷ []) own) (join_from 0 n f))
  both es l r t own n f e build first second =
      subst (λ (m : ℕ). IsRightUnder instance es (join (No (t ∷ []) own) (join_from 0 m f))) (sym e)
      (two_children es l r t own build (f 0) (f 1) first second)

  split_right : (es : List Exclusion) (t : PlainToken) (own n : ℕ) (f : ℕ → Verdict) → Accepts instance es t
      → n ≡ length (children es t)
      → ((k : ℕ) → k < n → IsRightUnder instance (child_of es t k) (f k))
      → IsRightUnder instance es (join (No (t ∷ []) own) (join_from 0 n f))
  split_right es Rules own n f a e h = no_children es Rules own n f e (by_rules a)
  split_right es (TooLarge v i) own n f a e h = no_children es (TooLarge v i) own n f e (by_side a)
  split_right es (Scales t) own n f a e h = no_children es (Scales t) own n f e (by_scales a)
  split_right es (Apart i u v) own n f a e h =
      both es (exclusion_in_text i u v Overlap ∷ es)
      (exclusion_in_text i u v Before ∷ exclusion_in_text i u v After ∷ es) (Apart i u v) own n f e
      (λ x y z l r g. by_apart a g l r) (h 0 (omega (arith, e))) (h 1 (omega (arith, e)))
  split_right es (Order i u v) own n f a e h =
      both es (exclusion_in_text i u v After ∷ es) (exclusion_in_text i u v Before ∷ es) (Order i u v) own n f e
      (λ x y z l r g. by_order a g l r) (h 0 (omega (arith, e))) (h 1 (omega (arith, e)))
  split_right es (Assign v) own n f a e h = absurd a
  split_right es (Choose v) own n f a e h = absurd a
  split_right es (SetRefuted b) own n f a e h = absurd a
  split_right es ValueShort own n f a e h = absurd a
  split_right es (GlobalScales t) own n f a e h = absurd a

  -- a yes of a search has a packing, and a no refutes
  pub outcome_right : (tree : SearchTree) (es : List Exclusion) → IsSearch instance es tree
      → IsRightUnder instance es (outcome tree)
  outcome_right (Settled places own) es h = h
  outcome_right (Refuted tokens own) es h = h
  outcome_right (Split token own n child) es h =
      split_right es token own n (λ k. outcome (child k)) h.0 h.1
      (λ k l. outcome_right (child k) (child_of es token k) (h.2 k l))
