-- Tokens of a refutation with families that leave no open node are a refutation, and a refutation
-- is fed whole.
use Rattle.std.proofs.Common.{◌≡◌, ℕ, refl, sym, ap, subst, ◌∙◌, true, false, Bool, cond, List, [], ◌∷◌}
use Rattle.std.proofs.Common.{◌++◌, append_assoc, append-nil}
use Rattle.packing_terms.specs.declared.Rel.TheVariants.{Overlap, Before, After}
use Rattle.packing_terms.specs.declared.Exclusion.{Exclusion}
use Rattle.packing_terms.specs.Packing.{PlainInstance}
use Rattle.packing_terms.specs.Tokens.PlainToken.{Apart, Order, Rules, TooLarge, Scales, Assign, Choose, SetRefuted}
use Rattle.packing_terms.specs.Tokens.PlainToken.{ValueShort, GlobalScales}
use Rattle.packing_terms.specs.Refutation.{exclusion_in_text}
use Rattle.verdict_terms.specs.Families.{is_too_long}
use Rattle.verdict_terms.specs.FamilyRefutation.{FamilyToken, Plain, Family, FamilyNode, Free, Begun, boxes_of, MayJoin}
use Rattle.verdict_terms.specs.FamilyRefutation.{joined_by, RefutesFamilies, by_rules, by_side, by_scales, by_family}
use Rattle.verdict_terms.specs.FamilyRefutation.{by_part, by_apart, by_order}
use Rattle.verdict_terms.specs.FamilyFeeding.{FeedsFamilies, family_children}

module _ (instance : PlainInstance) where
  -- tokens are fed in parts
  pub families_append : (nodes between : List FamilyNode) (x y : List FamilyToken) (left : List FamilyNode)
      → FeedsFamilies instance nodes x between → FeedsFamilies instance between y left
      → FeedsFamilies instance nodes (x ++ y) left
  families_append nodes between [] y left h k = subst (λ l. FeedsFamilies instance l y left) (sym h) k
  families_append [] between (t ∷ x) y left h k = absurd h
  families_append (n ∷ nodes) between (t ∷ x) y left h k =
      (h.0, families_append (family_children instance n t ++ nodes) between x y left h.1 k)

  pub families_part : (nodes : List FamilyNode) (x y : List FamilyToken) (left : List FamilyNode)
      → FeedsFamilies instance nodes (x ++ y) left
      → (between : List FamilyNode) × FeedsFamilies instance nodes x between × FeedsFamilies instance between y left
  families_part nodes [] y left h = (nodes, refl, h)
  families_part [] (t ∷ x) y left h = absurd h
  families_part (n ∷ nodes) (t ∷ x) y left h =
      let rest = families_part (family_children instance n t ++ nodes) x y left h.1 in
      (rest.0, (h.0, rest.1), rest.2)

  -- what is left of the node of a family, by whether it is too long
  abbrev left_by_length : Bool → FamilyNode → List FamilyNode
  left_by_length b n = cond b [] (n ∷ [])

  -- a refutation is fed, and takes its node away
  pub families_fed : {n : FamilyNode} {z : List FamilyToken} → RefutesFamilies instance n z → (nodes : List FamilyNode)
      → FeedsFamilies instance (n ∷ nodes) z nodes
  families_fed (by_rules c) nodes = (c, refl)
  families_fed (by_side h) nodes = (h, refl)
  families_fed (by_scales x) nodes = (x, refl)
  families_fed (by_family {n = n} {i = i} {vs = vs} j long) nodes =
      (j, ap (λ b. left_by_length b (joined_by n i vs) ++ nodes) long)
  families_fed (by_part {n = n} {i = i} {vs = vs} {z = z} j short rest) nodes = (
    j,
    subst (λ b. FeedsFamilies instance (left_by_length b (joined_by n i vs) ++ nodes) z nodes) (sym short)
        (families_fed rest nodes),
  )
  families_fed (by_apart {es = es} {i = i} {u = u} {v = v} {l = x} {r = y} m e first second) nodes = (
    m,
    subst (λ z. FeedsFamilies instance (Free (exclusion_in_text i u v Overlap ∷ es)
        ∷ Free (exclusion_in_text i u v Before ∷ exclusion_in_text i u v After ∷ es) ∷ nodes) z nodes) (sym e)
        (families_append _ _ x y nodes
        (families_fed first (Free (exclusion_in_text i u v Before ∷ exclusion_in_text i u v After ∷ es) ∷ nodes))
        (families_fed second nodes)),
  )
  families_fed (by_order {es = es} {i = i} {u = u} {v = v} {l = x} {r = y} m e first second) nodes = (
    m,
    subst (λ z. FeedsFamilies instance (Free (exclusion_in_text i u v After ∷ es)
        ∷ Free (exclusion_in_text i u v Before ∷ es) ∷ nodes) z nodes) (sym e)
        (families_append _ _ x y nodes
        (families_fed first (Free (exclusion_in_text i u v Before ∷ es) ∷ nodes))
        (families_fed second nodes)),
  )

  -- the tokens are one refutation for each node
  abbrev RefutesAll : List FamilyNode → List FamilyToken → Type 0
  RefutesAll [] z = z ≡ []
  RefutesAll (n ∷ nodes) z =
      (l : List FamilyToken) × (r : List FamilyToken) × (z ≡ l ++ r) × RefutesFamilies instance n l
      × RefutesAll nodes r

  abbrev leaf : (n : FamilyNode) (nodes : List FamilyNode) (t : FamilyToken) (ts : List FamilyToken)
      → RefutesFamilies instance n (t ∷ []) → RefutesAll nodes ts → RefutesAll (n ∷ nodes) (t ∷ ts)
  leaf n nodes t ts h rest = (t ∷ [], ts, refl, h, rest)

  -- a split, by the refutations of its children
  abbrev split : (es : List Exclusion) (first second : FamilyNode) (nodes : List FamilyNode) (t : FamilyToken)
      (ts : List FamilyToken)
      → ((l r : List FamilyToken) → RefutesFamilies instance first l → RefutesFamilies instance second r
      → RefutesFamilies instance (Free es) (t ∷ (l ++ r)))
      → RefutesAll (first ∷ second ∷ nodes) ts → RefutesAll (Free es ∷ nodes) (t ∷ ts)
  split es first second nodes t ts made (x, y, e, one, (y1, y2, f, two, rest)) = (
    t ∷ (x ++ y1),
    y2,
    ap (λ w. t ∷ w) (e ∙ ap (λ w. x ++ w) f ∙ sym (append_assoc x y1 y2)),
    made x y1 one two,
    rest,
  )

  -- boxes that join a family, by whether it is too long
  joined : (n : FamilyNode) (i : ℕ) (vs : List ℕ) (ts : List FamilyToken) (nodes : List FamilyNode)
      → MayJoin instance n i vs
      → (b : Bool) → is_too_long instance i (boxes_of n ++ vs) ≡ b
      → RefutesAll (left_by_length b (joined_by n i vs) ++ nodes) ts → RefutesAll (n ∷ nodes) (Family i vs ∷ ts)
  joined n i vs ts nodes j true long rest = leaf n nodes (Family i vs) ts (by_family j long) rest
  joined n i vs ts nodes j false short (x, y, e, h, rest) =
      (Family i vs ∷ x, y, ap (λ w. Family i vs ∷ w) e, by_part j short h, rest)

  splits : (z : List FamilyToken) (nodes : List FamilyNode) → FeedsFamilies instance nodes z [] → RefutesAll nodes z
  splits [] [] a = refl
  splits [] (n ∷ nodes) a = absurd (cc)
  splits (t ∷ ts) [] a = absurd a
  splits (Family i vs ∷ ts) (n ∷ nodes) a =
      joined n i vs ts nodes a.0 (is_too_long instance i (boxes_of n ++ vs)) refl
      (splits ts (family_children instance n (Family i vs) ++ nodes) a.1)
  splits (Plain t ∷ ts) (Begun es i us ∷ nodes) a = absurd a.0
  splits (Plain Rules ∷ ts) (Free es ∷ nodes) a = leaf (Free es) nodes _ ts (by_rules a.0) (splits ts nodes a.1)
  splits (Plain (TooLarge v i) ∷ ts) (Free es ∷ nodes) a = leaf (Free es) nodes _ ts (by_side a.0) (splits ts nodes a.1)
  splits (Plain (Scales fs) ∷ ts) (Free es ∷ nodes) a = leaf (Free es) nodes _ ts (by_scales a.0) (splits ts nodes a.1)
  splits (Plain (Apart i u v) ∷ ts) (Free es ∷ nodes) a =
      split es (Free (exclusion_in_text i u v Overlap ∷ es))
      (Free (exclusion_in_text i u v Before ∷ exclusion_in_text i u v After ∷ es)) nodes (Plain (Apart i u v)) ts
      (λ l r one two. by_apart {l = l} {r = r} a.0 refl one two)
      (splits ts (Free (exclusion_in_text i u v Overlap ∷ es)
      ∷ Free (exclusion_in_text i u v Before ∷ exclusion_in_text i u v After ∷ es) ∷ nodes) a.1)
  splits (Plain (Order i u v) ∷ ts) (Free es ∷ nodes) a =
      split es (Free (exclusion_in_text i u v After ∷ es)) (Free (exclusion_in_text i u v Before ∷ es)) nodes
      (Plain (Order i u v)) ts (λ l r one two. by_order {l = l} {r = r} a.0 refl one two)
      (splits ts (Free (exclusion_in_text i u v After ∷ es) ∷ Free (exclusion_in_text i u v Before ∷ es) ∷ nodes) a.1)
  splits (Plain (Assign v) ∷ ts) (Free es ∷ nodes) a = absurd a.0
  splits (Plain (Choose v) ∷ ts) (Free es ∷ nodes) a = absurd a.0
  splits (Plain (SetRefuted b) ∷ ts) (Free es ∷ nodes) a = absurd a.0
  splits (Plain ValueShort ∷ ts) (Free es ∷ nodes) a = absurd a.0
  splits (Plain (GlobalScales fs) ∷ ts) (Free es ∷ nodes) a = absurd a.0

  -- tokens that take one node away refute at it
  pub fed_refutes_families : (n : FamilyNode) (z : List FamilyToken) → FeedsFamilies instance (n ∷ []) z []
      → RefutesFamilies instance n z
  fed_refutes_families n z a = go (splits z (n ∷ []) a)
    where
      go : RefutesAll (n ∷ []) z → RefutesFamilies instance n z
      go (l, r, e, h, f) =
          subst (λ w. RefutesFamilies instance n w) (sym (e ∙ (ap (λ w. l ++ w) f ∙ append-nil l))) h
