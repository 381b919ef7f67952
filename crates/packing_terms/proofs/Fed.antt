-- Tokens fed one by one: a list of tokens fed in two parts, and inner tokens that leave no node are a refutation.
use Rattle.std.proofs.Common.{◌≡◌, refl, sym, ap, subst, ◌∙◌, List, [], ◌∷◌, ◌++◌, append_assoc, append-nil}
use Rattle.packing_terms.specs.declared.Rel.TheVariants.{Overlap, Before, After}
use Rattle.packing_terms.specs.declared.Exclusion.{Exclusion}
use Rattle.packing_terms.specs.Packing.{PlainInstance}
use Rattle.packing_terms.specs.Tokens.{PlainToken}
use Rattle.packing_terms.specs.Tokens.PlainToken.{Apart, Order, Rules, TooLarge, Scales, Assign, Choose, SetRefuted}
use Rattle.packing_terms.specs.Tokens.PlainToken.{ValueShort, GlobalScales}
use Rattle.packing_terms.specs.Refutation.{exclusion_in_text, Refutes, by_rules, by_side, by_scales, by_apart, by_order}
use Rattle.packing_terms.specs.Feeding.{FeedsBy, Accepts, children, Feeds}

module _ {Node : Type 0} (Takes : Node → PlainToken → Type 0) (below : Node → PlainToken → List Node) where
  -- tokens fed one after another, and the open nodes between them
  pub feeds_append : (nodes : List Node) (x y : List PlainToken) (mid left : List Node)
      → FeedsBy Takes below nodes x mid → FeedsBy Takes below mid y left → FeedsBy Takes below nodes (x ++ y) left
  feeds_append nodes [] y mid left h k = subst (λ l. FeedsBy Takes below l y left) (sym h) k
  feeds_append [] (t ∷ x) y mid left h k = absurd h
  feeds_append (n ∷ nodes) (t ∷ x) y mid left h k = (h.0, feeds_append (below n t ++ nodes) x y mid left h.1 k)

  pub feeds_part : (nodes : List Node) (x y : List PlainToken) (left : List Node)
      → FeedsBy Takes below nodes (x ++ y) left
      → (mid : List Node) × FeedsBy Takes below nodes x mid × FeedsBy Takes below mid y left
  feeds_part nodes [] y left h = (nodes, refl, h)
  feeds_part [] (t ∷ x) y left h = absurd h
  feeds_part (n ∷ nodes) (t ∷ x) y left h = let k = feeds_part (below n t ++ nodes) x y left h.1 in
      (k.0, (h.0, k.1), k.2)

module _ (instance : PlainInstance) where
  -- a refutation is fed, and takes its node away
  pub fed : {es : List Exclusion} {z : List PlainToken} → Refutes instance es z → (nodes : List (List Exclusion))
      → Feeds instance (es ∷ nodes) z nodes
  fed (by_rules h) nodes = (h, refl)
  fed (by_side h) nodes = (h, refl)
  fed (by_scales h) nodes = (h, refl)
  fed (by_apart {es = es} {i = i} {u = u} {v = v} {l = x} {r = y} h e first second) nodes = (
    h,
    subst (λ z. Feeds instance ((exclusion_in_text i u v Overlap ∷ es)
        ∷ (exclusion_in_text i u v Before ∷ exclusion_in_text i u v After ∷ es) ∷ nodes) z nodes) (sym e)
        (feeds_append (Accepts instance) children _ x y _ nodes
        (fed first ((exclusion_in_text i u v Before ∷ exclusion_in_text i u v After ∷ es) ∷ nodes))
        (fed second nodes)),
  )
  fed (by_order {es = es} {i = i} {u = u} {v = v} {l = x} {r = y} h e first second) nodes = (
    h,
    subst (λ z. Feeds instance ((exclusion_in_text i u v After ∷ es) ∷ (exclusion_in_text i u v Before ∷ es) ∷ nodes) z
        nodes) (sym e)
        (feeds_append (Accepts instance) children _ x y _ nodes
        (fed first ((exclusion_in_text i u v Before ∷ es) ∷ nodes)) (fed second nodes)),
  )

  -- the tokens are one refutation for each node
  abbrev pub RefutesAll : List (List Exclusion) → List PlainToken → Type 0
  RefutesAll [] z = z ≡ []
  RefutesAll (es ∷ nodes) z = (l : List PlainToken) × (r : List PlainToken) × (z ≡ l ++ r) × Refutes instance es l
      × RefutesAll nodes r

  -- tokens that leave no node are one refutation for each
  pub splits : (z : List PlainToken) (nodes : List (List Exclusion)) → Feeds instance nodes z [] → RefutesAll nodes z
  splits [] [] a = refl
  splits [] (es ∷ nodes) a = absurd (cc)
  splits (t ∷ ts) [] a = absurd a
  splits (Rules ∷ ts) (es ∷ nodes) a = (Rules ∷ [], ts, refl, by_rules a.0, splits ts nodes a.1)
  splits (TooLarge v i ∷ ts) (es ∷ nodes) a = (TooLarge v i ∷ [], ts, refl, by_side a.0, splits ts nodes a.1)
  splits (Scales fs ∷ ts) (es ∷ nodes) a = (Scales fs ∷ [], ts, refl, by_scales a.0, splits ts nodes a.1)
  splits (Apart i u v ∷ ts) (es ∷ nodes) a =
      go (splits ts ((exclusion_in_text i u v Overlap ∷ es)
      ∷ (exclusion_in_text i u v Before ∷ exclusion_in_text i u v After ∷ es) ∷ nodes) a.1)
    where
      go : RefutesAll ((exclusion_in_text i u v Overlap ∷ es)
          ∷ (exclusion_in_text i u v Before ∷ exclusion_in_text i u v After ∷ es) ∷ nodes) ts
          → RefutesAll (es ∷ nodes) (Apart i u v ∷ ts)
      go (x, y, e, first, (y1, y2, f, second, rest)) = (
        Apart i u v ∷ (x ++ y1),
        y2,
        ap (λ w. Apart i u v ∷ w) (e ∙ ap (λ w. x ++ w) f ∙ sym (append_assoc x y1 y2)),
        by_apart a.0 refl first second,
        rest,
      )
  splits (Order i u v ∷ ts) (es ∷ nodes) a =
      go (splits ts ((exclusion_in_text i u v After ∷ es) ∷ (exclusion_in_text i u v Before ∷ es) ∷ nodes) a.1)
    where
      go : RefutesAll ((exclusion_in_text i u v After ∷ es) ∷ (exclusion_in_text i u v Before ∷ es) ∷ nodes) ts
          → RefutesAll (es ∷ nodes) (Order i u v ∷ ts)
      go (x, y, e, first, (y1, y2, f, second, rest)) = (
        Order i u v ∷ (x ++ y1),
        y2,
        ap (λ w. Order i u v ∷ w) (e ∙ ap (λ w. x ++ w) f ∙ sym (append_assoc x y1 y2)),
        by_order a.0 refl first second,
        rest,
      )
  splits (Assign v ∷ ts) (es ∷ nodes) a = absurd a.0
  splits (Choose v ∷ ts) (es ∷ nodes) a = absurd a.0
  splits (SetRefuted b ∷ ts) (es ∷ nodes) a = absurd a.0
  splits (ValueShort ∷ ts) (es ∷ nodes) a = absurd a.0
  splits (GlobalScales fs ∷ ts) (es ∷ nodes) a = absurd a.0

  -- tokens that take one node away refute it
  pub fed_refutes : (es : List Exclusion) (z : List PlainToken) → Feeds instance (es ∷ []) z [] → Refutes instance es z
  fed_refutes es z a = go (splits z (es ∷ []) a)
    where
      go : RefutesAll (es ∷ []) z → Refutes instance es z
      go (l, r, e, h, f) = subst (λ w. Refutes instance es w) (sym (e ∙ (ap (λ w. l ++ w) f ∙ append-nil l))) h
