-- Pieces of good lines, put behind one another.
use Rattle.std.proofs.Common.{◌≡◌, ℕ, suc, ◌*◌, ◌<◌, ◌≤◌, ◌⊎◌, inl, inr, refl, sym, ap, subst, arith, Bool, true}
use Rattle.std.proofs.Common.{false, List, [], ◌∷◌, ◌++◌, map, length, Result, Ok, Err, append_assoc, length-append}
use Rattle.std.specs.Prelude.{◌==◌}
use Rattle.std.proofs.lemmas.Bool.{cases_Bool, eqb-true, eqb-false}
use Rattle.packing_terms.specs.declared.Exclusion.{Exclusion}
use Rattle.packing_terms.specs.Packing.{PlainInstance, IsPacking, box_count}
use Rattle.packing_terms.specs.Results.{◌>>=◌}
use Rattle.packing_terms.specs.Tokens.{PlainToken}
use Rattle.packing_terms.specs.Refutation.{Refutes}
use Rattle.verdict_terms.specs.declared.check_answers.PlaceVerdict.TheVariants.{Good as GoodPlaces}
use Rattle.verdict_terms.specs.declared.check_answers.RefuseCode.{RefuseCode}
use Rattle.verdict_terms.specs.Checking.{inner_after, nodes_after_all}
use Rattle.verdict_terms.specs.Placing.{place_verdict}
use Rattle.verdict_terms.proofs.Refuting.{inner_refutes}
use Rattle.verdict_terms.proofs.Places.{places_tested}
use Rattle.verdict_terms.specs.declared.front_answers.FrontReason.{FrontReason}
use Rattle.verdict_terms.specs.Fronts.{with_container}
use Rattle.verdict_terms.specs.Lines.{PlainLine, CornerAt, PointAt, PlaceAt, TreeToken, Cornered, Placing, Pointed}
use Rattle.verdict_terms.specs.Lines.{FrontStage, wanted, cornered, grown, front_line}
use Rattle.verdict_terms.proofs.Good.{AreGood}
use Rattle.answer_terms.specs.WalkLines.{place_lines, corner_lines, point_lines}

pub wanted_from : {A : Type 0} (b : Bool) (reason : FrontReason) (x : A) → b ≡ true → wanted b reason x ≡ Ok x
wanted_from b reason x e = rw e refl

append_none : (xs : List ℕ) → xs ++ [] ≡ xs
append_none [] = refl
append_none (z ∷ zs) = ap (λ (l : List ℕ). z ∷ l) (append_none zs)

module _ (instance : PlainInstance) (complete : Bool) where
  -- the tokens of a tree
  good_tokens : (left w h : ℕ) (more : List PlainLine)
      → AreGood instance complete (record { left = left; part = Cornered w h [] }) more
      → (tokens : List PlainToken) (nodes : List (List Exclusion))
      → nodes_after_all (inner_after (with_container instance w h)) nodes tokens ≡ Ok []
      → AreGood instance complete (record { left = left; part = Cornered w h nodes }) (map TreeToken tokens ++ more)
  good_tokens left w h more good [] nodes e = let k : nodes ≡ [] = cc (e) in
      subst (λ (x : List (List Exclusion)). AreGood instance complete (record { left = left; part = Cornered w h x })
      more) (sym k) good
  good_tokens left w h more good (t ∷ tokens) nodes e =
      go (inner_after (with_container instance w h) nodes t) refl e (good_tokens left w h more good tokens)
    where
      go : (r : Result (List (List Exclusion)) RefuseCode) → inner_after (with_container instance w h) nodes t ≡ r
          → (r >>= λ next. nodes_after_all (inner_after (with_container instance w h)) next tokens) ≡ Ok []
          → ((next : List (List Exclusion))
          → nodes_after_all (inner_after (with_container instance w h)) next tokens ≡ Ok []
          → AreGood instance complete (record { left = left; part = Cornered w h next }) (map TreeToken tokens ++ more))
          → AreGood instance complete (record { left = left; part = Cornered w h nodes })
          (TreeToken t ∷ (map TreeToken tokens ++ more))
      go (Ok next) is k later = (record { left = left; part = Cornered w h next }, ap (grown left w h) is, later next k)
      go (Err code) is k later = absurd (cc (k))

  -- a corner with its tree
  pub good_corner : (s : FrontStage) (left w h : ℕ) (tokens : List PlainToken) (more : List PlainLine)
      → front_line instance complete s (CornerAt w h) ≡ Ok (cornered left w h)
      → Refutes (with_container instance w h) [] tokens
      → AreGood instance complete (record { left = left; part = Cornered w h [] }) more
      → AreGood instance complete s (corner_lines (record { width = w; height = h; tokens = tokens }) ++ more)
  good_corner s left w h tokens more e refutes good = (
    cornered left w h,
    e,
    good_tokens left w h more good tokens ([] ∷ [])
        ((inner_refutes (with_container instance w h) [] tokens).1 refutes),
  )

  -- the places of a point
  good_places : (left a b : ℕ) (more : List PlainLine)
      → AreGood instance complete (record { left = left; part = Pointed a b }) more
      → (places done : List ℕ) (k : ℕ) → length done ≡ 2 * k → length done < 2 * box_count instance
      → IsPacking (with_container instance a b) (done ++ places)
      → AreGood instance complete (record { left = left; part = Placing a b done }) (place_lines places ++ more)
  good_places left a b more good [] done k even less packed =
      absurd (let c = packed.count in let n = length-append done [] in omega (arith, c, n, less))
  good_places left a b more good (x ∷ []) done k even less packed =
      absurd (let c = packed.count in let n = length-append done (x ∷ []) in omega (arith, c, n, even))
  good_places left a b more good (x ∷ y ∷ rest) done k even less packed =
      go (cases_Bool (length (done ++ x ∷ y ∷ []) == 2 * box_count instance)) rest whole
      (λ fewer. good_places left a b more good rest (done ++ x ∷ y ∷ []) (suc k)
      (let n = length-append done (x ∷ y ∷ []) in omega (arith, n, even)) fewer whole)
    where
      whole : IsPacking (with_container instance a b) ((done ++ x ∷ y ∷ []) ++ rest)
      whole = subst (λ (ps : List ℕ). IsPacking (with_container instance a b) ps)
          (sym (append_assoc done (x ∷ y ∷ []) rest)) packed

      go : ((length (done ++ x ∷ y ∷ []) == 2 * box_count instance) ≡ true)
          ⊎ ((length (done ++ x ∷ y ∷ []) == 2 * box_count instance) ≡ false)
          → (tail : List ℕ) → IsPacking (with_container instance a b) ((done ++ x ∷ y ∷ []) ++ tail)
          → (length (done ++ x ∷ y ∷ []) < 2 * box_count instance
          → AreGood instance complete (record { left = left; part = Placing a b (done ++ x ∷ y ∷ []) })
          (place_lines tail ++ more))
          → AreGood instance complete (record { left = left; part = Placing a b done })
          (PlaceAt (x ∷ y ∷ []) ∷ (place_lines tail ++ more))
      go (inl e) [] p later =
          let q : IsPacking (with_container instance a b) (done ++ x ∷ y ∷ []) =
          subst (λ (ps : List ℕ). IsPacking (with_container instance a b) ps) (append_none (done ++ x ∷ y ∷ [])) p in
          let count = eqb-true _ _ e in
          let v : place_verdict (with_container instance a b) (done ++ x ∷ y ∷ []) ≡ GoodPlaces =
          (places_tested (with_container instance a b) (done ++ x ∷ y ∷ []) GoodPlaces (omega (arith, count))).1 q in
          (record { left = left; part = Pointed a b }, (rw (e, v) refl), good)
      go (inl e) (z ∷ tail) p later =
          absurd (let c = p.count in let n = length-append (done ++ x ∷ y ∷ []) (z ∷ tail) in
          let count = eqb-true _ _ e in omega (arith, c, n, count))
      go (inr e) tail p later = (
        record { left = left; part = Placing a b (done ++ x ∷ y ∷ []) },
        (rw e refl),
        later (let c = p.count in let n = length-append (done ++ x ∷ y ∷ []) tail in let ne = eqb-false _ _ e in
            omega (arith, c, n, ne)),
      )

  -- a point with its places
  pub good_point : (s : FrontStage) (left w h : ℕ) (places : List ℕ) (more : List PlainLine) → 1 ≤ box_count instance
      → front_line instance complete s (PointAt w h) ≡ Ok (record { left = left; part = Placing w h [] })
      → IsPacking (with_container instance w h) places
      → AreGood instance complete (record { left = left; part = Pointed w h }) more
      → AreGood instance complete s (point_lines (record { width = w; height = h; places = places }) ++ more)
  good_point s left w h places more some e packed good = (
    record { left = left; part = Placing w h [] },
    e,
    good_places left w h more good places [] 0 refl (omega (arith, some)) packed,
  )
