-- The lines of a tree and of places, as a document takes them.
use Rattle.std.proofs.Common.{◌≡◌, ℕ, zero, suc, ◌+◌, ◌*◌, ◌≤◌, ◌<◌, refl, sym, ap, ◌∙◌, subst, arith, Bool, true}
use Rattle.std.proofs.Common.{false, not, cond, List, [], ◌∷◌, ◌++◌, length, Option, Some, None, Result, Ok, Err, codes}
use Rattle.std.specs.Prelude.{◌==◌, ◌-◌}
use Rattle.std.proofs.lemmas.Bool.{ne_eqb, eq-eqb}
use Rattle.std.proofs.Math.Bool.{and-false}
use Rattle.packing_terms.specs.declared.Exclusion.{Exclusion}
use Rattle.packing_terms.specs.Packing.{PlainInstance, box_count}
use Rattle.packing_terms.specs.Goals.{subset}
use Rattle.packing_terms.specs.Results.{◌>>=◌}
use Rattle.packing_terms.specs.Tokens.{PlainToken}
use Rattle.box_instances.specs.Sets.{all_boxes}
use Rattle.text_terms.specs.Lines.{Line}
use Rattle.text_terms.specs.Feeding.{ended_line}
use Rattle.verdict_terms.specs.declared.check_answers.RefuseCode.{RefuseCode}
use Rattle.verdict_terms.specs.declared.check_answers.PlaceVerdict.{PlaceVerdict}
use Rattle.verdict_terms.specs.declared.check_answers.PlaceVerdict.TheVariants.{Good, Outside, Overlap}
use Rattle.verdict_terms.specs.declared.check_answers.FeedVerdict.{FeedVerdict}
use Rattle.verdict_terms.specs.declared.check_answers.FeedVerdict.TheVariants.{More, Done, Refused}
use Rattle.verdict_terms.specs.Checking.{Checked, starting, inner_after, checked_by, kept_or, answered}
use Rattle.verdict_terms.specs.Placing.{place_verdict}
use Rattle.refutation_check.specs.Refuters.{PlainRefuter, fed}
use Rattle.refutation_check.proofs.Whole.{whole_set, IsFedAs, fed_as}
use Rattle.verdict_terms.specs.declared.reason.Reason.{Reason}
use Rattle.verdict_terms.specs.declared.reason.Reason.TheVariants.{Token, TooShort}
use Rattle.verdict_terms.specs.Reasons.{form, range}
use Rattle.verdict_terms.specs.Numbers.{require, are_coordinates}
use Rattle.verdict_terms.specs.Stages.{is_word, coded}
use Rattle.verdict_terms.specs.Trees.{map_ok}
use Rattle.verdict_terms.specs.Fronts.{with_container}
use Rattle.verdict_terms.specs.Lines.{PlainLine, CornerAt, PointAt, PlaceAt, TreeToken, form as front_form}
use Rattle.verdict_terms.specs.Lines.{grown as front_grown, tested, placed, is_whole_front}
use Rattle.verdict_terms.specs.FrontDocumentVerdicts.{DocumentStage, Ended, line_named, named_line, told, front_filled_line}
use Rattle.front_check.specs.Audits.{growing, placing, pointed}
use Rattle.instance_text.specs.declared.cursor.Cursor.{Cursor}
use Rattle.instance_text.specs.Lines.{lines_left}
use Rattle.document_audits.specs.declared.front_audit.FrontAudit.{FrontAudit}
use Rattle.document_audits.specs.declared.front_audit.FrontAudit.TheVariants.{Refused as RefusedAudit}
use Rattle.document_audits.specs.FrontAudits.{claim_of, verdict_left, IsVerdict, IsNextTaken}
use Rattle.document_audits.specs.FrontParts.{at_front, IsOpenTree, nodes_by, nodes_behind, IsGrown, place_by, place_of}
use Rattle.document_audits.specs.FrontParts.{reason_of, places_reason}
use Rattle.document_audits.proofs.FrontCursors.{taken_on, taken_refused}

module _ (instance : PlainInstance) (complete : Bool) (points left w h : ℕ) where
  abbrev behind_tree : List (List Exclusion) → DocumentStage
  behind_tree nodes = at_front instance complete points (growing left w h nodes)

  abbrev behind_places : List ℕ → DocumentStage
  behind_places places = at_front instance complete points (placing left w h places)

  -- ---- a token where one is wanted

  grown_by : (r : Result (List (List Exclusion)) RefuseCode)
      → (told (front_grown left w h r) >>= λ next. Ok (at_front instance complete points next))
      ≡ map_ok behind_tree (coded r)
  grown_by (Ok nodes) = refl
  grown_by (Err code) = refl

  tree_named : (node : List Exclusion) (nodes : List (List Exclusion)) (o : Option PlainLine)
      → named_line instance (claim_of complete points) (growing left w h (node ∷ nodes)) o
      ≡ map_ok behind_tree (nodes_by (with_container instance w h) (node ∷ nodes) o)
  tree_named node nodes None = refl
  tree_named node nodes (Some (CornerAt a b)) = refl
  tree_named node nodes (Some (PointAt a b)) = go left
    where
      go : (l : ℕ) → named_line instance (claim_of complete points) (growing l w h (node ∷ nodes))
          (Some (PointAt a b)) ≡ Err form
      go zero = refl
      go (suc l) = refl
  tree_named node nodes (Some (PlaceAt xs)) = refl
  tree_named node nodes (Some (TreeToken t)) = grown_by (inner_after (with_container instance w h) (node ∷ nodes) t)

  pub tree_line : (node : List Exclusion) (nodes : List (List Exclusion)) (line : Line)
      → front_filled_line (behind_tree (node ∷ nodes)) line
      ≡ map_ok behind_tree (nodes_behind (with_container instance w h) (node ∷ nodes) line)
  tree_line node nodes line = go line.bad (is_word (codes "end") line.words)
    where
      go : (b e : Bool)
          → require (not b) form (cond e
          (require (is_whole_front complete (growing left w h (node ∷ nodes))) TooShort
          (Ok (Ended instance (claim_of complete points))))
          (named_line instance (claim_of complete points) (growing left w h (node ∷ nodes))
          (line_named line.words)))
          ≡ map_ok behind_tree (require (not b) form
          (cond e (Err TooShort) (nodes_by (with_container instance w h) (node ∷ nodes) (line_named line.words))))
      go true e = refl
      go false true = ap (λ x. require x TooShort (Ok (Ended instance (claim_of complete points))))
          (and-false (left == 0))
      go false false = tree_named node nodes (line_named line.words)

  -- ---- a place where one is wanted

  place_taken : (places xs : List ℕ) (b : Bool)
      → (told (cond b (placed instance complete left w h (places ++ xs)) (Err front_form))
      >>= λ next. Ok (at_front instance complete points next))
      ≡ (cond b (Ok xs) (Err form) >>= λ ys. told (placed instance complete left w h (places ++ ys))
      >>= λ next. Ok (at_front instance complete points next))
  place_taken places xs true = refl
  place_taken places xs false = refl

  ranged : (places xs : List ℕ) (b : Bool)
      → require b range (told (cond (length xs == 2) (placed instance complete left w h (places ++ xs))
      (Err front_form)) >>= λ next. Ok (at_front instance complete points next))
      ≡ (require b range (cond (length xs == 2) (Ok xs) (Err form))
      >>= λ ys. told (placed instance complete left w h (places ++ ys))
      >>= λ next. Ok (at_front instance complete points next))
  ranged places xs true = place_taken places xs (length xs == 2)
  ranged places xs false = refl

  place_named : (places : List ℕ) (o : Option PlainLine)
      → named_line instance (claim_of complete points) (placing left w h places) o
      ≡ (place_by o >>= λ xs. told (placed instance complete left w h (places ++ xs))
      >>= λ next. Ok (at_front instance complete points next))
  place_named places None = refl
  place_named places (Some (CornerAt a b)) = refl
  place_named places (Some (PointAt a b)) = go left
    where
      go : (l : ℕ) → named_line instance (claim_of complete points) (placing l w h places)
          (Some (PointAt a b)) ≡ Err form
      go zero = refl
      go (suc l) = refl
  place_named places (Some (PlaceAt xs)) = ranged places xs (are_coordinates xs)
  place_named places (Some (TreeToken t)) = refl

  place_line : (places : List ℕ) (line : Line)
      → front_filled_line (behind_places places) line
      ≡ (place_of line >>= λ xs. told (placed instance complete left w h (places ++ xs))
      >>= λ next. Ok (at_front instance complete points next))
  place_line places line = go line.bad (is_word (codes "end") line.words)
    where
      go : (b e : Bool)
          → require (not b) form (cond e
          (require (is_whole_front complete (placing left w h places)) form
          (Ok (Ended instance (claim_of complete points))))
          (named_line instance (claim_of complete points) (placing left w h places) (line_named line.words)))
          ≡ (require (not b) form (cond e (Err form) (place_by (line_named line.words)))
          >>= λ xs. told (placed instance complete left w h (places ++ xs))
          >>= λ next. Ok (at_front instance complete points next))
      go true e = refl
      go false true = ap (λ x. require x form (Ok (Ended instance (claim_of complete points)))) (and-false (left == 0))
      go false false = place_named places (line_named line.words)

  abbrev tested_by : (v : PlaceVerdict) → Result DocumentStage Reason
  tested_by v = told (tested left w h v) >>= λ next. Ok (at_front instance complete points next)

  tested_good : (v : PlaceVerdict) → reason_of v ≡ None
      → tested_by v ≡ Ok (at_front instance complete points (pointed left w h))
  tested_good Good e = refl
  tested_good (Outside v i) e = absurd (cc (e))
  tested_good (Overlap u v) e = absurd (cc (e))

  tested_bad : (v : PlaceVerdict) (reason : Reason) → reason_of v ≡ Some reason → tested_by v ≡ Err reason
  tested_bad Good reason e = absurd (cc (e))
  tested_bad (Outside v i) reason e = ap Err (cc (e))
  tested_bad (Overlap u v) reason e = ap Err (cc (e))

  module _ (places xs after : List ℕ) (line : Line) (is : place_of line ≡ Ok xs) (e : after ≡ places ++ xs) where
    taken : front_filled_line (behind_places places) line
        ≡ (told (placed instance complete left w h after) >>= λ next. Ok (at_front instance complete points next))
    taken =
        place_line places line ∙ (ap (λ r. r >>= λ ys. told (placed instance complete left w h (places ++ ys))
        >>= λ next. Ok (at_front instance complete points next)) is
        ∙ ap (λ (ps : List ℕ). told (placed instance complete left w h ps)
        >>= λ next. Ok (at_front instance complete points next)) (sym e))

    pub place_more : ¬ (length after ≡ 2 * box_count instance)
        → front_filled_line (behind_places places) line ≡ Ok (behind_places after)
    place_more off =
        taken ∙ ap (λ b. told (cond b (tested left w h (place_verdict (with_container instance w h) after))
        (Ok (placing left w h after))) >>= λ next. Ok (at_front instance complete points next))
        (ne_eqb (length after) (2 * box_count instance) off)

    module _ (full : length after ≡ 2 * box_count instance) where
      all_taken : front_filled_line (behind_places places) line
          ≡ tested_by (place_verdict (with_container instance w h) after)
      all_taken =
          taken ∙ ap (λ b. told (cond b (tested left w h (place_verdict (with_container instance w h) after))
          (Ok (placing left w h after))) >>= λ next. Ok (at_front instance complete points next))
          (eq-eqb (length after) (2 * box_count instance) full)

      pub places_good : None ≡ places_reason (with_container instance w h) after
          → front_filled_line (behind_places places) line ≡ Ok (at_front instance complete points (pointed left w h))
      places_good f = all_taken ∙ tested_good (place_verdict (with_container instance w h) after) (sym f)

      pub places_bad : (reason : Reason) → Some reason ≡ places_reason (with_container instance w h) after
          → front_filled_line (behind_places places) line ≡ Err reason
      places_bad reason f = all_taken ∙ tested_bad (place_verdict (with_container instance w h) after) reason (sym f)

  pub place_refused : (places : List ℕ) (line : Line) (reason : Reason) → place_of line ≡ Err reason
      → front_filled_line (behind_places places) line ≡ Err reason
  place_refused places line reason e =
      place_line places line ∙ ap (λ r. r >>= λ ys. told (placed instance complete left w h (places ++ ys))
      >>= λ next. Ok (at_front instance complete points next)) e

-- ---- a refuter that takes a token

module _ (r next : PlainRefuter) (t : PlainToken) (v : FeedVerdict) (at : IsOpenTree r) (e : next ≡ fed r t)
    (f : v ≡ answered next.checked) where
  abbrev res : Result (List (List Exclusion)) RefuseCode
  res = inner_after r.instance r.checked.nodes t

  next_checked : next.checked ≡ checked_by r.checked.nodes res
  next_checked =
      ap (λ (x : PlainRefuter). x.checked) e
      ∙ (ap (λ (o : Option RefuseCode). kept_or o r.checked
      (checked_by r.checked.nodes (inner_after (subset r.instance r.keep) r.checked.nodes t))) at.on
      ∙ ap (λ (i : PlainInstance). checked_by r.checked.nodes (inner_after i r.checked.nodes t))
      (ap (subset r.instance) at.whole ∙ whole_set r.instance))

  told_as : IsFedAs res next.checked v
  told_as =
      subst (λ (c : Checked (List Exclusion)). IsFedAs res c v) (sym next_checked)
      (subst (λ (a : FeedVerdict). IsFedAs res (checked_by r.checked.nodes res) a) (sym (f ∙ ap answered next_checked))
      (fed_as r.checked.nodes res))

  module _ (line : Line) (good : line.bad ≡ false) (other : is_word (codes "end") line.words ≡ false)
      (is : Some (TreeToken t) ≡ line_named line.words) where
    nodes_told : nodes_behind r.instance r.checked.nodes line ≡ coded res
    nodes_told = rw (good, other) (ap (nodes_by r.instance r.checked.nodes) (sym is))

    pub fed_more : v ≡ More → IsGrown r next line (Ok false)
    fed_more g =
        let k = subst (λ (a : FeedVerdict). IsFedAs res next.checked a) g told_as in (
          nodes_told ∙ ap coded k.left,
          ap (λ (x : PlainRefuter). x.instance) e,
          record {
            whole = ap (λ (x : PlainRefuter). x.keep) e ∙ at.whole
                ∙ ap all_boxes (sym (ap (λ (x : PlainRefuter). x.instance) e));
            on = k.on;
            node = k.node;
            nodes =
                k.nodes;
            opens = k.opens;
          },
        )

    pub fed_done : v ≡ Done → IsGrown r next line (Ok true)
    fed_done g = nodes_told ∙ ap coded (subst (λ (a : FeedVerdict). IsFedAs res next.checked a) g told_as)

    pub fed_refused : (code : RefuseCode) → v ≡ Refused code → IsGrown r next line (Err (Token code))
    fed_refused code g = nodes_told ∙ ap coded (subst (λ (a : FeedVerdict). IsFedAs res next.checked a) g told_as)

-- ---- a tree of which some lines were read

pub record IsTreeRead (bytes : List ℕ) (old at : Cursor) (instance : PlainInstance) (w h : ℕ) (r : PlainRefuter) :
    Type 0 where
  pub sized : r.instance ≡ with_container instance w h
  pub open_tree : IsOpenTree r
  pub fewer : length (lines_left bytes at) ≤ length (lines_left bytes old)
  pub same : (complete : Bool) (points left : ℕ)
      → verdict_left bytes old (at_front instance complete points (growing left w h ([] ∷ [])))
      ≡ verdict_left bytes at (at_front instance complete points (growing left w h r.checked.nodes))

abbrev begun_of : PlainInstance → PlainRefuter
begun_of i = record { instance = i; keep = all_boxes i; checked = starting [] }

pub tree_begun : (bytes : List ℕ) (old : Cursor) (instance : PlainInstance) (w h : ℕ) (sized : PlainInstance)
    (r : PlainRefuter) → r ≡ begun_of sized → sized ≡ with_container instance w h
    → IsTreeRead bytes old old instance w h r
tree_begun bytes old instance w h sized r e f =
    subst (λ (x : PlainRefuter). IsTreeRead bytes old old instance w h x) (sym (e ∙ ap begun_of f))
    (record {
      sized = refl;
      open_tree = record { whole = refl; on = refl; node = []; nodes = []; opens = refl };
      fewer = omega arith;
      same = λ complete points left. refl;
    })

module _ (bytes : List ℕ) (old at mid : Cursor) (instance : PlainInstance) (w h : ℕ) (r next : PlainRefuter)
    (read : IsTreeRead bytes old at instance w h r) (there : IsNextTaken bytes at mid true) where
  tree_line_at : (complete : Bool) (points left : ℕ)
      → front_filled_line (at_front instance complete points (growing left w h r.checked.nodes))
      (ended_line mid.line.held)
      ≡ map_ok (behind_tree instance complete points left w h)
      (nodes_behind r.instance r.checked.nodes (ended_line mid.line.held))
  tree_line_at complete points left =
      let o = read.open_tree in
      ap (λ (ns : List (List Exclusion)). front_filled_line (at_front instance complete points (growing left w h ns))
      (ended_line mid.line.held)) o.opens
      ∙ (tree_line instance complete points left w h o.node o.nodes (ended_line mid.line.held)
      ∙ (ap (λ (ns : List (List Exclusion)). map_ok (behind_tree instance complete points left w h)
      (nodes_behind (with_container instance w h) ns (ended_line mid.line.held))) (sym o.opens)
      ∙ ap (λ (i : PlainInstance). map_ok (behind_tree instance complete points left w h)
      (nodes_behind i r.checked.nodes (ended_line mid.line.held))) (sym read.sized)))

  pub tree_more : IsGrown r next (ended_line mid.line.held) (Ok false)
      → length (lines_left bytes mid) < length (lines_left bytes at) → IsTreeRead bytes old mid instance w h next
  tree_more g few = record {
    sized = g.1 ∙ read.sized;
    open_tree = g.2;
    fewer = (let l = read.fewer in omega (arith, l, few));
    same = λ complete points left.
        read.same complete points left
        ∙ taken_on bytes at mid there (at_front instance complete points (growing left w h r.checked.nodes))
        (at_front instance complete points (growing left w h next.checked.nodes))
        (tree_line_at complete points left ∙ ap (map_ok (behind_tree instance complete points left w h)) g.0);
  }

  pub tree_done : IsGrown r next (ended_line mid.line.held) (Ok true) → (complete : Bool) (points left : ℕ)
      → verdict_left bytes old (at_front instance complete points (growing left w h ([] ∷ [])))
      ≡ verdict_left bytes mid (at_front instance complete points (growing left w h []))
  tree_done g complete points left =
      read.same complete points left
      ∙ taken_on bytes at mid there (at_front instance complete points (growing left w h r.checked.nodes))
      (at_front instance complete points (growing left w h []))
      (tree_line_at complete points left ∙ ap (map_ok (behind_tree instance complete points left w h)) g)

  pub tree_refused : (reason : Reason) → IsGrown r next (ended_line mid.line.held) (Err reason)
      → (complete : Bool) (points left : ℕ)
      → verdict_left bytes old (at_front instance complete points (growing left w h ([] ∷ [])))
      ≡ Err (record { line = mid.line.number; reason = reason })
  tree_refused reason g complete points left =
      read.same complete points left
      ∙ taken_refused bytes at mid there (at_front instance complete points (growing left w h r.checked.nodes)) reason
      (tree_line_at complete points left ∙ ap (map_ok (behind_tree instance complete points left w h)) g)

pub tree_short : (bytes : List ℕ) (old at mid : Cursor) (instance : PlainInstance) (w h : ℕ) (r : PlainRefuter)
    → IsTreeRead bytes old at instance w h r → IsNextTaken bytes at mid false
    → (end : FrontAudit) → end ≡ RefusedAudit (mid.line.number + 1) TooShort → (complete : Bool) (points left : ℕ)
    → IsVerdict (verdict_left bytes old (at_front instance complete points (growing left w h ([] ∷ [])))) end
tree_short bytes old at mid instance w h r read none end e complete points left =
    subst (λ (a : FrontAudit). IsVerdict
    (verdict_left bytes old (at_front instance complete points (growing left w h ([] ∷ [])))) a) (sym e)
    (read.same complete points left ∙ none (at_front instance complete points (growing left w h r.checked.nodes)))

-- ---- places of which some were read

pub record IsPlacesRead (bytes : List ℕ) (old at : Cursor) (instance : PlainInstance) (w h : ℕ) (places : List ℕ) :
    Type 0 where
  pub fewer : length (lines_left bytes at) ≤ length (lines_left bytes old)
  pub same : (complete : Bool) (points left : ℕ)
      → verdict_left bytes old (at_front instance complete points (placing left w h []))
      ≡ verdict_left bytes at (at_front instance complete points (placing left w h places))

pub places_begun : (bytes : List ℕ) (old : Cursor) (instance : PlainInstance) (w h : ℕ) (places : List ℕ) → places ≡ []
    → IsPlacesRead bytes old old instance w h places
places_begun bytes old instance w h places e =
    subst (λ (ps : List ℕ). IsPlacesRead bytes old old instance w h ps) (sym e)
    (record { fewer = omega arith; same = λ complete points left. refl })

module _ (bytes : List ℕ) (old at mid : Cursor) (instance : PlainInstance) (w h : ℕ) (places : List ℕ)
    (read : IsPlacesRead bytes old at instance w h places) (there : IsNextTaken bytes at mid true) where
  pub place_stopped : (reason : Reason) → place_of (ended_line mid.line.held) ≡ Err reason
      → (complete : Bool) (points left : ℕ)
      → verdict_left bytes old (at_front instance complete points (placing left w h []))
      ≡ Err (record { line = mid.line.number; reason = reason })
  place_stopped reason e complete points left =
      read.same complete points left
      ∙ taken_refused bytes at mid there (at_front instance complete points (placing left w h places)) reason
      (place_refused instance complete points left w h places (ended_line mid.line.held) reason e)

  module _ (xs after : List ℕ) (is : place_of (ended_line mid.line.held) ≡ Ok xs) (e : after ≡ places ++ xs) where
    pub places_more : ¬ (length after ≡ 2 * box_count instance)
        → length (lines_left bytes mid) < length (lines_left bytes at) → IsPlacesRead bytes old mid instance w h after
    places_more off few = record {
      fewer = (let l = read.fewer in omega (arith, l, few));
      same = λ complete points left.
          read.same complete points left
          ∙ taken_on bytes at mid there (at_front instance complete points (placing left w h places))
          (at_front instance complete points (placing left w h after))
          (place_more instance complete points left w h places xs after (ended_line mid.line.held) is e off);
    }

    module _ (full : length after ≡ 2 * box_count instance) where
      pub places_done : None ≡ places_reason (with_container instance w h) after → (complete : Bool) (points left : ℕ)
          → verdict_left bytes old (at_front instance complete points (placing left w h []))
          ≡ verdict_left bytes mid (at_front instance complete points (pointed left w h))
      places_done f complete points left =
          read.same complete points left
          ∙ taken_on bytes at mid there (at_front instance complete points (placing left w h places))
          (at_front instance complete points (pointed left w h))
          (places_good instance complete points left w h places xs after (ended_line mid.line.held) is e full f)

      pub places_refused : (reason : Reason) → Some reason ≡ places_reason (with_container instance w h) after
          → (complete : Bool) (points left : ℕ)
          → verdict_left bytes old (at_front instance complete points (placing left w h []))
          ≡ Err (record { line = mid.line.number; reason = reason })
      places_refused reason f complete points left =
          read.same complete points left
          ∙ taken_refused bytes at mid there (at_front instance complete points (placing left w h places)) reason
          (places_bad instance complete points left w h places xs after (ended_line mid.line.held) is e full reason f)
