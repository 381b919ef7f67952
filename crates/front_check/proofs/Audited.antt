-- Lines that are audited one by one, from an index on.
use Rattle.std.proofs.Common.{◌≡◌, ℕ, zero, suc, ◌+◌, ◌*◌, ◌<◌, ◌≤◌, refl, sym, ap, ◌∙◌, subst, arith, Bool, true}
use Rattle.std.proofs.Common.{false, List, [], ◌∷◌, ◌++◌, map, length, drop, get_or, Option, None, Result, Ok, Err}
use Rattle.std.specs.Prelude.{◌==◌, ◌&&◌, cond}
use Rattle.std.proofs.lemmas.Bool.{eq-eqb, ne_eqb}
use Rattle.std.proofs.lemmas.List.{drop_more, drop_all, drop-map, length-map}
use Rattle.packing_terms.specs.declared.Exclusion.{Exclusion}
use Rattle.packing_terms.specs.Packing.{PlainInstance, box_count}
use Rattle.packing_terms.specs.Goals.{subset}
use Rattle.packing_terms.specs.Results.{◌>>=◌}
use Rattle.packing_terms.specs.Tokens.{PlainToken}
use Rattle.box_instances.specs.Sets.{all_boxes}
use Rattle.verdict_terms.specs.declared.check_answers.PlaceVerdict.{PlaceVerdict}
use Rattle.verdict_terms.specs.declared.check_answers.PlaceVerdict.TheVariants.{Good as GoodPlaces, Outside, Overlap}
use Rattle.verdict_terms.specs.Placing.{place_verdict}
use Rattle.verdict_terms.specs.declared.check_answers.RefuseCode.{RefuseCode}
use Rattle.verdict_terms.specs.declared.check_answers.FeedVerdict.{FeedVerdict}
use Rattle.verdict_terms.specs.declared.check_answers.FeedVerdict.TheVariants.{More, Done, Refused}
use Rattle.verdict_terms.specs.Checking.{Checked, starting, inner_after, checked_by, kept_or, answered}
use Rattle.refutation_check.specs.Refuters.{PlainRefuter, fed}
use Rattle.refutation_check.proofs.Whole.{whole_set, IsFedAs, fed_as}
use Rattle.verdict_terms.specs.declared.front_answers.FrontReason.{FrontReason}
use Rattle.verdict_terms.specs.declared.front_answers.FrontReason.TheVariants.{Tree, Places}
use Rattle.verdict_terms.specs.declared.front_answers.FrontVerdict.TheVariants.{Good, Short, Refused as RefusedFront}
use Rattle.verdict_terms.specs.Fronts.{with_container}
use Rattle.verdict_terms.specs.Lines.{PlainLine, PlaceAt, TreeToken, FrontStage, form, tested, placed, place_line}
use Rattle.verdict_terms.specs.Lines.{token_line, grown, at_line, front_line, front_lines_after, is_whole_front}
use Rattle.verdict_terms.specs.Lines.{announced}
use Rattle.verdict_terms.specs.Verdicts.{verdict_by, front_verdict}
use Rattle.smallvec.specs.SmallVec.{SmallVec}
use Rattle.proof_tree.specs.declared.token.Token.{Token}
use Rattle.proof_tree.specs.Plain.{plain_token}
use Rattle.front_check.specs.declared.line.FrontLine.TheVariants.{Corner as CornerLine, Point as PointLine}
use Rattle.front_check.specs.declared.line.FrontLine.TheVariants.{Place as PlaceLine, Tree as TreeLine}
use Rattle.front_check.specs.declared.parts.Part.TheVariants.{Begun as BegunPart, Corner as CornerPart}
use Rattle.front_check.specs.declared.parts.Part.TheVariants.{Point as PointPart}
use Rattle.front_check.specs.declared.line.FrontLine.{FrontLine}
use Rattle.front_check.specs.declared.parts.Part.{Part}
use Rattle.front_check.specs.declared.parts.Stage.{Stage}
use Rattle.front_check.specs.Plain.{plain_line}
use Rattle.front_check.specs.Audits.{plain_part, plain_stage, IsPartInside, left_from, IsReadTo, IsReadShort, growing}
use Rattle.front_check.specs.Audits.{placing, pointed, StandsAt}

next_is : (n : ℕ) → suc n ≡ n + 1
next_is n = omega arith

cond_on : {A : Type 0} (b : Bool) (x y : A) → b ≡ true → cond b x y ≡ x
cond_on b x y e = rw e refl

cond_off : {A : Type 0} (b : Bool) (x y : A) → b ≡ false → cond b x y ≡ y
cond_off b x y e = rw e refl

-- the line of an index stands before those of the next
pub stands : (lines : List FrontLine) (index : ℕ) (d line : FrontLine) → index < length lines
    → get_or lines index d ≡ line → StandsAt (map plain_line lines) index (plain_line line)
stands lines index d line l e =
    let k = length-map lines plain_line in (
      drop-map plain_line index lines
          ∙ (ap (map plain_line) (drop_more lines index d l)
          ∙ (ap (λ (x : FrontLine). plain_line x ∷ map plain_line (drop (index + 1) lines)) e
          ∙ ap (λ (ls : List PlainLine). plain_line line ∷ ls)
          (sym (drop-map plain_line (index + 1) lines)
          ∙ ap (λ (n : ℕ). drop n (map plain_line lines)) (sym (next_is index))))),
      omega (arith, k, l),
    )

pub stands_as : (lines : List FrontLine) (index : ℕ) (x : FrontLine) (line : PlainLine) → index < length lines
    → x ≡ get_or lines index x → plain_line x ≡ line → StandsAt (map plain_line lines) index line
stands_as lines index x line l e f =
    subst (λ (k : PlainLine). StandsAt (map plain_line lines) index k) f (stands lines index x x l (sym e))

-- a refusal by the form of a line
pub as_form : (r : Result FrontStage (ℕ × FrontReason)) (index : ℕ) (reason : FrontReason) → reason ≡ form
    → r ≡ Err (index, form) → r ≡ Err (index, reason)
as_form r index reason f e = subst (λ (x : FrontReason). r ≡ Err (index, x)) (sym f) e

module _ (instance : PlainInstance) (complete : Bool) (lines : List PlainLine) where
  -- a line that is allowed leads on, and one that isn't ends the reading
  pub line_taken : (index : ℕ) (s next : FrontStage) (line : PlainLine) → StandsAt lines index line
      → front_line instance complete s line ≡ Ok next
      → left_from instance complete index s lines ≡ left_from instance complete (suc index) next lines
  line_taken index s next line at e =
      ap (λ (ls : List PlainLine). front_lines_after instance complete index s ls) at.0
      ∙ ap (λ (r : Result FrontStage FrontReason). at_line index r
      >>= λ more. front_lines_after instance complete (suc index) more (drop (suc index) lines)) e

  pub line_refused : (index : ℕ) (s : FrontStage) (line : PlainLine) (reason : FrontReason) → StandsAt lines index line
      → front_line instance complete s line ≡ Err reason
      → left_from instance complete index s lines ≡ Err (index, reason)
  line_refused index s line reason at e =
      ap (λ (ls : List PlainLine). front_lines_after instance complete index s ls) at.0
      ∙ ap (λ (r : Result FrontStage FrontReason). at_line index r
      >>= λ more. front_lines_after instance complete (suc index) more (drop (suc index) lines)) e

  -- behind all lines
  pub lines_ended : (index : ℕ) (s : FrontStage) → length lines ≤ index
      → left_from instance complete index s lines ≡ Ok s
  lines_ended index s l = ap (λ (ls : List PlainLine). front_lines_after instance complete index s ls)
      (drop_all index lines l)

never_whole : (b : Bool) → (b && false) ≡ false
never_whole true = refl
never_whole false = refl

-- a tree of which some lines were read
pub record IsTreeAt (instance : PlainInstance) (w h : ℕ) (lines : List PlainLine) (start index : ℕ) (r : PlainRefuter) :
    Type 0 where
  pub later : start ≤ index
  pub sized : r.instance ≡ with_container instance w h
  pub whole : r.keep ≡ all_boxes r.instance
  pub on : r.checked.refused ≡ None
  pub node : List Exclusion
  pub nodes : List (List Exclusion)
  pub opens : r.checked.nodes ≡ node ∷ nodes
  pub same : (complete : Bool) (left : ℕ) → left_from instance complete start (growing left w h ([] ∷ [])) lines
      ≡ left_from instance complete index (growing left w h r.checked.nodes) lines

abbrev begun_of : PlainInstance → PlainRefuter
begun_of i = record { instance = i; keep = all_boxes i; checked = starting [] }

pub tree_begun : (instance : PlainInstance) (w h : ℕ) (lines : List PlainLine) (start : ℕ) (sized : PlainInstance)
    (r : PlainRefuter) → r ≡ begun_of sized → sized ≡ with_container instance w h
    → IsTreeAt instance w h lines start start r
tree_begun instance w h lines start sized r e f =
    subst (λ (x : PlainRefuter). IsTreeAt instance w h lines start start x) (sym (e ∙ ap begun_of f))
    (record {
      later = omega arith;
      sized = refl;
      whole = refl;
      on = refl;
      node = [];
      nodes = [];
      opens = refl;
      same = λ complete left. refl;
    })

module _ (instance : PlainInstance) (w h : ℕ) (lines : List PlainLine) (start index : ℕ) (r next : PlainRefuter)
    (t : PlainToken) (v : FeedVerdict) (at : IsTreeAt instance w h lines start index r) (e : next ≡ fed r t)
    (f : v ≡ answered next.checked) (there : StandsAt lines index (TreeToken t)) where
  abbrev res : Result (List (List Exclusion)) RefuseCode
  res = inner_after (with_container instance w h) r.checked.nodes t

  next_checked : next.checked ≡ checked_by r.checked.nodes res
  next_checked =
      ap (λ (x : PlainRefuter). x.checked) e
      ∙ (ap (λ (o : Option RefuseCode). kept_or o r.checked
      (checked_by r.checked.nodes (inner_after (subset r.instance r.keep) r.checked.nodes t))) at.on
      ∙ ap (λ (i : PlainInstance). checked_by r.checked.nodes (inner_after i r.checked.nodes t))
      (ap (subset r.instance) at.whole ∙ (whole_set r.instance ∙ at.sized)))

  told : (u : FeedVerdict) → v ≡ u → IsFedAs res next.checked u
  told u g =
      subst (λ (x : FeedVerdict). IsFedAs res next.checked x) (sym f ∙ g)
      (subst (λ (c : Checked (List Exclusion)). IsFedAs res c (answered c)) (sym next_checked)
      (fed_as r.checked.nodes res))

  pub tree_more : v ≡ More → IsTreeAt instance w h lines start (index + 1) next
  tree_more g =
      let k = told More g in
      record {
        later = (let l = at.later in omega (arith, l));
        sized = ap (λ (x : PlainRefuter). x.instance) e ∙ at.sized;
        whole = ap (λ (x : PlainRefuter). x.keep) e
            ∙ (at.whole ∙ ap all_boxes (sym (ap (λ (x : PlainRefuter). x.instance) e)));
        on = k.on;
        node = k.node;
        nodes = k.nodes;
        opens = k.opens;
        same = λ complete left.
            at.same complete left
            ∙ (line_taken instance complete lines index (growing left w h r.checked.nodes)
            (growing left w h next.checked.nodes) (TreeToken t) there (ap (grown left w h) k.left)
            ∙ ap (λ (n : ℕ). left_from instance complete n (growing left w h next.checked.nodes) lines)
            (next_is index));
      }

  pub tree_done : v ≡ Done → (complete : Bool) (left : ℕ)
      → IsReadTo instance complete lines start (index + 1) (growing left w h ([] ∷ [])) (growing left w h [])
  tree_done g complete left = record {
    later = (let l = at.later in omega (arith, l));
    within = (let l = there.1 in omega (arith, l));
    same = at.same complete left
        ∙ (line_taken instance complete lines index (growing left w h r.checked.nodes) (growing left w h [])
        (TreeToken t) there (ap (grown left w h) (told Done g))
        ∙ ap (λ (n : ℕ). left_from instance complete n (growing left w h []) lines) (next_is index));
  }

  pub tree_refused : (code : RefuseCode) → v ≡ Refused code → (complete : Bool) (left : ℕ)
      → left_from instance complete start (growing left w h ([] ∷ [])) lines ≡ Err (index, Tree code)
  tree_refused code g complete left =
      at.same complete left
      ∙ line_refused instance complete lines index (growing left w h r.checked.nodes) (TreeToken t) (Tree code) there
      (ap (grown left w h) (told (Refused code) g))

-- a line of another kind where a token or places are wanted
other_than_token : (instance : PlainInstance) (complete : Bool) (left w h : ℕ) (node : List Exclusion)
    (nodes : List (List Exclusion)) (x : FrontLine) → ((t : Token) → x ≡ TreeLine t → ⊥)
    → front_line instance complete (growing left w h (node ∷ nodes)) (plain_line x) ≡ Err form
other_than_token instance complete left w h node nodes (CornerLine a b) never = refl
other_than_token instance complete zero w h node nodes (PointLine a b) never = refl
other_than_token instance complete (suc left) w h node nodes (PointLine a b) never = refl
other_than_token instance complete left w h node nodes (PlaceLine xs) never = refl
other_than_token instance complete left w h node nodes (TreeLine t) never = absurd (never t refl)

pub tree_stopped : (instance : PlainInstance) (w h : ℕ) (lines : List PlainLine) (start index : ℕ) (r : PlainRefuter)
    (x : FrontLine) → IsTreeAt instance w h lines start index r → StandsAt lines index (plain_line x)
    → ((t : Token) → x ≡ TreeLine t → ⊥) → (complete : Bool) (left : ℕ)
    → left_from instance complete start (growing left w h ([] ∷ [])) lines ≡ Err (index, form)
tree_stopped instance w h lines start index r x at there never complete left =
    at.same complete left
    ∙ (ap (λ (n : List (List Exclusion)). left_from instance complete index (growing left w h n) lines) at.opens
    ∙ line_refused instance complete lines index (growing left w h (at.node ∷ at.nodes)) (plain_line x) form there
    (other_than_token instance complete left w h at.node at.nodes x never))

pub tree_short : (instance : PlainInstance) (w h : ℕ) (lines : List PlainLine) (start index : ℕ) (r : PlainRefuter)
    → IsTreeAt instance w h lines start index r → length lines ≤ index
    → (complete : Bool) (left : ℕ) → IsReadShort instance complete lines start (growing left w h ([] ∷ []))
tree_short instance w h lines start index r at l complete left = record {
  last = growing left w h (at.node ∷ at.nodes);
  left = at.same complete left
      ∙ (ap (λ (n : List (List Exclusion)). left_from instance complete index (growing left w h n) lines) at.opens
      ∙ lines_ended instance complete lines index (growing left w h (at.node ∷ at.nodes)) l);
  short = never_whole (left == 0);
}

-- a point of which some places were read
pub record IsPlacedAt (instance : PlainInstance) (w h : ℕ) (lines : List PlainLine) (start index : ℕ)
    (places : List ℕ) : Type 0 where
  pub later : start ≤ index
  pub same : (complete : Bool) (left : ℕ) → left_from instance complete start (placing left w h []) lines
      ≡ left_from instance complete index (placing left w h places) lines

pub places_begun : (instance : PlainInstance) (w h : ℕ) (lines : List PlainLine) (start : ℕ) (places : List ℕ)
    → places ≡ [] → IsPlacedAt instance w h lines start start places
places_begun instance w h lines start places e =
    subst (λ (x : List ℕ). IsPlacedAt instance w h lines start start x) (sym e)
    (record { later = omega arith; same = λ complete left. refl })

other_than_places : (instance : PlainInstance) (complete : Bool) (left w h : ℕ) (places : List ℕ) (x : FrontLine)
    → ((xs : SmallVec ℕ) → x ≡ PlaceLine xs → ⊥)
    → front_line instance complete (placing left w h places) (plain_line x) ≡ Err form
other_than_places instance complete left w h places (CornerLine a b) never = refl
other_than_places instance complete zero w h places (PointLine a b) never = refl
other_than_places instance complete (suc left) w h places (PointLine a b) never = refl
other_than_places instance complete left w h places (PlaceLine xs) never = absurd (never xs refl)
other_than_places instance complete left w h places (TreeLine t) never = refl

refused_places : (left w h : ℕ) (v : PlaceVerdict) → ¬ (v ≡ GoodPlaces) → tested left w h v ≡ Err (Places v)
refused_places left w h GoodPlaces off = absurd (off refl)
refused_places left w h (Outside u i) off = refl
refused_places left w h (Overlap u v) off = refl

module _ (instance : PlainInstance) (w h : ℕ) (lines : List PlainLine) (start index : ℕ) (places : List ℕ)
    (at : IsPlacedAt instance w h lines start index places) where
  pub places_short : length lines ≤ index → (complete : Bool) (left : ℕ)
      → IsReadShort instance complete lines start (placing left w h [])
  places_short l complete left = record {
    last = placing left w h places;
    left = at.same complete left ∙ lines_ended instance complete lines index (placing left w h places) l;
    short = never_whole (left == 0);
  }

  pub places_stopped : (x : FrontLine) → StandsAt lines index (plain_line x)
      → ((xs : SmallVec ℕ) → x ≡ PlaceLine xs → ⊥) → (complete : Bool) (left : ℕ)
      → left_from instance complete start (placing left w h []) lines ≡ Err (index, form)
  places_stopped x there never complete left =
      at.same complete left
      ∙ line_refused instance complete lines index (placing left w h places) (plain_line x) form there
      (other_than_places instance complete left w h places x never)

  module _ (xs : List ℕ) (there : StandsAt lines index (PlaceAt xs)) where
    pub places_odd : ¬ (length xs ≡ 2) → (complete : Bool) (left : ℕ)
        → left_from instance complete start (placing left w h []) lines ≡ Err (index, form)
    places_odd off complete left =
        at.same complete left
        ∙ line_refused instance complete lines index (placing left w h places) (PlaceAt xs) form there
        (cond_off (length xs == 2) (placed instance complete left w h (places ++ xs)) (Err form)
        (ne_eqb (length xs) 2 off))

    module _ (two : length xs ≡ 2) (after : List ℕ) (e : after ≡ places ++ xs) where
      place_on : (complete : Bool) (left : ℕ) → front_line instance complete (placing left w h places) (PlaceAt xs)
          ≡ placed instance complete left w h after
      place_on complete left =
          cond_on (length xs == 2) (placed instance complete left w h (places ++ xs)) (Err form)
          (eq-eqb (length xs) 2 two) ∙ ap (placed instance complete left w h) (sym e)

      pub places_more : ¬ (length after ≡ 2 * box_count instance)
          → IsPlacedAt instance w h lines start (index + 1) after
      places_more off = record {
        later = (let l = at.later in omega (arith, l));
        same = λ complete left.
            at.same complete left
            ∙ (line_taken instance complete lines index (placing left w h places) (placing left w h after)
            (PlaceAt xs) there
            (place_on complete left ∙ cond_off (length after == 2 * box_count instance)
            (tested left w h (place_verdict (with_container instance w h) after)) (Ok (placing left w h after))
            (ne_eqb (length after) (2 * box_count instance) off))
            ∙ ap (λ (n : ℕ). left_from instance complete n (placing left w h after) lines) (next_is index));
      }

      module _ (full : length after ≡ 2 * box_count instance) (v : PlaceVerdict)
          (f : v ≡ place_verdict (with_container instance w h) after) where
        place_tested : (complete : Bool) (left : ℕ)
            → front_line instance complete (placing left w h places) (PlaceAt xs) ≡ tested left w h v
        place_tested complete left =
            place_on complete left
            ∙ (cond_on (length after == 2 * box_count instance)
            (tested left w h (place_verdict (with_container instance w h) after)) (Ok (placing left w h after))
            (eq-eqb (length after) (2 * box_count instance) full)
            ∙ ap (tested left w h) (sym f))

        pub places_done : v ≡ GoodPlaces → (complete : Bool) (left : ℕ)
            → IsReadTo instance complete lines start (index + 1) (placing left w h []) (pointed left w h)
        places_done g complete left = record {
          later = (let l = at.later in omega (arith, l));
          within = (let l = there.1 in omega (arith, l));
          same = at.same complete left
              ∙ (line_taken instance complete lines index (placing left w h places) (pointed left w h) (PlaceAt xs)
              there (place_tested complete left ∙ ap (tested left w h) g)
              ∙ ap (λ (n : ℕ). left_from instance complete n (pointed left w h) lines) (next_is index));
        }

        pub places_refused : ¬ (v ≡ GoodPlaces) → (complete : Bool) (left : ℕ)
            → left_from instance complete start (placing left w h []) lines ≡ Err (index, Places v)
        places_refused off complete left =
            at.same complete left
            ∙ line_refused instance complete lines index (placing left w h places) (PlaceAt xs) (Places v) there
            (place_tested complete left ∙ refused_places left w h v off)

-- lines of which some were read
pub record IsAudited (instance : PlainInstance) (complete : Bool) (points : ℕ) (lines : List PlainLine) (index : ℕ)
    (stage : Stage) : Type 0 where
  pub within : index ≤ length lines
  pub inside : IsPartInside instance stage.part
  pub same : left_from instance complete 0 (announced points) lines
      ≡ left_from instance complete index (plain_stage stage) lines

module _ (instance : PlainInstance) (complete : Bool) (points : ℕ) (lines : List PlainLine) (index : ℕ) (stage : Stage)
    (at : IsAudited instance complete points lines index stage) where
  pub audited_on : (next : ℕ) (more : Stage)
      → IsReadTo instance complete lines index next (plain_stage stage) (plain_stage more)
      → IsPartInside instance more.part → IsAudited instance complete points lines next more
  audited_on next more read inside = record { within = read.within; inside = inside; same = at.same ∙ read.same }

  pub audited_short : IsReadShort instance complete lines index (plain_stage stage)
      → Short ≡ front_verdict instance complete points lines
  audited_short read =
      sym (ap (verdict_by complete) (at.same ∙ read.left) ∙ ap (λ (b : Bool). cond b Good Short) read.short)

  pub audited_refused : (line : ℕ) (reason : FrontReason) → left_from instance complete index (plain_stage stage) lines
      ≡ Err (line, reason) → RefusedFront line reason ≡ front_verdict instance complete points lines
  audited_refused line reason e = sym (ap (verdict_by complete) (at.same ∙ e))

  pub audited_good : length lines ≤ index → is_whole_front complete (plain_stage stage) ≡ true
      → front_verdict instance complete points lines ≡ Good
  audited_good l e = ap (verdict_by complete)
      (at.same ∙ lines_ended instance complete lines index (plain_stage stage) l) ∙ ap (λ (b : Bool). cond b Good Short) e

  pub audited_whole : length lines ≤ index → cond (is_whole_front complete (plain_stage stage)) Good Short
      ≡ front_verdict instance complete points lines
  audited_whole l = sym (ap (verdict_by complete)
      (at.same ∙ lines_ended instance complete lines index (plain_stage stage) l))

-- a line that is allowed, with what is read behind it
module _ (instance : PlainInstance) (complete : Bool) (lines : List PlainLine) (index : ℕ) (s t : FrontStage)
    (line : PlainLine) (there : StandsAt lines index line) (e : front_line instance complete s line ≡ Ok t) where
  lead : left_from instance complete index s lines ≡ left_from instance complete (index + 1) t lines
  lead = line_taken instance complete lines index s t line there e
      ∙ ap (λ (n : ℕ). left_from instance complete n t lines) (next_is index)

  pub step_whole : (next : ℕ) (u : FrontStage) → IsReadTo instance complete lines (index + 1) next t u
      → IsReadTo instance complete lines index next s u
  step_whole next u read = record {
    later = (let l = read.later in omega (arith, l));
    within = read.within;
    same = lead ∙ read.same;
  }

  pub step_short : IsReadShort instance complete lines (index + 1) t → IsReadShort instance complete lines index s
  step_short read = record { last = read.last; left = lead ∙ read.left; short = read.short }

  pub step_refused : (at : ℕ) (reason : FrontReason) → left_from instance complete (index + 1) t lines
      ≡ Err (at, reason) → left_from instance complete index s lines ≡ Err (at, reason)
  step_refused at reason f = lead ∙ f

pub step_later : (instance : PlainInstance) (complete : Bool) (lines : List PlainLine) (index next : ℕ)
    (t u : FrontStage) → IsReadTo instance complete lines (index + 1) next t u → index < next
step_later instance complete lines index next t u read = let l = read.later in omega (arith, l)

-- places where none are wanted
pub place_misplaced : (instance : PlainInstance) (complete : Bool) (left : ℕ) (part : Part) (xs : List ℕ)
    → place_line instance complete left (plain_part part) xs ≡ Err form
place_misplaced instance complete left BegunPart xs = refl
place_misplaced instance complete left (CornerPart w h) xs = refl
place_misplaced instance complete left (PointPart w h) xs = refl

pub place_refused : (instance : PlainInstance) (complete : Bool) (stage : Stage) (lines : List FrontLine) (index : ℕ)
    (x : FrontLine) (xs : SmallVec ℕ) (reason : FrontReason) → index < length lines → x ≡ get_or lines index x
    → x ≡ PlaceLine xs → reason ≡ form → left_from instance complete index (plain_stage stage) (map plain_line lines)
    ≡ Err (index, reason)
place_refused instance complete stage lines index x xs reason l is e f =
    as_form (left_from instance complete index (plain_stage stage) (map plain_line lines)) index reason f
    (line_refused instance complete (map plain_line lines) index (plain_stage stage) (PlaceAt xs.items) form
    (stands_as lines index x (PlaceAt xs.items) l is (ap plain_line e))
    (place_misplaced instance complete stage.left stage.part xs.items))

pub token_refused : (instance : PlainInstance) (complete : Bool) (stage : Stage) (lines : List FrontLine) (index : ℕ)
    (x : FrontLine) (t : Token) (reason : FrontReason) → index < length lines → x ≡ get_or lines index x
    → x ≡ TreeLine t → token_line instance complete stage.left (plain_part stage.part) (plain_token t) ≡ Err reason
    → left_from instance complete index (plain_stage stage) (map plain_line lines) ≡ Err (index, reason)
token_refused instance complete stage lines index x t reason l is e f =
    line_refused instance complete (map plain_line lines) index (plain_stage stage) (TreeToken (plain_token t)) reason
    (stands_as lines index x (TreeToken (plain_token t)) l is (ap plain_line e)) f
