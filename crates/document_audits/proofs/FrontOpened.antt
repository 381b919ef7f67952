-- What a line opens where a corner, a point or `end` is wanted.
use Rattle.std.proofs.Common.{◌≡◌, ℕ, zero, suc, ◌<◌, ◌≤◌, ◌⊎◌, inl, inr, refl, sym, ap, ◌∙◌, subst, arith, Bool}
use Rattle.std.proofs.Common.{true, false, cond, List, Option, Some, None, Result, Ok, Err, codes}
use Rattle.std.specs.Prelude.{◌==◌, ◌&&◌, ◌-◌, nat_le, nat_lt, slice_index}
use Rattle.std.proofs.lemmas.Bool.{ne_eqb, and_left, and_right, false_from_ne_true, leb-true, leb-false, ltb-true}
use Rattle.packing_terms.specs.Packing.{PlainInstance, dims, written_container}
use Rattle.packing_terms.specs.Limits.{IsInternalInstance, max_height}
use Rattle.packing_terms.specs.Results.{◌>>=◌}
use Rattle.packing_terms.specs.Tokens.{PlainToken}
use Rattle.text_terms.specs.Lines.{Line}
use Rattle.verdict_terms.specs.declared.reason.Reason.{Reason}
use Rattle.verdict_terms.specs.Reasons.{form}
use Rattle.verdict_terms.specs.Numbers.{require, max_coordinate}
use Rattle.verdict_terms.specs.Stages.{is_word}
use Rattle.verdict_terms.specs.declared.front_answers.FrontReason.{FrontReason}
use Rattle.verdict_terms.specs.declared.front_answers.FrontReason.TheVariants.{Tree, Places}
use Rattle.verdict_terms.specs.Lines.{PlainLine, CornerAt, PointAt, PlaceAt, TreeToken, FrontStage, form as front_form}
use Rattle.verdict_terms.specs.Lines.{range as front_range, wanted, closing_width, closing_corner}
use Rattle.verdict_terms.specs.Lines.{corner_line, point_line, token_line, is_whole_front}
use Rattle.verdict_terms.specs.FrontDocumentVerdicts.{DocumentStage, Ended, line_named, named_line, told_reason}
use Rattle.verdict_terms.specs.FrontDocumentVerdicts.{told, early_reason}
use Rattle.front_check.specs.declared.parts.Part.{Part}
use Rattle.front_check.specs.declared.parts.Part.TheVariants.{Begun as BegunPart, Corner as CornerPart}
use Rattle.front_check.specs.declared.parts.Part.TheVariants.{Point as PointPart}
use Rattle.front_check.specs.declared.parts.Stage.{Stage}
use Rattle.front_check.specs.Audits.{plain_part, plain_stage, IsPartInside}
use Rattle.document_audits.specs.declared.front_opening.OpenPart.{OpenPart}
use Rattle.document_audits.specs.FrontAudits.{claim_of}
use Rattle.document_audits.specs.FrontParts.{at_front, IsOpened, taken_by, opened_by, clamped, told_code}

-- ---- numbers that are too great for any side

pub small_sides : (instance : PlainInstance) → IsInternalInstance instance → dims instance ≡ 2
    → (written_container instance 0 < max_coordinate) × (written_container instance 1 < max_coordinate)
small_sides instance limits plane =
    let first = limits.container.others 0 (omega (arith, plane)) in
    let e : dims instance - 1 ≡ 1 = omega (arith, plane) in
    let last : slice_index instance.container 1 ≤ max_height =
    subst (λ (n : ℕ). slice_index instance.container n ≤ max_height) e limits.container.last in
    let side = first.1 in (omega (arith, side), omega (arith, last))

-- one of the two is
abbrev AreBig : ℕ → ℕ → Type 0
AreBig x y = (max_coordinate ≤ x) ⊎ (max_coordinate ≤ y)

le_off : (x y : ℕ) → (x ≤ y → ⊥) → nat_le x y ≡ false
le_off x y off = false_from_ne_true (nat_le x y) (λ e. off (leb-true x y e))

lt_off : (x y : ℕ) → (x < y → ⊥) → nat_lt x y ≡ false
lt_off x y off = false_from_ne_true (nat_lt x y) (λ e. off (ltb-true x y e))

clamped_as : (n : ℕ) → (clamped n ≡ n) ⊎ ((clamped n ≡ max_coordinate) × (max_coordinate ≤ n))
clamped_as n = go (nat_le n max_coordinate) refl
  where
    go : (b : Bool) → nat_le n max_coordinate ≡ b → (cond b n max_coordinate ≡ n)
        ⊎ ((cond b n max_coordinate ≡ max_coordinate) × (max_coordinate ≤ n))
    go true e = inl refl
    go false e = inr (refl, (let l = leb-false n max_coordinate e in omega (arith, l)))

-- what is the same for all pairs of which one is too great is so for numbers of 32 bits
clamped_by : {A : Type 0} (f : ℕ → ℕ → A) (r : A) (x y : ℕ) → ((a b : ℕ) → AreBig a b → f a b ≡ r)
    → f x y ≡ f (clamped x) (clamped y)
clamped_by f r x y big = go (clamped_as x) (clamped_as y)
  where
    go : (clamped x ≡ x) ⊎ ((clamped x ≡ max_coordinate) × (max_coordinate ≤ x))
        → (clamped y ≡ y) ⊎ ((clamped y ≡ max_coordinate) × (max_coordinate ≤ y))
        → f x y ≡ f (clamped x) (clamped y)
    go (inl p) (inl q) = sym (ap (λ (a : ℕ). f a (clamped y)) p ∙ ap (f x) q)
    go (inr p) q = big x y (inl p.1) ∙ sym (big (clamped x) (clamped y) (inl (let e = p.0 in omega (arith, e))))
    go (inl p) (inr q) = big x y (inr q.1) ∙ sym (big (clamped x) (clamped y) (inr (let e = q.0 in omega (arith, e))))

big_before : (h least most width height : ℕ) → h < max_coordinate → most < max_coordinate → AreBig width height
    → ((height == h) && (nat_le least width && nat_lt width most)) ≡ false
big_before h least most width height l m (inl w) =
    and_right (height == h) (nat_le least width && nat_lt width most)
    (and_right (nat_le least width) (nat_lt width most) (lt_off width most (λ k. omega (arith, k, m, w))))
big_before h least most width height l m (inr k) =
    and_left (height == h) (nat_le least width && nat_lt width most) (ne_eqb height h (λ e. omega (arith, e, l, k)))

big_closing : (w h width height : ℕ) → w < max_coordinate → h < max_coordinate → AreBig width height
    → ((height == h) && (width == w)) ≡ false
big_closing w h width height l m (inl k) =
    and_right (height == h) (width == w) (ne_eqb width w (λ e. omega (arith, e, l, k)))
big_closing w h width height l m (inr k) =
    and_left (height == h) (width == w) (ne_eqb height h (λ e. omega (arith, e, m, k)))

big_point : (w h most width height : ℕ) → h < max_coordinate → most < max_coordinate → AreBig width height
    → ((width == w) && (nat_le width most && (nat_le 1 height && nat_le height h))) ≡ false
big_point w h most width height l m (inl k) =
    and_right (width == w) (nat_le width most && (nat_le 1 height && nat_le height h))
    (and_left (nat_le width most) (nat_le 1 height && nat_le height h)
    (le_off width most (λ e. omega (arith, e, m, k))))
big_point w h most width height l m (inr k) =
    and_right (width == w) (nat_le width most && (nat_le 1 height && nat_le height h))
    (and_right (nat_le width most) (nat_le 1 height && nat_le height h)
    (and_right (nat_le 1 height) (nat_le height h) (le_off height h (λ e. omega (arith, e, l, k)))))

wanted_off : {A : Type 0} (b : Bool) (reason : FrontReason) (x : A) → b ≡ false → wanted b reason x ≡ Err reason
wanted_off b reason x e = rw e refl

module _ (instance : PlainInstance) (complete : Bool) (first : written_container instance 0 < max_coordinate)
    (second : written_container instance 1 < max_coordinate) where
  -- why a corner isn't allowed that is too great
  abbrev corner_no : Bool → ℕ → Part → FrontReason
  corner_no c (suc left) BegunPart = front_range
  corner_no true zero BegunPart = front_range
  corner_no false zero BegunPart = front_form
  corner_no c (suc left) (PointPart a b) = front_range
  corner_no c zero (PointPart a b) = cond (b == 1) front_form front_range
  corner_no c left (CornerPart a b) = front_form

  big_corner : (c : Bool) → (left : ℕ) (part : Part) → IsPartInside instance part → (width height : ℕ)
      → AreBig width height
      → corner_line instance c left (plain_part part) width height ≡ Err (corner_no c left part)
  big_corner c (suc left) BegunPart inside width height big =
      wanted_off _ _ _ (big_before (written_container instance 1) 1 (written_container instance 0) width height
      second first big)
  big_corner true zero BegunPart inside width height big =
      wanted_off _ _ _ (big_closing (written_container instance 0) (written_container instance 1) width height
      first second big)
  big_corner false zero BegunPart inside width height big = refl
  big_corner c (suc left) (PointPart a b) inside width height big =
      wanted_off _ _ _ (big_before (b - 1) a (written_container instance 0) width height
      (let l = inside.2 in omega (arith, l, second)) first big)
  big_corner true zero (PointPart a b) inside width height big = go (b == 1)
    where
      go : (t : Bool) → cond t (Err front_form) (closing_corner (written_container instance 0) (b - 1) width height)
          ≡ Err (cond t front_form front_range)
      go true = refl
      go false = wanted_off _ _ _ (big_closing (written_container instance 0) (b - 1) width height first
          (let l = inside.2 in omega (arith, l, second)) big)
  big_corner false zero (PointPart a b) inside width height big = go (b == 1)
    where
      go : (t : Bool) → cond t (Err front_form) (closing_corner a (b - 1) width height)
          ≡ Err (cond t front_form front_range)
      go true = refl
      go false =
          wanted_off _ _ _ (big_closing a (b - 1) width height (let l = inside.1 in omega (arith, l, first))
          (let l = inside.2 in omega (arith, l, second)) big)
  big_corner c (suc left) (CornerPart a b) inside width height big = refl
  big_corner c zero (CornerPart a b) inside width height big = refl

  corner_clamped : (left : ℕ) (part : Part) → IsPartInside instance part → (width height : ℕ)
      → corner_line instance complete left (plain_part part) width height
      ≡ corner_line instance complete left (plain_part part) (clamped width) (clamped height)
  corner_clamped left part inside width height =
      clamped_by (corner_line instance complete left (plain_part part)) (Err (corner_no complete left part)) width
      height (big_corner complete left part inside)

  abbrev point_no : ℕ → Part → FrontReason
  point_no (suc left) BegunPart = front_range
  point_no (suc left) (CornerPart a b) = front_range
  point_no (suc left) (PointPart a b) = front_form
  point_no zero part = front_form

  big_point_line : (left : ℕ) (part : Part) → IsPartInside instance part → (width height : ℕ) → AreBig width height
      → point_line instance complete left (plain_part part) width height ≡ Err (point_no left part)
  big_point_line (suc left) BegunPart inside width height big =
      wanted_off _ _ _ (big_point 1 (written_container instance 1) (written_container instance 0) width height
      second first big)
  big_point_line (suc left) (CornerPart a b) inside width height big =
      wanted_off _ _ _ (big_point (suc a) b (written_container instance 0) width height
      (let l = inside.2 in omega (arith, l, second)) first big)
  big_point_line (suc left) (PointPart a b) inside width height big = refl
  big_point_line zero BegunPart inside width height big = refl
  big_point_line zero (CornerPart a b) inside width height big = refl
  big_point_line zero (PointPart a b) inside width height big = refl

  point_clamped : (left : ℕ) (part : Part) → IsPartInside instance part → (width height : ℕ)
      → point_line instance complete left (plain_part part) width height
      ≡ point_line instance complete left (plain_part part) (clamped width) (clamped height)
  point_clamped left part inside width height =
      clamped_by (point_line instance complete left (plain_part part)) (Err (point_no left part)) width height
      (big_point_line left part inside)

-- ---- reasons that aren't those of places

abbrev IsCode : FrontReason → Type 0
IsCode (Tree code) = Unit {0}
IsCode (Places verdict) = ⊥

abbrev AreCodes : Result FrontStage FrontReason → Type 0
AreCodes (Ok s) = Unit {0}
AreCodes (Err reason) = IsCode reason

told_same : (reason : FrontReason) → IsCode reason → told_reason reason ≡ told_code reason
told_same (Tree code) is = refl
told_same (Places verdict) is = absurd is

wanted_codes : (b : Bool) (reason : FrontReason) (x : FrontStage) → IsCode reason → AreCodes (wanted b reason x)
wanted_codes true reason x is = tt
wanted_codes false reason x is = is

module _ (instance : PlainInstance) where
  corner_codes : (c : Bool) (left : ℕ) (part : Part) (width height : ℕ)
      → AreCodes (corner_line instance c left (plain_part part) width height)
  corner_codes c (suc left) BegunPart width height = wanted_codes _ _ _ tt
  corner_codes true zero BegunPart width height = wanted_codes _ _ _ tt
  corner_codes false zero BegunPart width height = tt
  corner_codes c (suc left) (PointPart a b) width height = wanted_codes _ _ _ tt
  corner_codes c zero (PointPart a b) width height = go (b == 1)
    where
      go : (t : Bool) → AreCodes (cond t (Err front_form)
          (closing_corner (closing_width (written_container instance 0) c a) (b - 1) width height))
      go true = tt
      go false = wanted_codes _ _ _ tt
  corner_codes c (suc left) (CornerPart a b) width height = tt
  corner_codes c zero (CornerPart a b) width height = tt

  point_codes : (c : Bool) (left : ℕ) (part : Part) (width height : ℕ)
      → AreCodes (point_line instance c left (plain_part part) width height)
  point_codes c (suc left) BegunPart width height = wanted_codes _ _ _ tt
  point_codes c (suc left) (CornerPart a b) width height = wanted_codes _ _ _ tt
  point_codes c (suc left) (PointPart a b) width height = tt
  point_codes c zero BegunPart width height = tt
  point_codes c zero (CornerPart a b) width height = tt
  point_codes c zero (PointPart a b) width height = tt

  token_codes : (c : Bool) (left : ℕ) (part : Part) (t : PlainToken)
      → AreCodes (token_line instance c left (plain_part part) t)
  token_codes c left BegunPart t = tt
  token_codes c left (CornerPart a b) t = tt
  token_codes c left (PointPart a b) t = tt

-- ---- what a line makes of the document

module _ (instance : PlainInstance) (complete : Bool) where
  abbrev front_next : ℕ → Result FrontStage FrontReason → Result DocumentStage Reason
  front_next points r = told r >>= λ next. Ok (at_front instance complete points next)

  corner_told : (left : ℕ) (part : Part) (width height points : ℕ)
      → named_line instance (claim_of complete points) (record { left = left; part = plain_part part })
      (Some (CornerAt width height))
      ≡ front_next points (corner_line instance complete left (plain_part part) width height)
  corner_told left BegunPart width height points = refl
  corner_told left (CornerPart a b) width height points = refl
  corner_told left (PointPart a b) width height points = refl

  point_told : (left : ℕ) (part : Part) (width height points : ℕ)
      → named_line instance (claim_of complete points) (record { left = left; part = plain_part part })
      (Some (PointAt width height))
      ≡ front_next points (point_line instance complete left (plain_part part) width height)
  point_told left BegunPart width height points = refl
  point_told left (CornerPart a b) width height points = refl
  point_told left (PointPart a b) width height points = refl

  token_told : (left : ℕ) (part : Part) (t : PlainToken) (points : ℕ)
      → named_line instance (claim_of complete points) (record { left = left; part = plain_part part })
      (Some (TreeToken t))
      ≡ front_next points (token_line instance complete left (plain_part part) t)
  token_told left BegunPart t points = refl
  token_told left (CornerPart a b) t points = refl
  token_told left (PointPart a b) t points = refl

  place_told : (left : ℕ) (part : Part) (xs : List ℕ) (points : ℕ)
      → named_line instance (claim_of complete points) (record { left = left; part = plain_part part })
      (Some (PlaceAt xs)) ≡ Err form
  place_told left BegunPart xs points = refl
  place_told left (CornerPart a b) xs points = refl
  place_told left (PointPart a b) xs points = refl

  refused_next : (points : ℕ) (r : Result FrontStage FrontReason) (reason : FrontReason) → r ≡ Err reason → AreCodes r
      → front_next points r ≡ Err (told_code reason)
  refused_next points r reason e is =
      ap (front_next points) e ∙ ap Err (told_same reason (subst AreCodes e is))

  module _ (s : Stage) where
    pub opened_as : (f g : ℕ → Result DocumentStage Reason) (r : Result (Option OpenPart) Reason)
        → ((points : ℕ) → f points ≡ g points) → IsOpened instance complete s g r → IsOpened instance complete s f r
    opened_as f g (Ok (Some part)) e o = (o.0, λ points. e points ∙ o.1 points)
    opened_as f g (Ok None) e o = λ points. e points ∙ o points
    opened_as f g (Err reason) e o = λ points. e points ∙ o points

    module _ (first : written_container instance 0 < max_coordinate)
        (second : written_container instance 1 < max_coordinate) (inside : IsPartInside instance s.part)
        (width height : ℕ) where
      pub corner_opened : (points : ℕ) (next : FrontStage)
          → corner_line instance complete s.left (plain_part s.part) (clamped width) (clamped height) ≡ Ok next
          → opened_by instance complete s (CornerAt width height) points ≡ Ok (at_front instance complete points next)
      corner_opened points next e =
          corner_told s.left s.part width height points
          ∙ ap (front_next points) (corner_clamped instance complete first second s.left s.part inside
          width height ∙ e)

      pub corner_refused : (points : ℕ) (reason : FrontReason)
          → corner_line instance complete s.left (plain_part s.part) (clamped width) (clamped height) ≡ Err reason
          → opened_by instance complete s (CornerAt width height) points ≡ Err (told_code reason)
      corner_refused points reason e =
          corner_told s.left s.part width height points
          ∙ refused_next points (corner_line instance complete s.left (plain_part s.part) width height) reason
          (corner_clamped instance complete first second s.left s.part inside width height ∙ e)
          (corner_codes instance complete s.left s.part width height)

      pub point_opened : (points : ℕ) (next : FrontStage)
          → point_line instance complete s.left (plain_part s.part) (clamped width) (clamped height) ≡ Ok next
          → opened_by instance complete s (PointAt width height) points ≡ Ok (at_front instance complete points next)
      point_opened points next e =
          point_told s.left s.part width height points
          ∙ ap (front_next points) (point_clamped instance complete first second s.left s.part inside
          width height ∙ e)

      pub point_refused : (points : ℕ) (reason : FrontReason)
          → point_line instance complete s.left (plain_part s.part) (clamped width) (clamped height) ≡ Err reason
          → opened_by instance complete s (PointAt width height) points ≡ Err (told_code reason)
      point_refused points reason e =
          point_told s.left s.part width height points
          ∙ refused_next points (point_line instance complete s.left (plain_part s.part) width height) reason
          (point_clamped instance complete first second s.left s.part inside width height ∙ e)
          (point_codes instance complete s.left s.part width height)

    module _ (line : Line) where
      pub bad_taken : line.bad ≡ true → (points : ℕ) → taken_by instance complete s line points ≡ Err form
      bad_taken e points = rw e refl

      module _ (good : line.bad ≡ false) where
        early_form : (part : Part) → early_reason (plain_part part) ≡ form
        early_form BegunPart = refl
        early_form (CornerPart a b) = refl
        early_form (PointPart a b) = refl

        end_taken : is_word (codes "end") line.words ≡ true → (points : ℕ)
            → taken_by instance complete s line points ≡ require (is_whole_front complete (plain_stage s)) form
            (Ok (Ended instance (claim_of complete points)))
        end_taken e points =
            rw (good, e) (ap (λ reason. require (is_whole_front complete (plain_stage s)) reason
            (Ok (Ended instance (claim_of complete points)))) (early_form s.part))

        pub end_whole : is_word (codes "end") line.words ≡ true → is_whole_front complete (plain_stage s) ≡ true
            → (points : ℕ) → taken_by instance complete s line points ≡ Ok (Ended instance (claim_of complete points))
        end_whole e w points = end_taken e points
            ∙ ap (λ b. require b form (Ok (Ended instance (claim_of complete points)))) w

        pub end_early : is_word (codes "end") line.words ≡ true → is_whole_front complete (plain_stage s) ≡ false
            → (points : ℕ) → taken_by instance complete s line points ≡ Err form
        end_early e w points = end_taken e points
            ∙ ap (λ b. require b form (Ok (Ended instance (claim_of complete points)))) w

        module _ (other : is_word (codes "end") line.words ≡ false) where
          named_taken : (o : Option PlainLine) → o ≡ line_named line.words → (points : ℕ)
              → taken_by instance complete s line points
              ≡ named_line instance (claim_of complete points) (plain_stage s) o
          named_taken o e points = rw (good, other)
              (ap (named_line instance (claim_of complete points) (plain_stage s)) (sym e))

          pub corner_taken : (width height : ℕ) → Some (CornerAt width height) ≡ line_named line.words
              → (r : Result (Option OpenPart) Reason)
              → IsOpened instance complete s (opened_by instance complete s (CornerAt width height)) r
              → IsOpened instance complete s (taken_by instance complete s line) r
          corner_taken width height e r o =
              opened_as (taken_by instance complete s line) (opened_by instance complete s (CornerAt width height)) r
              (named_taken (Some (CornerAt width height)) e) o

          pub point_taken : (width height : ℕ) → Some (PointAt width height) ≡ line_named line.words
              → (r : Result (Option OpenPart) Reason)
              → IsOpened instance complete s (opened_by instance complete s (PointAt width height)) r
              → IsOpened instance complete s (taken_by instance complete s line) r
          point_taken width height e r o =
              opened_as (taken_by instance complete s line) (opened_by instance complete s (PointAt width height)) r
              (named_taken (Some (PointAt width height)) e) o

          pub token_taken : (t : PlainToken) (reason : FrontReason) → Some (TreeToken t) ≡ line_named line.words
              → token_line instance complete s.left (plain_part s.part) t ≡ Err reason → (points : ℕ)
              → taken_by instance complete s line points ≡ Err (told_code reason)
          token_taken t reason e f points =
              named_taken (Some (TreeToken t)) e points
              ∙ (token_told s.left s.part t points
              ∙ refused_next points (token_line instance complete s.left (plain_part s.part) t) reason f
              (token_codes instance complete s.left s.part t))

          pub place_taken : (xs : List ℕ) → Some (PlaceAt xs) ≡ line_named line.words → (points : ℕ)
              → taken_by instance complete s line points ≡ Err form
          place_taken xs e points = named_taken (Some (PlaceAt xs)) e points ∙ place_told s.left s.part xs points

          pub none_taken : None ≡ line_named line.words → (points : ℕ)
              → taken_by instance complete s line points ≡ Err form
          none_taken e points = named_taken None e points
