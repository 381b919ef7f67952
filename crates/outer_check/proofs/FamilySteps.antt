-- One token more, at a free node and at one with a family.
use Rattle.std.proofs.Common.{◌≡◌, ◌≢◌, ℕ, refl, sym, ap, ap₂, ◌∙◌, Bool, true, false, cond, List, [], ◌∷◌, ◌++◌, drop, Option, Some}
use Rattle.std.proofs.Common.{None, Result, Ok, Err, take, length}
use Rattle.std.proofs.Math.Seq.{take-append_seam, drop-append_seam}
use Rattle.std.proofs.lemmas.Bool.{true≢false, eqb-true, eq-eqb, ne_eqb}
use Rattle.packing_terms.specs.declared.Exclusion.{Exclusion}
use Rattle.packing_terms.specs.Packing.{PlainInstance}
use Rattle.packing_terms.specs.Goals.{subset}
use Rattle.packing_terms.specs.Tokens.{PlainToken}
use Rattle.box_instances.specs.Sets.{all_boxes}
use Rattle.verdict_terms.specs.declared.check_answers.RefuseCode.{RefuseCode}
use Rattle.verdict_terms.specs.declared.check_answers.RefuseCode.TheVariants.{Kind}
use Rattle.verdict_terms.specs.Judging.{unless}
use Rattle.verdict_terms.specs.Checking.{Checked, checked_by, checked_after, kept_or, inner_after, answered_by}
use Rattle.verdict_terms.specs.Checking.{is_whole_by, left_by}
use Rattle.verdict_terms.specs.Families.{is_too_long}
use Rattle.verdict_terms.specs.FamilyRefutation.{FamilyNode, Plain, Family, Begun}
use Rattle.verdict_terms.specs.FamilyJudging.{boxes_refusal}
use Rattle.verdict_terms.specs.FamilyChecking.{all_free, freed, families_after}
use Rattle.verdict_terms.proofs.FamilyJudged.{plain_families_after}
use Rattle.refutation_check.specs.Refuters.{PlainRefuter, fed}
use Rattle.refutation_check.specs.Joining.{unless_refused, joined_at, still_refused, join_answer, checked_joined}
use Rattle.refutation_check.proofs.Whole.{whole_set}
use Rattle.outer_check.specs.FamilyAnswers.{refusal_in, is_begun_in}
use Rattle.outer_check.specs.FamilyRefuters.{PlainFamilyRefuter, fed_family, nodes_seen, IsBegun}

-- without a family the nodes are free
pub seen_free : (us : List ℕ) (nodes : List (List Exclusion)) → nodes_seen None us nodes ≡ all_free nodes
seen_free us [] = refl
seen_free us (es ∷ nodes) = refl

-- the answer states the refusal
pub refusal_told : (o : Option RefuseCode) (nodes : List (List Exclusion)) → refusal_in (answered_by o nodes) ≡ o
refusal_told (Some code) nodes = refl
refusal_told None [] = refl
refusal_told None (es ∷ nodes) = refl

-- as many nodes are seen as are open
pub answered_seen : (o : Option RefuseCode) (dim : Option ℕ) (us : List ℕ) (nodes : List (List Exclusion))
    → answered_by o nodes ≡ answered_by o (nodes_seen dim us nodes)
answered_seen (Some code) dim us nodes = refl
answered_seen None dim us [] = refl
answered_seen None dim us (es ∷ nodes) = refl

pub whole_seen : (o : Option RefuseCode) (dim : Option ℕ) (us : List ℕ) (nodes : List (List Exclusion))
    → is_whole_by o nodes ≡ is_whole_by o (nodes_seen dim us nodes)
whole_seen (Some code) dim us nodes = refl
whole_seen None dim us [] = refl
whole_seen None dim us (es ∷ nodes) = refl

abbrev with_checked : PlainInstance → Checked FamilyNode → PlainFamilyRefuter
with_checked instance c = record { instance = instance; checked = c }

-- what is seen of a refuter with these nodes
abbrev pub made : PlainInstance → List FamilyNode → Option RefuseCode → PlainFamilyRefuter
made instance nodes o = with_checked instance (record { nodes = nodes; refused = o })

-- ---- a plain token

plain_by : (us : List ℕ) (nodes : List (List Exclusion)) (r : Result (List (List Exclusion)) RefuseCode)
    → ◌≡◌ {A = Checked FamilyNode}
    (record { nodes = nodes_seen None us (checked_by nodes r).nodes; refused = (checked_by nodes r).refused })
    (checked_by (nodes_seen None us nodes) (freed r))
plain_by us nodes (Ok left) = ap (λ l. record { nodes = l; refused = None }) (seen_free us left)
plain_by us nodes (Err code) = refl

plain_after : (instance : PlainInstance) (us : List ℕ) (nodes : List (List Exclusion)) (t : PlainToken)
    → families_after instance (nodes_seen None us nodes) (Plain t) ≡ freed (inner_after instance nodes t)
plain_after instance us nodes t =
    ap (λ l. families_after instance l (Plain t)) (seen_free us nodes) ∙ plain_families_after instance nodes t

pub plain_step : (known : PlainFamilyRefuter) (inner next : PlainRefuter) (us : List ℕ) (t : PlainToken)
    (told : Option RefuseCode)
    → inner.keep ≡ all_boxes inner.instance → inner.checked.refused ≡ None
    → made inner.instance (nodes_seen None us inner.checked.nodes) None ≡ known
    → next ≡ fed inner t → told ≡ next.checked.refused
    → made next.instance (nodes_seen None us next.checked.nodes) told ≡ fed_family known (Plain t)
plain_step known inner next us t told whole calm view step is =
    ap (λ o. made next.instance (nodes_seen None us next.checked.nodes) o) is
    ∙ (ap (λ r. made r.instance (nodes_seen None us r.checked.nodes) r.checked.refused) step
    ∙ (ap (λ c. made inner.instance (nodes_seen None us c.nodes) c.refused) checked
    ∙ (ap (λ c. with_checked inner.instance c) (plain_by us inner.checked.nodes
    (inner_after inner.instance inner.checked.nodes t)
    ∙ ap (λ r. checked_by (nodes_seen None us inner.checked.nodes) r)
    (sym (plain_after inner.instance us inner.checked.nodes t)))
    ∙ ap (λ k. fed_family k (Plain t)) view)))
  where
    set : subset inner.instance inner.keep ≡ inner.instance
    set = ap (subset inner.instance) whole ∙ whole_set inner.instance

    checked : (fed inner t).checked ≡ checked_by inner.checked.nodes (inner_after inner.instance inner.checked.nodes t)
    checked =
        ap (λ (i : PlainInstance). checked_after (inner_after i) inner.checked t) set
        ∙ ap (λ (o : Option RefuseCode). kept_or o inner.checked
        (checked_by inner.checked.nodes (inner_after inner.instance inner.checked.nodes t))) calm

-- ---- boxes of a family

-- what the nodes are, by what is answered
abbrev pub nodes_by : Option ℕ → ℕ → List ℕ → List ℕ → List (List Exclusion) → Result Bool RefuseCode
    → Result (List FamilyNode) RefuseCode
nodes_by dim i us vs nodes (Ok true) = Ok (nodes_seen None [] (drop 1 nodes))
nodes_by dim i us vs nodes (Ok false) = Ok (nodes_seen (Some i) (us ++ vs) nodes)
nodes_by dim i us vs nodes (Err code) = Err code

-- the boxes that are held are those of the node
abbrev pub AreOwn : Option ℕ → List ℕ → Type 0
AreOwn None us = us ≡ []
AreOwn (Some i) us = Unit {0}

module _ (instance : PlainInstance) (i : ℕ) (vs : List ℕ) where
  joined_by_test : (es : List Exclusion) (us : List ℕ) (dim : Option ℕ) (nodes : List (List Exclusion))
      (o : Option RefuseCode) (long : Bool)
      → left_by o (cond long [] (Begun es i (us ++ vs) ∷ [])) (all_free nodes)
      ≡ nodes_by dim i us vs (es ∷ nodes) (unless_refused o long)
  joined_by_test es us dim nodes (Some code) long = refl
  joined_by_test es us dim nodes None true = ap Ok (sym (seen_free [] nodes))
  joined_by_test es us dim nodes None false = refl

  family_after : (dim : Option ℕ) (us : List ℕ) (nodes : List (List Exclusion)) → is_begun_in dim i ≡ true
      → AreOwn dim us
      → families_after instance (nodes_seen dim us nodes) (Family i vs)
      ≡ nodes_by dim i us vs nodes (joined_at instance nodes i us vs)
  family_after dim us [] own none = refl
  family_after None us (es ∷ nodes) own none =
      ap (λ (ws : List ℕ). left_by (boxes_refusal instance es i ws vs)
      (cond (is_too_long instance i (ws ++ vs)) [] (Begun es i (ws ++ vs) ∷ [])) (all_free nodes)) (sym none)
      ∙ joined_by_test es us None nodes (boxes_refusal instance es i us vs) (is_too_long instance i (us ++ vs))
  family_after (Some j) us (es ∷ nodes) own none =
      ap (λ (b : Bool). left_by (unless b Kind (boxes_refusal instance es i us vs))
      (cond (is_too_long instance i (us ++ vs)) [] (Begun es i (us ++ vs) ∷ [])) (all_free nodes))
      (eq-eqb i j (sym (eqb-true j i own)))
      ∙ joined_by_test es us (Some j) nodes (boxes_refusal instance es i us vs) (is_too_long instance i (us ++ vs))

-- another dimension is of another kind
other_after : (instance : PlainInstance) (i j : ℕ) (us vs : List ℕ) (es : List Exclusion)
    (nodes : List (List Exclusion)) → j ≢ i
    → families_after instance (nodes_seen (Some j) us (es ∷ nodes)) (Family i vs) ≡ Err Kind
other_after instance i j us vs es nodes other =
    ap (λ (b : Bool). left_by (unless b Kind (boxes_refusal instance es i us vs))
    (cond (is_too_long instance i (us ++ vs)) [] (Begun es i (us ++ vs) ∷ [])) (all_free nodes))
    (ne_eqb i j (λ e. other (sym e)))

-- a plain token, where a family is begun
pub plain_kind : (known : PlainFamilyRefuter) (instance : PlainInstance) (j : ℕ) (us : List ℕ)
    (nodes : List (List Exclusion)) (t : PlainToken) → IsBegun instance (Some j) us nodes
    → made instance (nodes_seen (Some j) us nodes) None ≡ known
    → made instance (nodes_seen (Some j) us nodes) (Some Kind) ≡ fed_family known (Plain t)
plain_kind known instance j us [] t begun view = absurd (let e = begun.opens in cc (e))
plain_kind known instance j us (es ∷ nodes) t begun view = ap (λ k. fed_family k (Plain t)) view

-- boxes, where a family of another dimension is begun
pub family_kind : (known : PlainFamilyRefuter) (instance : PlainInstance) (dim : Option ℕ) (us : List ℕ)
    (nodes : List (List Exclusion)) (i : ℕ) (vs : List ℕ) → IsBegun instance dim us nodes → is_begun_in dim i ≡ false
    → made instance (nodes_seen dim us nodes) None ≡ known
    → made instance (nodes_seen dim us nodes) (Some Kind) ≡ fed_family known (Family i vs)
family_kind known instance None us nodes i vs begun other view = absurd (true≢false other)
family_kind known instance (Some j) us [] i vs begun other view = absurd (let e = begun.opens in cc (e))
family_kind known instance (Some j) us (es ∷ nodes) i vs begun other view =
    ap (λ r. with_checked instance (checked_by (nodes_seen (Some j) us (es ∷ nodes)) r))
    (sym (other_after instance i j us vs es nodes (λ e. true≢false (sym (eq-eqb j i e) ∙ other))))
    ∙ ap (λ k. fed_family k (Family i vs)) view

module _ (known : PlainFamilyRefuter) (inner next : PlainRefuter) (dim : Option ℕ) (us : List ℕ) (i : ℕ) (vs : List ℕ)
    (r : Result Bool RefuseCode) (whole : inner.keep ≡ all_boxes inner.instance)
    (calm : inner.checked.refused ≡ None)
    (view : made inner.instance (nodes_seen dim us inner.checked.nodes) None ≡ known)
    (own : is_begun_in dim i ≡ true) (none : AreOwn dim us) (answer : r ≡ join_answer inner i us vs)
    (step : next ≡ record inner { checked = checked_joined inner.checked r }) where
  -- what the inner refuter answers, of the instance itself
  pub answer_is : r ≡ joined_at inner.instance inner.checked.nodes i us vs
  answer_is =
      answer
      ∙ (ap (λ (o : Option RefuseCode). still_refused o
      (joined_at (subset inner.instance inner.keep) inner.checked.nodes i us vs)) calm
      ∙ ap (λ (set : PlainInstance). joined_at set inner.checked.nodes i us vs)
      (ap (subset inner.instance) whole ∙ whole_set inner.instance))

  by_answer : (x : Result Bool RefuseCode) → r ≡ x
      → with_checked inner.instance (checked_by (nodes_seen dim us inner.checked.nodes)
      (nodes_by dim i us vs inner.checked.nodes x)) ≡ fed_family known (Family i vs)
  by_answer x e =
      ap (λ y. with_checked inner.instance (checked_by (nodes_seen dim us inner.checked.nodes) y))
      (ap (nodes_by dim i us vs inner.checked.nodes) (sym e ∙ answer_is)
      ∙ sym (family_after inner.instance i vs dim us inner.checked.nodes own none))
      ∙ ap (λ k. fed_family k (Family i vs)) view

  next_is : (x : Result Bool RefuseCode) → r ≡ x → next ≡ record inner { checked = checked_joined inner.checked x }
  next_is x e = step ∙ ap (λ y. joined y) e
    where
      joined : Result Bool RefuseCode → PlainRefuter
      joined y = record inner { checked = checked_joined inner.checked y }

  pub refused_step : (code : RefuseCode) → r ≡ Err code → (kept : List ℕ) → kept ≡ us
      → made next.instance (nodes_seen dim kept next.checked.nodes) (Some code) ≡ fed_family known (Family i vs)
  refused_step code e kept same =
      ap (λ (n : PlainRefuter). made n.instance (nodes_seen dim kept n.checked.nodes) (Some code))
      (next_is (Err code) e)
      ∙ (ap (λ ws. made inner.instance (nodes_seen dim ws inner.checked.nodes) (Some code)) same
      ∙ by_answer (Err code) e)

  pub closed_step : r ≡ Ok true → (kept : List ℕ) → kept ≡ []
      → made next.instance (nodes_seen None kept next.checked.nodes) None ≡ fed_family known (Family i vs)
  closed_step e kept same =
      ap (λ (n : PlainRefuter). made n.instance (nodes_seen None kept n.checked.nodes) None) (next_is (Ok true) e)
      ∙ (ap (λ ws. made inner.instance (nodes_seen None ws (drop 1 inner.checked.nodes)) None) same
      ∙ by_answer (Ok true) e)

  pub open_step : r ≡ Ok false → (kept : List ℕ) → kept ≡ us ++ vs
      → made next.instance (nodes_seen (Some i) kept next.checked.nodes) None ≡ fed_family known (Family i vs)
  open_step e kept same =
      ap (λ (n : PlainRefuter). made n.instance (nodes_seen (Some i) kept n.checked.nodes) None) (next_is (Ok false) e)
      ∙ (ap (λ ws. made inner.instance (nodes_seen (Some i) ws inner.checked.nodes) None) same
      ∙ by_answer (Ok false) e)

-- ---- the boxes so far, and those behind them

pub front_part : (us vs both : List ℕ) (n : ℕ) → n ≡ length us → both ≡ us ++ vs → take n both ≡ us
front_part us vs both n count all = ap₂ (λ k l. take k l) count all ∙ take-append_seam us vs

pub parts_told : (inner : PlainRefuter) (i : ℕ) (us vs both : List ℕ) (n : ℕ) (r : Result Bool RefuseCode)
    → n ≡ length us → both ≡ us ++ vs → r ≡ join_answer inner i (take n both) (drop n both)
    → r ≡ join_answer inner i us vs
parts_told inner i us vs both n r count all e =
    e ∙ ap₂ (λ a b. join_answer inner i a b) (front_part us vs both n count all)
    (ap₂ (λ k l. drop k l) count all ∙ drop-append_seam us vs)

-- the boxes that are held are those of the node
pub are_own : (instance : PlainInstance) (dim : Option ℕ) (us : List ℕ) (nodes : List (List Exclusion))
    → IsBegun instance dim us nodes → AreOwn dim us
are_own instance None us nodes none = none
are_own instance (Some i) us nodes begun = tt
