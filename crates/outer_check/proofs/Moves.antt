-- What a token makes of the parts of an outer refuter.
use Rattle.std.proofs.Common.{◌≡◌, ℕ, ◌≤◌, ◌<◌, ◌+◌, ◌⊎◌, inl, inr, refl, sym, ap, ap₂, subst, ◌∙◌, arith, Bool, true}
use Rattle.std.proofs.Common.{false, List, [], ◌∷◌, ◌++◌, length, Option, Some, None, Ok, Err}
use Rattle.std.specs.Prelude.{suc, nat_lt, if◌then◌else◌}
use Rattle.std.specs.List.{range_with_len}
use Rattle.std.proofs.lemmas.List.Kept.{IsStrictlyIncreasing-filter}
use Rattle.std.proofs.lemmas.List.Elements.{All-filter}
use Rattle.std.proofs.lemmas.List.FromFn.{length-range_with_len, get_or-range_with_len}
use Rattle.packing_terms.specs.declared.Exclusion.{Exclusion}
use Rattle.packing_terms.specs.Packing.{PlainInstance, box_count}
use Rattle.packing_terms.specs.Goals.{subset, IsBoxSet}
use Rattle.packing_terms.specs.Tokens.{PlainToken}
use Rattle.packing_terms.specs.Feeding.{children}
use Rattle.packing_terms.specs.OuterRefutation.{no_choice}
use Rattle.packing_terms.specs.OuterPaths.{On, Inside, OuterStep, go_on, view_after, bins_with, bin_step, choices_with}
use Rattle.packing_terms.specs.OuterPaths.{choice_step}
use Rattle.verdict_terms.specs.declared.check_answers.RefuseCode.{RefuseCode}
use Rattle.verdict_terms.specs.declared.check_answers.FeedVerdict.{FeedVerdict}
use Rattle.verdict_terms.specs.declared.check_answers.FeedVerdict.TheVariants.{More, Done, Refused}
use Rattle.verdict_terms.specs.Judging.{refusal}
use Rattle.verdict_terms.specs.OuterJudging.{bin_refusal, value_refusal}
use Rattle.verdict_terms.specs.Checking.{Checked, answered as inner_answered, answered_by as inner_answered_by}
use Rattle.verdict_terms.specs.Checking.{checked_by, kept_or, left_by, inner_after}
use Rattle.refutation_check.specs.Refuters.{PlainRefuter, fed as inner_fed}
use Rattle.outer_check.specs.declared.path.Frame.{Frame}
use Rattle.outer_check.specs.declared.goal.Goal.{Goal}
use Rattle.outer_check.specs.declared.goal.Goal.TheVariants.{Bins, Value}
use Rattle.outer_check.specs.declared.point.Point.{Point}
use Rattle.outer_check.specs.declared.point.Point.TheVariants.{AtNode, InSet}
use Rattle.outer_check.specs.Frames.{PlainPath, is_put, boxes_put, next_frames}
use Rattle.outer_check.specs.Nodes.{node_below, path_below, HaveChildren, HaveUsed}
use Rattle.outer_check.specs.Outers.{inside_view, view_by, tree_seen, tree_refusal, tree_after, judged_at, ForBins}
use Rattle.outer_check.specs.Outers.{ForValue, AreOf, IsOpenAt, IsGoing}
use Rattle.outer_check.specs.declared.step.Step.TheVariants.{Close}
use Rattle.outer_check.specs.Steps.{standing, point_behind, IsTokenStep}
use Rattle.outer_check.specs.Taking.{IsTaken}
use Rattle.outer_check.proofs.Views.{left_is, next_children}

-- the boxes that splits put into a child are a set of boxes
pub boxes_set : (instance : PlainInstance) (frames : List Frame) (child : ℕ)
    → IsBoxSet instance (boxes_put (box_count instance) frames child)
boxes_set instance frames child = record {
  there = All-filter (λ v. is_put frames child v) (λ v. v < box_count instance) (range_with_len 0 (box_count instance))
      (λ i d l.
      let n = length-range_with_len 0 (box_count instance) in
      let m : i < box_count instance = omega (arith, l, n) in
      let e = get_or-range_with_len 0 (box_count instance) i d m in
      omega (arith, e, m));
  rising = IsStrictlyIncreasing-filter (λ v. is_put frames child v) (range_with_len 0 (box_count instance))
      (λ i l.
      let n = length-range_with_len 0 (box_count instance) in
      let m : i + 1 < box_count instance = omega (arith, l, n) in
      let a = get_or-range_with_len 0 (box_count instance) i 0 (omega (arith, m)) in
      let b = get_or-range_with_len 0 (box_count instance) (i + 1) 0 m in
      omega (arith, a, b));
}

-- ---- views

-- a tree that stands at an outer node or at its end is seen without the inner one
pub stands : {Node : Type 0} (below : Node → ℕ → List Node) (root : Node) (inner : PlainRefuter) (frames : List Frame)
    → view_by below root frames (point_behind frames) inner ≡ standing below root frames (point_behind frames)
stands below root inner [] = refl
stands below root inner (f ∷ frames) = refl

-- the splits that are left state how many bins are used at their nodes
next_used : (k : ℕ) (frames : List Frame) → HaveUsed k frames → HaveUsed k (next_frames frames)
next_used k [] h = h
next_used k (f ∷ frames) h = go (nat_lt (suc f.child) f.children) (next_used k frames h.1)
  where
    go : (b : Bool) → HaveUsed k (next_frames frames)
        → HaveUsed k (if b then record f { child = suc f.child } ∷ frames else next_frames frames)
    go true rest = h
    go false rest = rest

pub next_are : (goal : Goal) (frames : List Frame) → AreOf goal frames → AreOf goal (next_frames frames)
next_are (Bins k) frames h = (next_children (bins_with k) [] frames h.0, next_used k frames h.1)
next_are (Value y) frames h = next_children choices_with no_choice frames h

-- ---- a token in the inner tree of a set

module _ {Node : Type 0} (below : Node → ℕ → List Node) (root : Node) (step : Node → PlainToken → OuterStep)
    (frames : List Frame) where
  -- some node is left open
  inside_on : (keep : List ℕ) (nodes : List (List Exclusion)) → 1 ≤ length nodes
      → inside_view (path_below below root frames) (node_below below root frames) keep nodes
      ≡ go_on below (path_below below root frames) keep nodes
  inside_on keep [] l = absurd (omega (arith, l))
  inside_on keep (n ∷ nodes) l = refl

  pub view_goes_on : (t : PlainToken) (keep : List ℕ) (es : List Exclusion) (behind nodes : List (List Exclusion))
      → nodes ≡ children es t ++ behind → 1 ≤ length nodes
      → inside_view (path_below below root frames) (node_below below root frames) keep nodes
      ≡ view_after below step (On (path_below below root frames) (Inside keep es behind)) t
  view_goes_on t keep es behind nodes e l =
      inside_on keep nodes l ∙ ap (go_on below (path_below below root frames) keep) e

  -- none is
  pub view_leaves : (t : PlainToken) (keep : List ℕ) (es : List Exclusion) (behind nodes : List (List Exclusion))
      (inner : PlainRefuter) → nodes ≡ children es t ++ behind → nodes ≡ []
      → HaveChildren below root frames
      → view_by below root (next_frames frames) (point_behind (next_frames frames)) inner
      ≡ view_after below step (On (path_below below root frames) (Inside keep es behind)) t
  view_leaves t keep es behind nodes inner e none h =
      stands below root inner (next_frames frames)
      ∙ (sym (left_is below root frames h) ∙ ap (go_on below (path_below below root frames) keep) (sym none ∙ e))

-- what a token made of an inner tree in which a node is open
pub record InnerStep (instance : PlainInstance) (old new : PlainRefuter) (t : PlainToken) : Type 0 where
  pub es : List Exclusion
  pub behind : List (List Exclusion)
  pub were : old.checked.nodes ≡ es ∷ behind
  pub keep : new.keep ≡ old.keep
  pub same : new.instance ≡ old.instance
  pub result : ((refusal (subset instance old.keep) es t ≡ None)
      × (new.checked ≡ record { nodes = children es t ++ behind; refused = None }))
      ⊎ ((code : RefuseCode) × (refusal (subset instance old.keep) es t ≡ Some code)
      × (new.checked ≡ record { nodes = old.checked.nodes; refused = Some code }))

inner_step : (instance : PlainInstance) (old new : PlainRefuter) (t : PlainToken) → old.instance ≡ instance
    → old.checked.refused ≡ None → 1 ≤ length old.checked.nodes → new ≡ inner_fed old t
    → InnerStep instance old new t
inner_step instance old new t i calm some e = go old.checked.nodes refl some
  where
    seen : (es : List Exclusion) (behind : List (List Exclusion)) → old.checked.nodes ≡ es ∷ behind
        → (r : Option RefuseCode) → refusal (subset instance old.keep) es t ≡ r
        → new.checked ≡ checked_by old.checked.nodes (left_by r (children es t) behind)
    seen es behind f r g =
        ap (λ (x : PlainRefuter). x.checked) e
        ∙ (ap (λ x. kept_or x old.checked
        (checked_by old.checked.nodes (inner_after (subset old.instance old.keep) old.checked.nodes t))) calm
        ∙ (ap (λ J. checked_by old.checked.nodes (inner_after (subset J old.keep) old.checked.nodes t)) i
        ∙ (ap (λ ns. checked_by old.checked.nodes (inner_after (subset instance old.keep) ns t)) f
        ∙ ap (λ x. checked_by old.checked.nodes (left_by x (children es t) behind)) g)))

    by_refusal : (es : List Exclusion) (behind : List (List Exclusion)) → old.checked.nodes ≡ es ∷ behind
        → (r : Option RefuseCode) → refusal (subset instance old.keep) es t ≡ r
        → ((refusal (subset instance old.keep) es t ≡ None)
        × (new.checked ≡ record { nodes = children es t ++ behind; refused = None }))
        ⊎ ((code : RefuseCode) × (refusal (subset instance old.keep) es t ≡ Some code)
        × (new.checked ≡ record { nodes = old.checked.nodes; refused = Some code }))
    by_refusal es behind f None g = inl (g, seen es behind f None g)
    by_refusal es behind f (Some code) g = inr (code, g, seen es behind f (Some code) g)

    go : (nodes : List (List Exclusion)) → old.checked.nodes ≡ nodes → 1 ≤ length nodes → InnerStep instance old new t
    go [] f l = absurd (omega (arith, l))
    go (es ∷ behind) f l = record {
      es = es;
      behind = behind;
      were = f;
      keep = ap (λ (r : PlainRefuter). r.keep) e;
      same = ap (λ (r : PlainRefuter). r.instance) e;
      result = by_refusal es behind f (refusal (subset instance old.keep) es t) refl;
    }

-- ---- the parts after a token in the inner tree

module _ (instance : PlainInstance) (path : PlainPath) (old new : PlainRefuter) (t : PlainToken)
    (s : InnerStep instance old new t) where
  -- the test of the token, and what an accepted token makes of the tree
  judged : (goal : Goal) → tree_refusal instance (tree_seen goal path.frames InSet old) t
      ≡ refusal (subset instance old.keep) s.es t
  judged (Bins k) =
      ap (λ ns. judged_at (bin_refusal instance k)
      (inside_view (path_below (bins_with k) [] path.frames) (node_below (bins_with k) [] path.frames) old.keep
      ns) t) s.were
  judged (Value y) =
      ap (λ ns. judged_at (value_refusal instance y)
      (inside_view (path_below choices_with no_choice path.frames) (node_below choices_with no_choice path.frames)
      old.keep ns) t) s.were

  grown : (goal : Goal) → new.checked.nodes ≡ children s.es t ++ s.behind → 1 ≤ length new.checked.nodes
      → tree_seen goal path.frames InSet new ≡ tree_after (tree_seen goal path.frames InSet old) t
  grown (Bins k) e l =
      ap (λ v. ForBins k v)
      (ap (λ keep. inside_view (path_below (bins_with k) [] path.frames) (node_below (bins_with k) [] path.frames) keep
      new.checked.nodes) s.keep
      ∙ (view_goes_on (bins_with k) [] bin_step path.frames t old.keep s.es s.behind new.checked.nodes e l
      ∙ ap (λ ns. view_after (bins_with k) bin_step
      (inside_view (path_below (bins_with k) [] path.frames) (node_below (bins_with k) [] path.frames) old.keep ns)
      t) (sym s.were)))
  grown (Value y) e l =
      ap (λ v. ForValue y v)
      (ap (λ keep. inside_view (path_below choices_with no_choice path.frames)
      (node_below choices_with no_choice path.frames) keep new.checked.nodes) s.keep
      ∙ (view_goes_on choices_with no_choice choice_step path.frames t old.keep s.es s.behind new.checked.nodes e l
      ∙ ap (λ ns. view_after choices_with choice_step
      (inside_view (path_below choices_with no_choice path.frames) (node_below choices_with no_choice path.frames)
      old.keep ns) t) (sym s.were)))

  closed : (goal : Goal) → AreOf goal path.frames → new.checked.nodes ≡ children s.es t ++ s.behind
      → new.checked.nodes ≡ []
      → tree_seen goal (next_frames path.frames) (point_behind (next_frames path.frames)) new
      ≡ tree_after (tree_seen goal path.frames InSet old) t
  closed (Bins k) are e none =
      ap (λ v. ForBins k v)
      (view_leaves (bins_with k) [] bin_step path.frames t old.keep s.es s.behind new.checked.nodes new e none are.0
      ∙ ap (λ ns. view_after (bins_with k) bin_step
      (inside_view (path_below (bins_with k) [] path.frames) (node_below (bins_with k) [] path.frames) old.keep ns)
      t) (sym s.were))
  closed (Value y) are e none =
      ap (λ v. ForValue y v)
      (view_leaves choices_with no_choice choice_step path.frames t old.keep s.es s.behind new.checked.nodes
      new e none are
      ∙ ap (λ ns. view_after choices_with choice_step
      (inside_view (path_below choices_with no_choice path.frames) (node_below choices_with no_choice path.frames)
      old.keep ns) t) (sym s.were))

  same_tree : (goal : Goal) → new.checked.nodes ≡ old.checked.nodes
      → tree_seen goal path.frames InSet new ≡ tree_seen goal path.frames InSet old
  same_tree (Bins k) e = ap₂ (λ keep ns. ForBins k
      (inside_view (path_below (bins_with k) [] path.frames) (node_below (bins_with k) [] path.frames) keep
      ns)) s.keep e
  same_tree (Value y) e = ap₂ (λ keep ns. ForValue y
      (inside_view (path_below choices_with no_choice path.frames) (node_below choices_with no_choice path.frames) keep
      ns)) s.keep e

  -- at an outer node or at the end nothing is asked of the inner tree
  opens_behind : (frames : List Frame) → IsOpenAt (point_behind frames) new
  opens_behind [] = tt
  opens_behind (f ∷ frames) = tt

  pub inner_more : (goal : Goal) → IsGoing instance goal path InSet old → More ≡ inner_answered new.checked
      → IsTaken instance goal path InSet old t path InSet new (Ok tt)
  inner_more goal going answer = go s.result
    where
      go : ((refusal (subset instance old.keep) s.es t ≡ None)
          × (new.checked ≡ record { nodes = children s.es t ++ s.behind; refused = None }))
          ⊎ ((code : RefuseCode) × (refusal (subset instance old.keep) s.es t ≡ Some code)
          × (new.checked ≡ record { nodes = old.checked.nodes; refused = Some code }))
          → IsTaken instance goal path InSet old t path InSet new (Ok tt)
      go (inr (code, r, e)) = absurd
          (let h : ◌≡◌ {A = FeedVerdict} More (Refused code) = answer ∙ ap inner_answered e in cc (h))
      go (inl (r, e)) =
          let nodes = ap (λ (x : Checked (List Exclusion)). x.nodes) e in
          let calm = ap (λ (x : Checked (List Exclusion)). x.refused) e in
          let some : 1 ≤ length new.checked.nodes = some_open new.checked answer calm in (
            judged goal ∙ r,
            grown goal nodes some,
            record { boxes = going.boxes; same = s.same ∙ going.same; are = going.are; opens = (calm, some) },
          )
        where
          some_open : (x : Checked (List Exclusion)) → More ≡ inner_answered x → x.refused ≡ None → 1 ≤ length x.nodes
          some_open x a calm = by_nodes x.nodes (a ∙ ap (λ r. inner_answered_by r x.nodes) calm)
            where
              by_nodes : (ns : List (List Exclusion)) → More ≡ inner_answered_by None ns → 1 ≤ length ns
              by_nodes [] h = absurd (cc (h))
              by_nodes (n ∷ ns) h = omega arith

  pub inner_done : (goal : Goal) → IsGoing instance goal path InSet old → Done ≡ inner_answered new.checked
      → (path' : PlainPath) (point' : Point) → path' ≡ record path { frames = next_frames path.frames }
      → point' ≡ point_behind (next_frames path.frames)
      → IsTaken instance goal path InSet old t path' point' new (Ok tt)
  inner_done goal going answer path' point' e f = go s.result
    where
      no_open : (x : Checked (List Exclusion)) → Done ≡ inner_answered x → x.refused ≡ None → x.nodes ≡ []
      no_open x a calm = by_nodes x.nodes (a ∙ ap (λ r. inner_answered_by r x.nodes) calm)
        where
          by_nodes : (ns : List (List Exclusion)) → Done ≡ inner_answered_by None ns → ns ≡ []
          by_nodes [] h = refl
          by_nodes (n ∷ ns) h = absurd (cc (h))

      go : ((refusal (subset instance old.keep) s.es t ≡ None)
          × (new.checked ≡ record { nodes = children s.es t ++ s.behind; refused = None }))
          ⊎ ((code : RefuseCode) × (refusal (subset instance old.keep) s.es t ≡ Some code)
          × (new.checked ≡ record { nodes = old.checked.nodes; refused = Some code }))
          → IsTaken instance goal path InSet old t path' point' new (Ok tt)
      go (inr (code, r, h)) = absurd
          (let k : ◌≡◌ {A = FeedVerdict} Done (Refused code) = answer ∙ ap inner_answered h in cc (k))
      go (inl (r, h)) =
          let nodes = ap (λ (x : Checked (List Exclusion)). x.nodes) h in
          let none = no_open new.checked answer (ap (λ (x : Checked (List Exclusion)). x.refused) h) in
          subst (λ q. IsTaken instance goal path InSet old t q point' new (Ok tt)) (sym e)
          (subst (λ q. IsTaken instance goal path InSet old t (record path { frames = next_frames path.frames }) q new
          (Ok tt)) (sym f) (
            judged goal ∙ r,
            closed goal going.are nodes none,
            record {
              boxes = going.boxes;
              same = s.same ∙ going.same;
              are = next_are goal path.frames going.are;
              opens = opens_behind (next_frames path.frames);
            },
          ))

  pub inner_refused : (goal : Goal) → IsGoing instance goal path InSet old → (code : RefuseCode)
      → Refused code ≡ inner_answered new.checked → IsTaken instance goal path InSet old t path InSet new (Err code)
  inner_refused goal going code answer = go s.result
    where
      no_code : (ns : List (List Exclusion)) → Refused code ≡ inner_answered_by None ns → ⊥
      no_code [] h = cc (h)
      no_code (n ∷ ns) h = cc (h)

      go : ((refusal (subset instance old.keep) s.es t ≡ None)
          × (new.checked ≡ record { nodes = children s.es t ++ s.behind; refused = None }))
          ⊎ ((other : RefuseCode) × (refusal (subset instance old.keep) s.es t ≡ Some other)
          × (new.checked ≡ record { nodes = old.checked.nodes; refused = Some other }))
          → IsTaken instance goal path InSet old t path InSet new (Err code)
      go (inl (r, e)) = absurd (no_code (children s.es t ++ s.behind) (answer ∙ ap inner_answered e))
      go (inr (other, r, e)) =
          let h : ◌≡◌ {A = FeedVerdict} (Refused code) (Refused other) = answer ∙ ap inner_answered e in
          let same : code ≡ other = cc (h) in (
            judged goal ∙ (r ∙ ap Some (sym same)),
            same_tree goal (ap (λ (x : Checked (List Exclusion)). x.nodes) e),
            refl,
          )

-- the same, by what the feeding of the inner tree answers
module _ (instance : PlainInstance) (goal : Goal) (path : PlainPath) (point : Point) (old new : PlainRefuter)
    (t : PlainToken) (there : point ≡ InSet) (going : IsGoing instance goal path point old)
    (step : new ≡ inner_fed old t) where
  inside : IsGoing instance goal path InSet old
  inside = subst (λ p. IsGoing instance goal path p old) there going

  stepped_inside : InnerStep instance old new t
  stepped_inside = inner_step instance old new t going.same inside.opens.0 inside.opens.1 step

  pub took_more : More ≡ inner_answered new.checked → IsTaken instance goal path point old t path point new (Ok tt)
  took_more answer =
      subst (λ p. IsTaken instance goal path p old t path p new (Ok tt)) (sym there)
      (inner_more instance path old new t stepped_inside goal inside answer)

  pub took_done : Done ≡ inner_answered new.checked → (path' : PlainPath) (point' : Point)
      → path' ≡ record path { frames = next_frames path.frames } → point' ≡ point_behind (next_frames path.frames)
      → IsTaken instance goal path point old t path' point' new (Ok tt)
  took_done answer path' point' e f =
      subst (λ p. IsTaken instance goal path p old t path' point' new (Ok tt)) (sym there)
      (inner_done instance path old new t stepped_inside goal inside answer path' point' e f)

  pub took_refused : (code : RefuseCode) → Refused code ≡ inner_answered new.checked
      → IsTaken instance goal path point old t path point new (Err code)
  took_refused code answer =
      subst (λ p. IsTaken instance goal path p old t path p new (Err code)) (sym there)
      (inner_refused instance path old new t stepped_inside goal inside code answer)

-- ---- a token at an outer node

-- an outer node is closed
pub closed_node : (instance : PlainInstance) (goal : Goal) (path path' : PlainPath) (point point' : Point)
    (inner : PlainRefuter) (t : PlainToken) → point ≡ AtNode
    → IsGoing instance goal path point inner → IsTokenStep instance goal path.frames t Close
    → path' ≡ record path { frames = next_frames path.frames } → point' ≡ point_behind (next_frames path.frames)
    → IsTaken instance goal path point inner t path' point' inner (Ok tt)
closed_node instance goal path path' point point' inner t there going step e f =
    subst (λ p. IsTaken instance goal path p inner t path' point' inner (Ok tt)) (sym there) (
    subst (λ q. IsTaken instance goal path AtNode inner t q point' inner (Ok tt)) (sym e) (
    subst (λ q. IsTaken instance goal path AtNode inner t (record path { frames = next_frames path.frames }) q inner
    (Ok tt)) (sym f) (
      told goal going.are step,
      seen goal going.are step,
      record {
        boxes = going.boxes;
        same = going.same;
        are = next_are goal path.frames going.are;
        opens = opens_by (next_frames path.frames);
      },
    )))
  where
    opens_by : (frames : List Frame) → IsOpenAt (point_behind frames) inner
    opens_by [] = tt
    opens_by (f ∷ frames) = tt

    told : (g : Goal) → AreOf g path.frames → IsTokenStep instance g path.frames t Close
        → tree_refusal instance (tree_seen g path.frames AtNode inner) t ≡ None
    told (Bins k) are s = s.0
    told (Value y) are s = s.0

    seen : (g : Goal) → AreOf g path.frames → IsTokenStep instance g path.frames t Close
        → tree_seen g (next_frames path.frames) (point_behind (next_frames path.frames)) inner
        ≡ tree_after (tree_seen g path.frames AtNode inner) t
    seen (Bins k) are s = ap (λ v. ForBins k v) (stands (bins_with k) [] inner (next_frames path.frames) ∙ sym s.1)
    seen (Value y) are s = ap (λ v. ForValue y v)
        (stands choices_with no_choice inner (next_frames path.frames) ∙ sym s.1)
