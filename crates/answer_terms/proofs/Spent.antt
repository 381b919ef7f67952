-- A walk isn't complete exactly where a decision on it was spent.
use Rattle.std.proofs.Common.{◌≡◌, ℕ, zero, suc, ◌+◌, ◌-◌, ◌*◌, ◌/◌, ◌^◌, ◌<◌, ◌≤◌, ◌⊎◌, ◌↔◌, inl, inr, refl, sym, ap}
use Rattle.std.proofs.Common.{subst, ◌∙◌, arith, Bool, true, false, if◌then◌else◌, ltb, List, []}
use Rattle.std.proofs.lemmas.Bool.{true≢false, cases_Bool, lt-ltb, ltb-true}
use Rattle.packing_terms.specs.Packing.{PlainInstance, dims, box_count, written_container}
use Rattle.packing_terms.specs.Limits.{IsInternalInstance}
use Rattle.packing_terms.specs.Tokens.{PlainToken}
use Rattle.tree_terms.specs.Trees.{Verdict, Yes, No, Decided, Past, outcome, under_budget, count_of}
use Rattle.tree_terms.specs.ClassTree.{class_tree}
use Rattle.tree_terms.specs.Levels.{PlainLevel, PlacedBy, RefutedBy, SpentAt, level_by}
use Rattle.tree_terms.proofs.LevelOrder.{rising_end, spent_exactly as run_spent_exactly}
use Rattle.tree_terms.proofs.Counts.{class_count}
use Rattle.verdict_terms.specs.Fronts.{with_container}
use Rattle.answer_terms.specs.Walks.{PlainFront, levels_from, spent_front, width_run, height_run, rest_by}
use Rattle.answer_terms.specs.Walks.{round_by_heights, round_by_widths, round_by, walk_on, walk, size_answer, front_walk}
use Rattle.answer_terms.specs.Asked.{IsSizeAsked, widest, by_width, by_height, later, HasSpentSize, HasContainerPastBudget}

module _ (answer : ℕ → ℕ → PlainLevel) (most : ℕ) where
  -- a round ends lower
  lower_end : (a h : ℕ) (ps : List ℕ) → 1 ≤ (height_run answer most a h ps).refuted
      → (height_run answer most a h ps).refuted < h
  lower_end a zero ps l = absurd (omega (arith, l))
  lower_end a (suc h) ps l =
      let e = rising_end (λ b. answer a b) (levels_from 0 [] (suc h) ps) (omega arith) in
      let o = e.order in let t = e.high in omega (arith, o, t)

  -- where the walk isn't complete, some decision was spent
  abbrev IsSpentSome : ℕ → Type 0
  IsSpentSome fuel = (h r : ℕ) (ts : List PlainToken) → h < fuel → (walk_on answer most fuel h r ts).complete ≡ false
      → HasSpentSize answer most h r ts

  walk_spent : (fuel : ℕ) → IsSpentSome fuel
  walk_spent zero h r ts less e = absurd (omega (arith, less))
  walk_spent (suc more) h r ts less e = by_answer (answer most h) refl e (walk_spent more)
    where
      deeper : (ps : List ℕ) → answer most h ≡ PlacedBy ps → (width_run answer most h r ts ps).spent ≡ false
          → (height_run answer most (width_run answer most h r ts ps).placed h
          (width_run answer most h r ts ps).numbers).spent ≡ false → IsSpentSome more
          → (k : ℕ) → (height_run answer most (width_run answer most h r ts ps).placed h
          (width_run answer most h r ts ps).numbers).refuted ≡ k
          → (rest_by answer most (walk_on answer most more) k (width_run answer most h r ts ps).placed
          (height_run answer most (width_run answer most h r ts ps).placed h
          (width_run answer most h r ts ps).numbers).tokens).complete ≡ false
          → HasSpentSize answer most h r ts
      deeper ps is w_is h_is next zero k f = absurd (true≢false f)
      deeper ps is w_is h_is next (suc m) k f =
          let some : 1 ≤ (height_run answer most (width_run answer most h r ts ps).placed h
          (width_run answer most h r ts ps).numbers).refuted = omega (arith, k) in
          let low = lower_end (width_run answer most h r ts ps).placed h
          (width_run answer most h r ts ps).numbers some in
          let found = next (suc m) (width_run answer most h r ts ps).placed
          (height_run answer most (width_run answer most h r ts ps).placed h
          (width_run answer most h r ts ps).numbers).tokens (omega (arith, low, k, less)) f in (
            found.0,
            found.1,
            later is w_is h_is some
                (subst (λ (x : ℕ). IsSizeAsked answer most x (width_run answer most h r ts ps).placed
                (height_run answer most (width_run answer most h r ts ps).placed h
                (width_run answer most h r ts ps).numbers).tokens found.0 found.1) (sym k) found.2),
            found.3,
          )

      by_heights : (ps : List ℕ) → answer most h ≡ PlacedBy ps → (width_run answer most h r ts ps).spent ≡ false
          → IsSpentSome more → (b : Bool)
          → (height_run answer most (width_run answer most h r ts ps).placed h
          (width_run answer most h r ts ps).numbers).spent ≡ b
          → (round_by_heights answer most (walk_on answer most more) h (width_run answer most h r ts ps)
          (height_run answer most (width_run answer most h r ts ps).placed h (width_run answer most h r ts ps).numbers)
          (spent_front r h ts) b).complete ≡ false
          → HasSpentSize answer most h r ts
      by_heights ps is w_is next true h_is f =
          let found = (run_spent_exactly (λ y. answer (width_run answer most h r ts ps).placed y)
          (levels_from 0 [] h (width_run answer most h r ts ps).numbers) refl).0 h_is in
          ((width_run answer most h r ts ps).placed, found.0, by_height is w_is found.1, found.2)
      by_heights ps is w_is next false h_is f =
          deeper ps is w_is h_is next (height_run answer most (width_run answer most h r ts ps).placed h
          (width_run answer most h r ts ps).numbers).refuted refl f

      by_widths : (ps : List ℕ) → answer most h ≡ PlacedBy ps → IsSpentSome more → (b : Bool)
          → (width_run answer most h r ts ps).spent ≡ b
          → (round_by_widths answer most (walk_on answer most more) h (width_run answer most h r ts ps)
          (spent_front r h ts) b).complete ≡ false
          → HasSpentSize answer most h r ts
      by_widths ps is next true w_is f =
          let found = (run_spent_exactly (λ x. answer x h) (levels_from r ts most ps) refl).0 w_is in
          (found.0, h, by_width is found.1, found.2)
      by_widths ps is next false w_is f =
          by_heights ps is w_is next (height_run answer most (width_run answer most h r ts ps).placed h
          (width_run answer most h r ts ps).numbers).spent refl f

      by_answer : (l : PlainLevel) → answer most h ≡ l
          → (round_by answer most (walk_on answer most more) h r ts l).complete ≡ false → IsSpentSome more
          → HasSpentSize answer most h r ts
      by_answer (RefutedBy us) is f next = absurd (true≢false f)
      by_answer SpentAt is f next = (most, h, widest, is)
      by_answer (PlacedBy ps) is f next = by_widths ps is next (width_run answer most h r ts ps).spent refl f

  -- and where some decision was spent it isn't
  abbrev IsCut : ℕ → ℕ → ℕ → List PlainToken → Type 0
  IsCut fuel h r ts = (walk_on answer most fuel h r ts).complete ≡ false

  cut_widths : (fuel h r : ℕ) (ts : List PlainToken) (ps : List ℕ) → answer most h ≡ PlacedBy ps
      → (round_by_widths answer most (walk_on answer most fuel) h (width_run answer most h r ts ps) (spent_front r h ts)
      (width_run answer most h r ts ps).spent).complete ≡ false
      → IsCut (suc fuel) h r ts
  cut_widths fuel h r ts ps is e =
      ap (λ (l : PlainLevel). (round_by answer most (walk_on answer most fuel) h r ts l).complete) is ∙ e

  cut_heights : (fuel h r : ℕ) (ts : List PlainToken) (ps : List ℕ) → answer most h ≡ PlacedBy ps
      → (width_run answer most h r ts ps).spent ≡ false
      → (round_by_heights answer most (walk_on answer most fuel) h (width_run answer most h r ts ps)
      (height_run answer most (width_run answer most h r ts ps).placed h (width_run answer most h r ts ps).numbers)
      (spent_front r h ts)
      (height_run answer most (width_run answer most h r ts ps).placed h
      (width_run answer most h r ts ps).numbers).spent).complete ≡ false
      → IsCut (suc fuel) h r ts
  cut_heights fuel h r ts ps is w_is e =
      cut_widths fuel h r ts ps is
      (ap (λ (b : Bool). (round_by_widths answer most (walk_on answer most fuel) h (width_run answer most h r ts ps)
      (spent_front r h ts) b).complete) w_is ∙ e)

  rest_cut : (walk_by : ℕ → ℕ → List PlainToken → PlainFront) (k a : ℕ) (ts : List PlainToken) → 1 ≤ k
      → (walk_by k a ts).complete ≡ false → (rest_by answer most walk_by k a ts).complete ≡ false
  rest_cut walk_by zero a ts l e = absurd (omega (arith, l))
  rest_cut walk_by (suc k) a ts l e = e

  spent_walk : (fuel : ℕ) {h r : ℕ} {ts : List PlainToken} {w b : ℕ} → h < fuel → IsSizeAsked answer most h r ts w b
      → answer w b ≡ SpentAt → IsCut fuel h r ts
  spent_walk zero less asked e = absurd (omega (arith, less))
  spent_walk (suc more) less (widest {h = h} {r = r} {ts = ts}) e =
      ap (λ (l : PlainLevel). (round_by answer most (walk_on answer most more) h r ts l).complete) e
  spent_walk (suc more) less (by_width {h = h} {r = r} {w = w} {ts = ts} {ps = ps} is asked) e =
      let spent = ((run_spent_exactly (λ x. answer x h) (levels_from r ts most ps) refl).1 (w, asked, e)) in
      cut_widths more h r ts ps is
      (ap (λ (b : Bool). (round_by_widths answer most (walk_on answer most more) h (width_run answer most h r ts ps)
      (spent_front r h ts) b).complete) spent)
  spent_walk (suc more) less (by_height {h = h} {r = r} {b = b} {ts = ts} {ps = ps} is w_is asked) e =
      let spent =
      ((run_spent_exactly (λ y. answer (width_run answer most h r ts ps).placed y)
      (levels_from 0 [] h (width_run answer most h r ts ps).numbers) refl).1 (b, asked, e)) in
      cut_heights more h r ts ps is w_is
      (ap (λ (x : Bool). (round_by_heights answer most (walk_on answer most more) h (width_run answer most h r ts ps)
      (height_run answer most (width_run answer most h r ts ps).placed h (width_run answer most h r ts ps).numbers)
      (spent_front r h ts) x).complete) spent)
  spent_walk (suc more) less (later {h = h} {r = r} {ts = ts} {ps = ps} is w_is h_is some asked) e =
      let low = lower_end (width_run answer most h r ts ps).placed h (width_run answer most h r ts ps).numbers some in
      let cut = spent_walk more (omega (arith, low, less)) asked e in
      cut_heights more h r ts ps is w_is
      (ap (λ (x : Bool). (round_by_heights answer most (walk_on answer most more) h (width_run answer most h r ts ps)
      (height_run answer most (width_run answer most h r ts ps).placed h (width_run answer most h r ts ps).numbers)
      (spent_front r h ts) x).complete) h_is
      ∙ rest_cut (walk_on answer most more)
      (height_run answer most (width_run answer most h r ts ps).placed h
      (width_run answer most h r ts ps).numbers).refuted
      (width_run answer most h r ts ps).placed
      (height_run answer most (width_run answer most h r ts ps).placed h
      (width_run answer most h r ts ps).numbers).tokens some cut)

  pub walk_spent_exactly : (height : ℕ)
      → ((walk answer most height).complete ≡ false) ↔ HasSpentSize answer most height 0 []
  walk_spent_exactly height = (
    walk_spent (suc height) height 0 [] (omega arith),
    λ (w, b, asked, e). spent_walk (suc height) (omega arith) asked e,
  )

never_spent : (v : Verdict) → level_by (Decided v) ≡ SpentAt → ⊥
never_spent (Yes ns c) k = cc
never_spent (No ts c) k = cc

spent_level : (budget : ℕ) (v : Verdict) → level_by (under_budget budget v) ≡ SpentAt ↔ (budget < count_of v)
spent_level budget v = (there (ltb budget (count_of v)) refl, λ l. rw (lt-ltb budget (count_of v) l) refl)
  where
    there : (b : Bool) → ltb budget (count_of v) ≡ b → level_by (if b then Past else Decided v) ≡ SpentAt
        → budget < count_of v
    there true is e = ltb-true budget (count_of v) is
    there false is e = absurd (never_spent v e)

module _ (instance : PlainInstance) (budget : ℕ) (scales : Bool) where
  tree_verdict : ℕ → ℕ → Verdict
  tree_verdict w b = outcome (class_tree (with_container instance w b) [] scales)

  pub spent_exactly : ((front_walk instance budget scales).complete ≡ false) ↔ HasContainerPastBudget instance budget scales
  spent_exactly =
      let both = walk_spent_exactly (size_answer instance budget scales) (written_container instance 0)
      (written_container instance 1) in (
        λ e. (let found = both.0 e in (
          found.0,
          found.1,
          found.2,
          (spent_level budget (outcome (class_tree (with_container instance found.0 found.1) [] scales))).0
              found.3,
        )),
        λ (w, b, asked, l). both.1 (
          w,
          b,
          asked,
          (spent_level budget (outcome (class_tree (with_container instance w b) [] scales))).1 l,
        ),
      )

  pub enough : IsInternalInstance instance → dims instance ≡ 2
      → 3 ^ (dims instance * box_count instance * (box_count instance - 1) / 2) ≤ budget + 1
      → (front_walk instance budget scales).complete ≡ true
  enough limits plane l = go (cases_Bool (front_walk instance budget scales).complete)
    where
      small : (w b : ℕ) → count_of (outcome (class_tree (with_container instance w b) [] scales)) < 3 ^
          (dims instance * box_count instance * (box_count instance - 1) / 2)
      small w b = subst (λ (x : ℕ). count_of (outcome (class_tree (with_container instance w b) [] scales)) < 3 ^
          (x * box_count instance * (box_count instance - 1) / 2)) (sym plane)
          (class_count (with_container instance w b) (omega arith) [] scales)

      none : HasContainerPastBudget instance budget scales → ⊥
      none (w, b, asked, m) = let s = small w b in omega (arith, s, l, m)

      go : ((front_walk instance budget scales).complete ≡ true)
          ⊎ ((front_walk instance budget scales).complete ≡ false) → (front_walk instance budget scales).complete ≡ true
      go (inl e) = e
      go (inr e) = absurd (none (spent_exactly.0 e))
