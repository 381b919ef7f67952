use Rattle.std.proofs.Common.{◌≡◌, ◌<◌, ◌⊎◌, inl, inr, ◌∙◌, ℕ, sym, ap, not, Bool, true, false, arith}
use Rattle.packing_terms.specs.declared.Rel.{Rel}
use Rattle.packing_terms.specs.declared.Rel.TheVariants.{Overlap, Before, After}
use Rattle.packing_terms.specs.Relations.{mirror}
use Rattle.packing_terms.specs.Packing.{box_count}
use Rattle.packing_terms.specs.Exclusions.{excludes, IsEdge}
use Rattle.packing_terms.specs.Places.{HasNoEmptyMask}
use Rattle.packing_terms.specs.Rules.{Rule, Compose, Concludes, IsRuleInstance}
use Rattle.packing_terms.proofs.Monotone.{follows_more}
use Rattle.relation_table.specs.Masks.{mask_has}
use Rattle.edge_state.specs.BitRows.{row_has}
use Rattle.edge_state.proofs.Tables.{excludes_mirror}
use Rattle.edge_state.specs.Instances.{Composes}
use Rattle.edge_state.specs.Rows.{in_each_relation}
use Rattle.edge_state.specs.Work.{IsCovered}
use Rattle.edge_state.proofs.Worked.{worked_kept, worked_lost_first, sizes_worked, covered_if}
use Rattle.rule_passes.specs.Reached.{NoRule}
use Rattle.rule_passes.proofs.RowRules.{worked_from, named_shut, none_then, composed_covered}
use Rattle.rule_passes.proofs.composing.spread_composed.Goals as goal

pub returns-then-exclude_three : goal.returns-then-exclude_three
returns-then-exclude_three g c = worked_lost_first _ _ _ _ _ _ c.if-exclude_three.true c.exclude_three.ensures.worked

pub returns : goal.returns
returns g c =
    worked_from c.args.instance.now _ _ _ _ (λ e rule r. go e r.0 rule r.1)
    (none_then c.args.instance.now _ _ _ _
    (worked_kept _ _ _ _ NoRule c.if-exclude_three.false c.exclude_three.ensures.worked)
    c.exclude_three-2.ensures.worked)
  where
    X : ℕ → ℕ → ℕ → Rel → Bool
    X = excludes c.args.state.now.trail

    turned_is : (r : Rel) → mask_has c.flip-turned.result r ≡ not (X c.args.dim c.args.v c.args.u r)
    turned_is r = c.flip-turned.ensures.exact r ∙ (c.requires.left (mirror r)
        ∙ ap not (excludes_mirror c.args.state.now.trail c.args.dim c.args.u c.args.v r))

    kept : (w x : ℕ) (r : Rel) → X c.args.dim w x r ≡ true
        → excludes c.exclude_three-2.new.state.trail c.args.dim w x r ≡ true
    kept w x r h = c.exclude_three-2.ensures.worked.extends.kept c.args.dim w x r
        (c.exclude_three.ensures.worked.extends.kept c.args.dim w x r h)

    Full : Type 0
    Full = HasNoEmptyMask c.args.instance.now X

    beside : (a x : ℕ) → a < box_count c.args.instance.now → x < box_count c.args.instance.now → (a ≡ x → ⊥)
        → IsEdge c.args.instance.now c.args.dim a x
    beside a x first second distinct =
        record { dim = c.requires.sizes.there; first = first; second = second; distinct = distinct }

    there : c.exclude_three-2.result ≡ false → Full → (x : ℕ) → x < box_count c.args.instance.now
        → IsRuleInstance c.args.instance.now (Compose c.args.dim c.args.u c.args.v x)
        → IsCovered c.args.instance.now X c.exclude_three-2.new.state.trail (Compose c.args.dim c.args.u c.args.v x)
    there e full x small is =
        let q = full c.args.dim c.args.u c.args.v
        (beside c.args.u c.args.v c.requires.u c.requires.v c.requires.distinct) in
        let s = full c.args.dim c.args.v x (beside c.args.v x c.requires.v small is.1.2.1.0) in
        let left : (q : Rel) × (mask_has c.args.left q ≡ true) = (q.0, c.requires.left q.0 ∙ ap not q.1) in
        composed_covered c.args.instance.now _ _ c.args.dim c.args.u c.args.v x
        (in_each_relation (row_has c.uncomposed-overlap.result x) (row_has c.uncomposed-before.result x)
        (row_has c.uncomposed-after.result x)) taken (kept c.args.u x) (others left s)
      where
        taken : (r : Rel) → in_each_relation (row_has c.uncomposed-overlap.result x)
            (row_has c.uncomposed-before.result x) (row_has c.uncomposed-after.result x) r ≡ true
            → excludes c.exclude_three-2.new.state.trail c.args.dim c.args.u x r ≡ true
        taken Overlap on = c.exclude_three-2.ensures.worked.extends.kept c.args.dim c.args.u x Overlap
            (c.exclude_three.ensures.overlap c.if-exclude_three.false x on)
        taken Before on = c.exclude_three-2.ensures.worked.extends.kept c.args.dim c.args.u x Before
            (c.exclude_three.ensures.before c.if-exclude_three.false x on)
        taken After on = c.exclude_three-2.ensures.worked.extends.kept c.args.dim c.args.u x After
            (c.exclude_three.ensures.after c.if-exclude_three.false x on)

        others : ((q : Rel) × (mask_has c.args.left q ≡ true)) → ((s : Rel) × (X c.args.dim c.args.v x s ≡ false))
            → (r : Rel) → in_each_relation (row_has c.uncomposed-overlap.result x)
            (row_has c.uncomposed-before.result x) (row_has c.uncomposed-after.result x) r ≡ false
            → IsRuleInstance c.args.instance.now (Compose c.args.dim c.args.u c.args.v x)
            → Concludes X (Compose c.args.dim c.args.u c.args.v x) r → X c.args.dim c.args.u x r ≡ true
        others q s Overlap off is k = c.uncomposed-overlap.ensures.excluded x off q s is k
        others q s Before off is k = c.uncomposed-before.ensures.excluded x off q s is k
        others q s After off is k = c.uncomposed-after.ensures.excluded x off q s is k

    back : c.exclude_three-2.result ≡ false → Full → (x : ℕ) → x < box_count c.args.instance.now
        → IsRuleInstance c.args.instance.now (Compose c.args.dim c.args.v c.args.u x)
        → IsCovered c.args.instance.now X c.exclude_three-2.new.state.trail (Compose c.args.dim c.args.v c.args.u x)
    back e full x small is =
        let q = full c.args.dim c.args.v c.args.u
        (beside c.args.v c.args.u c.requires.v c.requires.u (λ f. c.requires.distinct (sym f))) in
        let s = full c.args.dim c.args.u x (beside c.args.u x c.requires.u small is.1.2.1.0) in
        let left : (q : Rel) × (mask_has c.flip-turned.result q ≡ true) = (q.0, turned_is q.0 ∙ ap not q.1) in
        composed_covered c.args.instance.now _ _ c.args.dim c.args.v c.args.u x
        (in_each_relation (row_has c.uncomposed-overlap_back.result x) (row_has c.uncomposed-before_back.result x)
        (row_has c.uncomposed-after_back.result x)) taken (kept c.args.v x) (others left s)
      where
        taken : (r : Rel) → in_each_relation (row_has c.uncomposed-overlap_back.result x)
            (row_has c.uncomposed-before_back.result x) (row_has c.uncomposed-after_back.result x) r ≡ true
            → excludes c.exclude_three-2.new.state.trail c.args.dim c.args.v x r ≡ true
        taken Overlap on = c.exclude_three-2.ensures.overlap e x on
        taken Before on = c.exclude_three-2.ensures.before e x on
        taken After on = c.exclude_three-2.ensures.after e x on

        others : ((q : Rel) × (mask_has c.flip-turned.result q ≡ true)) → ((s : Rel) × (X c.args.dim c.args.u x s ≡ false))
            → (r : Rel) → in_each_relation (row_has c.uncomposed-overlap_back.result x)
            (row_has c.uncomposed-before_back.result x) (row_has c.uncomposed-after_back.result x) r ≡ false
            → IsRuleInstance c.args.instance.now (Compose c.args.dim c.args.v c.args.u x)
            → Concludes X (Compose c.args.dim c.args.v c.args.u x) r → X c.args.dim c.args.v x r ≡ true
        others q s Overlap off is k = c.uncomposed-overlap_back.ensures.excluded x off q s is k
        others q s Before off is k = c.uncomposed-before_back.ensures.excluded x off q s is k
        others q s After off is k = c.uncomposed-after_back.ensures.excluded x off q s is k

    go : c.exclude_three-2.result ≡ false → Full → (rule : Rule)
        → Composes c.args.instance.now c.args.dim c.args.u c.args.v rule
        ⊎ Composes c.args.instance.now c.args.dim c.args.v c.args.u rule
        → IsCovered c.args.instance.now X c.exclude_three-2.new.state.trail rule
    go e full rule (inl r) = named_shut c.args.instance.now _ _ rule (Compose c.args.dim c.args.u c.args.v r.0) r.2
        (covered_if c.args.instance.now X _ _ (λ is. there e full r.0 r.1 is))
    go e full rule (inr r) = named_shut c.args.instance.now _ _ rule (Compose c.args.dim c.args.v c.args.u r.0) r.2
        (covered_if c.args.instance.now X _ _ (λ is. back e full r.0 r.1 is))

pub exclude_three-requires : goal.exclude_three-requires
exclude_three-requires g c = (
  omega (arith, c.requires.words.0.1),
  (
    c.requires.words,
    (
      c.requires.sizes,
      (
        c.requires.u,
        (
          λ x on. (c.uncomposed-overlap.ensures.other x on, c.uncomposed-overlap.ensures.follows x on),
          (
            λ x on. (c.uncomposed-before.ensures.other x on, c.uncomposed-before.ensures.follows x on),
            λ x on. (c.uncomposed-after.ensures.other x on, c.uncomposed-after.ensures.follows x on),
          ),
        ),
      ),
    ),
  ),
)

pub exclude_three-requires-2 : goal.exclude_three-requires-2
exclude_three-requires-2 g c = (
  omega (arith, c.requires.words.0.1),
  (
    c.requires.words,
    (
      sizes_worked _ _ _ _ _ _ c.exclude_three.ensures.worked c.requires.sizes,
      (
        c.requires.v,
        (
          λ x on. (
            c.uncomposed-overlap_back.ensures.other x on,
            follows_more c.args.instance.now _ _ c.exclude_three.ensures.worked.extends.kept c.args.dim c.args.v x Overlap
                (c.uncomposed-overlap_back.ensures.follows x on),
          ),
          (
            λ x on. (
              c.uncomposed-before_back.ensures.other x on,
              follows_more c.args.instance.now _ _ c.exclude_three.ensures.worked.extends.kept c.args.dim c.args.v x Before
                  (c.uncomposed-before_back.ensures.follows x on),
            ),
            λ x on. (
              c.uncomposed-after_back.ensures.other x on,
              follows_more c.args.instance.now _ _ c.exclude_three.ensures.worked.extends.kept c.args.dim c.args.v x After
                  (c.uncomposed-after_back.ensures.follows x on),
            ),
          ),
        ),
      ),
    ),
  ),
)

pub uncomposed-overlap_back-requires : goal.uncomposed-overlap_back-requires
uncomposed-overlap_back-requires g c = (
  omega (arith, c.requires.words.0.1),
  (
    c.requires.words,
    (
      c.requires.sizes,
      (
        c.requires.v,
        (
          c.requires.u,
          (
            λ e. c.requires.distinct (sym e),
            λ r. c.flip-turned.ensures.exact r ∙ (c.requires.left (mirror r)
                ∙ ap not (excludes_mirror c.args.state.now.trail c.args.dim c.args.u c.args.v r)),
          ),
        ),
      ),
    ),
  ),
)

pub uncomposed-before_back-requires : goal.uncomposed-before_back-requires
uncomposed-before_back-requires g c = (
  omega (arith, c.requires.words.0.1),
  (
    c.requires.words,
    (
      c.requires.sizes,
      (
        c.requires.v,
        (
          c.requires.u,
          (
            λ e. c.requires.distinct (sym e),
            λ r. c.flip-turned.ensures.exact r ∙ (c.requires.left (mirror r)
                ∙ ap not (excludes_mirror c.args.state.now.trail c.args.dim c.args.u c.args.v r)),
          ),
        ),
      ),
    ),
  ),
)

pub uncomposed-after_back-requires : goal.uncomposed-after_back-requires
uncomposed-after_back-requires g c = (
  omega (arith, c.requires.words.0.1),
  (
    c.requires.words,
    (
      c.requires.sizes,
      (
        c.requires.v,
        (
          c.requires.u,
          (
            λ e. c.requires.distinct (sym e),
            λ r. c.flip-turned.ensures.exact r ∙ (c.requires.left (mirror r)
                ∙ ap not (excludes_mirror c.args.state.now.trail c.args.dim c.args.u c.args.v r)),
          ),
        ),
      ),
    ),
  ),
)
