use Rattle.std.proofs.Common.{rules, ◌≡◌, ◌∙◌, ◌*◌, ◌++◌, ℕ, List, map, length, vec_len, refl, sym, ap, subst, arith}
use Rattle.std.proofs.Common.{not, if◌then◌else◌}
use Rattle.std.proofs.lemmas.List.{length-map}
use Rattle.packing_terms.specs.Packing.{PlainInstance, box_count}
use Rattle.verdict_terms.specs.Placing.{place_verdict}
use Rattle.verdict_terms.specs.Fronts.{with_container}
use Rattle.verdict_terms.specs.Lines.{PlaceAt}
use Rattle.front_check.specs.declared.parts.Reading.{Reading}
use Rattle.front_check.specs.Plain.{plain_line}
use Rattle.front_check.specs.Audits.{IsReadPoint}
use Rattle.front_check.proofs.Audited.{stands_as, as_form, places_short, places_stopped, places_odd, places_more}
use Rattle.front_check.proofs.Audited.{places_done, places_refused}
use Rattle.front_check.proofs.reading.read_places.Goals as goal
use Rattle.front_check.proofs.reading.read_places.Goals.{in-Good, in_default-check_places}

pub returns-in_default : goal.returns-in_default
returns-in_default c = λ complete left.
    as_form _ _ _ c.form.ensures
    (places_stopped c.args.instance.now c.args.width c.args.height (map plain_line c.args.lines.now) c.args.start
    c.loop-index.index c.loop-index.places.items c.loop-index.invariant c.index-lines-index.result
    (stands_as c.args.lines.now c.loop-index.index c.index-lines-index.result _ c.loop-index-test.true
    c.index-lines-index.is refl) c.in_default.not-Place complete left)

pub returns-then-len-ne2 : goal.returns-then-len-ne2
returns-then-len-ne2 c = λ complete left.
    as_form _ _ _ c.form-then-len-ne2.ensures
    (places_odd c.args.instance.now c.args.width c.args.height (map plain_line c.args.lines.now) c.args.start
    c.loop-index.index c.loop-index.places.items c.loop-index.invariant c.in-Place.sides.items
    (stands_as c.args.lines.now c.loop-index.index c.index-lines-index.result (PlaceAt c.in-Place.sides.items)
    c.loop-index-test.true c.index-lines-index.is (ap plain_line c.in-Place.is))
    (λ e. c.if-len-ne2.true (c.len-in-loop-index.ensures.value ∙ e)) complete left)

pub returns-then-len-wanted : goal.returns-then-len-wanted
returns-then-len-wanted c =
    let size : vec_len c.extend_from_slice.new.self ≡ length c.extend_from_slice.new.self.items = search rules in
    let two : length c.in-Place.sides.items ≡ 2 = let a = c.len-in-loop-index.ensures.value in let b =
    c.if-len-ne2.false in omega (arith, a, b) in
    let full : length c.extend_from_slice.new.self.items ≡ 2 * box_count c.args.instance.now = let a =
    c.if-len-wanted.true in let b = c.len-in-loop-index-2.ensures in let d = c.len.ensures.value in
    omega (arith, size, a, b, d) in
    let after = (c.extend_from_slice.ensures.items
    ∙ (ap (λ t. if t then c.loop-index.places.items ++ c.as_slice.result.now else c.loop-index.places.items)
    (c.is_err.ensures.negation ∙ ap not c.if-is_err.false)
    ∙ ap (λ (xs : List ℕ). c.loop-index.places.items ++ xs) c.as_slice.ensures)) in
    let told : c.check_places.result ≡ place_verdict (with_container c.args.instance.now c.args.width c.args.height)
    c.extend_from_slice.new.self.items =
    c.check_places.ensures.exact
    ∙ (ap (λ (i : PlainInstance). place_verdict i c.as_slice-then-len-wanted.result.now) c.in_ok-sized.ensures
    ∙ ap (λ (xs : List ℕ). place_verdict (with_container c.args.instance.now c.args.width c.args.height) xs)
    c.as_slice-then-len-wanted.ensures.value) in
    elim c.match-check_places.branch [
      | in-Good w ↦
          subst (λ (r : Reading). IsReadPoint c.args.instance.now c.args.width c.args.height
          (map plain_line c.args.lines.now) c.args.start r) (sym w.result-is)
          (places_done c.args.instance.now c.args.width c.args.height (map plain_line c.args.lines.now) c.args.start
          c.loop-index.index c.loop-index.places.items c.loop-index.invariant c.in-Place.sides.items
          (stands_as c.args.lines.now c.loop-index.index c.index-lines-index.result (PlaceAt c.in-Place.sides.items)
          c.loop-index-test.true c.index-lines-index.is (ap plain_line c.in-Place.is)) two
          c.extend_from_slice.new.self.items after full c.check_places.result told w.in-Good.is)
      | in_default-check_places w ↦
          subst (λ (r : Reading). IsReadPoint c.args.instance.now c.args.width c.args.height
          (map plain_line c.args.lines.now) c.args.start r) (sym w.result-is)
          (places_refused c.args.instance.now c.args.width c.args.height (map plain_line c.args.lines.now) c.args.start
          c.loop-index.index c.loop-index.places.items c.loop-index.invariant c.in-Place.sides.items
          (stands_as c.args.lines.now c.loop-index.index c.index-lines-index.result (PlaceAt c.in-Place.sides.items)
          c.loop-index-test.true c.index-lines-index.is (ap plain_line c.in-Place.is)) two
          c.extend_from_slice.new.self.items after full c.check_places.result told
          w.in_default-check_places.not-Good)
    ]

pub loop-index-preserved : goal.loop-index-preserved
loop-index-preserved c =
    let size : vec_len c.extend_from_slice.new.self ≡ length c.extend_from_slice.new.self.items = search rules in
    let two : length c.in-Place.sides.items ≡ 2 = let a = c.len-in-loop-index.ensures.value in let b =
    c.if-len-ne2.false in omega (arith, a, b) in
    let short : ¬ (length c.extend_from_slice.new.self.items ≡ 2 * box_count c.args.instance.now) =
    λ e. c.if-len-wanted.false (let b = c.len-in-loop-index-2.ensures in let d = c.len.ensures.value in
    omega (arith, size, e, b, d)) in
    let after = (c.extend_from_slice.ensures.items
    ∙ (ap (λ t. if t then c.loop-index.places.items ++ c.as_slice.result.now else c.loop-index.places.items)
    (c.is_err.ensures.negation ∙ ap not c.if-is_err.false)
    ∙ ap (λ (xs : List ℕ). c.loop-index.places.items ++ xs) c.as_slice.ensures)) in
    places_more c.args.instance.now c.args.width c.args.height (map plain_line c.args.lines.now) c.args.start
    c.loop-index.index c.loop-index.places.items c.loop-index.invariant c.in-Place.sides.items
    (stands_as c.args.lines.now c.loop-index.index c.index-lines-index.result (PlaceAt c.in-Place.sides.items)
    c.loop-index-test.true c.index-lines-index.is (ap plain_line c.in-Place.is)) two
    c.extend_from_slice.new.self.items after short

pub returns : goal.returns
returns c =
    places_short c.args.instance.now c.args.width c.args.height (map plain_line c.args.lines.now) c.args.start
    c.loop-index.index c.loop-index.places.items c.loop-index.invariant
    (let k = length-map c.args.lines.now plain_line in let f = c.loop-index-test.false in omega (arith, k, f))
