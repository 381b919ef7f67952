use Rattle.std.proofs.Common.{rules, ◌≡◌, ◌∙◌, ◌*◌, ℕ, List, length, vec_len, sym, ap, ap₂, subst, arith, Option, Err}
use Rattle.packing_terms.specs.Packing.{PlainInstance, box_count}
use Rattle.verdict_terms.specs.declared.reason.Reason.{Reason}
use Rattle.verdict_terms.specs.Fronts.{with_container}
use Rattle.document_audits.specs.declared.front_audit.FrontAudit.{FrontAudit}
use Rattle.text_terms.specs.Feeding.{ended_line}
use Rattle.document_audits.specs.declared.front_reading.PlaceStop.{PlaceStop}
use Rattle.document_audits.specs.FrontParts.{places_stage, point_stage, IsPartRead, places_reason, TakesPlace}
use Rattle.document_audits.proofs.FrontRead.{place_stopped, places_done, places_refused}
use Rattle.document_audits.proofs.front_places.read_places.Goals as goal
use Rattle.document_audits.proofs.front_places.read_places.Goals.{in-Some, in-None}

pub returns-in-Err-Refused-clause-read : goal.returns-in-Err-Refused-clause-read
returns-in-Err-Refused-clause-read c = λ complete points left.
    place_stopped c.args.bytes.now c.args.at.now c.loop-alloc.at c.next_taken-there.new.at c.args.instance.now
    c.args.width c.args.height c.loop-alloc.places.items c.loop-alloc.invariant.1 c.if-not-there.ensures.line
    c.in-Err-Refused.reason (subst
    (λ (s : PlaceStop). TakesPlace c.loop-alloc.places.items (ended_line c.next_taken-there.new.at.line.held)
    c.take_place.new.places.items (Err s)) c.in-Err-Refused.field-0-is c.in-Err-Refused.ensures)
    complete points left
    ∙ ap₂ (λ (n : ℕ) (r : Reason). Err (record { line = n; reason = r })) (sym c.line_number-line.ensures)
    (sym c.in-Err-Refused.reason-is)

pub returns-then-len-wanted-clause-read : goal.returns-then-len-wanted-clause-read
returns-then-len-wanted-clause-read c =
    let size : vec_len c.take_place.new.places ≡ length c.take_place.new.places.items = search rules in
    let full : length c.take_place.new.places.items ≡ 2 * box_count c.args.instance.now = let a =
    c.if-len-wanted.true in let b = c.len-in-loop-alloc.ensures in let d = c.len.ensures.value in
    omega (arith, size, a, b, d) in
    let taken = c.in-Ok-take_place.ensures in
    let told : c.places_reason.result ≡ places_reason (with_container c.args.instance.now c.args.width c.args.height)
    c.take_place.new.places.items =
    c.places_reason.ensures
    ∙ (ap (λ (i : PlainInstance). places_reason i c.as_slice.result.now) c.in-Ok.ensures
    ∙ ap (λ (xs : List ℕ). places_reason (with_container c.args.instance.now c.args.width c.args.height) xs)
    c.as_slice.ensures.value) in
    elim c.match-places_reason.branch [
      | in-Some w ↦
          subst (λ (r : Option FrontAudit). IsPartRead c.args.bytes.now c.args.at.now c.next_taken-there.new.at
          c.args.instance.now (places_stage c.args.width c.args.height) (point_stage c.args.width c.args.height) r)
          (sym w.result-is)
          (λ complete points left.
          places_refused c.args.bytes.now c.args.at.now c.loop-alloc.at c.next_taken-there.new.at c.args.instance.now
          c.args.width c.args.height c.loop-alloc.places.items c.loop-alloc.invariant.1 c.if-not-there.ensures.line
          taken.0 c.take_place.new.places.items taken.1 taken.2 full w.in-Some.reason (sym w.in-Some.is ∙ told)
          complete points left
          ∙ ap (λ (n : ℕ). Err (record { line = n; reason = w.in-Some.reason })) (sym c.line_number-line.ensures))
      | in-None w ↦
          subst (λ (r : Option FrontAudit). IsPartRead c.args.bytes.now c.args.at.now c.next_taken-there.new.at
          c.args.instance.now (places_stage c.args.width c.args.height) (point_stage c.args.width c.args.height) r)
          (sym w.result-is)
          (places_done c.args.bytes.now c.args.at.now c.loop-alloc.at c.next_taken-there.new.at c.args.instance.now
          c.args.width c.args.height c.loop-alloc.places.items c.loop-alloc.invariant.1 c.if-not-there.ensures.line
          taken.0 c.take_place.new.places.items taken.1 taken.2 full (sym w.in-None.is ∙ told))
    ]
