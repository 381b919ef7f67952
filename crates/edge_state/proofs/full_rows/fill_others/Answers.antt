use Rattle.std.proofs.Common.{◌≡◌, ◌&&◌, ◌%◌, ◌+◌, ℕ, suc, not, eqb, ltb, arith, add-one, ap, sym, ◌∙◌}
use Rattle.std.proofs.Math.Nat.{suc-mod}
use Rattle.edge_state.specs.BitRows.{row_has}
use Rattle.edge_state.proofs.Filled.{filled_more, words_kept}
use Rattle.edge_state.proofs.full_rows.fill_others.Goals as goal

others : (c : goal.After-next_box-u) (x : ℕ) → row_has c.without.result x ≡ ltb x c.args.boxes
    && not (eqb x c.loop-place.u)
others c x = c.without.ensures x ∙ ap (λ b. b && not (eqb x c.loop-place.u)) (c.row_of_all-all.ensures x)

pub write_box-requires-clause-kept : goal.write_box-requires-clause-kept
write_box-requires-clause-kept c =
    words_kept c.args.boxes c.loop-place.u c.loop-place.rows c.without.result (omega arith)
    (λ x. c.without.ensures x ∙ ap (λ b. b && not (eqb x c.loop-place.u)) (c.row_of_all-all.ensures x))
    (λ h. c.loop-place.invariant.seconds ∙ (c.requires.kept h ∙ sym c.loop-place.invariant.length))

pub loop-place-preserved : goal.loop-place-preserved
loop-place-preserved c =
    let next : suc (c.loop-place.place % c.args.boxes) % c.args.boxes ≡ (c.loop-place.place + 1) % c.args.boxes =
    rw add-one (sym (suc-mod c.loop-place.place c.args.boxes)) in
    record {
      length = c.write_box.ensures.length ∙ c.loop-place.invariant.length;
      seconds = c.write_box.ensures.seconds ∙ c.loop-place.invariant.seconds;
      below = c.next_box-u.ensures.below;
      box = c.next_box-u.ensures.value ∙ (ap (λ m. suc m % c.args.boxes) c.loop-place.invariant.box ∙ next);
      each = filled_more c.args.boxes c.loop-place.place c.loop-place.u c.loop-place.rows c.write_box.new.rows
          c.without.result c.loop-place.invariant.box (others c)
          c.loop-place.invariant.each c.write_box.ensures.before c.write_box.ensures.made;
    }
