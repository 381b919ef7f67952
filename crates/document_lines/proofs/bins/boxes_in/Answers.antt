use Rattle.std.proofs.Common.{◌∙◌, ℕ, sym, ap, append-nil, true, false, not, if◌then◌else◌, [], ◌∷◌, ◌++◌, Vec, Global}
use Rattle.std.proofs.lemmas.Bool.{eq-eqb, ne_eqb}
use Rattle.document_lines.proofs.BoxesIn.{boxes_more}
use Rattle.document_lines.proofs.bins.boxes_in.Goals as goal
use Rattle.document_lines.proofs.bins.boxes_in.Goals.{else-bins-v-via-then-bins-v+else-is_err}
use Rattle.document_lines.proofs.bins.boxes_in.Goals.{else-bins-v-via-else-bins-v}

pub loop-v-preserved : goal.loop-v-preserved
loop-v-preserved c =
    elim c.else-bins-v.branch [
      | else-bins-v-via-then-bins-v+else-is_err w ↦
          boxes_more c.args.bins.now c.args.bin c.loop-v.v c.loop-v.keep.items c.loop-v.invariant
          c.else-bins-v.keep.items true (eq-eqb _ _ w.if-bins-v.true)
          (ap (λ (k : Vec ℕ Global). k.items) w.keep-is
          ∙ (w.push.ensures.items ∙ ap (λ t. if t then c.loop-v.keep.items ++ c.loop-v.v ∷ [] else c.loop-v.keep.items)
          (w.is_err.ensures.negation ∙ ap not w.if-is_err.false)))
      | else-bins-v-via-else-bins-v w ↦
          boxes_more c.args.bins.now c.args.bin c.loop-v.v c.loop-v.keep.items c.loop-v.invariant
          c.else-bins-v.keep.items false (ne_eqb _ _ w.if-bins-v.false)
          (ap (λ (k : Vec ℕ Global). k.items) w.keep-is ∙ sym (append-nil c.loop-v.keep.items))
    ]
