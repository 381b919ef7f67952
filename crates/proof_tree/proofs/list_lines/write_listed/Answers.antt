use Rattle.std.proofs.Common.{◌<◌, ◌≤◌, ◌∙◌, ◌++◌, ◌∷◌, [], List, length, ap, sym, refl, arith, map}
use Rattle.std.proofs.lemmas.List.{get_or-map, length-map}
use Rattle.pack_streams.proofs.Writers.{more, same}
use Rattle.packing_terms.specs.Tokens.{PlainToken}
use Rattle.proof_tree.specs.Plain.{plain_token}
use Rattle.proof_tree.specs.Lines.{token_text}
use Rattle.proof_tree.specs.Shorts.{listed, shown_line}
use Rattle.proof_tree.proofs.Shorts.{told_shown, told_wide, told_missing}
use Rattle.proof_tree.proofs.Parts.{is_shown, is_hidden, text_more, all_told}
use Rattle.proof_tree.proofs.list_lines.write_listed.Goals.{then-is_wide+then-next-wides, then-is_wide+else-next-wides}
use Rattle.proof_tree.proofs.list_lines.write_listed.Goals.{else-is_wide}
use Rattle.proof_tree.proofs.list_lines.write_listed.Goals as goal

pub loop-k-preserved : goal.loop-k-preserved
loop-k-preserved g c =
    let ss = c.args.shorts.now in
    let ws = map plain_token c.args.wides.now in
    let whole = listed ss ws in
    let there : c.loop-k.k < length ss = omega (arith, c.loop-k-test.true) in
    let done = c.loop-k.invariant.done in
    let left = c.loop-k.invariant.left in
    let holds = c.loop-k.invariant.holds in
    let many = length-map c.args.wides.now plain_token in
    elim c.if-is_wide.branch [
      | else-is_wide w ↦
          let t = is_shown _ _ c.is_wide.ensures w.if-is_wide.false in
          rw (w.sink-is, w.now-is, w.next-is) (record {
            done = done ++ t.0 ∷ [];
            left = told_shown ss ws whole done c.loop-k.k c.loop-k.next _ there left _ t.0 t.1 refl;
            holds = same _ _ _ _ _ _ _ _
                (ap (λ o. token_text done ++ shown_line o) t.1 ∙ text_more done t.0)
                (more _ _ _ _ _ _ _ _ _ _ _ holds w.write_short-now.ensures);
          })
      | then-is_wide+then-next-wides w ↦
          let less : c.loop-k.next < length c.args.wides.now = omega (arith, w.if-next-wides.true) in
          let inside : c.loop-k.next < length (map plain_token c.args.wides.now) = omega (arith, less, many) in
          let t = plain_token w.index-wides-next.result in
          rw (w.sink-is, w.now-is, w.next-is) (record {
            done = done ++ t ∷ [];
            left = told_wide ss ws whole done c.loop-k.k c.loop-k.next _ there left _ t t
                (is_hidden _ _ c.is_wide.ensures w.if-is_wide.true) inside
                (ap plain_token w.index-wides-next.is
                ∙ sym (get_or-map plain_token c.args.wides.now c.loop-k.next w.index-wides-next.result t less)) refl;
            holds = same _ _ _ _ _ _ _ _ (text_more done t)
                (more _ _ _ _ _ _ _ _ _ _ _ holds w.write_token_on-now.ensures);
          })
      | then-is_wide+else-next-wides w ↦
          let all : length (map plain_token c.args.wides.now) ≤ c.loop-k.next
          = omega (arith, w.if-next-wides.false, many) in
          rw (w.sink-is, w.now-is, w.next-is) (record {
            done = done;
            left = told_missing ss ws whole done c.loop-k.k c.loop-k.next _ there left
                (is_hidden _ _ c.is_wide.ensures w.if-is_wide.true) all;
            holds = holds;
          })
    ]

pub returns : goal.returns
returns g c = same _ _ _ _ _ _ _ _
    (ap token_text (all_told c.args.shorts.now (map plain_token c.args.wides.now) c.loop-k.invariant.done c.loop-k.k
    c.loop-k.next c.loop-k.invariant.left (omega (arith, c.loop-k-test.false)))) c.loop-k.invariant.holds
