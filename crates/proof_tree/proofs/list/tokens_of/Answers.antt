use Rattle.std.proofs.Common.{◌<◌, ◌≤◌, ◌∙◌, length, ap, sym, arith, map, Vec, Global}
use Rattle.std.proofs.lemmas.List.{get_or-map, length-map}
use Rattle.proof_tree.specs.declared.token.Token.{Token}
use Rattle.proof_tree.specs.Plain.{plain_token}
use Rattle.proof_tree.specs.Shorts.{listed}
use Rattle.proof_tree.proofs.Shorts.{told_shown, told_wide, told_missing}
use Rattle.proof_tree.proofs.list.tokens_of.Goals.{in-Some+in_ok-push_token-in-Some}
use Rattle.proof_tree.proofs.list.tokens_of.Goals.{in-None+then-next-wides+in_ok-copy_token-in-None+in_ok-push_token-in-None}
use Rattle.proof_tree.proofs.list.tokens_of.Goals.{in-None+else-next-wides}
use Rattle.proof_tree.proofs.list.tokens_of.Goals as goal

pub loop-short-preserved : goal.loop-short-preserved
loop-short-preserved c =
    let there : c.loop-short.short-index < length c.args.shorts.now = omega (arith, c.loop-short-test.true) in
    let left = c.loop-short.invariant.left in
    let ss = c.args.shorts.now in
    let ws = map plain_token c.args.wides.now in
    let whole = listed ss ws in
    let done = map plain_token c.loop-short.tokens.items in
    let i = c.loop-short.short-index in
    let n = c.loop-short.next in
    let many = length-map c.args.wides.now plain_token in
    elim c.match-found.branch [
      | in-Some+in_ok-push_token-in-Some w ↦ rw w.next-is (record {
        left = told_shown ss ws whole done i n _ there left _ _ (rw w.in-Some.is at c.in_ok-found.ensures)
            (ap (λ (x : Vec Token Global). map plain_token x.items) w.tokens-is
            ∙ w.in_ok-push_token-in-Some.ensures.appends);
        within = c.loop-short.invariant.within;
      })
      | in-None+then-next-wides+in_ok-copy_token-in-None+in_ok-push_token-in-None w ↦
          let less : c.loop-short.next < length c.args.wides.now = omega (arith, w.if-next-wides.true) in
          let more : c.loop-short.next < length (map plain_token c.args.wides.now) = omega (arith, less, many) in
          let wide = plain_token w.index-wides-next.result in
          rw w.next-is (record {
            left = told_wide ss ws whole done i n _ there left _ _ wide (rw w.in-None.is at c.in_ok-found.ensures) more
                (w.in_ok-copy_token-in-None.ensures ∙ (ap plain_token w.index-wides-next.is
                ∙ sym (get_or-map plain_token c.args.wides.now c.loop-short.next w.index-wides-next.result wide less)))
                (ap (λ (x : Vec Token Global). map plain_token x.items) w.tokens-is
                ∙ w.in_ok-push_token-in-None.ensures.appends);
            within = omega (arith, w.if-next-wides.true);
          })
      | in-None+else-next-wides w ↦
          let all : length (map plain_token c.args.wides.now) ≤ c.loop-short.next
          = omega (arith, w.if-next-wides.false, many) in
          rw (w.next-is, w.tokens-is) (record {
            left = told_missing ss ws whole done i n _ there left (rw w.in-None.is at c.in_ok-found.ensures) all;
            within = c.loop-short.invariant.within;
          })
    ]
