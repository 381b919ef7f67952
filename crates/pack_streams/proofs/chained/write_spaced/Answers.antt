use Rattle.std.proofs.Common.{◌≡◌, ℕ, ◌-◌, ◌<◌, ◌≤◌, sym, ap, ap₂, ◌∙◌, arith, List, ◌∷◌, length, take, drop, get_or}
use Rattle.std.proofs.Common.{replicate, append-nil}
use Rattle.std.proofs.lemmas.Fmt.{length-decimal-le}
use Rattle.std.proofs.lemmas.List.{drop_more, get_or-take, get_or-replicate, length-replicate, take_all}
use Rattle.std.specs.Fmt.{decimal}
use Rattle.pack_streams.proofs.Writers.{same}
use Rattle.pack_streams.proofs.chained.write_spaced.Goals as goal

pub write_digits-start-requires : goal.write_digits-start-requires
write_digits-start-requires g c = (
  let l = length-decimal-le 20 c.args.number (omega arith) (omega arith) (omega arith) in
      omega (arith, l),
  omega arith,
)

pub overflow_sub-start : goal.overflow_sub-start
overflow_sub-start g c = let l = length-decimal-le 20 c.args.number (omega arith) (omega arith) (omega arith) in
    omega (arith, l, c.write_digits-start.ensures.start)

pub returns-clause-goes_on : goal.returns-clause-goes_on
returns-clause-goes_on g c = same _ _ _ _ _ _ _ _
    (ap (λ (xs : List ℕ). take (21 - (start - 1)) xs) text ∙ take_all (21 - (start - 1)) (32 ∷ decimal c.args.number)
    (omega (arith, some, c.write_digits-start.ensures.start))) c.write_on.ensures.goes_on
  where
    room : List ℕ
    room = c.write_digits-start.new.buf

    start : ℕ
    start = c.write_digits-start.result

    some : 1 ≤ start
    some =
        let l = length-decimal-le 20 c.args.number (omega arith) (omega arith) (omega arith) in
        omega (arith, l, c.write_digits-start.ensures.start)

    space : get_or room (start - 1) 0 ≡ 32
    space =
        sym (get_or-take start room (start - 1) 0 (omega (arith, some)))
        ∙ (ap (λ (xs : List ℕ). get_or xs (start - 1) 0) c.write_digits-start.ensures.before
        ∙ (get_or-take start (replicate 21 32) (start - 1) 0 (omega (arith, some))
        ∙ get_or-replicate 21 (start - 1) 32 0 (omega (arith, some, c.write_digits-start.ensures.start))))

    inside : start - 1 < length room
    inside =
        let e = c.write_digits-start.auto.buf ∙ length-replicate {A = ℕ} 21 32 in
        omega (arith, some, c.write_digits-start.ensures.start, e)

    text : drop (start - 1) room ≡ 32 ∷ decimal c.args.number
    text = drop_more room (start - 1) 0 inside
        ∙ ap₂ (λ (x : ℕ) (xs : List ℕ). x ∷ xs) space
        (ap (λ (k : ℕ). drop k room) (omega (arith, some))
        ∙ (c.write_digits-start.ensures.written ∙ append-nil (decimal c.args.number)))
