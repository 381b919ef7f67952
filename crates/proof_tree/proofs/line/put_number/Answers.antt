use Rattle.std.proofs.Common.{◌≡◌, ℕ, ◌-◌, ◌<◌, ◌≤◌, sym, ap, ap₂, ◌∙◌, arith, List, ◌∷◌, length, take, drop, get_or}
use Rattle.std.proofs.lemmas.Fmt.{length-decimal-le}
use Rattle.std.proofs.lemmas.List.{drop_more, get_or-take, get_or-replicate, take-replicate, take-take}
use Rattle.proof_tree.proofs.line.put_number.Goals as goal

pub write_digits-requires : goal.write_digits-requires
write_digits-requires c = (
  let l = length-decimal-le 20 c.args.number (omega arith) (omega arith) (omega arith) in
      omega (arith, l),
  omega arith,
)

pub overflow_sub-result : goal.overflow_sub-result
overflow_sub-result c = let l = length-decimal-le 20 c.args.number (omega arith) (omega arith) (omega arith) in
    omega (arith, l, c.write_digits.ensures.start)

pub returns-clause-near : goal.returns-clause-near
returns-clause-near c = let l = length-decimal-le 20 c.args.number (omega arith) (omega arith) (omega arith) in
    omega (arith, l, c.write_digits.ensures.start)

pub returns-clause-spaces : goal.returns-clause-spaces
returns-clause-spaces c =
    sym (take-take (start - 1) start c.write_digits.new.buf (omega arith))
    ∙ (ap (λ (xs : List ℕ). take (start - 1) xs) c.write_digits.ensures.before
    ∙ (take-take (start - 1) start c.args.room.now (omega arith)
    ∙ (sym (take-take (start - 1) c.args.end c.args.room.now (omega (arith, c.write_digits.ensures.start)))
    ∙ (ap (λ (xs : List ℕ). take (start - 1) xs) c.requires.spaces
    ∙ take-replicate (start - 1) c.args.end 32 (omega (arith, c.write_digits.ensures.start))))))
  where
    start : ℕ
    start = c.write_digits.result

pub returns-clause-written : goal.returns-clause-written
returns-clause-written c = drop_more room (start - 1) 0 inside
    ∙ ap₂ (λ (x : ℕ) (xs : List ℕ). x ∷ xs) space
    (ap (λ (k : ℕ). drop k room) (omega (arith, some)) ∙ c.write_digits.ensures.written)
  where
    room : List ℕ
    room = c.write_digits.new.buf

    start : ℕ
    start = c.write_digits.result

    some : 1 ≤ start
    some =
        let l = length-decimal-le 20 c.args.number (omega arith) (omega arith) (omega arith) in
        omega (arith, l, c.write_digits.ensures.start)

    space : get_or room (start - 1) 0 ≡ 32
    space =
        sym (get_or-take start room (start - 1) 0 (omega (arith, some)))
        ∙ (ap (λ (xs : List ℕ). get_or xs (start - 1) 0)
        (c.write_digits.ensures.before
        ∙ (sym (take-take start c.args.end c.args.room.now (omega (arith, c.write_digits.ensures.start)))
        ∙ (ap (λ (xs : List ℕ). take start xs) c.requires.spaces
        ∙ take-replicate start c.args.end 32 (omega (arith, c.write_digits.ensures.start)))))
        ∙ get_or-replicate start (start - 1) 32 0 (omega (arith, some)))

    inside : start - 1 < length room
    inside = omega (arith, some, c.write_digits.ensures.start, c.write_digits.auto.buf)
