use Rattle.std.proofs.Common.{◌+◌, arith, length}
use Rattle.std.proofs.lemmas.Nat.{div-add-mod'}
use Rattle.answer_streams.proofs.knapsack_documents.write_taken.Goals as goal

pub write_all_numbered-requires : goal.write_all_numbered-requires
write_all_numbered-requires g c =
    let e = div-add-mod' (length c.args.numbers.now) (c.dims-dims.result + 1) in
    omega (arith, e)

pub returns : goal.returns
returns g c = rw c.dims-dims.ensures.value at c.write_all_numbered.ensures
