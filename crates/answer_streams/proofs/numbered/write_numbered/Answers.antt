use Rattle.std.proofs.Common.{◌≡◌, ◌+◌, suc, arith, map, get_or}
use Rattle.std.specs.Fmt.{decimal}
use Rattle.packing_terms.specs.Sums.{below}
use Rattle.instance_text.specs.Writing.{after_spaces}
use Rattle.pack_streams.proofs.Writers.{more, same}
use Rattle.answer_streams.proofs.NumberedTexts.{numbered_line}
use Rattle.answer_streams.proofs.numbered.write_numbered.Goals as goal

pub returns : goal.returns
returns g c =
    let e : get_or c.args.numbers.now c.args.start 0 + 1 ≡ suc (get_or c.args.numbers.now c.args.start 0) =
    omega arith in
    same _ _ _ _ _ _ _ _ (numbered_line c.args.key.now (decimal (suc (get_or c.args.numbers.now c.args.start 0)))
    (after_spaces (map (λ i. decimal (get_or c.args.numbers.now (c.args.start + (1 + i)) 0)) (below c.args.dims))))
    (more _ _ _ _ _ _ _ _ _ _ _ c.write_on-named.ensures.goes_on
    (more _ _ _ _ _ _ _ _ _ _ _ c.write_on-spaced.ensures.goes_on
    (more _ _ _ _ _ _ _ _ _ _ _ (rw e at c.write_number-numbered.ensures.goes_on)
    (more _ _ _ _ _ _ _ _ _ _ _ c.write_behind-placed.ensures c.write_on.ensures.goes_on))))
