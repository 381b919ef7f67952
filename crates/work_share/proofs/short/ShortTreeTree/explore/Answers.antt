use Rattle.std.proofs.Common.{◌≡◌}
use Rattle.std.proofs.lemmas.Slice.Eq.{starts_is}
use Rattle.std.proofs.lemmas.Bool.Decides.{Decides-eqb}
use Rattle.work_share.proofs.short.ShortTreeTree.explore.Goals as goal

pub returns-clause-short : goal.returns-clause-short
returns-clause-short g c rest e =
    let same : c.as_slice.result.now ≡ c.args.self.now.path = cc (c.as_slice.ensures.value, c.self.view_is) in
    let begins = rw (← same) at e in
    let is = starts_is Decides-eqb c.args.path.now c.as_slice.result.now c.starts_with.result
    c.starts_with.ensures.value in
    absurd (cc (is.1 rest begins, c.if-starts_with.false))
