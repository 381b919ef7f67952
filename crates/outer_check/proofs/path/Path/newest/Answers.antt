use Rattle.std.proofs.Common.{◌≡◌, ◌-◌, ◌≤◌, arith, ap, sym, ◌∙◌, length, reverse, take, get_or, ◌∷◌}
use Rattle.outer_check.specs.Frames.{PlainPath}
use Rattle.outer_check.proofs.Paths.{newest_is}
use Rattle.outer_check.proofs.path.Path.newest.Goals as goal

pub returns-clause-newest : goal.returns-clause-newest
returns-clause-newest c =
    let items = c.self.inside.frames.items in
    let counted = c.len-count.ensures in
    let more = c.if-count-eq0.false in
    let some : 1 ≤ length items = omega (arith, counted, more) in
    let same : c.len-count.result ≡ length items = omega (arith, counted) in (
      reverse (take (length items - 1) items),
      ap (λ (p : PlainPath). p.frames) (sym c.self.view_is) ∙ (newest_is items c.index.result.now some
          ∙ ap (λ x. x ∷ reverse (take (length items - 1) items))
          (sym (c.index.ensures ∙ ap (λ k. get_or items (k - 1) c.index.result.now) same))),
    )
