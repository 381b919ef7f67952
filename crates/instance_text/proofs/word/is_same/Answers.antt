use Rattle.std.proofs.lemmas.Slice.Eq.{slice_eq-Decides}
use Rattle.std.proofs.lemmas.Bool.Decides.{Decides-eqb}
use Rattle.text_terms.proofs.Keys.{same_bytes_is}
use Rattle.instance_text.proofs.word.is_same.Goals as goal

pub returns : goal.returns
returns c = same_bytes_is c.args.word.now c.args.key.now c.eq.result (slice_eq-Decides Decides-eqb _ _ _ c.eq.ensures)
