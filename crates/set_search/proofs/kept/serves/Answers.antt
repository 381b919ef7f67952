use Rattle.std.proofs.lemmas.Bool.{leb-true}
use Rattle.set_search.proofs.kept.serves.Goals as goal

pub returns-in-Yes : goal.returns-in-Yes
returns-in-Yes c = λ _. rw c.in-Yes.is tt

pub returns-in-No : goal.returns-in-No
returns-in-No c = λ _. rw c.in-No.is tt

pub returns-in-Past : goal.returns-in-Past
returns-in-Past c = λ h. rw c.in-Past.is (leb-true c.args.budget c.args.found_under h)
