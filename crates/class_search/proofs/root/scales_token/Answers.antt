use Rattle.std.proofs.Common.{refl}
use Rattle.class_search.proofs.root.scales_token.Goals as goal

pub returns : goal.returns
returns c = record {
  tuple = c.in-Some.tuple.items;
  is = refl;
  found = rw c.if-not-scales.false c.in-Some.ensures.first;
}
