use Rattle.std.proofs.Common.{refl, ap, ◌∙◌, Bool, None}
use Rattle.tree_terms.specs.ClassTree.{exceeding_where}
use Rattle.bin_search.proofs.Fitting.{fit_none}
use Rattle.bin_search.proofs.root.scales_token.Goals as goal

pub returns : goal.returns
returns c = record {
  tuple = c.in-Some.tuple.items;
  is = refl;
  first = ap (λ o. exceeding_where c.args.instance.now c.args.bins c.args.scales o)
      (fit_none c.args.instance.now c.requires.fit)
      ∙ (ap (λ (s : Bool). exceeding_where c.args.instance.now c.args.bins s None) c.if-not-scales.false
      ∙ c.in-Some.ensures.first);
}
