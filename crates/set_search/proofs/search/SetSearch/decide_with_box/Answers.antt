use Rattle.std.proofs.Common.{◌≤◌, refl, sym, subst, arith, List, [], ℕ, length, append-nil}
use Rattle.packing_terms.specs.OuterRefutation.{insert_box}
use Rattle.packing_terms.proofs.WithBoxes.{inserted_some}
use Rattle.proof_tree.specs.Shorts.{AreLonger}
use Rattle.set_search.proofs.Grown.{on_err}
use Rattle.set_search.proofs.search.SetSearch.decide_with_box.Goals as goal

pub grown-requires-clause-some : goal.grown-requires-clause-some
grown-requires-clause-some c =
    subst (λ (us : List ℕ). 1 ≤ length us) (sym c.in_ok-fill_with.ensures) (inserted_some c.args.v c.args.keep.now)

pub returns-clause-child : goal.returns-clause-child
returns-clause-child c =
    let appended = c.in_ok-cost.ensures.appended (insert_box c.args.v c.args.keep.now) c.key_with-key.ensures
    (rw c.locate-source.ensures c.requires) in
    let same = rw c.in_default.is at appended in
    rw (c.take_spare-set.ensures, c.locate-source.ensures, c.in_ok-fill_with.ensures, same) at c.grown.ensures.child

pub returns-in-Some-clause-child : goal.returns-in-Some-clause-child
returns-in-Some-clause-child c =
    let appended = c.in_ok-cost.ensures.appended (insert_box c.args.v c.args.keep.now) c.key_with-key.ensures
    (rw c.locate-source.ensures c.requires) in
    let found = rw (c.in-Some.is, c.locate-source.ensures) at appended in
    record {
      tokens = found.tokens;
      cost = c.in-Some.cost;
      is = found.is;
      counted = refl;
      within = (let l = found.within in omega (arith, l, c.if-left-eq0.false));
      appended = found.appended;
    }

pub returns-in_err-fill_with-clause-front : goal.returns-in_err-fill_with-clause-front
returns-in_err-fill_with-clause-front c =
    let appended = c.in_ok-cost.ensures.appended (insert_box c.args.v c.args.keep.now) c.key_with-key.ensures
    (rw c.locate-source.ensures c.requires) in
    let same = rw c.in_default.is at appended in
    rw same
    (on_err (AreLonger c.args.tokens.now c.args.tokens.now) c.from_residual-in_err-fill_with.result
    ([], sym (append-nil c.args.tokens.now)))
