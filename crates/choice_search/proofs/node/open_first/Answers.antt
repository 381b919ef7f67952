use Rattle.std.proofs.Common.{ℕ, ◌<◌, ◌≤◌, refl, arith}
use Rattle.tree_terms.specs.Trees.{Verdict, Yes, No, count_of}
use Rattle.choice_search.specs.Choices.{rise_of}
use Rattle.choice_search.proofs.node.open_first.Goals as goal

-- what is past the set's own cost is past what the count rises by
less_rise : (x : Verdict) (left : ℕ) → left ≤ count_of x → left < rise_of x
less_rise (Yes numbers cost) left l = omega (arith, l)
less_rise (No tokens cost) left l = omega (arith, l)

pub returns-in-Past-clause-opened : goal.returns-in-Past-clause-opened
returns-in-Past-clause-opened c =
    let h = rw (c.deref.ensures.value, c.in-Past.is) at c.in_ok-decide_with_box.ensures.child in
    less_rise _ _ h.0

pub returns-then-own-left-clause-opened : goal.returns-then-own-left-clause-opened
returns-then-own-left-clause-opened c =
    let h = rw (c.deref.ensures.value, c.in-Refuted.is) at c.in_ok-decide_with_box.ensures.child in
    let k = h.counted in
    rw h.is (omega (arith, k, c.if-own-left.true))

pub returns-else-own-left-clause-opened : goal.returns-else-own-left-clause-opened
returns-else-own-left-clause-opened c =
    let h = rw (c.deref.ensures.value, c.in-Refuted.is) at c.in_ok-decide_with_box.ensures.child in
    let k = h.counted in
    let l = h.within in
    record {
      tokens = h.tokens;
      cost = h.cost;
      is = h.is;
      counted = omega (arith, k);
      within = omega (arith, k, l, c.if-own-left.false);
      appended = h.appended;
    }

pub returns-in-Fits-clause-opened : goal.returns-in-Fits-clause-opened
returns-in-Fits-clause-opened c =
    let h = rw (c.deref.ensures.value, c.in-Fits.is) at c.in_ok-decide_with_box.ensures.child in
    (record { decided = refl; fits = h.0 }, h.1)
