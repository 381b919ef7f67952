use Rattle.std.proofs.Common.{◌<◌, ◌++◌, ◌∷◌, [], ℕ, List, ap, ap₂, sym, ◌∙◌, arith, length, Vec, Global, append_assoc}
use Rattle.std.proofs.lemmas.List.{length-map, map_push}
use Rattle.tree_terms.specs.OuterTrees.{set_verdict, yes_numbers}
use Rattle.bin_search.specs.Lists.{lists_of}
use Rattle.bin_search.proofs.ListsOf.{list_at}
use Rattle.bin_search.proofs.Answering.{answers_next}
use Rattle.bin_search.proofs.path.push_answers.Goals as goal

pub answer_of-requires : goal.answer_of-requires
answer_of-requires c =
    let l : c.loop-k.k < length c.args.sets.now = omega (arith, c.loop-k-test.true) in
    let m = length-map c.args.sets.now (λ (x : Vec ℕ Global). x.items) in
    let e = c.as_slice.ensures.value ∙ list_at c.args.sets.now c.loop-k.k c.index-sets-k.result l c.index-sets-k.is in
    rw (c.loop-k.invariant.same, e) (c.requires c.loop-k.k (omega (arith, l, m)))

pub loop-k-preserved : goal.loop-k-preserved
loop-k-preserved c =
    let l : c.loop-k.k < length c.args.sets.now = omega (arith, c.loop-k-test.true) in
    let e = rw (c.loop-k.invariant.same, c.as_slice.ensures.value) at c.in_ok-answer.ensures.answer in
    record {
      answers =
          ap lists_of c.in-Ok.ensures.items
          ∙ (map_push (λ (x : Vec ℕ Global). x.items) c.loop-k.answers.items c.in_ok-answer.answer
          ∙ (ap₂ (λ (xs : List (List ℕ)) (x : List ℕ). xs ++ x ∷ []) c.loop-k.invariant.answers e
          ∙ (append_assoc (lists_of c.args.answers.now.items) _ _
          ∙ ap (λ (xs : List (List ℕ)). lists_of c.args.answers.now.items ++ xs)
          (sym (answers_next (λ set. yes_numbers (set_verdict c.args.search.now.instance c.args.search.now.scales set))
          c.args.sets.now c.loop-k.k c.index-sets-k.result l c.index-sets-k.is)))));
      same = c.in_ok-answer.ensures.same ∙ c.loop-k.invariant.same;
    }
