use Rattle.std.proofs.Common.{◌≡◌, ◌+◌, ◌++◌, ◌∷◌, [], ℕ, List, ap, ◌∙◌, arith, take, drop, map, Vec, Global}
use Rattle.std.proofs.lemmas.List.{map_push}
use Rattle.tree_terms.specs.OuterTrees.{set_verdict, yes_numbers}
use Rattle.set_search.specs.Children.{IsFoundSet}
use Rattle.bin_search.specs.Lists.{lists_of}
use Rattle.bin_search.proofs.Answering.{in_take, in_drop, all_behind, with_parts, with_new}
use Rattle.bin_search.proofs.path.answers_with.Goals.{then-b-bins+in_ok-push_answers-2, else-b-bins}
use Rattle.bin_search.proofs.path.answers_with.Goals as goal

pub push_answers-requires : goal.push_answers-requires
push_answers-requires c = in_take (λ set. IsFoundSet c.args.search.now.instance c.args.search.now.scales set)
    c.args.bins.now c.args.b c.requires.found

pub push_answers-requires-then-b-bins : goal.push_answers-requires-then-b-bins
push_answers-requires-then-b-bins c =
    rw (c.in_ok-push_answers.ensures.same, all_behind c.args.bins.now (c.args.b + 1))
    (in_drop (λ set. IsFoundSet c.args.search.now.instance c.args.search.now.scales set) c.args.bins.now
    (c.args.b + 1) c.requires.found)

pub returns-clause-answers : goal.returns-clause-answers
returns-clause-answers c =
    let f = λ (set : List ℕ). yes_numbers (set_verdict c.args.search.now.instance c.args.search.now.scales set) in
    let one : lists_of c.push.new.self.items ≡ map f (lists_of (take c.args.b c.args.bins.now))
    ++ c.args.numbers.items ∷ []
    = ap lists_of c.in-Ok.ensures.items
    ∙ (map_push (λ (x : Vec ℕ Global). x.items) c.push_answers.new.answers.items c.args.numbers
    ∙ ap (λ (xs : List (List ℕ)). xs ++ c.args.numbers.items ∷ [])
    (c.in_ok-push_answers.ensures.answers
    ∙ ap (λ (xs : List (Vec ℕ Global)). lists_of xs ++ map f (lists_of (take c.args.b c.args.bins.now)))
    c.new-answers.ensures.items)) in
    elim c.if-b-bins.branch [
      | then-b-bins+in_ok-push_answers-2 w ↦
          ap (λ (x : Vec (Vec ℕ Global) Global). lists_of x.items) w.answers-is
          ∙ (rw (c.in_ok-push_answers.ensures.same, all_behind c.args.bins.now (c.args.b + 1))
          at w.in_ok-push_answers-2.ensures.answers
          ∙ (ap (λ (xs : List (List ℕ)). xs ++ map f (lists_of (drop (c.args.b + 1) c.args.bins.now))) one
          ∙ with_parts f c.args.bins.now c.args.b c.args.numbers.items (omega (arith, w.if-b-bins.true))))
      | else-b-bins w ↦
          ap (λ (x : Vec (Vec ℕ Global) Global). lists_of x.items) w.answers-is
          ∙ (one ∙ with_new f c.args.bins.now c.args.b c.args.numbers.items
          (omega (arith, w.if-b-bins.false, c.requires.near)))
    ]
