-- What was met on a way, at each turn of a walk.
use Rattle.std.proofs.Common.{◌≡◌, ℕ, zero, suc, ◌+◌, ◌<◌, ◌≤◌, refl, sym, ap, ap₂, subst, ◌∙◌, arith, List, [], ◌∷◌}
use Rattle.std.proofs.Common.{◌++◌, length, Option, Some, None, append_assoc, append-nil, add-zero}
use Rattle.std.proofs.lemmas.List.{length-append}
use Rattle.packing_terms.specs.declared.Exclusion.{Exclusion}
use Rattle.packing_terms.specs.Packing.{PlainInstance}
use Rattle.packing_terms.specs.Tokens.{PlainToken}
use Rattle.packing_terms.specs.Tokens.PlainToken.{Rules}
use Rattle.edge_state.specs.Edges.{oldest}
use Rattle.edge_state.proofs.Oldest.{oldest_more, oldest_all, oldest_count}
use Rattle.tree_terms.specs.Trees.{SearchTree, Verdict, Yes, No, no_tokens, join, outcome, count_of, under_budget, Decided}
use Rattle.tree_terms.specs.InnerTree.{tree_below}
use Rattle.tree_terms.proofs.Joins.{join_assoc, join_nothing, nothing_join, split_joins, count_join_no}
use Rattle.tree_terms.proofs.NodeSteps.{set_tree}
use Rattle.tree_terms.proofs.UnderBudget.{within_budget}
use Rattle.class_search.specs.declared.splits.Child.TheVariants.{First, Second}
use Rattle.class_search.specs.declared.splits.Split.{Split}
use Rattle.class_search.specs.declared.visit.NodeKind.{NodeKind}
use Rattle.class_search.specs.declared.visit.NodeKind.TheVariants.{Conflict, Settled, Divided}
use Rattle.class_search.specs.declared.walk.Size.{Size}
use Rattle.class_search.specs.declared.walk.Frame.{Frame}
use Rattle.class_search.specs.Splits.{plain_split, added, with_all}
use Rattle.class_search.specs.Visits.{Grows, kind_tree, IsMet}
use Rattle.class_search.specs.Walks.{size_of_both, child_in, child_tree, frame_tree, root_of, IsFirst, IsFrame, AreMet}
use Rattle.class_search.specs.Walks.{IsAtNode, IsAfterSubtree}
use Rattle.class_search.proofs.Closings.{with_sets}
use Rattle.class_search.proofs.Walking.{length_more, cut_back, with_grows, grows_on}

-- verdicts
split_joined : (tokens : List PlainToken) (count : ℕ) (token : PlainToken) (a b w : Verdict)
    → join (No tokens count) (join (join (No (token ∷ []) 1) (join a (join b no_tokens))) w)
    ≡ join (No (tokens ++ token ∷ []) (count + 1)) (join a (join b w))
split_joined tokens count token a b w =
    ap (λ x. join (No tokens count) x) (join_assoc (No (token ∷ []) 1) (join a (join b no_tokens)) w)
    ∙ (sym (join_assoc (No tokens count) (No (token ∷ []) 1) (join (join a (join b no_tokens)) w))
    ∙ ap (λ x. join (No (tokens ++ token ∷ []) (count + 1)) x)
    (ap (λ y. join (join a y) w) (join_nothing b) ∙ join_assoc a b w))

both_no : (t : PlainToken) (xs ys : List PlainToken) (m n : ℕ)
    → join (No (t ∷ []) 1) (join (No xs m) (join (No ys n) no_tokens)) ≡ No ((t ∷ xs) ++ ys) (1 + (m + n))
both_no t xs ys m n = ap₂ No (ap (λ l. t ∷ (xs ++ l)) (append-nil ys)) (omega arith)

regroup : (before xs ys : List PlainToken) (t : PlainToken)
    → ((before ++ t ∷ []) ++ xs) ++ ys ≡ before ++ ((t ∷ xs) ++ ys)
regroup before xs ys t = append_assoc (before ++ t ∷ []) xs ys ∙ append_assoc before (t ∷ []) (xs ++ ys)

module _ (instance : PlainInstance) where
  pub outcome_here : (es : List Exclusion) (s : Split) (k : ℕ) → outcome (kind_tree instance es (Divided s k))
      ≡ join (No ((plain_split s).token ∷ []) 1)
      (join (outcome (tree_below instance (added s First ++ es)))
      (join (outcome (tree_below instance (added s Second ++ es))) no_tokens))
  outcome_here es s k =
      split_joins (plain_split s).token 1 2
      (λ j. elim j [
        | zero ↦ tree_below instance ((plain_split s).first ++ es)
        | suc _ ↦
            tree_below instance ((plain_split s).second ++ es)
      ])

  child_is : (add es gs : List Exclusion) (kind : NodeKind) → IsMet instance (with_all add es) gs kind
      → kind_tree instance gs kind ≡ tree_below instance (add ++ es)
  child_is add es gs kind met = sym met.tree ∙ set_tree instance (with_all add es) (add ++ es) (with_sets add es)

  grown_by : (add es gs : List Exclusion) (kind : NodeKind) → IsMet instance (with_all add es) gs kind → Grows es gs
  grown_by add es gs kind met = grows_on es (with_all add es) gs (with_grows add es) met.grown

  longer : (es gs : List Exclusion) → Grows es gs → length es ≤ length gs
  longer es gs g = let l = length_more g.more es in let h = ap length g.grown in omega (arith, l, h)

  -- into the first child
  pub met_first : (whole : SearchTree) (fs : List Frame) (es gs : List Exclusion) (ts : List PlainToken) (c : ℕ)
      (s : Split) (k : ℕ) (kind : NodeKind)
      → IsAtNode instance whole fs es ts c (Divided s k) → IsMet instance (with_all (added s First) es) gs kind
      → IsAtNode instance whole (record { split = s; mark = length es; rank = k; first = None } ∷ fs) gs
      (ts ++ (plain_split s).token ∷ []) (c + 1) kind
  met_first whole fs es gs ts c s k kind at_node met = record {
    met = (
      record {
        inside = longer es gs grows;
        divided = rw cut at_node.known;
        leads = rw cut (child_is (added s First) es gs kind met);
        before = ts;
        count_before = c;
        own = [];
        own_count = 0;
        first = (refl, refl);
        all_tokens = sym (append-nil (ts ++ (plain_split s).token ∷ []));
        all_count = omega arith;
      },
      subst (λ (l : List Exclusion). AreMet instance fs l (kind_tree instance l (Divided s k)) ts c) (sym cut)
          at_node.met,
    );
    known = met.known;
    root = subst (λ (l : List Exclusion). root_of instance fs l (kind_tree instance l (Divided s k)) ≡ whole) (sym cut)
        at_node.root;
  }
    where
      grows : Grows es gs
      grows = grown_by (added s First) es gs kind met

      cut : oldest (length es) gs ≡ es
      cut = cut_back es gs grows

  -- a conflict is finished at once
  pub met_leaf : (whole : SearchTree) (fs : List Frame) (es : List Exclusion) (ts : List PlainToken) (c : ℕ)
      → IsAtNode instance whole fs es ts c Conflict
      → IsAfterSubtree instance whole fs es (ts ++ Rules ∷ []) c (record { tokens = 1; count = 0 })
  met_leaf whole fs es ts c at_node = record {
    here = kind_tree instance es Conflict;
    before = ts;
    count_before = c;
    own = Rules ∷ [];
    met = at_node.met;
    gives = refl;
    root = at_node.root;
    all_tokens = refl;
    all_count = omega arith;
    own_size = refl;
  }

  -- behind the second child the split is finished
  pub met_both : (whole : SearchTree) (f : Frame) (fs : List Frame) (es : List Exclusion) (ts : List PlainToken) (c : ℕ)
      (size first : Size) → f.first ≡ Some first
      → IsAfterSubtree instance whole (f ∷ fs) es ts c size
      → IsAfterSubtree instance whole fs (oldest f.mark es) ts c (size_of_both first size)
  met_both whole f fs es ts c size first is b =
      let s = b.met.0 in
      let done = subst (λ (o : Option Size). IsFirst instance f es o s.own s.own_count) is s.first in
      let token = (plain_split f.split).token in
      record {
        here = frame_tree instance f es;
        before = s.before;
        count_before = s.count_before;
        own = (token ∷ s.own) ++ b.own;
        met = b.met.1;
        gives =
            outcome_here (oldest f.mark es) f.split f.rank
            ∙ (ap₂ (λ u v. join (No (token ∷ []) 1) (join u (join v no_tokens))) done.2
            (sym (ap outcome (second_is s.leads)) ∙ b.gives)
            ∙ (both_no token s.own b.own s.own_count size.count
            ∙ ap (λ n. No ((token ∷ s.own) ++ b.own) (1 + (n + size.count))) done.1));
        root = b.root;
        all_tokens = b.all_tokens ∙ (ap (λ l. l ++ b.own) s.all_tokens ∙ regroup s.before s.own b.own token);
        all_count = (let m = b.all_count in let n = s.all_count in let k = done.1 in omega (arith, m, n, k));
        own_size = (let l = length-append (token ∷ s.own) b.own in let m = done.0 in let n = b.own_size in
            omega (arith, l, m, n));
      }
    where
      second_is : b.here ≡ child_tree instance f es
          → b.here ≡ tree_below instance (added f.split Second ++ oldest f.mark es)
      second_is e = e ∙ ap (λ (o : Option Size). tree_below instance
          (added f.split (child_in o) ++ oldest f.mark es)) is

  -- a size is within what was met
  pub size_within : (whole : SearchTree) (fs : List Frame) (es : List Exclusion) (ts : List PlainToken) (c : ℕ)
      (size : Size) → IsAfterSubtree instance whole fs es ts c size
      → (size.tokens ≤ length ts) × (size.count ≤ c)
  size_within whole fs es ts c size b = (
    (let e = ap length b.all_tokens in let l = length-append b.before b.own in let m = b.own_size in
        omega (arith, e, l, m)),
    (let n = b.all_count in omega (arith, n)),
  )

  -- behind the first child, into the second
  pub met_second : (whole : SearchTree) (f : Frame) (fs : List Frame) (es gs : List Exclusion) (ts : List PlainToken)
      (c : ℕ) (size : Size) (kind : NodeKind) → f.first ≡ None
      → IsAfterSubtree instance whole (f ∷ fs) es ts c size
      → IsMet instance (with_all (added f.split Second) (oldest f.mark es)) gs kind
      → IsAtNode instance whole (record { split = f.split; mark = f.mark; rank = f.rank; first = Some size } ∷ fs)
      gs ts c kind
  met_second whole f fs es gs ts c size kind is b met =
      let s = b.met.0 in
      let none = subst (λ (o : Option Size). IsFirst instance f es o s.own s.own_count) is s.first in
      let token = (plain_split f.split).token in
      let grows = grown_by (added f.split Second) (oldest f.mark es) gs kind met in
      let count = oldest_count f.mark es s.inside in
      let cut : oldest f.mark gs ≡ oldest f.mark es =
      ap (oldest f.mark) grows.grown
      ∙ (oldest_more f.mark grows.more (oldest f.mark es) (omega (arith, count))
      ∙ oldest_all (oldest f.mark es) f.mark (sym count)) in
      record {
        met = (
          record {
            inside = (let l = longer (oldest f.mark es) gs grows in omega (arith, l, count));
            divided = rw cut s.divided;
            leads = rw cut (child_is (added f.split Second) (oldest f.mark es) gs kind met);
            before = s.before;
            count_before = s.count_before;
            own = b.own;
            own_count = size.count;
            first = (b.own_size, refl, rw cut (sym (ap outcome (first_is s.leads)) ∙ b.gives));
            all_tokens = b.all_tokens ∙ ap (λ l. l ++ b.own)
                (s.all_tokens ∙ (ap (λ l. (s.before ++ token ∷ []) ++ l) none.0 ∙ append-nil (s.before ++ token ∷ [])));
            all_count = (let m = b.all_count in let n = s.all_count in let k = none.1 in omega (arith, m, n, k));
          },
          subst (λ (l : List Exclusion). AreMet instance fs l (kind_tree instance l (Divided f.split f.rank)) s.before
              s.count_before) (sym cut) b.met.1,
        );
        known = met.known;
        root = subst (λ (l : List Exclusion). root_of instance fs l (kind_tree instance l (Divided f.split f.rank))
            ≡ whole) (sym cut) b.root;
      }
    where
      first_is : b.here ≡ child_tree instance f es
          → b.here ≡ tree_below instance (added f.split First ++ oldest f.mark es)
      first_is e = e ∙ ap (λ (o : Option Size). tree_below instance (added f.split (child_in o) ++ oldest f.mark es)) is

  -- what a tree gives of which a part ends at a split, seen at the child
  frame_joins : (whole : Verdict) (f : Frame) (es : List Exclusion) (here : SearchTree) (ts : List PlainToken) (c : ℕ)
      (s : IsFrame instance f es here ts c) (rest : Verdict)
      → whole ≡ join (No s.before s.count_before) (join (outcome (frame_tree instance f es)) rest)
      → (more : Verdict) × (whole ≡ join (No ts c) (join (outcome here) more))
  frame_joins whole f es here ts c s rest up = go f.first refl
    where
      token : PlainToken
      token = (plain_split f.split).token

      first_child : Verdict
      first_child = outcome (tree_below instance (added f.split First ++ oldest f.mark es))

      second_child : Verdict
      second_child = outcome (tree_below instance (added f.split Second ++ oldest f.mark es))

      joined : whole ≡ join (No (s.before ++ token ∷ []) (s.count_before + 1))
          (join first_child (join second_child rest))
      joined =
          up
          ∙ (ap (λ v. join (No s.before s.count_before) (join v rest)) (outcome_here (oldest f.mark es) f.split f.rank)
          ∙ split_joined s.before s.count_before token first_child second_child rest)

      here_is : (o : Option Size) → f.first ≡ o
          → here ≡ tree_below instance (added f.split (child_in o) ++ oldest f.mark es)
      here_is o is = s.leads ∙ ap (λ (x : Option Size). tree_below instance
          (added f.split (child_in x) ++ oldest f.mark es)) is

      go : (o : Option Size) → f.first ≡ o → (more : Verdict) × (whole ≡ join (No ts c) (join (outcome here) more))
      go None is =
          let none = subst (λ (o : Option Size). IsFirst instance f es o s.own s.own_count) is s.first in
          let tokens : ts ≡ s.before ++ token ∷ [] =
          s.all_tokens ∙ (ap (λ l. (s.before ++ token ∷ []) ++ l) none.0 ∙ append-nil (s.before ++ token ∷ [])) in
          let count : c ≡ s.count_before + 1 = (let n = s.all_count in let k = none.1 in omega (arith, n, k)) in (
            join second_child rest,
            joined
                ∙ ap₂ join (sym (ap₂ No tokens count))
                (ap (λ (t : SearchTree). join (outcome t) (join second_child rest)) (sym (here_is None is))),
          )
      go (Some size) is =
          let done = subst (λ (o : Option Size). IsFirst instance f es o s.own s.own_count) is s.first in (
            rest,
            joined
                ∙ (ap (λ v. join (No (s.before ++ token ∷ []) (s.count_before + 1))
                (join v (join second_child rest))) done.2
                ∙ (sym (join_assoc (No (s.before ++ token ∷ []) (s.count_before + 1)) (No s.own s.own_count)
                (join second_child rest))
                ∙ ap₂ join (sym (ap₂ No s.all_tokens s.all_count))
                (ap (λ (t : SearchTree). join (outcome t) rest) (sym (here_is (Some size) is))))),
          )

  -- what the whole tree gives: what was met, and then the node where the way ends, and then some more
  pub met_joins : (fs : List Frame) (es : List Exclusion) (here : SearchTree) (ts : List PlainToken) (c : ℕ)
      → AreMet instance fs es here ts c
      → (rest : Verdict) × (outcome (root_of instance fs es here) ≡ join (No ts c) (join (outcome here) rest))
  met_joins [] es here ts c m = (
    no_tokens,
    rw (m.0, m.1) (sym (nothing_join (join (outcome here) no_tokens) ∙ join_nothing (outcome here))),
  )
  met_joins (f ∷ fs) es here ts c m =
      let up = met_joins fs (oldest f.mark es) (frame_tree instance f es) m.0.before m.0.count_before m.1 in
      frame_joins (outcome (root_of instance fs (oldest f.mark es) (frame_tree instance f es))) f es here ts c
      m.0 up.0 up.1

  -- the count of what was met is no more than that of the whole tree, and less where the way ends at a split
  pub met_count : (fs : List Frame) (es : List Exclusion) (here : SearchTree) (ts : List PlainToken) (c : ℕ)
      → AreMet instance fs es here ts c
      → c ≤ count_of (outcome (root_of instance fs es here))
  met_count fs es here ts c m =
      let j = met_joins fs es here ts c m in
      let e = ap count_of j.1 in
      let n = count_join_no ts c (join (outcome here) j.0) in
      omega (arith, e, n)

  pub split_count : (whole : SearchTree) (fs : List Frame) (es : List Exclusion) (ts : List PlainToken) (c : ℕ)
      (s : Split) (k : ℕ) → IsAtNode instance whole fs es ts c (Divided s k)
      → c < count_of (outcome whole)
  split_count whole fs es ts c s k at_node =
      let j = met_joins fs es (kind_tree instance es (Divided s k)) ts c at_node.met in
      let e = sym (ap (λ (t : SearchTree). count_of (outcome t)) at_node.root) ∙ ap count_of j.1 in
      let n = count_join_no ts c (join (outcome (kind_tree instance es (Divided s k))) j.0) in
      let first_child = outcome (tree_below instance (added s First ++ es)) in
      let second_child = outcome (tree_below instance (added s Second ++ es)) in
      let f = ap (λ v. count_of (join v j.0)) (outcome_here es s k)
      ∙ ap count_of (join_assoc (No ((plain_split s).token ∷ []) 1)
      (join first_child (join second_child no_tokens)) j.0) in
      let m = count_join_no ((plain_split s).token ∷ []) 1
      (join (join first_child (join second_child no_tokens)) j.0) in
      omega (arith, e, n, f, m)

  -- the outcome at the end
  pub settled_told : (whole : SearchTree) (fs : List Frame) (es : List Exclusion) (ts : List PlainToken) (c cap : ℕ)
      (numbers : List ℕ) → AreMet instance fs es (kind_tree instance es Settled) ts c
      → root_of instance fs es (kind_tree instance es Settled) ≡ whole
      → outcome (kind_tree instance es Settled) ≡ Yes numbers 0 → c ≤ cap
      → Decided (Yes numbers c) ≡ under_budget cap (outcome whole)
  settled_told whole fs es ts c cap numbers met root found within =
      let j = met_joins fs es (kind_tree instance es Settled) ts c met in
      let e : outcome whole ≡ Yes numbers c =
      sym (ap outcome root) ∙ (j.1 ∙ (ap (λ v. join (No ts c) (join v j.0)) found
      ∙ ap (λ n. Yes numbers n) (add-zero c))) in
      sym (ap (under_budget cap) e ∙ within_budget cap (Yes numbers c) within)

  pub refuted_told : (whole : SearchTree) (es : List Exclusion) (ts : List PlainToken) (c cap : ℕ) (size : Size)
      → IsAfterSubtree instance whole [] es ts c size → c ≤ cap
      → Decided (No ts c) ≡ under_budget cap (outcome whole)
  refuted_told whole es ts c cap size b within =
      let tokens : ts ≡ b.own = b.all_tokens ∙ ap (λ l. l ++ b.own) b.met.0 in
      let count : c ≡ size.count = (let n = b.all_count in let z = b.met.1 in omega (arith, n, z)) in
      let e : outcome whole ≡ No ts c = sym (ap outcome b.root) ∙ (b.gives ∙ sym (ap₂ No tokens count)) in
      sym (ap (under_budget cap) e ∙ within_budget cap (No ts c) within)
