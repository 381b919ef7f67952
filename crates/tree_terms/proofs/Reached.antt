-- Paths: their parts, the outcome at a path, what is reported there, and which paths are reached.
use Rattle.std.proofs.Common.{◌≡◌, ℕ, suc, ◌<◌, ◌≤◌, ◌⊎◌, ◌↔◌, inl, inr, refl, sym, ◌∙◌, subst, ap, arith, Bool, true}
use Rattle.std.proofs.Common.{false, List, [], ◌∷◌, ◌++◌, ltb, if◌then◌else◌, Option, Some, None, IsSome, append_assoc}
use Rattle.std.proofs.lemmas.Bool.{true≢false, cases_Bool, ltb-true, lt-ltb, cases_lt}
use Rattle.packing_terms.specs.Tokens.{PlainToken}
use Rattle.tree_terms.specs.Trees.{SearchTree, Settled, Refuted, Split, join_from, outcome, count_of, under_budget, Past}
use Rattle.tree_terms.specs.Trees.{child_at, node_at}
use Rattle.tree_terms.specs.Paths.{max_budget, own_of, PlainNode, Leaf, Splits, node_view, IsReachable, LeadsTo}
use Rattle.tree_terms.proofs.Joins.{count_join_no}
use Rattle.tree_terms.proofs.UnderBudget.{over_budget}
use Rattle.tree_terms.proofs.PathNodes.{none_there, some_node}

-- a path in two parts
pub node_parts : (node : Option SearchTree) (front rest : List ℕ)
    → node_at node (front ++ rest) ≡ node_at (node_at node front) rest
node_parts None [] rest = refl
node_parts None (k ∷ front) rest = sym (none_there rest)
node_parts (Some t) [] rest = refl
node_parts (Some t) (k ∷ front) rest = node_parts (child_at t k) front rest

-- no node's count is less than its own
own_least : (tree : SearchTree) → own_of tree ≤ count_of (outcome tree)
own_least (Settled ns own) = omega arith
own_least (Refuted ts own) = omega arith
own_least (Split token own n child) = let e = count_join_no (token ∷ []) own (join_from 0 n (λ k. outcome (child k))) in
    omega (arith, e)

-- a node whose own count is past every budget is past under each
pub past_own : (tree : SearchTree) (budget : ℕ) → budget ≤ max_budget → max_budget < own_of tree
    → under_budget budget (outcome tree) ≡ Past
past_own tree budget l m = let h = own_least tree in over_budget budget (outcome tree) (omega (arith, l, m, h))

-- what is reported of a split
abbrev own_told : PlainNode → ℕ
own_told Leaf = 0
own_told (Splits token own n) = own

abbrev token_told : PlainToken → PlainNode → PlainToken
token_told t Leaf = t
token_told t (Splits token own n) = token

abbrev children_told : PlainNode → ℕ
children_told Leaf = 0
children_told (Splits token own n) = n

abbrev is_split : PlainNode → Bool
is_split Leaf = false
is_split (Splits token own n) = true

leaf_is_none : {P : Type 0} (token : PlainToken) (own n : ℕ) → Leaf ≡ Splits token own n → P
leaf_is_none token own n e = absurd (true≢false (sym (ap is_split e)))

pub told_split : (tree : SearchTree) (token : PlainToken) (own n : ℕ) → node_view tree ≡ Splits token own n
    ↔ ((child : ℕ → SearchTree) × (tree ≡ Split token own n child) × (own ≤ max_budget))
told_split tree token own n = (there tree, λ h. back h.0 h.1 h.2)
  where
    there : (t : SearchTree) → node_view t ≡ Splits token own n → (child : ℕ → SearchTree)
        × (t ≡ Split token own n child) × (own ≤ max_budget)
    there (Settled ns o) e = leaf_is_none token own n e
    there (Refuted ts o) e = leaf_is_none token own n e
    there (Split t o m child) e = go (ltb max_budget o) refl e
      where
        go : (b : Bool) → ltb max_budget o ≡ b → (if b then Leaf else Splits t o m) ≡ Splits token own n
            → (c : ℕ → SearchTree) × (Split t o m child ≡ Split token own n c) × (own ≤ max_budget)
        go true f h = leaf_is_none token own n h
        go false f h =
            let et = ap (token_told token) h in
            let eo = ap own_told h in
            let en = ap children_told h in (
              child,
              ap (λ x. Split x o m child) et
                  ∙ (ap (λ x. Split token x m child) eo ∙ ap (λ x. Split token own x child) en),
              small (cases_lt max_budget o) eo,
            )
          where
            small : (max_budget < o) ⊎ (o ≤ max_budget) → o ≡ own → own ≤ max_budget
            small (inl l) q = absurd (true≢false (sym (lt-ltb max_budget o l) ∙ f))
            small (inr l) q = omega (arith, l, q)

    back : (child : ℕ → SearchTree) → tree ≡ Split token own n child → own ≤ max_budget
        → node_view tree ≡ Splits token own n
    back child e l = ap node_view e ∙ go (cases_Bool (ltb max_budget own))
      where
        go : (ltb max_budget own ≡ true) ⊎ (ltb max_budget own ≡ false)
            → (if ltb max_budget own then Leaf else Splits token own n) ≡ Splits token own n
        go (inl k) = absurd (let m = ltb-true max_budget own k in omega (arith, l, m))
        go (inr k) = rw k refl

pub root_reached : (tree : SearchTree) → IsReachable tree []
root_reached tree = record { there = refl; within = λ front rest k e node f. absurd (empty front rest k e) }
  where
    empty : (front rest : List ℕ) (k : ℕ) → [] ≡ front ++ k ∷ rest → ⊥
    empty [] rest k e = cc
    empty (x ∷ front) rest k e = cc

-- where a path with one step more is cut
cut : (path front rest : List ℕ) (k j : ℕ) → path ++ k ∷ [] ≡ front ++ j ∷ rest
    → (front ≡ path) ⊎ ((more : List ℕ) × (path ≡ front ++ j ∷ more))
cut [] [] rest k j e = inl refl
cut [] (x ∷ front) rest k j e = absurd (empty front (tail e))
  where
    tail : k ∷ [] ≡ x ∷ (front ++ j ∷ rest) → [] ≡ front ++ j ∷ rest
    tail h = cc

    empty : (xs : List ℕ) → [] ≡ xs ++ j ∷ rest → ⊥
    empty [] h = cc
    empty (y ∷ xs) h = cc
cut (p ∷ path) [] rest k j e = inr (path, head e)
  where
    head : p ∷ (path ++ k ∷ []) ≡ j ∷ rest → p ∷ path ≡ j ∷ path
    head h = cc
cut (p ∷ path) (x ∷ front) rest k j e = go (cut path front rest k j (tail e))
  where
    tail : p ∷ (path ++ k ∷ []) ≡ x ∷ (front ++ j ∷ rest) → path ++ k ∷ [] ≡ front ++ j ∷ rest
    tail h = cc

    head : p ∷ (path ++ k ∷ []) ≡ x ∷ (front ++ j ∷ rest) → p ≡ x
    head h = cc

    go : (front ≡ path) ⊎ ((more : List ℕ) × (path ≡ front ++ j ∷ more)) → (x ∷ front ≡ p ∷ path)
        ⊎ ((more : List ℕ) × (p ∷ path ≡ x ∷ (front ++ j ∷ more)))
    go (inl f) = inl (let h = head e in cc)
    go (inr (more, f)) = inr (more, (let h = head e in cc))

module _ (tree : SearchTree) (path : List ℕ) (k : ℕ) where
  next_node : (node : SearchTree) → node_at (Some tree) path ≡ Some node
      → node_at (Some tree) (path ++ k ∷ []) ≡ child_at node k
  next_node node e = node_parts (Some tree) path (k ∷ []) ∙ (ap (λ o. node_at o (k ∷ [])) e ∙ one (child_at node k))
    where
      one : (o : Option SearchTree) → node_at o [] ≡ o
      one None = refl
      one (Some t) = refl

  -- the child of a split at a path, and none past its children
  pub child_there : (token : PlainToken) (own n : ℕ) (child : ℕ → SearchTree)
      → node_at (Some tree) path ≡ Some (Split token own n child) → k < n
      → node_at (Some tree) (path ++ k ∷ []) ≡ Some (child k)
  child_there token own n child e l = next_node (Split token own n child) e ∙ pick (ltb k n) (lt-ltb k n l)
    where
      pick : (b : Bool) → b ≡ true → (if b then Some (child k) else None) ≡ Some (child k)
      pick true h = refl
      pick false h = absurd (true≢false (sym h))

  -- what leads on is a node that is reported as a split
  leads : (node : SearchTree) → node_at (Some tree) path ≡ Some node → IsSome (child_at node k)
      → own_of node ≤ max_budget → LeadsTo tree path k
  leads (Settled ns own) e h l = absurd (true≢false (sym h))
  leads (Refuted ts own) e h l = absurd (true≢false (sym h))
  leads (Split token own n child) e h l = record {
    node = Split token own n child;
    there = e;
    token = token;
    own = own;
    children = n;
    told = (told_split (Split token own n child) token own n).1 (child, refl, l);
    child = small (ltb k n) refl h;
  }
    where
      small : (b : Bool) → ltb k n ≡ b → IsSome (if b then Some (child k) else None) → suc k ≤ n
      small true f g = let m = ltb-true k n f in omega (arith, m)
      small false f g = absurd (true≢false (sym g))

  pub reached_next : IsReachable tree (path ++ k ∷ []) ↔ (IsReachable tree path × LeadsTo tree path k)
  reached_next = (there, λ h. back h.0 h.1)
    where
      there : IsReachable tree (path ++ k ∷ []) → IsReachable tree path × LeadsTo tree path k
      there r = go (node_at (Some tree) path) refl
        where
          longer : (front rest : List ℕ) (j : ℕ) → path ≡ front ++ j ∷ rest
              → path ++ k ∷ [] ≡ front ++ j ∷ (rest ++ k ∷ [])
          longer front rest j f = ap (λ l. l ++ k ∷ []) f ∙ append_assoc front (j ∷ rest) (k ∷ [])

          go : (o : Option SearchTree) → node_at (Some tree) path ≡ o → IsReachable tree path × LeadsTo tree path k
          go None e = absurd (true≢false
              (sym (subst (λ (o : Option SearchTree). IsSome o)
              (node_parts (Some tree) path (k ∷ []) ∙ ap (λ o. node_at o (k ∷ [])) e) r.there)))
          go (Some node) e = (
            record {
              there = subst (λ (o : Option SearchTree). IsSome o) (sym e) refl;
              within = λ front rest j f t g. r.within front (rest ++ k ∷ []) j (longer front rest j f) t g;
            },
            leads node e (subst (λ (o : Option SearchTree). IsSome o) (next_node node e) r.there)
                (r.within path [] k refl node e),
          )

      back : IsReachable tree path → LeadsTo tree path k → IsReachable tree (path ++ k ∷ [])
      back r l = go ((told_split l.node l.token l.own l.children).0 l.told)
        where
          go : (child : ℕ → SearchTree) × (l.node ≡ Split l.token l.own l.children child) × (l.own ≤ max_budget)
              → IsReachable tree (path ++ k ∷ [])
          go (child, e, small) = record {
            there = subst (λ (o : Option SearchTree). IsSome o)
                (sym (child_there l.token l.own l.children child (l.there ∙ ap (λ (t : SearchTree). Some t) e)
                l.child)) refl;
            within = λ front rest j f t g. pick front rest j t g (cut path front rest k j f);
          }
            where
              pick : (front rest : List ℕ) (j : ℕ) (t : SearchTree) → node_at (Some tree) front ≡ Some t
                  → (front ≡ path) ⊎ ((more : List ℕ) × (path ≡ front ++ j ∷ more)) → own_of t ≤ max_budget
              pick front rest j t g (inl f) =
                  let same = some_node t l.node (sym g ∙ (ap (λ p. node_at (Some tree) p) f ∙ l.there)) in
                  let own = ap own_of (same ∙ e) in
                  omega (arith, own, small)
              pick front rest j t g (inr (more, f)) = r.within front more j f t g

-- the node at a path, and beyond a leaf or past the last child there is none
pub none_past : (tree : SearchTree) (path : List ℕ) (token : PlainToken) (own n : ℕ) (child : ℕ → SearchTree)
    → node_at (Some tree) path ≡ Some (Split token own n child) → (k : ℕ) → n ≤ k
    → node_at (Some tree) (path ++ k ∷ []) ≡ None
none_past tree path token own n child e k l =
    next_node tree path k (Split token own n child) e ∙ pick (cases_Bool (ltb k n))
  where
    pick : (ltb k n ≡ true) ⊎ (ltb k n ≡ false) → (if ltb k n then Some (child k) else None) ≡ None
    pick (inl h) = absurd (let m = ltb-true k n h in omega (arith, l, m))
    pick (inr h) = rw h refl
