-- Paths into the children of outer trees, and lists by their positions.
use Rattle.std.proofs.Common.{◌≡◌, ℕ, zero, suc, ◌+◌, ◌<◌, ◌≤◌, refl, sym, ap, subst, ◌∙◌, arith, Bool, true, false}
use Rattle.std.proofs.Common.{List, [], ◌∷◌, ◌++◌, length, take, drop, get_or, ltb, if◌then◌else◌, Some, None, IsSome}
use Rattle.std.proofs.lemmas.Bool.{true≢false, ltb-true}
use Rattle.packing_terms.specs.Tokens.{PlainToken}
use Rattle.tree_terms.specs.Trees.{SearchTree, Refuted, Split, node_at}
use Rattle.tree_terms.specs.Paths.{max_budget, own_of, IsReachable}
use Rattle.tree_terms.proofs.PathNodes.{none_there}

-- what is left of a list begins with the entry at its position
pub next_box : (us : List ℕ) (k : ℕ) → k < length us → drop k us ≡ get_or us k 0 ∷ drop (k + 1) us
next_box [] k l = absurd (omega (arith, l))
next_box (u ∷ us) zero l = refl
next_box (u ∷ us) (suc k) l =
    let s : suc (k + 1) ≡ suc k + 1 = omega arith in
    next_box us k (omega (arith, l)) ∙ ap (λ x. get_or us k 0 ∷ drop x (u ∷ us)) s

-- a path that isn't empty ends with its last step
pub path_ends : (path : List ℕ) (last : ℕ) → last + 1 ≡ length path → path ≡ take last path ++ get_or path last 0 ∷ []
path_ends [] last e = absurd (omega (arith, e))
path_ends (k ∷ []) zero e = refl
path_ends (k ∷ []) (suc last) e = absurd (omega (arith, e))
path_ends (k ∷ j ∷ path) zero e = absurd (omega (arith, e))
path_ends (k ∷ j ∷ path) (suc last) e = ap (λ (l : List ℕ). k ∷ l) (path_ends (j ∷ path) last (omega (arith, e)))

-- nothing is below a leaf
pub past_leaf : {P : Type 0} (path : List ℕ) → IsSome (node_at None path) → P
past_leaf path h = absurd (true≢false (sym (subst IsSome (none_there path) h)))

pub refuted_leaf : {P : Type 0} (tokens : List PlainToken) (own : ℕ) (above : List ℕ) (k : ℕ)
    → IsReachable (Refuted tokens own) (above ++ k ∷ []) → P
refuted_leaf tokens own [] k r = absurd (true≢false (sym r.there))
refuted_leaf tokens own (j ∷ above) k r = past_leaf (above ++ k ∷ []) r.there

-- the node from which a path leads on counts within the greatest budget
pub own_within : (tree : SearchTree) (above : List ℕ) (k : ℕ) → IsReachable tree (above ++ k ∷ [])
    → own_of tree ≤ max_budget
own_within tree [] k r = r.within [] [] k refl tree refl
own_within tree (j ∷ above) k r = r.within [] (above ++ k ∷ []) j refl tree refl

-- into a child of a split, which its own path reaches
pub reach_child : (token : PlainToken) (own n : ℕ) (child : ℕ → SearchTree) (j : ℕ) (path : List ℕ)
    → IsReachable (Split token own n child) (j ∷ path)
    → (own ≤ max_budget) × (j < n)
    × (node_at (Some (Split token own n child)) (j ∷ path) ≡ node_at (Some (child j)) path)
    × IsReachable (child j) path
reach_child token own n child j path r = go (ltb j n) refl
  where
    go : (b : Bool) → ltb j n ≡ b
        → (own ≤ max_budget) × (j < n)
        × (node_at (Some (Split token own n child)) (j ∷ path) ≡ node_at (Some (child j)) path)
        × IsReachable (child j) path
    go false e = absurd (true≢false
        (sym (subst IsSome (ap (λ b. node_at (if b then Some (child j) else None) path) e ∙ none_there path) r.there)))
    go true e =
        let same : node_at (Some (Split token own n child)) (j ∷ path) ≡ node_at (Some (child j)) path =
        ap (λ b. node_at (if b then Some (child j) else None) path) e in (
          r.within [] path j refl (Split token own n child) refl,
          ltb-true j n e,
          same,
          record {
            there = subst IsSome same r.there;
            within = λ front rest k f node g. r.within (j ∷ front) rest k (ap (λ (l : List ℕ). j ∷ l) f) node
                (ap (λ b. node_at (if b then Some (child j) else None) front) e ∙ g);
          },
        )
