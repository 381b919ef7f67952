-- Each node of a search, by its path, is a search of what its path stands for.
use Rattle.std.proofs.Common.{◌≡◌, ℕ, zero, suc, pred, ◌<◌, refl, sym, ◌∙◌, subst, arith, Bool, true, false, List, []}
use Rattle.std.proofs.Common.{◌∷◌, get_or, ltb, if◌then◌else◌, Option, Some, None}
use Rattle.std.proofs.lemmas.Bool.{ltb-true}
use Rattle.packing_terms.specs.declared.Exclusion.{Exclusion}
use Rattle.packing_terms.specs.Packing.{PlainInstance}
use Rattle.packing_terms.specs.Tokens.{PlainToken}
use Rattle.packing_terms.specs.Tokens.PlainToken.{Choose}
use Rattle.packing_terms.specs.Feeding.{children}
use Rattle.packing_terms.specs.OuterRefutation.{Bins, placements, Choice, with_taken, with_left}
use Rattle.tree_terms.specs.Trees.{SearchTree, Settled, Refuted, Split, node_at}
use Rattle.tree_terms.specs.Search.{IsSearch}
use Rattle.tree_terms.specs.OuterSearch.{IsBinSearch, IsChoiceSearch}
use Rattle.tree_terms.specs.Paths.{exclusions_at, bins_below, bins_at, choice_below, choice_at}

pub none_there : (path : List ℕ) → node_at None path ≡ None
none_there [] = refl
none_there (k ∷ path) = refl

pub some_node : (a b : SearchTree) → ◌≡◌ {A = Option SearchTree} (Some a) (Some b) → a ≡ b
some_node a b e = cc

pub no_node : {P : Type 0} (path : List ℕ) (node : SearchTree) → node_at None path ≡ Some node → P
no_node path node e = absurd (cc (sym (none_there path) ∙ e))

-- into the child of a split
pub into : {P : Type 0} (k n : ℕ) (t : SearchTree) (path : List ℕ) (node : SearchTree)
    → node_at (if ltb k n then Some t else None) path ≡ Some node
    → (k < n → node_at (Some t) path ≡ Some node → P) → P
into {P} k n t path node e rest = go (ltb k n) refl e
  where
    go : (b : Bool) → ltb k n ≡ b → node_at (if b then Some t else None) path ≡ Some node → P
    go true h f = rest (ltb-true _ _ h) f
    go false h f = no_node path node f

module _ (instance : PlainInstance) where
  pub search_at : (path : List ℕ) (tree : SearchTree) (es : List Exclusion) → IsSearch instance es tree
      → (node : SearchTree)
      → node_at (Some tree) path ≡ Some node → IsSearch instance (exclusions_at es tree path) node
  search_at [] tree es s node e = subst (λ (t : SearchTree). IsSearch instance es t) (some_node tree node e) s
  search_at (k ∷ path) (Settled ns own) es s node e = no_node path node e
  search_at (k ∷ path) (Refuted ts own) es s node e = no_node path node e
  search_at (k ∷ path) (Split token own n child) es s node e =
      into k n (child k) path node e
      (λ l f. search_at path (child k) (get_or (children es token) k []) (s.2 k l) node f)

  pub bin_search_at : (m : ℕ) (path : List ℕ) (tree : SearchTree) (bins : Bins) → IsBinSearch instance m bins tree
      → (node : SearchTree)
      → node_at (Some tree) path ≡ Some node → IsBinSearch instance m (bins_at m bins tree path) node
  bin_search_at m [] tree bins s node e =
      subst (λ (t : SearchTree). IsBinSearch instance m bins t) (some_node tree node e) s
  bin_search_at m (b ∷ path) (Settled ns own) bins s node e = no_node path node e
  bin_search_at m (b ∷ path) (Refuted ts own) bins s node e = no_node path node e
  bin_search_at m (b ∷ path) (Split token own n child) bins s node e =
      into b n (child b) path node e
      (λ l f. subst (λ (t : PlainToken). IsBinSearch instance m (bins_at m (bins_below m bins t b) (child b) path)
      node) (sym s.1)
      (bin_search_at m path (child b) (get_or (placements m bins (pred s.0)) b []) (s.4 b l) node f))

  pub choice_search_at : (goal : ℕ) (path : List ℕ) (tree : SearchTree) (c : Choice)
      → IsChoiceSearch instance goal c tree → (node : SearchTree)
      → node_at (Some tree) path ≡ Some node → IsChoiceSearch instance goal (choice_at c tree path) node
  choice_search_at goal [] tree c s node e =
      subst (λ (t : SearchTree). IsChoiceSearch instance goal c t) (some_node tree node e) s
  choice_search_at goal (b ∷ path) (Settled ns own) c s node e = no_node path node e
  choice_search_at goal (b ∷ path) (Refuted ts own) c s node e = no_node path node e
  choice_search_at goal (b ∷ path) (Split token own n child) c s node e =
      into b n (child b) path node e
      (λ l f. subst (λ (t : PlainToken). IsChoiceSearch instance goal (choice_at (choice_below c t b) (child b) path)
      node) (sym s.1)
      (two b (omega (arith, l, s.3)) f (λ h. choice_search_at goal path (child 0) (with_taken c (pred s.0)) s.4 node h)
      (λ h. choice_search_at goal path (child 1) (with_left c (pred s.0)) s.5 node h)))
    where
      two : (j : ℕ) → j < 2 → node_at (Some (child j)) path ≡ Some node
          → (node_at (Some (child 0)) path ≡ Some node
          → IsChoiceSearch instance goal (choice_at (with_taken c (pred s.0)) (child 0) path) node)
          → (node_at (Some (child 1)) path ≡ Some node
          → IsChoiceSearch instance goal (choice_at (with_left c (pred s.0)) (child 1) path) node)
          → IsChoiceSearch instance goal (choice_at (choice_below c (Choose s.0) j) (child j) path) node
      two zero l f first second = first f
      two (suc zero) l f first second = second f
      two (suc (suc j)) l f first second = absurd (omega (arith, l))
