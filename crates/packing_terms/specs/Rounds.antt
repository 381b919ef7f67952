-- The closure as a value, by rounds. Each round adds every conclusion of every rule instance whose
-- premises hold; no program runs it.
-- Source: the closure is that of the rules of Fekete, Schepers and van der Veen (2007), and no
-- order of work is part of it.
use Rattle.std.specs.Prelude.{ℕ, zero, suc, ◌+◌, ◌==◌, ◌&&◌, ◌||◌, not, List, [], ◌∷◌, ◌++◌, Bool, true, nat_lt, map}
use Rattle.std.specs.List.{list_any, list_all, filter, flat_map}
use Rattle.packing_terms.specs.declared.Rel.{Rel}
use Rattle.packing_terms.specs.declared.Rel.TheVariants.{Overlap, Before, After}
use Rattle.packing_terms.specs.declared.Exclusion.{Exclusion}
use Rattle.packing_terms.specs.Packing.{PlainInstance, dims, box_count, container_side, side}
use Rattle.packing_terms.specs.Relations.{allows, mirror}
use Rattle.packing_terms.specs.Exclusions.{Exclusions, excludes, is_same_rel, relation_count}
use Rattle.packing_terms.specs.Rules.{weight}
use Rattle.packing_terms.specs.Sums.{below}

abbrev pub rels : List Rel
rels = Overlap ∷ Before ∷ After ∷ []

-- all lists of distinct boxes of those given, with at most a given number of them
abbrev pub chains : ℕ → List ℕ → List (List ℕ)
chains zero vs = [] ∷ []
chains (suc k) vs = [] ∷ flat_map (λ v. map (λ c. v ∷ c) (chains k (filter (λ u. not (u == v)) vs))) vs

abbrev pub is_joined : Exclusions → ℕ → ℕ → ℕ → Bool
is_joined X i u v = X i u v Before && X i u v After

abbrev pub is_surely_before : Exclusions → ℕ → ℕ → ℕ → Bool
is_surely_before X i u v = X i u v Overlap && X i u v After

abbrev pub is_chain : Exclusions → ℕ → List ℕ → Bool
is_chain X i [] = true
is_chain X i (u ∷ []) = true
is_chain X i (u ∷ v ∷ vs) = is_surely_before X i u v && is_chain X i (v ∷ vs)

-- the boxes but two
abbrev pub others : ℕ → ℕ → ℕ → List ℕ
others n u v = filter (λ x. not (x == u) && not (x == v)) (below n)

module _ (instance : PlainInstance) (X : Exclusions) (i u v : ℕ) (r : Rel) where
  abbrev pub by_pair : Bool
  by_pair = not (is_same_rel r Overlap) && nat_lt (container_side instance i) (side instance u i + side instance v i)

  abbrev pub by_apart : Bool
  by_apart = is_same_rel r Overlap && list_all (λ j. (j == i) || is_joined X j u v) (below (dims instance))

  abbrev pub by_triple : Bool
  by_triple = not (is_same_rel r Overlap)
      && list_any (λ x. X i u x Overlap && X i v x Overlap
      && nat_lt (container_side instance i) (side instance u i + side instance v i + side instance x i))
      (others (box_count instance) u v)

  abbrev pub by_compose : Bool
  by_compose = list_any (λ x. list_all (λ q. list_all (λ s. X i u x q || X i x v s || not (allows q s r)) rels) rels)
      (others (box_count instance) u v)

  abbrev pub by_cycle : Bool
  by_cycle = not (is_same_rel r Overlap)
      && list_any (λ a. list_any (λ c. not (a == c) && is_joined X i a u && is_joined X i u c && is_joined X i c v
      && is_joined X i v a && X i a c Overlap)
      (others (box_count instance) u v)) (others (box_count instance) u v)

  -- here u is c and v is b
  abbrev pub by_order : Bool
  by_order = not (is_same_rel r Before)
      && list_any (λ a. list_any (λ d. not (a == d) && is_surely_before X i a v && is_surely_before X i u d
      && X i a d Before)
      (others (box_count instance) u v)) (others (box_count instance) u v)

  abbrev pub by_chain : Bool
  by_chain = is_same_rel r Before
      && list_any (λ before. is_chain X i (before ++ u ∷ []) && list_any (λ after. is_chain X i (v ∷ after)
      && nat_lt (container_side instance i) (weight instance i (before ++ u ∷ []) + weight instance i (v ∷ after)))
      (chains (box_count instance) (filter (λ x. not (x == v)) (below (box_count instance)))))
      (chains (box_count instance) (filter (λ x. not (x == u)) (below (box_count instance))))

  -- whether some rule excludes this relation, in this dimension at this pair
  abbrev pub follows : Bool
  follows = by_pair || by_apart || by_triple || by_compose || by_cycle || by_order || by_chain

-- each relation in each dimension, at each pair
abbrev pub all_exclusions : ℕ → ℕ → List Exclusion
all_exclusions d n =
    flat_map (λ i. flat_map (λ v. flat_map (λ u. map (λ r. record { dim = i; u = u; v = v; rel = r }) rels) (below v))
    (below n)) (below d)

-- what one round adds: every relation that isn't excluded yet, and that some rule excludes at its
-- pair or at the pair turned round
abbrev pub additions : PlainInstance → List Exclusion → List Exclusion
additions instance es =
    filter (λ e. not (excludes es e.dim e.u e.v e.rel)
    && (follows instance (excludes es) e.dim e.u e.v e.rel
    || follows instance (excludes es) e.dim e.v e.u (mirror e.rel)))
    (all_exclusions (dims instance) (box_count instance))

-- a given number of rounds, or fewer where one adds nothing
abbrev pub rounds : PlainInstance → ℕ → List Exclusion → List Exclusion
rounds instance zero es = es
rounds instance (suc k) es = elim (additions instance es) [ [] ↦ es | e ∷ more ↦ rounds instance k ((e ∷ more) ++ es) ]

-- the closure of the exclusions of a list
abbrev pub closure : PlainInstance → List Exclusion → List Exclusion
closure instance es = rounds instance (relation_count (dims instance) (box_count instance)) es

-- whether all three relations are excluded in one dimension, at one pair
abbrev pub has_empty_mask : Exclusions → ℕ → ℕ → Bool
has_empty_mask X d n =
    list_any (λ i. list_any (λ v. list_any (λ u. X i u v Overlap && X i u v Before && X i u v After) (below v))
    (below n)) (below d)
