-- The answers of the outer trees are those of the inner trees of their sets: nothing is carried
-- along that can't be read off the node.
use Rattle.std.proofs.Common.{◌≡◌, ℕ, zero, suc, ◌+◌, ◌<◌, ◌⊎◌, inl, inr, refl, sym, ap, subst, ◌∙◌, arith, Bool, true}
use Rattle.std.proofs.Common.{false, if◌then◌else◌, List, [], ◌∷◌, ◌++◌, map, length, get_or, Option, Some, None}
use Rattle.std.proofs.lemmas.Bool.{true≢false, lt-ltb}
use Rattle.packing_terms.specs.declared.ScaleFn.{ScaleFn}
use Rattle.packing_terms.specs.Packing.{PlainInstance}
use Rattle.packing_terms.specs.Tokens.{PlainToken}
use Rattle.packing_terms.specs.Tokens.PlainToken.{Choose, ValueShort}
use Rattle.packing_terms.specs.OuterRefutation.{Bins, insert_box, with_box, placements, Choice, no_choice, with_taken}
use Rattle.packing_terms.specs.OuterRefutation.{with_left}
use Rattle.packing_terms.proofs.WithBoxes.{child_is}
use Rattle.tree_terms.specs.Trees.{SearchTree, Settled, Refuted, Split, Verdict, Yes, No, join, join_from, outcome}
use Rattle.tree_terms.specs.Trees.{node_at}
use Rattle.packing_terms.specs.Rank.{ranked}
use Rattle.tree_terms.specs.ClassTree.{first_exceeding}
use Rattle.tree_terms.specs.OuterTrees.{set_verdict, with_answer, bin_numbers, bin_child, bin_node, bin_root, bin_tree}
use Rattle.tree_terms.specs.OuterTrees.{choice_numbers, taken_child, choice_of, is_reached, is_short, choice_node}
use Rattle.tree_terms.specs.OuterTrees.{choice_tree, yes_numbers, bin_answer_of, choice_answer_of}
use Rattle.tree_terms.specs.Paths.{bins_at, choice_at}
use Rattle.tree_terms.proofs.PathNodes.{some_node, no_node, into}

-- nodes of different kinds
abbrev is_leaf : SearchTree → Bool
is_leaf (Settled numbers own) = true
is_leaf (Refuted tokens own) = false
is_leaf (Split token own n child) = false

abbrev answer_in : SearchTree → List ℕ
answer_in (Settled numbers own) = numbers
answer_in (Refuted tokens own) = []
answer_in (Split token own n child) = []

not_refuted : {P : Type 0} (path : List ℕ) (tokens : List PlainToken) (own : ℕ) (numbers : List ℕ) (c : ℕ)
    → node_at (Some (Refuted tokens own)) path ≡ Some (Settled numbers c) → P
not_refuted [] tokens own numbers c e = absurd (true≢false (sym (ap is_leaf (some_node _ _ e))))
not_refuted (k ∷ path) tokens own numbers c e = no_node path _ e

-- a settled node is at the path without steps
settled_here : (path : List ℕ) (ns : List ℕ) (own : ℕ) (numbers : List ℕ) (c : ℕ)
    → node_at (Some (Settled ns own)) path ≡ Some (Settled numbers c)
    → (path ≡ []) × (numbers ≡ ns)
settled_here [] ns own numbers c e = (refl, sym (ap answer_in (some_node _ _ e)))
settled_here (k ∷ path) ns own numbers c e = no_node path _ e

module _ (f : List ℕ → List ℕ) where
  answer_used : (bins : Bins) (b v : ℕ) → b < length bins
      → with_answer (map f bins) b (f (get_or (with_box bins b v) b [])) ≡ map f (with_box bins b v)
  answer_used [] b v l = absurd (omega (arith, l))
  answer_used (us ∷ bins) zero v l = refl
  answer_used (us ∷ bins) (suc b) v l = ap (λ l. f us ∷ l) (answer_used bins b v (omega (arith, l)))

  answer_new : (bins : Bins) (v : ℕ)
      → with_answer (map f bins) (length bins) (f (get_or (bins ++ (v ∷ []) ∷ []) (length bins) []))
      ≡ map f (bins ++ (v ∷ []) ∷ [])
  answer_new [] v = refl
  answer_new (us ∷ bins) v = ap (λ l. f us ∷ l) (answer_new bins v)

module _ (instance : PlainInstance) (scales : Bool) (k : ℕ) where
  abbrev answer : List ℕ → List ℕ
  answer set = yes_numbers (set_verdict instance scales set)

  -- the answers after a child's bin changed
  next_answers : (bins : Bins) (b v : ℕ) → b < length (placements k bins v)
      → with_answer (map answer bins) b (answer (get_or (get_or (placements k bins v) b []) b []))
      ≡ map answer (get_or (placements k bins v) b [])
  next_answers bins b v l = go (child_is k bins [] v b l)
    where
      go : ((b < length bins) × (get_or (placements k bins v) b [] ≡ with_box bins b v))
          ⊎ ((b ≡ length bins) × (length bins < k) × (get_or (placements k bins v) b [] ≡ bins ++ (v ∷ []) ∷ []))
          → with_answer (map answer bins) b (answer (get_or (get_or (placements k bins v) b []) b []))
          ≡ map answer (get_or (placements k bins v) b [])
      go (inl (m, e)) = rw e (answer_used answer bins b v m)
      go (inr (f, m, e)) = rw (e, f) (answer_new answer bins v)

  bins_answer : (rest : List ℕ) (bins : Bins) (answers : List (List ℕ)) (own : ℕ) → answers ≡ map answer bins
      → (path : List ℕ) (numbers : List ℕ) (c : ℕ)
      → node_at (Some (bin_node instance scales k rest bins answers own)) path ≡ Some (Settled numbers c)
      → numbers ≡ bin_answer_of instance scales (bins_at k bins (bin_node instance scales k rest bins answers own) path)
  bins_answer [] bins answers own a path numbers c e =
      let h = settled_here path (bin_numbers instance bins answers) own numbers c e in
      subst (λ (p : List ℕ). numbers
      ≡ bin_answer_of instance scales
      (bins_at k bins (Settled (bin_numbers instance bins answers) own) p)) (sym h.0)
      (h.1 ∙ ap (λ l. bin_numbers instance bins l) a)
  bins_answer (v ∷ vs) bins answers own a [] numbers c e = absurd (true≢false (sym (ap is_leaf (some_node _ _ e))))
  bins_answer (v ∷ vs) bins answers own a (b ∷ path) numbers c e =
      into b (length (placements k bins v)) _ path _ e
      (λ l f. go l (set_verdict instance scales (get_or (get_or (placements k bins v) b []) b [])) refl f
      (λ next ns m g h. bins_answer vs next (with_answer answers b ns) m g path numbers c h))
    where
      go : b < length (placements k bins v) → (w : Verdict)
          → set_verdict instance scales (get_or (get_or (placements k bins v) b []) b []) ≡ w
          → node_at (Some (bin_child b w
          (λ ns m. bin_node instance scales k vs (get_or (placements k bins v) b []) (with_answer answers b ns)
          m))) path ≡ Some (Settled numbers c)
          → ((next : Bins) (ns : List ℕ) (m : ℕ) → with_answer answers b ns ≡ map answer next
          → node_at (Some (bin_node instance scales k vs next (with_answer answers b ns) m)) path
          ≡ Some (Settled numbers c)
          → numbers ≡ bin_answer_of instance scales
          (bins_at k next (bin_node instance scales k vs next (with_answer answers b ns) m) path))
          → numbers ≡ bin_answer_of instance scales (bins_at k (get_or (placements k bins v) b [])
          (bin_child b w (λ ns m. bin_node instance scales k vs (get_or (placements k bins v) b [])
          (with_answer answers b ns) m)) path)
      go l (No ts m) is f rest = not_refuted path _ _ numbers c f
      go l (Yes ns m) is f rest =
          rest (get_or (placements k bins v) b []) ns (1 + m)
          (ap (λ x. with_answer x b ns) a
          ∙ (ap (λ (x : Verdict). with_answer (map answer bins) b (yes_numbers x)) (sym is)
          ∙ next_answers bins b v l)) f

  pub bin_tree_answer : (path : List ℕ) (numbers : List ℕ) (c : ℕ) → node_at (Some (bin_tree instance k scales)) path
      ≡ Some (Settled numbers c)
      → numbers ≡ bin_answer_of instance scales (bins_at k [] (bin_tree instance k scales) path)
  bin_tree_answer path numbers c = go (first_exceeding instance k scales)
    where
      go : (o : Option (List ScaleFn))
          → node_at (Some (bin_root o (bin_node instance scales k (ranked instance) [] [] 0))) path
          ≡ Some (Settled numbers c)
          → numbers ≡ bin_answer_of instance scales
          (bins_at k [] (bin_root o (bin_node instance scales k (ranked instance) [] [] 0)) path)
      go (Some fs) e = not_refuted path _ _ numbers c e
      go None e = bins_answer (ranked instance) [] [] 0 refl path numbers c e

module _ (instance : PlainInstance) (scales : Bool) (goal : ℕ) where
  -- the numbers that are carried are those of the set, as far as they are read
  abbrev AreOf : List ℕ → List ℕ → Type 0
  AreOf taken numbers = choice_numbers instance taken numbers ≡ choice_answer_of instance scales taken

  abbrev IsAnswered : Choice → SearchTree → Type 0
  IsAnswered c tree = (path : List ℕ) (numbers : List ℕ) (own : ℕ)
      → node_at (Some tree) path ≡ Some (Settled numbers own)
      → numbers ≡ choice_answer_of instance scales (choice_at c tree path).taken

  refuted_answered : (c : Choice) (tokens : List PlainToken) (own : ℕ) → IsAnswered c (Refuted tokens own)
  refuted_answered c tokens own path numbers m e = not_refuted path tokens own numbers m e

  settled_answered : (c : Choice) (ns : List ℕ) (own : ℕ) → AreOf c.taken ns
      → IsAnswered c (Settled (choice_numbers instance c.taken ns) own)
  settled_answered c ns own a path numbers m e =
      let h = settled_here path (choice_numbers instance c.taken ns) own numbers m e in
      subst (λ (p : List ℕ). numbers
      ≡ choice_answer_of instance scales (choice_at c (Settled (choice_numbers instance c.taken ns) own) p).taken)
      (sym h.0) (h.1 ∙ a)

  split_answered : (c : Choice) (v own : ℕ) (child : ℕ → SearchTree) → IsAnswered (with_taken c v) (child 0)
      → ((j : ℕ) → IsAnswered (with_left c v) (child (suc j)))
      → IsAnswered c (Split (Choose (suc v)) own 2 child)
  split_answered c v own child first second [] numbers m e = absurd (true≢false (sym (ap is_leaf (some_node _ _ e))))
  split_answered c v own child first second (zero ∷ path) numbers m e =
      into 0 2 (child 0) path _ e (λ l f. first path numbers m f)
  split_answered c v own child first second (suc j ∷ path) numbers m e =
      into (suc j) 2 (child (suc j)) path _ e (λ l f. second j path numbers m f)

  of_answered : (reached short : Bool) (c : Choice) (ns : List ℕ) (own : ℕ) (tree : SearchTree) → AreOf c.taken ns
      → IsAnswered c tree
      → IsAnswered c (choice_of reached short (choice_numbers instance c.taken ns) own tree)
  of_answered true short c ns own tree a h = settled_answered c ns own a
  of_answered false true c ns own tree a h = refuted_answered c _ own
  of_answered false false c ns own tree a h = h

  value_answer : (rest : List ℕ) (c : Choice) (ns : List ℕ) (own : ℕ) → AreOf c.taken ns
      → IsAnswered c (choice_node instance scales goal rest c.taken ns own)
  value_answer [] c ns own a = of_answered (is_reached instance goal c.taken) true c ns own
      (Refuted (ValueShort ∷ []) own) a (refuted_answered c (ValueShort ∷ []) own)
  value_answer (v ∷ vs) c ns own a =
      of_answered (is_reached instance goal c.taken) (is_short instance goal c.taken (v ∷ vs)) c ns own _ a
      (split_answered c v own _ (child (set_verdict instance scales (insert_box v c.taken)) refl
      (λ ms m e. value_answer vs (with_taken c v) ms m e))
      (λ j. value_answer vs (with_left c v) ns 1 a))
    where
      child : (w : Verdict) → set_verdict instance scales (insert_box v c.taken) ≡ w
          → ((ms : List ℕ) (m : ℕ) → AreOf (insert_box v c.taken) ms
          → IsAnswered (with_taken c v) (choice_node instance scales goal vs (insert_box v c.taken) ms m))
          → IsAnswered (with_taken c v) (taken_child w
          (λ ms m. choice_node instance scales goal vs (insert_box v c.taken) ms m))
      child (Yes ms m) is rest = rest ms (1 + m)
          (ap (λ (x : Verdict). choice_numbers instance (insert_box v c.taken) (yes_numbers x)) (sym is))
      child (No ts m) is rest = refuted_answered (with_taken c v) _ _

  pub choice_tree_answer : (path : List ℕ) (numbers : List ℕ) (own : ℕ)
      → node_at (Some (choice_tree instance goal scales)) path ≡ Some (Settled numbers own)
      → numbers ≡ choice_answer_of instance scales (choice_at no_choice (choice_tree instance goal scales) path).taken
  choice_tree_answer = value_answer (ranked instance) no_choice [] 0 refl

-- a path into a child
down : (token : PlainToken) (own n : ℕ) (child : ℕ → SearchTree) (j : ℕ) (path : List ℕ) → j < n
    → node_at (Some (Split token own n child)) (j ∷ path) ≡ node_at (Some (child j)) path
down token own n child j path l = ap (λ b. node_at (if b then Some (child j) else None) path) (lt-ltb j n l)

-- a yes has the answer of a settled node
module _ where
  abbrev IsSettledAt : SearchTree → List ℕ → Type 0
  IsSettledAt tree numbers = (path : List ℕ) × (own : ℕ) × (node_at (Some tree) path ≡ Some (Settled numbers own))

  abbrev is_yes : Verdict → Bool
  is_yes (Yes ns c) = true
  is_yes (No ts c) = false

  yes_from : (f : ℕ → Verdict) (k m : ℕ) (numbers : List ℕ) (c : ℕ) → join_from k m f ≡ Yes numbers c
      → (j : ℕ) × (j < k + m) × (d : ℕ) × (f j ≡ Yes numbers d)
  yes_from f k zero numbers c e = absurd (true≢false (sym (ap is_yes e)))
  yes_from f k (suc m) numbers c e = go (f k) refl e (λ d g. yes_from f (k + 1) m numbers d g)
    where
      late : (ts : List PlainToken) (d : ℕ) (w : Verdict) → join_from (k + 1) m f ≡ w → join (No ts d) w ≡ Yes numbers c
          → ((n : ℕ) → join_from (k + 1) m f ≡ Yes numbers n → (j : ℕ) × (j < k + 1 + m) × (o : ℕ)
          × (f j ≡ Yes numbers o))
          → (j : ℕ) × (j < k + suc m) × (o : ℕ) × (f j ≡ Yes numbers o)
      late ts d (Yes ms n) is h rest =
          let r = rest n (is ∙ ap (λ x. Yes x n) (ap yes_numbers h)) in
          let l = r.1 in
          (r.0, omega (arith, l), r.2, r.3)
      late ts d (No us n) is h rest = absurd (true≢false (sym (ap is_yes h)))

      go : (v : Verdict) → f k ≡ v → elim v [ Yes ns d ↦ Yes ns d | No ts d ↦ join (No ts d) (join_from (k + 1) m f) ]
          ≡ Yes numbers c
          → ((n : ℕ) → join_from (k + 1) m f ≡ Yes numbers n → (j : ℕ) × (j < k + 1 + m) × (o : ℕ)
          × (f j ≡ Yes numbers o))
          → (j : ℕ) × (j < k + suc m) × (o : ℕ) × (f j ≡ Yes numbers o)
      go (Yes ns d) is h rest = (k, omega arith, d, is ∙ ap (λ x. Yes x d) (ap yes_numbers h))
      go (No ts d) is h rest = late ts d (join_from (k + 1) m f) refl h rest

  pub yes_settled : (tree : SearchTree) (numbers : List ℕ) (count : ℕ) → outcome tree ≡ Yes numbers count
      → IsSettledAt tree numbers
  yes_settled (Settled ns own) numbers count e = ([], own, ap (λ x. Some (Settled x own)) (ap yes_numbers e))
  yes_settled (Refuted ts own) numbers count e = absurd (true≢false (sym (ap is_yes e)))
  yes_settled (Split token own n child) numbers count e =
      go (join_from 0 n (λ k. outcome (child k))) refl e (λ j. yes_settled (child j) numbers)
    where
      go : (w : Verdict) → join_from 0 n (λ k. outcome (child k)) ≡ w → join (No (token ∷ []) own) w ≡ Yes numbers count
          → ((j m : ℕ) → outcome (child j) ≡ Yes numbers m → IsSettledAt (child j) numbers)
          → IsSettledAt (Split token own n child) numbers
      go (No us m) is h rest = absurd (true≢false (sym (ap is_yes h)))
      go (Yes ms m) is h rest =
          let r = yes_from (λ k. outcome (child k)) 0 n numbers m (is ∙ ap (λ x. Yes x m) (ap yes_numbers h)) in
          let s = rest r.0 r.2 r.3 in
          let l = r.1 in
          let t : r.0 < n = omega (arith, l) in
          (r.0 ∷ s.0, s.1, down token own n child r.0 s.0 t ∙ s.2)
