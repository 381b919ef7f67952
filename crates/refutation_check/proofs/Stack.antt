-- The open nodes after a token.
use Rattle.std.proofs.Common.{◌≡◌, ℕ, suc, ◌+◌, ◌-◌, ◌*◌, ◌≤◌, ◌<◌, refl, sym, ap, subst, ◌∙◌, arith, List, [], ◌∷◌}
use Rattle.std.proofs.Common.{◌++◌, length, take, reverse, map, Option, Some, None}
use Rattle.std.proofs.lemmas.List.{append_assoc, reverse-append, take_all, length-append, length-take}
use lib.Seq.{take-append-le, take-take}
use Rattle.std.proofs.Math.Nat.{min-eq_left}
use Rattle.packing_terms.specs.declared.Exclusion.{Exclusion}
use Rattle.packing_terms.specs.Packing.{PlainInstance, dims, box_count}
use Rattle.packing_terms.specs.Exclusions.{excludes}
use Rattle.edge_state.proofs.Oldest.{oldest_all}
use Rattle.edge_state.specs.Edges.{oldest}
use Rattle.edge_state.specs.Ends.{IsClosureOf}
use Rattle.refutation_check.specs.declared.node.OpenNode.{OpenNode}
use Rattle.refutation_check.specs.Nodes.{some_of, with_some, entered, node_exclusions, Stands, IsAtAmong, above, opens}
use Rattle.refutation_check.specs.Nodes.{all_relations, IsHeldNode, AreHeld, splits_with}

-- a node is held by another state that is the same up to its mark, and other splits that are the same up to its count
node_moved : (instance : PlainInstance) (start sp sq old new : List Exclusion) (others : ℕ) (n : OpenNode)
    → oldest n.mark new ≡ oldest n.mark old → take n.splits sq ≡ take n.splits sp
    → IsHeldNode instance start sp old others n → IsHeldNode instance start sq new others n
node_moved instance start sp sq old new others n e f h = record {
  stands = subst (λ (l : List Exclusion). Stands instance (reverse l ++ start) n.first (oldest n.mark new)) (sym f)
      (subst (λ (l : List Exclusion). Stands instance (above start sp n) n.first l) (sym e) h.stands);
  first_there = h.first_there;
  second_there = h.second_there;
  few = rw (same) h.few;
  short = rw (same) h.short;
}
  where
    same : opens instance (entered n new) ≡ opens instance (entered n old)
    same = ap (λ (l : List Exclusion). opens instance (with_some (with_some l n.second) n.first)) e

pub held_moved : (instance : PlainInstance) (start sp sq old new : List Exclusion) (mark count : ℕ) (ns : List OpenNode)
    → ((k : ℕ) → k ≤ mark → oldest k new ≡ oldest k old) → ((k : ℕ) → k ≤ count → take k sq ≡ take k sp)
    → AreHeld instance start sp old mark count ns → AreHeld instance start sq new mark count ns
held_moved instance start sp sq old new mark count [] e f h = tt
held_moved instance start sp sq old new mark count (n ∷ ns) e f (m, c, node, rest) = (
  m,
  c,
  node_moved instance start sp sq old new (length ns) n (e n.mark m) (f n.splits c) node,
  held_moved instance start sp sq old new n.mark n.splits ns (λ k l. e k (omega (arith, l, m)))
      (λ k l. f k (omega (arith, l, c))) rest,
)

pub held_wider : (instance : PlainInstance) (start sp es : List Exclusion) (mark count mark' count' : ℕ)
    (ns : List OpenNode) → mark ≤ mark' → count ≤ count'
    → AreHeld instance start sp es mark count ns → AreHeld instance start sp es mark' count' ns
held_wider instance start sp es mark count mark' count' [] a b h = tt
held_wider instance start sp es mark count mark' count' (n ∷ ns) a b (m, c, node, rest) =
    (omega (arith, m, a), omega (arith, c, b), node, rest)

-- ---- how the nodes are seen

-- the nodes by the splits that another list begins with
pub seen_moved : (instance : PlainInstance) (start sp sq es : List Exclusion) (mark count : ℕ) (ns : List OpenNode)
    → ((k : ℕ) → k ≤ count → take k sq ≡ take k sp)
    → AreHeld instance start sp es mark count ns
    → map (λ n. node_exclusions n (above start sq n)) ns ≡ map (λ n. node_exclusions n (above start sp n)) ns
seen_moved instance start sp sq es mark count [] f h = refl
seen_moved instance start sp sq es mark count (n ∷ ns) f (m, c, node, rest) =
    ap (λ (l : List Exclusion). node_exclusions n (reverse l ++ start) ∷ map (λ n. node_exclusions n (above start sq n))
    ns) (f n.splits c)
    ∙ ap (λ (l : List (List Exclusion)). node_exclusions n (above start sp n) ∷ l)
    (seen_moved instance start sp sq es n.mark n.splits ns (λ k l. f k (omega (arith, l, c))) rest)

reverse_some : (o : Option Exclusion) → reverse (some_of o) ≡ some_of o
reverse_some None = refl
reverse_some (Some e) = refl

-- the exclusions of the parent of the children of a node are those of the node
pub above_children : (start sp : List Exclusion) (n : OpenNode)
    → reverse (splits_with sp n) ++ start ≡ node_exclusions n (above start sp n)
above_children start sp n =
    ap (λ (l : List Exclusion). l ++ start) (reverse-append (take n.splits sp ++ some_of n.second) (some_of n.first))
    ∙ (ap (λ (l : List Exclusion). (l ++ reverse (take n.splits sp ++ some_of n.second)) ++ start)
    (reverse_some n.first)
    ∙ (ap (λ (l : List Exclusion). (some_of n.first ++ l) ++ start)
    (reverse-append (take n.splits sp) (some_of n.second))
    ∙ (ap (λ (l : List Exclusion). (some_of n.first ++ (l ++ reverse (take n.splits sp))) ++ start)
    (reverse_some n.second)
    ∙ (append_assoc (some_of n.first) (some_of n.second ++ reverse (take n.splits sp)) start
    ∙ ap (λ (l : List Exclusion). some_of n.first ++ l)
    (append_assoc (some_of n.second) (reverse (take n.splits sp)) start)))))

pub splits_kept : (sp : List Exclusion) (n : OpenNode) (k : ℕ) → n.splits ≤ length sp → k ≤ n.splits
    → take k (splits_with sp n) ≡ take k sp
splits_kept sp n k within below =
    take-append-le k (take n.splits sp ++ some_of n.second) (some_of n.first)
    (omega (arith, counted, below, length-append (take n.splits sp) (some_of n.second)))
    ∙ (take-append-le k (take n.splits sp) (some_of n.second) (omega (arith, counted, below))
    ∙ take-take k n.splits sp below)
  where
    counted : length (take n.splits sp) ≡ n.splits
    counted = length-take n.splits sp ∙ min-eq_left within

-- ---- the stack after a token

-- the token was refused
pub held_same : (instance : PlainInstance) (start sp old new : List Exclusion) (n : OpenNode) (ns : List OpenNode)
    → n.mark ≤ length new
    → ((k : ℕ) → k ≤ n.mark → oldest k new ≡ oldest k old)
    → AreHeld instance start sp old (length old) (length sp) (n ∷ ns)
    → AreHeld instance start sp new (length new) (length sp) (n ∷ ns)
held_same instance start sp old new n ns within kept (m, c, node, rest) = (
  within,
  c,
  node_moved instance start sp sp old new (length ns) n (kept n.mark (omega arith)) refl node,
  held_moved instance start sp sp old new n.mark n.splits ns kept (λ k l. refl) rest,
)

-- a leaf was accepted
pub held_less : (instance : PlainInstance) (start sp old new : List Exclusion) (n : OpenNode) (ns : List OpenNode)
    → n.mark ≤ length new
    → ((k : ℕ) → k ≤ n.mark → oldest k new ≡ oldest k old)
    → AreHeld instance start sp old (length old) (length sp) (n ∷ ns)
    → AreHeld instance start sp new (length new) (length sp) ns
held_less instance start sp old new n ns within kept (m, c, node, rest) =
    held_wider instance start sp new n.mark n.splits (length new) (length sp) ns within c
    (held_moved instance start sp sp old new n.mark n.splits ns kept (λ k l. refl) rest)

-- what a child of a split asks, where the state is the closure of its parent
pub record IsChild (instance : PlainInstance) (new : List Exclusion) (c : OpenNode) : Type 0 where
  pub mark : c.mark ≡ length new
  pub some : c.first ≡ None → ⊥
  pub first_there : IsAtAmong (dims instance) (box_count instance) c.first
  pub second_there : IsAtAmong (dims instance) (box_count instance) c.second
  pub less : opens instance (with_some (with_some new c.second) c.first) < opens instance new

stands_calm : (instance : PlainInstance) (A es : List Exclusion) (first : Option Exclusion) → (first ≡ None → ⊥)
    → IsClosureOf instance (excludes A) es → Stands instance A first es
stands_calm instance A es None some h = absurd (some refl)
stands_calm instance A es (Some e) some h = h

child_held : (instance : PlainInstance) (start sq new : List Exclusion) (others limit : ℕ) (c : OpenNode)
    → IsChild instance new c → c.splits ≡ length sq
    → IsClosureOf instance (excludes (reverse sq ++ start)) new
    → others + opens instance new ≤ suc (all_relations instance)
    → limit + 2 * opens instance new ≤ 2 * all_relations instance
    → length sq ≤ limit + 2 → IsHeldNode instance start sq new others c
child_held instance start sq new others limit c child count calm few short sized = record {
  stands = subst (λ (l : List Exclusion). Stands instance (reverse l ++ start) c.first (oldest c.mark new))
      (sym (take_all c.splits sq (omega (arith, count))))
      (subst (λ (l : List Exclusion). Stands instance (reverse sq ++ start) c.first l) (sym all)
      (stands_calm instance (reverse sq ++ start) new c.first child.some calm));
  first_there = child.first_there;
  second_there = child.second_there;
  few = omega (arith, few, less);
  short = omega (arith, short, less, sized, count);
}
  where
    all : oldest c.mark new ≡ new
    all = oldest_all new c.mark child.mark

    less : opens instance (entered c new) < opens instance new
    less = subst (λ (l : List Exclusion). opens instance (with_some (with_some l c.second) c.first) < opens instance
        new) (sym all) child.less

splits_sized : (sp : List Exclusion) (n : OpenNode) → n.splits ≤ length sp → length (splits_with sp n) ≤ n.splits + 2
splits_sized sp n within =
    let a = length-append (take n.splits sp ++ some_of n.second) (some_of n.first) in
    let b = length-append (take n.splits sp) (some_of n.second) in
    let t : length (take n.splits sp) ≡ n.splits = length-take n.splits sp ∙ min-eq_left within in
    omega (arith, a, b, t, one n.first, one n.second)
  where
    one : (o : Option Exclusion) → length (some_of o) ≤ 1
    one None = omega arith
    one (Some e) = omega arith

-- a split was accepted
pub held_more : (instance : PlainInstance) (start sp old new : List Exclusion) (n : OpenNode) (ns : List OpenNode)
    (c d : OpenNode)
    → n.mark ≤ length new → ((k : ℕ) → k ≤ n.mark → oldest k new ≡ oldest k old)
    → AreHeld instance start sp old (length old) (length sp) (n ∷ ns)
    → IsClosureOf instance (excludes (node_exclusions n (above start sp n))) new
    → opens instance new ≤ opens instance (entered n old)
    → IsChild instance new c → IsChild instance new d → c.splits ≡ length (splits_with sp n)
    → d.splits ≡ length (splits_with sp n)
    → AreHeld instance start (splits_with sp n) new (length new) (length (splits_with sp n)) (c ∷ d ∷ ns)
held_more instance start sp old new n ns c d within kept (m, within_splits, node, rest) calm fewer child_c child_d
    count_c count_d = (
      omega (arith, child_c.mark),
      omega (arith, count_c),
      child_held instance start (splits_with sp n) new (suc (length ns)) n.splits c child_c count_c calm'
          (omega (arith, node.few, fewer)) (omega (arith, node.short, fewer)) sized,
      (
        omega (arith, child_c.mark, child_d.mark),
        omega (arith, count_c, count_d),
        child_held instance start (splits_with sp n) new (length ns) n.splits d child_d count_d calm'
            (omega (arith, node.few, fewer)) (omega (arith, node.short, fewer)) sized,
        held_wider instance start (splits_with sp n) new n.mark n.splits d.mark d.splits ns
            (omega (arith, child_d.mark, within)) (omega (arith, count_d, longer))
            (held_moved instance start sp (splits_with sp n) old new n.mark n.splits ns kept
            (λ k l. splits_kept sp n k within_splits l) rest),
      ),
    )
  where
    calm' : IsClosureOf instance (excludes (reverse (splits_with sp n) ++ start)) new
    calm' = subst (λ (l : List Exclusion). IsClosureOf instance (excludes l) new) (sym (above_children start sp n)) calm

    sized : length (splits_with sp n) ≤ n.splits + 2
    sized = splits_sized sp n within_splits

    longer : n.splits ≤ length (splits_with sp n)
    longer =
        let a = length-append (take n.splits sp ++ some_of n.second) (some_of n.first) in
        let b = length-append (take n.splits sp) (some_of n.second) in
        let t : length (take n.splits sp) ≡ n.splits = length-take n.splits sp ∙ min-eq_left within_splits in
        omega (arith, a, b, t)
