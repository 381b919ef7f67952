-- What an accepted token leaves on the stack.
use Rattle.std.proofs.Common.{◌≡◌, ℕ, zero, suc, pred, ◌+◌, ◌-◌, ◌*◌, ◌≤◌, ◌<◌, ◌⊎◌, inl, inr, refl, sym, ap, subst}
use Rattle.std.proofs.Common.{◌∙◌, arith, true, false, List, ◌∷◌, ◌++◌, length, reverse, map, Some, None, IsTrue}
use Rattle.std.proofs.lemmas.Bool.{true≢false, cases_Bool}
use Rattle.std.proofs.lemmas.List.{take_all}
use Rattle.packing_terms.specs.declared.Rel.{Rel}
use Rattle.packing_terms.specs.declared.Rel.TheVariants.{Overlap, Before, After}
use Rattle.packing_terms.specs.declared.Exclusion.{Exclusion}
use Rattle.packing_terms.specs.Packing.{PlainInstance, dims, box_count}
use Rattle.packing_terms.specs.Exclusions.{excludes, is_same_rel, IsEdge}
use Rattle.packing_terms.specs.Closure.{IsDerived}
use Rattle.packing_terms.specs.Tokens.{PlainToken}
use Rattle.packing_terms.specs.Tokens.PlainToken.{Apart, Order, Rules, TooLarge, Scales, Assign, Choose, SetRefuted}
use Rattle.packing_terms.specs.Tokens.PlainToken.{ValueShort, GlobalScales}
use Rattle.packing_terms.specs.Refutation.{exclusion_in_text as exclusion_of, IsNamed, MaySplitApart, MaySplitOrder}
use Rattle.packing_terms.specs.Feeding.{children}
use Rattle.packing_terms.specs.Places.{HasNoEmptyMask}
use Rattle.packing_terms.specs.Steps.{with_exclusion}
use Rattle.edge_state.specs.Edges.{oldest}
use Rattle.edge_state.proofs.Kept.{with_new, with_old}
use Rattle.verdict_terms.proofs.Judged.{inner_exact}
use Rattle.edge_state.specs.Ends.{IsClosureOf}
use Rattle.refutation_check.specs.declared.node.OpenNode.{OpenNode}
use Rattle.refutation_check.specs.Nodes.{entered, node_exclusions, Stands, above, opens, all_relations, AreHeld}
use Rattle.refutation_check.specs.Nodes.{splits_with, splits_after, child_nodes, is_split, IsJudged}
use Rattle.refutation_check.specs.Refuters.{most_nodes}
use Rattle.refutation_check.proofs.Bounds.{less_open, no_more_open, still_full, least_open}
use Rattle.refutation_check.proofs.Stack.{held_less, held_more, IsChild, seen_moved, above_children, splits_kept}

named_at : (instance : PlainInstance) (i u v : ℕ) → IsNamed instance i u v → IsEdge instance (pred i) (pred u) (pred v)
named_at instance (suc i) (suc u) (suc v) n =
    let i1 = n.dim_to in
    let l = n.rising in
    let v1 = n.v_to in
    record {
      dim = omega (arith, i1);
      first = omega (arith, l, v1);
      second = omega (arith, v1);
      distinct = λ e. omega (arith, l, e);
    }
named_at instance zero u v n = absurd (omega (arith, n.dim_from))
named_at instance i zero v n = absurd (omega (arith, n.u_from))
named_at instance i u zero n = absurd (omega (arith, n.rising))

-- where a relation beside the excluded one is left, two more nodes have room
bounded : (instance : PlainInstance) (new : List Exclusion) (others : ℕ) (e : Exclusion)
    → HasNoEmptyMask instance (excludes (e ∷ new))
    → opens instance (e ∷ new) < opens instance new → others + opens instance new ≤ all_relations instance
    → others + 2 ≤ most_nodes instance
bounded instance new others e full less few =
    let d = dims instance in
    let n = box_count instance in
    let least = least_open instance (e ∷ new) full in
    let one : 3 * d * n * (n - 1) ≡ 3 * (d * (n * (n - 1))) = grind arith in
    let two : d * n * (n - 1) ≡ d * (n * (n - 1)) = grind arith in
    omega (arith, least, less, few, one, two)

module _ (instance : PlainInstance) (N new : List Exclusion) (calm : IsClosureOf instance (excludes N) new) where
  open_of : (i u v : ℕ) (r : Rel) → ¬ IsDerived instance (excludes N) i u v r → excludes new i u v r ≡ false
  open_of i u v r h = go (cases_Bool (excludes new i u v r))
    where
      go : (excludes new i u v r ≡ true) ⊎ (excludes new i u v r ≡ false) → excludes new i u v r ≡ false
      go (inl e) = absurd (h ((calm.exact i u v r).0 e))
      go (inr e) = e

  one_child : (count i u v : ℕ) (r : Rel) → IsEdge instance (pred i) (pred u) (pred v)
      → excludes new (pred i) (pred u) (pred v) r ≡ false
      → IsChild instance new (record
      { mark = length new; splits = count; first = Some (exclusion_of i u v r); second = None })
  one_child count i u v r edge left = record {
    mark = refl;
    some = λ e. absurd (cc (e));
    first_there = edge;
    second_there = tt;
    less = less_open instance new (exclusion_of i u v r) edge left;
  }

  two_child : (count i u v : ℕ) → IsEdge instance (pred i) (pred u) (pred v)
      → (excludes new (pred i) (pred u) (pred v) Before ≡ false)
      ⊎ (excludes new (pred i) (pred u) (pred v) After ≡ false)
      → IsChild instance new (record {
        mark = length new;
        splits = count;
        first = Some (exclusion_of i u v Before);
        second = Some (exclusion_of i u v After);
      })
  two_child count i u v edge left = record {
    mark = refl;
    some = λ e. absurd (cc (e));
    first_there = edge;
    second_there = edge;
    less = go left (cases_Bool (excludes new (pred i) (pred u) (pred v) After));
  }
    where
      go : (excludes new (pred i) (pred u) (pred v) Before ≡ false)
          ⊎ (excludes new (pred i) (pred u) (pred v) After ≡ false)
          → (excludes new (pred i) (pred u) (pred v) After ≡ true)
          ⊎ (excludes new (pred i) (pred u) (pred v) After ≡ false)
          → opens instance (with_exclusion (with_exclusion new (exclusion_of i u v After)) (exclusion_of i u v Before))
          < opens instance new
      go both (inr f) =
          let a = less_open instance new (exclusion_of i u v After) edge f in
          let b = no_more_open instance (with_exclusion new (exclusion_of i u v After))
          (exclusion_of i u v Before) edge in
          omega (arith, a, b)
      go (inl b) (inl t) = rw (with_old new (exclusion_of i u v After) t)
          (less_open instance new (exclusion_of i u v Before) edge b)
      go (inr f) (inl t) = absurd (true≢false (sym t ∙ f))

  room_for : (others i u v : ℕ) (r s : Rel) → IsEdge instance (pred i) (pred u) (pred v) → is_same_rel r s ≡ false
      → excludes new (pred i) (pred u) (pred v) r ≡ false → excludes new (pred i) (pred u) (pred v) s ≡ false
      → others + opens instance new ≤ all_relations instance → others + 2 ≤ most_nodes instance
  room_for others i u v r s edge other left beside few =
      bounded instance new others (exclusion_of i u v r)
      (still_full instance new (exclusion_of i u v r) s edge.distinct other beside calm.full)
      (subst (λ (l : List Exclusion). opens instance l < opens instance new) (with_new new (exclusion_of i u v r) left)
      (less_open instance new (exclusion_of i u v r) edge left)) few

-- what stands after an accepted token
pub record IsAccepted (instance : PlainInstance) (start sp new : List Exclusion) (n : OpenNode) (ns : List OpenNode)
    (token : PlainToken) : Type 0 where
  pub held : AreHeld instance start (splits_after sp n token) new (length new) (length (splits_after sp n token))
      (reverse (child_nodes (length new) (length (splits_after sp n token)) token) ++ ns)
  pub seen : map (λ m. node_exclusions m (above start (splits_after sp n token) m))
      (reverse (child_nodes (length new) (length (splits_after sp n token)) token) ++ ns)
      ≡ children (node_exclusions n (above start sp n)) token ++ map (λ m. node_exclusions m (above start sp m)) ns
  pub few : IsTrue (is_split token) → length ns + 2 ≤ most_nodes instance
  pub room : IsTrue (is_split token) → n.splits + 2 ≤ 2 * all_relations instance

abbrev single : ℕ → ℕ → Exclusion → OpenNode
single mark count e = record { mark = mark; splits = count; first = Some e; second = None }

abbrev double : ℕ → ℕ → Exclusion → Exclusion → OpenNode
double mark count e f = record { mark = mark; splits = count; first = Some e; second = Some f }

module _ (instance : PlainInstance) (start sp old new : List Exclusion) (n : OpenNode) (ns : List OpenNode)
    (held : AreHeld instance start sp old (length old) (length sp) (n ∷ ns)) where
  stands : Stands instance (above start sp n) n.first (oldest n.mark old)
  stands = held.2.stands

  -- a leaf
  leaf : (token : PlainToken) → IsJudged instance n old new None token
      → AreHeld instance start sp new (length new) (length sp) ns
  leaf token j = held_less instance start sp old new n ns j.within j.kept held

  child_seen : (c : OpenNode) → c.splits ≡ length (splits_with sp n)
      → node_exclusions c (above start (splits_with sp n) c) ≡ node_exclusions c (node_exclusions n (above start sp n))
  child_seen c count =
      ap (λ (l : List Exclusion). node_exclusions c (reverse l ++ start))
      (take_all c.splits (splits_with sp n) (omega (arith, count)))
      ∙ ap (λ (l : List Exclusion). node_exclusions c l) (above_children start sp n)

  rest_seen : map (λ m. node_exclusions m (above start (splits_with sp n) m)) ns
      ≡ map (λ m. node_exclusions m (above start sp m)) ns
  rest_seen = seen_moved instance start sp (splits_with sp n) old n.mark n.splits ns
      (λ k l. splits_kept sp n k held.1 l) held.3

  both_seen : (c d : OpenNode) → c.splits ≡ length (splits_with sp n) → d.splits ≡ length (splits_with sp n)
      → map (λ m. node_exclusions m (above start (splits_with sp n) m)) (c ∷ d ∷ ns)
      ≡ node_exclusions c (node_exclusions n (above start sp n))
      ∷ node_exclusions d (node_exclusions n (above start sp n)) ∷ map (λ m. node_exclusions m (above start sp m)) ns
  both_seen c d e f =
      ap (λ (l : List Exclusion). l ∷ (node_exclusions d (above start (splits_with sp n) d)
      ∷ map (λ m. node_exclusions m (above start (splits_with sp n) m)) ns)) (child_seen c e)
      ∙ (ap (λ (l : List Exclusion). node_exclusions c (node_exclusions n (above start sp n))
      ∷ (l ∷ map (λ m. node_exclusions m (above start (splits_with sp n) m)) ns)) (child_seen d f)
      ∙ ap (λ (l : List (List Exclusion)). node_exclusions c (node_exclusions n (above start sp n))
      ∷ (node_exclusions d (node_exclusions n (above start sp n)) ∷ l)) rest_seen)

  apart_may : (i u v : ℕ) → IsJudged instance n old new None (Apart i u v)
      → MaySplitApart instance (node_exclusions n (above start sp n)) i u v
  apart_may i u v j = (inner_exact instance (node_exclusions n (above start sp n)) (Apart i u v)).0
      (sym (j.value (above start sp n) stands))

  order_may : (i u v : ℕ) → IsJudged instance n old new None (Order i u v)
      → MaySplitOrder instance (node_exclusions n (above start sp n)) i u v
  order_may i u v j = (inner_exact instance (node_exclusions n (above start sp n)) (Order i u v)).0
      (sym (j.value (above start sp n) stands))

  room_above : (c : OpenNode) → IsChild instance new c → opens instance new ≤ opens instance (entered n old)
      → n.splits + 2 ≤ 2 * all_relations instance
  room_above c child fewer = let short = held.2.short in let less = child.less in omega (arith, short, less, fewer)

  by_apart : (i u v : ℕ) → IsJudged instance n old new None (Apart i u v)
      → IsAccepted instance start sp new n ns (Apart i u v)
  by_apart i u v j =
      let m = apart_may i u v j in
      let calm : IsClosureOf instance (excludes (node_exclusions n (above start sp n))) new =
      j.no_conflict refl refl (above start sp n) stands in
      let fewer : opens instance new ≤ opens instance (entered n old) = j.fewer refl refl in
      let edge = named_at instance i u v m.named in
      let first = one_child instance (node_exclusions n (above start sp n)) new calm (length (splits_with sp n)) i u v
      Overlap edge
      (open_of instance (node_exclusions n (above start sp n)) new calm (pred i) (pred u) (pred v) Overlap m.overlap) in
      let second = two_child instance (node_exclusions n (above start sp n)) new calm (length (splits_with sp n)) i u v
      edge (others m.other calm) in
      let bound : length ns + opens instance new ≤ all_relations instance = omega (arith, held.2.few, fewer) in
      record {
        held = held_more instance start sp old new n ns
            (single (length new) (length (splits_with sp n)) (exclusion_of i u v Overlap))
            (double (length new) (length (splits_with sp n)) (exclusion_of i u v Before) (exclusion_of i u v After))
            j.within j.kept held calm fewer first second refl refl;
        seen = both_seen (single (length new) (length (splits_with sp n)) (exclusion_of i u v Overlap))
            (double (length new) (length (splits_with sp n)) (exclusion_of i u v Before)
            (exclusion_of i u v After)) refl refl;
        few = λ s. beside (others m.other calm) calm edge m bound;
        room = λ s. room_above (single (length new) (length (splits_with sp n)) (exclusion_of i u v Overlap))
            first fewer;
      }
    where
      others : (¬ IsDerived instance (excludes (node_exclusions n (above start sp n))) (pred i) (pred u)
          (pred v) Before)
          ⊎ (¬ IsDerived instance (excludes (node_exclusions n (above start sp n))) (pred i) (pred u) (pred v) After)
          → IsClosureOf instance (excludes (node_exclusions n (above start sp n))) new
          → (excludes new (pred i) (pred u) (pred v) Before ≡ false)
          ⊎ (excludes new (pred i) (pred u) (pred v) After ≡ false)
      others (inl h) calm = inl (open_of instance (node_exclusions n (above start sp n)) new calm (pred i) (pred u)
          (pred v) Before h)
      others (inr h) calm = inr (open_of instance (node_exclusions n (above start sp n)) new calm (pred i) (pred u)
          (pred v) After h)

      beside : (excludes new (pred i) (pred u) (pred v) Before ≡ false)
          ⊎ (excludes new (pred i) (pred u) (pred v) After ≡ false)
          → IsClosureOf instance (excludes (node_exclusions n (above start sp n))) new
          → IsEdge instance (pred i) (pred u) (pred v)
          → MaySplitApart instance (node_exclusions n (above start sp n)) i u v
          → length ns + opens instance new ≤ all_relations instance → length ns + 2 ≤ most_nodes instance
      beside (inl b) calm edge m bound =
          room_for instance (node_exclusions n (above start sp n)) new calm (length ns) i u v Overlap Before edge refl
          (open_of instance (node_exclusions n (above start sp n)) new calm (pred i) (pred u) (pred v) Overlap
          m.overlap) b bound
      beside (inr a) calm edge m bound =
          room_for instance (node_exclusions n (above start sp n)) new calm (length ns) i u v Overlap After edge refl
          (open_of instance (node_exclusions n (above start sp n)) new calm (pred i) (pred u) (pred v) Overlap
          m.overlap) a bound

  by_order : (i u v : ℕ) → IsJudged instance n old new None (Order i u v)
      → IsAccepted instance start sp new n ns (Order i u v)
  by_order i u v j =
      let m = order_may i u v j in
      let calm : IsClosureOf instance (excludes (node_exclusions n (above start sp n))) new =
      j.no_conflict refl refl (above start sp n) stands in
      let fewer : opens instance new ≤ opens instance (entered n old) = j.fewer refl refl in
      let edge = named_at instance i u v m.named in
      let before = open_of instance (node_exclusions n (above start sp n)) new calm (pred i) (pred u) (pred v)
      Before m.before in
      let after = open_of instance (node_exclusions n (above start sp n)) new calm (pred i) (pred u) (pred v)
      After m.after in
      let first = one_child instance (node_exclusions n (above start sp n)) new calm (length (splits_with sp n)) i u v
      After edge after in
      let second = one_child instance (node_exclusions n (above start sp n)) new calm (length (splits_with sp n)) i u v
      Before edge before in
      let bound : length ns + opens instance new ≤ all_relations instance = omega (arith, held.2.few, fewer) in
      record {
        held = held_more instance start sp old new n ns
            (single (length new) (length (splits_with sp n)) (exclusion_of i u v After))
            (single (length new) (length (splits_with sp n)) (exclusion_of i u v Before)) j.within j.kept held calm
            fewer first second refl refl;
        seen = both_seen (single (length new) (length (splits_with sp n)) (exclusion_of i u v After))
            (single (length new) (length (splits_with sp n)) (exclusion_of i u v Before)) refl refl;
        few = λ s. room_for instance (node_exclusions n (above start sp n)) new calm (length ns) i u v After Before edge
            refl after before bound;
        room = λ s. room_above (single (length new) (length (splits_with sp n)) (exclusion_of i u v After)) first fewer;
      }

  no_split : {A : Type 0} → false ≡ true → A
  no_split e = absurd (true≢false (sym e))

  pub accepted_held : (token : PlainToken) → IsJudged instance n old new None token
      → IsAccepted instance start sp new n ns token
  accepted_held (Apart i u v) j = by_apart i u v j
  accepted_held (Order i u v) j = by_order i u v j
  accepted_held Rules j = record { held = leaf Rules j; seen = refl; few = λ s. no_split s; room = λ s. no_split s }
  accepted_held (TooLarge v i) j =
      record { held = leaf (TooLarge v i) j; seen = refl; few = λ s. no_split s; room = λ s. no_split s }
  accepted_held (Scales fs) j = record {
    held = leaf (Scales fs) j;
    seen = refl;
    few = λ s. no_split s;
    room = λ s. no_split s;
  }
  accepted_held (Assign v) j = record {
    held = leaf (Assign v) j;
    seen = refl;
    few = λ s. no_split s;
    room = λ s. no_split s;
  }
  accepted_held (Choose v) j = record {
    held = leaf (Choose v) j;
    seen = refl;
    few = λ s. no_split s;
    room = λ s. no_split s;
  }
  accepted_held (SetRefuted b) j =
      record { held = leaf (SetRefuted b) j; seen = refl; few = λ s. no_split s; room = λ s. no_split s }
  accepted_held ValueShort j = record {
    held = leaf ValueShort j;
    seen = refl;
    few = λ s. no_split s;
    room = λ s. no_split s;
  }
  accepted_held (GlobalScales fs) j =
      record { held = leaf (GlobalScales fs) j; seen = refl; few = λ s. no_split s; room = λ s. no_split s }
