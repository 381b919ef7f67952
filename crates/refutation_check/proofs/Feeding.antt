-- A token at the first of the open nodes: what its type keeps, and how it is seen.
use Rattle.std.proofs.Common.{◌≡◌, ◌≢◌, ℕ, ◌+◌, ◌-◌, ◌*◌, ◌/◌, ◌^◌, ◌≤◌, ◌<◌, refl, sym, ap, subst, ◌∙◌, arith, List}
use Rattle.std.proofs.Common.{◌∷◌, ◌++◌, length, take, reverse, map, slice_index_or, Option, Some, None, IsTrue}
use Rattle.std.proofs.lemmas.List.{reverse-append, length-append, length-take, length-map, length-reverse}
use Rattle.std.proofs.lemmas.List.{get_or_default}
use Rattle.packing_terms.specs.declared.Exclusion.{Exclusion}
use Rattle.packing_terms.specs.Packing.{PlainInstance, dims, box_count}
use Rattle.packing_terms.specs.Goals.{subset}
use Rattle.packing_terms.specs.Limits.{IsInternalInstance}
use Rattle.packing_terms.specs.Tokens.{PlainToken}
use Rattle.packing_terms.specs.Tokens.PlainToken.{Apart, Order, Rules, TooLarge, Scales, Assign, Choose, SetRefuted}
use Rattle.packing_terms.specs.Tokens.PlainToken.{ValueShort, GlobalScales}
use Rattle.edge_state.specs.Edges.{PlainEdges}
use Rattle.edge_state.proofs.Kept.{product_less, less_room}
use Rattle.verdict_terms.specs.declared.check_answers.RefuseCode.{RefuseCode}
use Rattle.verdict_terms.specs.declared.check_answers.FeedVerdict.TheVariants.{More, Done}
use Rattle.verdict_terms.specs.Judging.{refusal}
use Rattle.verdict_terms.specs.Checking.{Checked, checked_after, inner_after, answered_by}
use Rattle.refutation_check.specs.declared.node.OpenNode.{OpenNode}
use Rattle.rule_passes.specs.Rooms.{PlainPropagator}
use Rattle.refutation_check.specs.Nodes.{node_exclusions, above, all_relations, IsOver, AreHeld, splits_after}
use Rattle.refutation_check.specs.Nodes.{child_nodes, is_split, IsJudged}
use Rattle.refutation_check.specs.Refuters.{PlainRefuter, most_nodes, fed, nodes_of, IsHeld}
use Rattle.refutation_check.proofs.Stack.{held_same}
use Rattle.refutation_check.proofs.Accepted.{IsAccepted, accepted_held}
use Rattle.refutation_check.proofs.Fed.{split_node, over_held, fed_refused, fed_accepted, answered_done, answered_on}

-- ---- fewer boxes have fewer relations

square_less : (m n : ℕ) → m ≤ n → m * (m - 1) ≤ n * (n - 1)
square_less m n h = product_less m n (m - 1) (n - 1) h (omega (arith, h))

nodes_less : (d m n : ℕ) → m ≤ n → d * m * (m - 1) + 1 ≤ d * n * (n - 1) + 1
nodes_less d m n h =
    let e : d * m * (m - 1) ≡ d * (m * (m - 1)) = grind arith in
    let f : d * n * (n - 1) ≡ d * (n * (n - 1)) = grind arith in
    let k = product_less d d (m * (m - 1)) (n * (n - 1)) (omega arith) (square_less m n h) in
    omega (arith, e, f, k)

relations_few : (d n : ℕ) → d ≤ 4 → n ≤ 128 → 3 * d * n * (n - 1) / 2 ≤ 97536
relations_few d n hd hn =
    let e : 3 * d * n * (n - 1) ≡ 3 * (d * (n * (n - 1))) = grind arith in
    let k = product_less d 4 (n * (n - 1)) (128 * 127) hd (square_less n 128 hn) in
    omega (arith, e, k)

-- a split has two children, and all else none
children_fit : (token : PlainToken) (mark count k m : ℕ) → (IsTrue (is_split token) → k + 2 ≤ m) → k ≤ m
    → k + length (child_nodes mark count token) ≤ m
children_fit (Apart i u v) mark count k m two none = let h = two refl in omega (arith, h)
children_fit (Order i u v) mark count k m two none = let h = two refl in omega (arith, h)
children_fit Rules mark count k m two none = omega (arith, none)
children_fit (TooLarge v i) mark count k m two none = omega (arith, none)
children_fit (Scales fs) mark count k m two none = omega (arith, none)
children_fit (Assign v) mark count k m two none = omega (arith, none)
children_fit (Choose v) mark count k m two none = omega (arith, none)
children_fit (SetRefuted b) mark count k m two none = omega (arith, none)
children_fit ValueShort mark count k m two none = omega (arith, none)
children_fit (GlobalScales fs) mark count k m two none = omega (arith, none)

module _ (whole set : PlainInstance) (start splits : List Exclusion) (held : List OpenNode) (state : PlainEdges)
    (room : PlainPropagator) (sc nc : ℕ)
    (same : dims set ≡ dims whole) (h : IsHeld whole set start splits held state room sc nc) (last : ℕ)
    (count : last + 1 ≡ length held) (n : OpenNode)
    (here : n ≡ slice_index_or held last n) where
  abbrev pub ns : List OpenNode
  ns = reverse (take last held)

  pub split : reverse held ≡ n ∷ ns
  split = split_node held last n count (sym here)

  pub stack : AreHeld set start splits state.trail (length state.trail) (length splits) (n ∷ ns)
  stack = subst (λ (l : List OpenNode). AreHeld set start splits state.trail (length state.trail) (length splits) l)
      split h.nodes

  pub over : IsOver set state n
  over = over_held set start splits state n ns h.same_dims h.same_boxes stack

  pub splits_within : n.splits ≤ length splits
  splits_within = stack.1

  pub splits_few : IsInternalInstance set → n.splits + 2 < 2 ^ 32
  splits_few limits =
      let f = relations_few (dims set) (box_count set) limits.container.dimensions.1 limits.boxes.count.1 in
      let s = stack.2.short in
      omega (arith, f, s)

  others : length ns ≡ last
  others = length-reverse (take last held) ∙ (length-take last held ∙ omega (arith, count))

  pub seen : nodes_of start splits held ≡ node_exclusions n (above start splits n)
      ∷ map (λ m. node_exclusions m (above start splits m)) ns
  seen = ap (map (λ m. node_exclusions m (above start splits m))) split

  module _ (new : PlainEdges) (sizes : new ≡ record state { trail = new.trail }) (after : PlainPropagator)
      (kept : after ≡ room) (token : PlainToken) where
    new_dims : new.dims ≡ dims set
    new_dims = ap (λ (s : PlainEdges). s.dims) sizes ∙ h.same_dims

    new_boxes : new.boxes ≡ box_count set
    new_boxes = ap (λ (s : PlainEdges). s.boxes) sizes ∙ h.same_boxes

    module _ (answer : Option RefuseCode) (judged : IsJudged set n state.trail new.trail answer token) where
      pub held_refused : IsHeld whole set start splits held new after sc nc
      held_refused = record {
        within = h.within;
        same_dims = new_dims;
        same_boxes = new_boxes;
        state_room = ap (λ (s : PlainEdges). s.room) sizes ∙ h.state_room;
        room_dims = rw kept h.room_dims;
        room_boxes = rw kept h.room_boxes;
        room_most = rw kept h.room_most;
        split_room = h.split_room;
        node_room = h.node_room;
        few = h.few;
        nodes = subst (λ (l : List OpenNode). AreHeld set start splits new.trail (length new.trail) (length splits)
            l) (sym split)
            (held_same set start splits state.trail new.trail n ns judged.within judged.kept stack);
      }

      pub step_refused : (code : RefuseCode) → answer ≡ Some code
          → ◌≡◌ {A = Checked (List Exclusion)} (record { nodes = nodes_of start splits held; refused = Some code })
          (checked_after (inner_after set) (record { nodes = nodes_of start splits held; refused = None }) token)
      step_refused code e =
          fed_refused set (nodes_of start splits held) (node_exclusions n (above start splits n))
          (map (λ m. node_exclusions m (above start splits m)) ns) code token seen
          (sym e ∙ judged.value (above start splits n) stack.2.stands)

    module _ (judged : IsJudged set n state.trail new.trail None token) where
      accepted : IsAccepted set start splits new.trail n ns token
      accepted = accepted_held set start splits state.trail new.trail n ns stack token judged

      pub split_fits : IsTrue (is_split token) → n.splits + 2 ≤ sc
      split_fits s =
          let l : all_relations set ≤ all_relations whole =
          (let k = less_room (dims set) (box_count set) (box_count whole) h.within in rw (← same) k) in
          let r = accepted.room s in
          omega (arith, r, l, h.split_room)

      pub nodes_fit : IsTrue (is_split token) → last + 2 ≤ nc
      nodes_fit s =
          let l : most_nodes set ≤ most_nodes whole =
          (let k = nodes_less (dims set) (box_count set) (box_count whole) h.within in rw (← same) k) in
          let f = accepted.few s in
          omega (arith, f, l, others, h.node_room)

      module _ (sp : List Exclusion) (is : sp ≡ splits_after splits n token) (more : List OpenNode)
          (put : more ≡ take last held ++ child_nodes (length new.trail) (length sp) token) where
        turned : reverse more ≡ reverse
            (child_nodes (length new.trail) (length (splits_after splits n token)) token) ++ ns
        turned = ap reverse (put ∙ ap (λ (l : List Exclusion). take last held
            ++ child_nodes (length new.trail) (length l) token) is)
            ∙ reverse-append (take last held)
            (child_nodes (length new.trail) (length (splits_after splits n token)) token)

        pub held_accepted : (sc' nc' : ℕ) → sc' ≡ sc → nc' ≡ nc → IsHeld whole set start sp more new after sc' nc'
        held_accepted sc' nc' e f = record {
          within = h.within;
          same_dims = new_dims;
          same_boxes = new_boxes;
          state_room = ap (λ (s : PlainEdges). s.room) sizes ∙ h.state_room;
          room_dims = rw kept h.room_dims;
          room_boxes = rw kept h.room_boxes;
          room_most = rw kept h.room_most;
          split_room = rw e h.split_room;
          node_room = rw f h.node_room;
          few = few_more;
          nodes = subst (λ (l : List OpenNode). AreHeld set start sp new.trail (length new.trail) (length sp) l)
              (sym turned)
              (subst (λ (l : List Exclusion). AreHeld set start l new.trail (length new.trail) (length l)
              (reverse (child_nodes (length new.trail) (length (splits_after splits n token)) token) ++ ns)) (sym is)
              accepted.held);
        }
          where
            few_more : length more ≤ most_nodes set
            few_more =
                let l = length-append (take last held) (child_nodes (length new.trail) (length sp) token) in
                let t = length-take last held in
                let fits = children_fit token (length new.trail) (length sp) last (most_nodes set)
                (λ s. let f = accepted.few s in omega (arith, f, others)) (omega (arith, h.few, count)) in
                rw put (omega (arith, l, t, fits, count))

        pub step_accepted : ◌≡◌ {A = Checked (List Exclusion)}
            (record { nodes = nodes_of start sp more; refused = None })
            (checked_after (inner_after set) (record { nodes = nodes_of start splits held; refused = None }) token)
        step_accepted =
            fed_accepted set (nodes_of start splits held) (nodes_of start sp more)
            (node_exclusions n (above start splits n))
            (map (λ m. node_exclusions m (above start splits m)) ns) token seen (sym (refused_none judged))
            (ap (map (λ m. node_exclusions m (above start sp m))) turned
            ∙ (ap (λ (l : List Exclusion). map (λ m. node_exclusions m (above start l m))
            (reverse (child_nodes (length new.trail) (length (splits_after splits n token)) token) ++ ns)) is
            ∙ accepted.seen))
          where
            refused_none : IsJudged set n state.trail new.trail None token
                → refusal set (node_exclusions n (above start splits n)) token ≡ None
            refused_none j = sym (j.value (above start splits n) stack.2.stands)

-- a node that is read twice
pub same_node : (held : List OpenNode) (last : ℕ) (n p : OpenNode) → last < length held → n ≡ slice_index_or held last n
    → p ≡ slice_index_or held last p → n ≡ p
same_node held last n p there e f = e ∙ (get_or_default held last n p there ∙ sym f)

-- how the refuter is seen after a token
pub fed_seen : (seen known : PlainRefuter) (checked : Checked (List Exclusion)) (t : PlainToken) → seen ≡ known
    → checked ≡ checked_after (inner_after (subset seen.instance seen.keep)) seen.checked t
    → ◌≡◌ {A = PlainRefuter} (record { instance = seen.instance; keep = seen.keep; checked = checked }) (fed known t)
fed_seen seen known checked t e f =
    ap (λ (k : Checked (List Exclusion)). let r :
    PlainRefuter = record { instance = seen.instance; keep = seen.keep; checked = k } in r) f
    ∙ ap (λ (r : PlainRefuter). fed r t) e

-- the node that was judged is the one that is replaced
pub judged_parent : (set : PlainInstance) (n p : OpenNode) (old new : List Exclusion) (answer : Option RefuseCode)
    (token : PlainToken) → n ≡ p → answer ≡ None
    → IsJudged set n old new answer token → IsJudged set p old new None token
judged_parent set n p old new answer token e f h =
    subst (λ (m : OpenNode). IsJudged set m old new None token) e
    (subst (λ (o : Option RefuseCode). IsJudged set n old new o token) f h)

-- the nodes of a stack, and what is answered
pub counted : (start splits : List Exclusion) (held : List OpenNode) → length (nodes_of start splits held) ≡ length held
counted start splits held = length-map (reverse held) (λ n. node_exclusions n (above start splits n))
    ∙ length-reverse held

pub answered_empty : (start splits : List Exclusion) (held : List OpenNode) → length held ≡ 0
    → Done ≡ answered_by None (nodes_of start splits held)
answered_empty start splits held e = answered_done (nodes_of start splits held) (counted start splits held ∙ e)

pub answered_more : (start splits : List Exclusion) (held : List OpenNode) → length held ≢ 0
    → More ≡ answered_by None (nodes_of start splits held)
answered_more start splits held e =
    answered_on (nodes_of start splits held) (λ f. e (sym (counted start splits held) ∙ f))

-- the children stand in the place of the node that was taken away
pub put_children : (held cut more : List OpenNode) (last mark count k : ℕ) (token : PlainToken)
    → more ≡ cut ++ child_nodes mark count token → cut ≡ take last held → mark ≡ k
    → more ≡ take last held ++ child_nodes k count token
put_children held cut more last mark count k token e f g = rw (← f, ← g) e
