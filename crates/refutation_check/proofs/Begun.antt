-- A tree of which nothing was checked yet.
use Rattle.std.proofs.Common.{◌≡◌, ℕ, ◌+◌, ◌-◌, ◌*◌, ◌/◌, ◌≤◌, refl, sym, ap, subst, ◌∙◌, arith, List, [], ◌∷◌, length}
use Rattle.std.proofs.Common.{get_or, None}
use Rattle.std.specs.List.{All}
use Rattle.std.proofs.lemmas.List.{length-map}
use Rattle.std.proofs.lemmas.List.Elements.{All-nil, All-cons}
use Rattle.std.proofs.lemmas.List.FromFn.{length-range_with_len}
use Rattle.packing_terms.specs.declared.Exclusion.{Exclusion}
use Rattle.packing_terms.specs.Packing.{PlainInstance, no_box, dims, box_count}
use Rattle.packing_terms.specs.Goals.{subset, IsBoxSet}
use Rattle.packing_terms.specs.Exclusions.{excludes, IsEdge, IsEdgeAmong, AreAtEdges}
use Rattle.packing_terms.specs.Closure.{Derives}
use Rattle.packing_terms.proofs.Steps.{few_open}
use Rattle.box_instances.specs.Sets.{PlainBoxSet, all_boxes}
use Rattle.box_instances.proofs.BoxSets.{set_few}
use Rattle.edge_state.specs.Edges.{PlainEdges, oldest}
use Rattle.refutation_check.specs.declared.node.OpenNode.{OpenNode}
use Rattle.rule_passes.specs.Rooms.{PlainPropagator}
use Rattle.refutation_check.specs.Nodes.{with_each, opens, all_relations, IsHeldNode}
use Rattle.refutation_check.specs.Refuters.{PlainRefuter, most_nodes, IsHeld}
use Rattle.refutation_check.proofs.Nodes.{each_same}
use Rattle.edge_state.proofs.Oldest.{oldest_all}

-- as many boxes as numbers
pub set_count : (whole : PlainInstance) (keep : List ℕ) → box_count (subset whole keep) ≡ length keep
set_count whole keep = length-map keep (λ v. get_or whole.boxes v no_box)

pub all_count : (whole : PlainInstance) → box_count (subset whole (all_boxes whole)) ≡ box_count whole
all_count whole = set_count whole (all_boxes whole) ∙ length-range_with_len 0 (box_count whole)

-- exclusions at edges, each by its position
each_at_edge : (instance : PlainInstance) (es : List Exclusion) → AreAtEdges instance es
    → All (λ (e : Exclusion). IsEdge instance e.dim e.u e.v) es
each_at_edge instance [] h = All-nil (λ (e : Exclusion). IsEdge instance e.dim e.u e.v)
each_at_edge instance (e ∷ es) h =
    All-cons (λ (x : Exclusion). IsEdge instance x.dim x.u x.v) e es h.0 (each_at_edge instance es h.1)

pub each_at_edge_of : (instance : PlainInstance) (es : List Exclusion) (state : PlainEdges) (begun : List Exclusion)
    → begun ≡ es
    → state.dims ≡ dims instance → state.boxes ≡ box_count instance → AreAtEdges instance es
    → All (λ (e : Exclusion). IsEdgeAmong state.dims state.boxes e.dim e.u e.v) begun
each_at_edge_of instance es state begun same d n h = rw same (rw d (rw n (each_at_edge instance es h)))

-- the root, with these exclusions
root_held : (set : PlainInstance) (start es : List Exclusion) (n : OpenNode)
    → n ≡ record { mark = length es; splits = 0; first = None; second = None }
    → es ≡ with_each start → IsHeldNode set start [] es 0 n
root_held set start es n is f = rw is (record {
  stands = subst (λ (l : List Exclusion). Derives set (excludes l) (excludes start)
      × Derives set (excludes start) (excludes l)) (sym (whole ∙ f))
      ((each_same set start).there, (each_same set start).back);
  first_there = tt;
  second_there = tt;
  few = rw whole (omega (arith, few));
  short = rw whole (omega (arith, few));
})
  where
    whole : oldest (length es) es ≡ es
    whole = oldest_all es (length es) refl

    few : opens set es ≤ all_relations set
    few = few_open (dims set) (box_count set) es

pub begun : (whole set : PlainInstance) (start : List Exclusion) (state : PlainEdges) (room : PlainPropagator)
    (n : OpenNode) (sc nc : ℕ)
    → box_count set ≤ box_count whole → state.dims ≡ dims set → state.boxes ≡ box_count set
    → state.room ≡ box_count whole
    → room.dims ≡ dims set → room.boxes ≡ box_count set → room.most ≡ box_count whole
    → 2 * all_relations whole ≤ sc → most_nodes whole ≤ nc → state.trail ≡ with_each start
    → n ≡ record { mark = length state.trail; splits = 0; first = None; second = None }
    → IsHeld whole set start [] (n ∷ []) state room sc nc
begun whole set start state room n sc nc within d b t rd r m s k f is = record {
  within = within;
  same_dims = d;
  same_boxes = b;
  state_room = t;
  room_dims = rd;
  room_boxes = r;
  room_most = m;
  split_room = s;
  node_room = k;
  few = omega arith;
  nodes = (rw is (omega arith), rw is (omega arith), root_held set start state.trail n is f, tt);
}

pub begun_all : (instance : PlainInstance) (boxes : PlainBoxSet) (start splits : List Exclusion) (nodes : List OpenNode)
    (fresh state : PlainEdges) (room : PlainPropagator)
    (root : OpenNode) (sc nc d n mark : ℕ) → boxes ≡ record { whole = instance; keep = all_boxes instance }
    → d ≡ dims instance → n ≡ box_count instance
    → fresh ≡ record { dims = d; boxes = n; room = n; trail = [] } → state ≡ record fresh { trail = with_each start }
    → room ≡ record { dims = d; boxes = n; most = n }
    → 2 * (3 * d * n * (n - 1) / 2) ≤ sc → d * n * (n - 1) + 1 ≤ nc → splits ≡ [] → nodes ≡ root ∷ []
    → mark ≡ length state.trail
    → root ≡ record { mark = mark; splits = 0; first = None; second = None }
    → IsHeld boxes.whole (subset boxes.whole boxes.keep) start splits nodes state room sc nc
begun_all instance boxes start splits nodes fresh state room root sc nc d n mark eb ed en ef es er hs hn e0 e1 em is =
    rw (eb, e0, e1) (begun instance (subset instance (all_boxes instance)) start state room root sc nc
    (omega (arith, same))
    (ap (λ (s : PlainEdges). s.dims) (es ∙ ap (λ (s : PlainEdges). record s { trail = with_each start }) ef) ∙ ed)
    (ap (λ (s : PlainEdges). s.boxes) (es ∙ ap (λ (s : PlainEdges). record s { trail = with_each start }) ef)
    ∙ (en ∙ sym same))
    (ap (λ (s : PlainEdges). s.room) (es ∙ ap (λ (s : PlainEdges). record s { trail = with_each start }) ef) ∙ en)
    (ap (λ (r : PlainPropagator). r.dims) er ∙ ed) (ap (λ (r : PlainPropagator). r.boxes) er ∙ (en ∙ sym same))
    (ap (λ (r : PlainPropagator). r.most) er ∙ en)
    (rw (← ed, ← en) hs) (rw (← ed, ← en) hn) (ap (λ (s : PlainEdges). s.trail) es) (rw (← em) is))
  where
    same : box_count (subset instance (all_boxes instance)) ≡ box_count instance
    same = all_count instance

-- another tree, of other boxes: the state and the room were those of the last one
pub begun_again : (whole last : PlainInstance) (keep : List ℕ) (boxes : PlainBoxSet) (start splits : List Exclusion)
    (held nodes : List OpenNode)
    (old_start old_splits : List Exclusion) (old state : PlainEdges) (was room : PlainPropagator) (root : OpenNode)
    (sc nc sc' nc' n mark : ℕ)
    → IsHeld whole last old_start old_splits held old was sc nc → dims last ≡ dims whole → IsBoxSet whole keep
    → boxes ≡ record { whole = whole; keep = keep }
    → n ≡ box_count (subset whole keep) → state ≡ record old { boxes = n; trail = [] } → room ≡ record was { boxes = n }
    → start ≡ [] → splits ≡ [] → nodes ≡ root ∷ [] → sc' ≡ sc → nc' ≡ nc → mark ≡ length state.trail
    → root ≡ record { mark = mark; splits = 0; first = None; second = None }
    → IsHeld boxes.whole (subset boxes.whole boxes.keep) start splits nodes state room sc' nc'
begun_again whole last keep boxes start splits held nodes old_start old_splits old state was room root sc nc sc' nc' n
    mark h same set eb en es er e0 e1 e2 e3 e4 em is =
    rw (eb, e0, e1, e2, e3, e4) (begun whole (subset whole keep) [] state room root sc nc
    (omega (arith, set_count whole keep, set_few whole keep set))
    (ap (λ (s : PlainEdges). s.dims) es ∙ (h.same_dims ∙ same)) (ap (λ (s : PlainEdges). s.boxes) es ∙ en)
    (ap (λ (s : PlainEdges). s.room) es ∙ h.state_room)
    (ap (λ (r : PlainPropagator). r.dims) er ∙ (h.room_dims ∙ same)) (ap (λ (r : PlainPropagator). r.boxes) er ∙ en)
    (ap (λ (r : PlainPropagator). r.most) er ∙ h.room_most) h.split_room h.node_room
    (ap (λ (s : PlainEdges). s.trail) es) (rw (← em) is))

-- the boxes of the new tree are a set of the instance that is kept
pub set_kept : (seen known : PlainRefuter) (keep : List ℕ) → seen ≡ known → IsBoxSet known.instance keep
    → IsBoxSet seen.instance keep
set_kept seen known keep e set = rw e set

-- and no more than all
pub part_count : (whole : PlainInstance) (new : PlainBoxSet) (keep : List ℕ) (part : PlainInstance) (n : ℕ)
    → IsBoxSet whole keep
    → new ≡ record { whole = whole; keep = keep } → part ≡ subset new.whole new.keep → n ≡ box_count part
    → n ≤ box_count whole
part_count whole new keep part n set e f g =
    rw (g, f, e) (let c = set_count whole keep in let l = set_few whole keep set in omega (arith, c, l))
