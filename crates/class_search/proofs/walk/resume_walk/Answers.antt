use Rattle.std.proofs.Common.{ap, sym, ◌∙◌, arith, refl, reverse, Some, None}
use Rattle.edge_state.specs.Edges.{PlainEdges, oldest}
use Rattle.class_search.specs.declared.walk.Frame.{Frame}
use Rattle.tree_terms.specs.Trees.{Yes}
use Rattle.class_search.specs.Walks.{walk_tree, size_of_both}
use Rattle.class_search.proofs.Lists.{reverse_last}
use Rattle.class_search.proofs.Sizes.{sizes_of, same_sizes}
use Rattle.class_search.proofs.Walking.{pairs_settled}
use Rattle.class_search.proofs.Ways.{met_first, met_both, met_second, size_within, split_count, settled_told}
use Rattle.class_search.proofs.walk.resume_walk.Goals as goal

pub places_of-requires-clause-settled : goal.places_of-requires-clause-settled
places_of-requires-clause-settled c =
    let stands = rw (c.in-Met.is, c.in-Settled.is) at c.loop-place.invariant.stands in
    pairs_settled c.args.search.now.instance.now c.loop-place.state.trail stands.known.settled

pub returns-in-Settled-clause-end : goal.returns-in-Settled-clause-end
returns-in-Settled-clause-end c =
    let instance = c.args.search.now.instance.now in
    let whole = walk_tree instance c.args.state.now.trail c.args.walk in
    let stands = rw (c.in-Met.is, c.in-Settled.is) at c.loop-place.invariant.stands in
    settled_told instance whole (reverse c.loop-place.frames.items) c.loop-place.state.trail
    c.loop-place.tokens c.loop-place.count c.args.cap
    c.in_ok-numbers-in-Settled.numbers.items stands.met stands.root
    (ap (λ ns. Yes ns 0) (sym c.in_ok-numbers-in-Settled.ensures)) c.loop-place.invariant.within

pub returns-then-count-cap-clause-end : goal.returns-then-count-cap-clause-end
returns-then-count-cap-clause-end c =
    let instance = c.args.search.now.instance.now in
    let whole = walk_tree instance c.args.state.now.trail c.args.walk in
    let stands = rw (c.in-Met.is, c.in-Divided.is) at c.loop-place.invariant.stands in
    let past = split_count instance whole (reverse c.loop-place.frames.items) c.loop-place.state.trail
    c.loop-place.tokens c.loop-place.count c.in-Divided.split c.in-Divided.rank stands in
    (record { met = stands.met; known = stands.known }, stands.root, omega (arith, past, c.if-count-cap.true))

pub loop-place-preserved-in-Divided : goal.loop-place-preserved-in-Divided
loop-place-preserved-in-Divided c =
    let instance = c.args.search.now.instance.now in
    let whole = walk_tree instance c.args.state.now.trail c.args.walk in
    let fs = reverse c.loop-place.frames.items in
    let ts = c.loop-place.tokens in
    let met = c.in_ok-met-in-Divided in
    let stands = rw (c.in-Met.is, c.in-Divided.is) at c.loop-place.invariant.stands in
    let f : Frame =
    record { split = c.in-Divided.split; mark = c.mark.result; rank = c.in-Divided.rank; first = None } in
    rw (
      c.in_ok-push-in-Divided.ensures.appends,
      c.in_ok-met-in-Divided.ensures.frames,
      c.token.ensures,
      reverse_last c.loop-place.frames.items f,
      c.mark.ensures,
    ) (record {
      stands = met_first instance whole fs c.loop-place.state.trail c.enter_child.new.state.trail ts
          c.loop-place.count c.in-Divided.split c.in-Divided.rank met.met stands met.ensures.met;
      within = omega (arith, c.loop-place.invariant.within, c.if-count-cap.false);
      same_dims = ap (λ (s : PlainEdges). s.dims) met.ensures.sizes ∙ c.loop-place.invariant.same_dims;
      same_boxes = ap (λ (s : PlainEdges). s.boxes) met.ensures.sizes ∙ c.loop-place.invariant.same_boxes;
      sizes = same_sizes c.args.state.now c.loop-place.state c.enter_child.new.state
          c.loop-place.invariant.sizes met.ensures.sizes;
      same_closer = met.ensures.closer ∙ c.loop-place.invariant.same_closer;
    })

pub behind-requires-clause-tokens : goal.behind-requires-clause-tokens
behind-requires-clause-tokens c =
    let e = ap reverse c.in-Some.ensures.items ∙ reverse_last c.pop.new.self.items c.in-Some.frame in
    let stands = rw (e, c.in-Over.is) at c.loop-place.invariant.stands in
    let instance = c.args.search.now.instance.now in
    let whole = walk_tree instance c.args.state.now.trail c.args.walk in
    let fs = reverse c.pop.new.self.items in
    let ts = c.loop-place.tokens in
    let es = c.loop-place.state.trail in
    let first = c.in-Some-first.first in
    let both = met_both instance whole c.in-Some.frame fs es ts c.loop-place.count c.in-Over.size
    first c.in-Some-first.is stands in
    let w = size_within instance whole fs (oldest c.in-Some.frame.mark es) ts c.loop-place.count
    (size_of_both first c.in-Over.size) both in
    let l = w.0 in
    omega (arith, l, c.len-len.ensures)

pub loop-place-preserved-in-Some-first : goal.loop-place-preserved-in-Some-first
loop-place-preserved-in-Some-first c =
    let e = ap reverse c.in-Some.ensures.items ∙ reverse_last c.pop.new.self.items c.in-Some.frame in
    let stands = rw (e, c.in-Over.is) at c.loop-place.invariant.stands in
    let instance = c.args.search.now.instance.now in
    let whole = walk_tree instance c.args.state.now.trail c.args.walk in
    let fs = reverse c.pop.new.self.items in
    let ts = c.loop-place.tokens in
    let es = c.loop-place.state.trail in
    let undone : PlainEdges = record c.loop-place.state { trail = oldest c.in-Some.frame.mark es } in
    rw (c.behind.ensures, c.undo.ensures) (record {
      stands = met_both instance whole c.in-Some.frame fs es ts c.loop-place.count c.in-Over.size
          c.in-Some-first.first c.in-Some-first.is stands;
      within = c.loop-place.invariant.within;
      same_dims = c.loop-place.invariant.same_dims;
      same_boxes = c.loop-place.invariant.same_boxes;
      sizes = same_sizes c.args.state.now c.loop-place.state undone c.loop-place.invariant.sizes refl;
      same_closer = c.loop-place.invariant.same_closer;
    })

pub loop-place-preserved : goal.loop-place-preserved
loop-place-preserved c =
    let e = ap reverse c.in-Some.ensures.items ∙ reverse_last c.pop.new.self.items c.in-Some.frame in
    let stands = rw (e, c.in-Over.is) at c.loop-place.invariant.stands in
    let instance = c.args.search.now.instance.now in
    let whole = walk_tree instance c.args.state.now.trail c.args.walk in
    let fs = reverse c.pop.new.self.items in
    let ts = c.loop-place.tokens in
    let es = c.loop-place.state.trail in
    let frame = c.in-Some.frame in
    let undone = c.undo.new.self in
    let new = c.enter_child-in_default-first.new.state in
    let met = c.in_ok-met-in-Over in
    let here = rw c.undo.ensures at c.in_ok-met-in-Over.ensures.met in
    let f : Frame =
    record { split = frame.split; mark = frame.mark; rank = frame.rank; first = Some c.in-Over.size } in
    rw (c.in_ok-met-in-Over.ensures.frames, reverse_last c.pop.new.self.items f) (record {
      stands = met_second instance whole frame fs es new.trail ts c.loop-place.count c.in-Over.size met.met
          c.in_default-first.is stands here;
      within = c.loop-place.invariant.within;
      same_dims = ap (λ (s : PlainEdges). s.dims) met.ensures.sizes
          ∙ (ap (λ (s : PlainEdges). s.dims) c.undo.ensures ∙ c.loop-place.invariant.same_dims);
      same_boxes = ap (λ (s : PlainEdges). s.boxes) met.ensures.sizes
          ∙ (ap (λ (s : PlainEdges). s.boxes) c.undo.ensures ∙ c.loop-place.invariant.same_boxes);
      sizes = same_sizes c.args.state.now c.loop-place.state new c.loop-place.invariant.sizes
          (same_sizes c.loop-place.state undone new (sizes_of c.loop-place.state undone _ c.undo.ensures)
          met.ensures.sizes);
      same_closer = met.ensures.closer ∙ c.loop-place.invariant.same_closer;
    })
