-- The splits as the path of the definition: leaving a closed node, and going on to the children of a split.
use Rattle.std.proofs.Common.{◌≡◌, ℕ, suc, ◌<◌, ◌≤◌, ◌⊎◌, inl, inr, refl, ap, arith, Bool, true, false, ltb}
use Rattle.std.proofs.Common.{if◌then◌else◌, List, [], ◌∷◌, length}
use Rattle.std.proofs.lemmas.Bool.{cases_lt, lt-ltb, le-ltb}
use Rattle.std.proofs.lemmas.List.{drop_more, drop_all}
use Rattle.packing_terms.specs.OuterPaths.{leave, enter}
use Rattle.outer_check.specs.declared.path.Frame.{Frame}
use Rattle.outer_check.specs.Frames.{next_frames, first_split}
use Rattle.outer_check.specs.declared.point.Point.TheVariants.{AtNode}
use Rattle.outer_check.specs.Steps.{standing, point_behind}
use Rattle.outer_check.specs.Nodes.{node_below, path_below, HaveChildren}

module _ {Node : Type 0} (below : Node → ℕ → List Node) (root : Node) where
  pub left_is : (frames : List Frame) → HaveChildren below root frames
      → leave below (path_below below root frames)
      ≡ standing below root (next_frames frames) (point_behind (next_frames frames))
  left_is [] h = refl
  left_is (f ∷ frames) h = go (cases_lt (suc f.child) f.children) (left_is frames h.1)
    where
      node : Node
      node = node_below below root frames

      go : (suc f.child < f.children) ⊎ (f.children ≤ suc f.child)
          → leave below (path_below below root frames)
          ≡ standing below root (next_frames frames) (point_behind (next_frames frames))
          → leave below (path_below below root (f ∷ frames))
          ≡ standing below root (next_frames (f ∷ frames)) (point_behind (next_frames (f ∷ frames)))
      go (inl l) rest =
          let m : suc f.child < length (below (node_below below root frames) f.box_no) =
          (let e = h.0 in omega (arith, l, e)) in
          rw (
            lt-ltb (suc f.child) f.children l,
            leave,
            drop_more (below (node_below below root frames) f.box_no) (suc f.child)
                (node_below below root frames) m,
          ) refl
      go (inr l) rest =
          let m : length (below (node_below below root frames) f.box_no) ≤ suc f.child =
          (let e = h.0 in omega (arith, l, e)) in
          rw (
            le-ltb (suc f.child) f.children l,
            leave,
            drop_all (suc f.child) (below (node_below below root frames) f.box_no) m,
          ) rest

  pub next_children : (frames : List Frame) → HaveChildren below root frames
      → HaveChildren below root (next_frames frames)
  next_children [] h = h
  next_children (f ∷ frames) h = go (ltb (suc f.child) f.children) (next_children frames h.1)
    where
      go : (b : Bool) → HaveChildren below root (next_frames frames)
          → HaveChildren below root (if b then record f { child = suc f.child } ∷ frames else next_frames frames)
      go true rest = h
      go false rest = rest

  -- a split by a box with children, and one without
  pub entered_is : (frames : List Frame) (box_no children used : ℕ)
      → children ≡ length (below (node_below below root frames) box_no) → 1 ≤ children
      → enter below (path_below below root frames) (node_below below root frames) box_no
      ≡ standing below root (first_split box_no children used ∷ frames) AtNode
  entered_is frames box_no children used counted some = go (below (node_below below root frames) box_no) refl
    where
      go : (l : List Node) → below (node_below below root frames) box_no ≡ l
          → enter below (path_below below root frames) (node_below below root frames) box_no
          ≡ standing below root (first_split box_no children used ∷ frames) AtNode
      go [] e = absurd (let c = ap length e in omega (arith, c, counted, some))
      go (n ∷ more) e = rw (enter, e) refl

  pub closed_is : (frames : List Frame) (box_no : ℕ) → 0 ≡ length (below (node_below below root frames) box_no)
      → HaveChildren below root frames
      → enter below (path_below below root frames) (node_below below root frames) box_no
      ≡ standing below root (next_frames frames) (point_behind (next_frames frames))
  closed_is frames box_no counted h = go (below (node_below below root frames) box_no) refl
    where
      go : (l : List Node) → below (node_below below root frames) box_no ≡ l
          → enter below (path_below below root frames) (node_below below root frames) box_no
          ≡ standing below root (next_frames frames) (point_behind (next_frames frames))
      go [] e = rw (enter, e) (left_is frames h)
      go (n ∷ more) e = absurd (let c = ap length e in omega (arith, c, counted))
