-- A walk seen from the child of its root in which it stands.
use Rattle.std.proofs.Common.{◌≡◌, ℕ, zero, suc, ◌+◌, ◌<◌, ◌≤◌, refl, sym, ap, ap₂, subst, ◌∙◌, arith, List, [], ◌∷◌}
use Rattle.std.proofs.Common.{◌++◌, length, take, drop, reverse, get_or, Option, Some, None, append_assoc}
use Rattle.std.proofs.Common.{append-nil}
use Rattle.std.specs.List.{remove}
use Rattle.std.proofs.lemmas.List.{reverse-append, length-append}
use Rattle.packing_terms.specs.declared.Exclusion.{Exclusion}
use Rattle.packing_terms.specs.Packing.{PlainInstance, dims, box_count}
use Rattle.packing_terms.specs.Tokens.{PlainToken}
use Rattle.edge_state.specs.Edges.{oldest}
use Rattle.tree_terms.specs.Trees.{SearchTree, No, child_at}
use Rattle.tree_terms.specs.InnerTree.{tree_below}
use Rattle.class_search.specs.declared.splits.Child.TheVariants.{First}
use Rattle.class_search.specs.declared.walk.Size.{Size}
use Rattle.class_search.specs.declared.walk.Frame.{Frame}
use Rattle.class_search.specs.declared.walk.Walk.{Walk}
use Rattle.class_search.specs.declared.kept.PausedWalk.{PausedWalk}
use Rattle.class_search.specs.declared.kept.Refuted.{Refuted as RefutedNode}
use Rattle.class_search.specs.declared.visit.NodeKind.TheVariants.{Divided}
use Rattle.class_search.specs.Splits.{plain_split, added, IsSplitAmong}
use Rattle.class_search.specs.Visits.{kind_tree, IsDivided}
use Rattle.class_search.specs.Walks.{child_in, child_tree, frame_tree, root_of, IsFirst, AreMet}
use Rattle.class_search.specs.Kept.{IsPausedWalk, standing_tree, IsWalkOf, IsAllOf, HasChild}

-- the first of a list, and what is left of it
pub head_apart : {A : Type 0} (xs : List A) (x : A) → 0 < length xs → x ≡ get_or xs 0 x → xs ≡ x ∷ remove xs 0
head_apart [] x l e = absurd (omega (arith, l))
head_apart (y ∷ ys) x l e = ap (λ z. z ∷ ys) (sym e)

reverse_first : {A : Type 0} (x : A) (xs : List A) → reverse (x ∷ xs) ≡ reverse xs ++ x ∷ []
reverse_first x xs = reverse-append (x ∷ []) xs

-- What was met, from the child of the root on. The root is the node of the split f, whose exclusions
-- are those at its mark among some others.
pub record IsRerooted (instance : PlainInstance) (whole : SearchTree) (f : Frame) (fs : List Frame)
    (es : List Exclusion) (here : SearchTree) (ts : List PlainToken) (c : ℕ) : Type 0 where
  pub among : List Exclusion
  pub own : List PlainToken
  pub own_count : ℕ
  pub left : List PlainToken
  pub left_count : ℕ
  pub whole_is : whole ≡ frame_tree instance f among
  pub child_is : root_of instance fs es here ≡ child_tree instance f among
  pub divided : IsDivided instance (oldest f.mark among) f.split f.rank
  pub first : IsFirst instance f among f.first own own_count
  pub tokens_are : ts ≡ ((plain_split f.split).token ∷ own) ++ left
  pub count_is : c ≡ (1 + own_count) + left_count
  pub met : AreMet instance fs es here left left_count

module _ (instance : PlainInstance) where
  rerooted : (f : Frame) (fs : List Frame) (es : List Exclusion) (here : SearchTree) (ts : List PlainToken) (c : ℕ)
      → AreMet instance (fs ++ f ∷ []) es here ts c
      → IsRerooted instance (root_of instance (fs ++ f ∷ []) es here) f fs es here ts c
  rerooted f [] es here ts c m =
      let s = m.0 in
      let none = m.1 in
      record {
        among = es;
        own = s.own;
        own_count = s.own_count;
        left = [];
        left_count = 0;
        whole_is = refl;
        child_is = s.leads;
        divided = s.divided;
        first = s.first;
        tokens_are = s.all_tokens ∙ (ap (λ l. (l ++ (plain_split f.split).token ∷ []) ++ s.own) none.0
            ∙ sym (append-nil ((plain_split f.split).token ∷ s.own)));
        count_is = (let n = s.all_count in let z = none.1 in omega (arith, n, z));
        met = (refl, refl);
      }
  rerooted f (g ∷ fs) es here ts c m =
      let s = m.0 in
      let r = rerooted f fs (oldest g.mark es) (frame_tree instance g es) s.before s.count_before m.1 in
      let token = (plain_split f.split).token in
      let other = (plain_split g.split).token in
      record {
        among = r.among;
        own = r.own;
        own_count = r.own_count;
        left = (r.left ++ other ∷ []) ++ s.own;
        left_count = (r.left_count + 1) + s.own_count;
        whole_is = r.whole_is;
        child_is = r.child_is;
        divided = r.divided;
        first = r.first;
        tokens_are =
            s.all_tokens
            ∙ (ap (λ l. (l ++ other ∷ []) ++ s.own) r.tokens_are
            ∙ (ap (λ l. l ++ s.own) (append_assoc (token ∷ r.own) r.left (other ∷ []))
            ∙ append_assoc (token ∷ r.own) (r.left ++ other ∷ []) s.own));
        count_is = (let n = s.all_count in let k = r.count_is in omega (arith, n, k));
        met = (
          record {
            inside = s.inside;
            divided = s.divided;
            leads = s.leads;
            before = r.left;
            count_before = r.left_count;
            own = s.own;
            own_count = s.own_count;
            first = s.first;
            all_tokens = refl;
            all_count = refl;
          },
          r.met,
        );
      }

  -- the same, of the frames as they are stored
  pub rerooted_at : (f : Frame) (frames rest : List Frame) (es : List Exclusion) (here : SearchTree)
      (ts : List PlainToken) (c : ℕ) → frames ≡ f ∷ rest
      → AreMet instance (reverse frames) es here ts c
      → IsRerooted instance (root_of instance (reverse frames) es here) f (reverse rest) es here ts c
  rerooted_at f frames rest es here ts c e m =
      let back : reverse frames ≡ reverse rest ++ f ∷ [] = ap reverse e ∙ reverse_first f rest in
      subst (λ (l : List Frame). IsRerooted instance (root_of instance l es here) f (reverse rest) es here ts
      c) (sym back)
      (rerooted f (reverse rest) es here ts c (subst (λ (l : List Frame). AreMet instance l es here ts c) back m))

-- the tokens and the count of the first split, and those of the first child where it is finished
module _ (s : PausedWalk) (f : Frame) (rest : List Frame) (e : s.walk.frames.items ≡ f ∷ rest) (h : IsPausedWalk s) where
  abbrev here : SearchTree
  here = kind_tree s.instance.now s.state.trail s.walk.node

  r : IsRerooted s.instance.now (standing_tree s) f (reverse rest) s.state.trail here
      s.walk.tokens s.walk.count
  r = rerooted_at s.instance.now f s.walk.frames.items rest s.state.trail here s.walk.tokens
      s.walk.count e h.walks.met

  pub met_some : (0 < length s.walk.tokens) × (1 ≤ s.walk.count)
  met_some = ((let t = ap length r.tokens_are in omega (arith, t)), (let n = r.count_is in omega (arith, n)))

  -- the split that is reported of the node is that of the first frame
  pub met_node : {A : Type 0} (tell : SearchTree → A) (node : A)
      → ((es : List Exclusion) → node ≡ tell (kind_tree s.instance.now es (Divided f.split f.rank)))
      → node ≡ tell (standing_tree s)
  met_node tell node is = is (oldest f.mark r.among) ∙ ap tell (sym r.whole_is)

  pub met_among : IsSplitAmong (dims s.instance.now) (box_count s.instance.now) f.split
  met_among = r.divided.split.among

  pub met_size : (size : Size) → f.first ≡ Some size → (1 + size.tokens ≤ length s.walk.tokens)
      × (1 + size.count ≤ s.walk.count)
  met_size size is =
      let done = subst (λ (o : Option Size). IsFirst s.instance.now f r.among o r.own r.own_count) is r.first in
      let a = done.0 in
      let b = done.1 in (
        (let t = ap length r.tokens_are in let l = length-append r.own r.left in omega (arith, t, l, a)),
        (let n = r.count_is in omega (arith, n, b)),
      )

  -- the walk goes on in the first child
  pub left_first : (w : Walk) → f.first ≡ None → w.frames.items ≡ rest
      → ((t : PlainToken) (ts : List PlainToken) → s.walk.tokens ≡ t ∷ ts
      → w.tokens ≡ ts)
      → w.count + 1 ≡ s.walk.count → w.node ≡ s.walk.node
      → HasChild (standing_tree s) 0 (λ t. IsWalkOf s.instance.now t (record s { walk = w }))
  left_first w is frames tokens count node =
      let none = subst (λ (o : Option Size). IsFirst s.instance.now f r.among o r.own r.own_count) is r.first in
      let ts : w.tokens ≡ r.left =
      tokens (plain_split f.split).token r.left
      (r.tokens_are ∙ ap (λ l. ((plain_split f.split).token ∷ l) ++ r.left) none.0) in
      let c : w.count ≡ r.left_count = (let n = r.count_is in let z = none.1 in omega (arith, n, z, count)) in
      record {
        child = root_of s.instance.now (reverse rest) s.state.trail here;
        there = ap (λ (t : SearchTree). child_at t 0) r.whole_is
            ∙ ap Some (sym (r.child_is ∙ ap
            (λ (o : Option Size). tree_below s.instance.now
            (added f.split (child_in o) ++ oldest f.mark r.among)) is));
        kept = record {
          here = refl;
          stands = record {
            sizes_dims = h.sizes_dims;
            sizes_boxes = h.sizes_boxes;
            room = h.room;
            fit = h.fit;
            walks = record { met = rw (frames, ts, c, node) r.met; known = rw node h.walks.known };
          };
          is = rw (frames, node) refl;
        };
      }

  -- the first child is finished, and the walk goes on in the second
  pub left_second : (w : Walk) (size : Size) → f.first ≡ Some size → w.frames.items ≡ rest
      → ((t : PlainToken) (ts : List PlainToken) → s.walk.tokens ≡ t ∷ ts
      → w.tokens ≡ drop size.tokens ts)
      → w.count + (1 + size.count) ≡ s.walk.count → w.node ≡ s.walk.node
      → HasChild (standing_tree s) 1 (λ t. IsWalkOf s.instance.now t (record s { walk = w }))
  left_second w size is frames tokens count node =
      let done = subst (λ (o : Option Size). IsFirst s.instance.now f r.among o r.own r.own_count) is r.first in
      let ts : w.tokens ≡ r.left =
      tokens (plain_split f.split).token (r.own ++ r.left) r.tokens_are
      ∙ drop_front r.own r.left size.tokens done.0 in
      let c : w.count ≡ r.left_count = (let n = r.count_is in let z = done.1 in omega (arith, n, z, count)) in
      record {
        child = root_of s.instance.now (reverse rest) s.state.trail here;
        there = ap (λ (t : SearchTree). child_at t 1) r.whole_is
            ∙ ap Some (sym (r.child_is ∙ ap
            (λ (o : Option Size). tree_below s.instance.now
            (added f.split (child_in o) ++ oldest f.mark r.among)) is));
        kept = record {
          here = refl;
          stands = record {
            sizes_dims = h.sizes_dims;
            sizes_boxes = h.sizes_boxes;
            room = h.room;
            fit = h.fit;
            walks = record { met = rw (frames, ts, c, node) r.met; known = rw node h.walks.known };
          };
          is = rw (frames, node) refl;
        };
      }
    where
      drop_front : (xs ys : List PlainToken) (n : ℕ) → length xs ≡ n → drop n (xs ++ ys) ≡ ys
      drop_front [] ys zero l = refl
      drop_front [] ys (suc n) l = absurd (omega (arith, l))
      drop_front (x ∷ xs) ys zero l = absurd (omega (arith, l))
      drop_front (x ∷ xs) ys (suc n) l = drop_front xs ys n (omega (arith, l))

  pub left_behind : (refuted : RefutedNode) (size : Size) → f.first ≡ Some size
      → ((t : PlainToken) (ts : List PlainToken) → s.walk.tokens ≡ t ∷ ts
      → refuted.tokens ≡ take size.tokens ts)
      → refuted.count ≡ size.count → HasChild (standing_tree s) 0 (λ t. IsAllOf t refuted)
  left_behind refuted size is tokens count =
      let done = subst (λ (o : Option Size). IsFirst s.instance.now f r.among o r.own r.own_count) is r.first in
      let ts : refuted.tokens ≡ r.own =
      tokens (plain_split f.split).token (r.own ++ r.left) r.tokens_are
      ∙ take_front r.own r.left size.tokens done.0 in
      record {
        child = tree_below s.instance.now (added f.split First ++ oldest f.mark r.among);
        there = ap (λ (t : SearchTree). child_at t 0) r.whole_is;
        kept = done.2 ∙ ap₂ No (sym ts) (done.1 ∙ sym count);
      }
    where
      take_front : (xs ys : List PlainToken) (n : ℕ) → length xs ≡ n → take n (xs ++ ys) ≡ xs
      take_front [] ys zero l = refl
      take_front [] ys (suc n) l = absurd (omega (arith, l))
      take_front (x ∷ xs) ys zero l = absurd (omega (arith, l))
      take_front (x ∷ xs) ys (suc n) l = ap (λ zs. x ∷ zs) (take_front xs ys n (omega (arith, l)))
