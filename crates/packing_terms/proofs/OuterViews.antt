-- The open nodes of an outer tree that is fed are those of its path, and the path is no longer than there are boxes.
use Rattle.std.proofs.Common.{◌≡◌, ◌≢◌, ℕ, zero, suc, pred, ◌<◌, ◌≤◌, ◌⊎◌, inl, inr, refl, sym, ap, subst, ◌∙◌, arith}
use Rattle.std.proofs.Common.{Bool, true, false, if◌then◌else◌, ltb, eqb, List, [], ◌∷◌, ◌++◌, map, drop, length}
use Rattle.std.proofs.Common.{append_assoc, Some, None}
use Rattle.std.specs.List.{list_any, range_with_len, AllByRecursion}
use Rattle.std.proofs.lemmas.Bool.{true≢false, eq-eqb, or_cases}
use Rattle.std.proofs.lemmas.List.{map-append, length-map}
use Rattle.packing_terms.specs.declared.Exclusion.{Exclusion}
use Rattle.packing_terms.specs.Packing.{PlainInstance, box_count}
use Rattle.packing_terms.specs.Rules.{AreBoxesAmong}
use Rattle.packing_terms.specs.Tokens.{PlainToken}
use Rattle.packing_terms.specs.Tokens.PlainToken.{Apart, Order, Rules, TooLarge, Scales, Assign, Choose, SetRefuted}
use Rattle.packing_terms.specs.Tokens.PlainToken.{ValueShort, GlobalScales}
use Rattle.packing_terms.specs.Feeding.{FeedsBy, children}
use Rattle.packing_terms.specs.OuterRefutation.{Bins, insert_box, has_box, with_box, placements, Choice, with_taken}
use Rattle.packing_terms.specs.OuterRefutation.{with_left}
use Rattle.packing_terms.specs.OuterFeeding.{OpenNode, Outer, Inner, AcceptsBins, bin_children, FeedsBins, AcceptsValue}
use Rattle.packing_terms.specs.OuterFeeding.{choice_children, FeedsValue}
use Rattle.packing_terms.specs.OuterPaths.{PathNode, CurrentNode, At, Inside, OuterView, Whole, On, waiting, open_nodes}
use Rattle.packing_terms.specs.OuterPaths.{leave, OuterStep, SplitBy, Begin, Close, enter, go_on, stepped, views_after}
use Rattle.packing_terms.specs.OuterPaths.{path_of, bins_with, bin_step, choices_with, choice_step}
use Rattle.packing_terms.proofs.Members.{IsIn, any_at, map_in, append_in, range_in}
use Rattle.packing_terms.proofs.Boxes.{each_from, each_in, boxes_few, found}
use Rattle.packing_terms.proofs.Sets.{or_true}

pub drop_next : {X : Type 0} (k : ℕ) (xs : List X) (x : X) (more : List X) → drop k xs ≡ x ∷ more → drop (suc k) xs ≡ more
drop_next zero [] x more e = absurd (cc)
drop_next zero (y ∷ xs) x more e = cc
drop_next (suc k) [] x more e = absurd (cc)
drop_next (suc k) (y ∷ xs) x more e = drop_next k xs x more e

drop_in : {X : Type 0} (k : ℕ) (xs : List X) (y : X) → IsIn y (drop k xs) → IsIn y xs
drop_in zero xs y i = i
drop_in (suc k) [] y i = absurd i
drop_in (suc k) (x ∷ xs) y i = inr (drop_in k xs y i)

module _ {Node : Type 0} (below : Node → ℕ → List Node) where
  -- leaving a node opens what waits
  leave_open : (path : List (PathNode Node)) → open_nodes below (leave below path) ≡ waiting below path
  leave_open [] = refl
  leave_open (p ∷ path) = go (drop (suc p.closed) (below p.node p.box_no)) refl (leave_open path)
    where
      go : (l : List Node) → drop (suc p.closed) (below p.node p.box_no) ≡ l
          → open_nodes below (leave below path) ≡ waiting below path
          → open_nodes below (elim l [
            | [] ↦ leave below path
            | n ∷ more ↦
                On (record p { closed = suc p.closed } ∷ path) (At n)
          ])
          ≡ map (λ n. Outer n) l ++ waiting below path
      go [] e rest = rest
      go (n ∷ more) e rest = ap (λ (l : List Node). Outer n ∷ (map (λ m. Outer m) l ++ waiting below path))
          (drop_next (suc p.closed) (below p.node p.box_no) n more e)

  enter_open : (path : List (PathNode Node)) (node : Node) (v : ℕ)
      → open_nodes below (enter below path node v) ≡ map (λ n. Outer n) (below node v) ++ waiting below path
  enter_open path node v = go (below node v) refl
    where
      go : (l : List Node) → below node v ≡ l
          → open_nodes below (elim l [
            | [] ↦ leave below path
            | n ∷ more ↦
                On (record { node = node; box_no = v; closed = 0 } ∷ path) (At n)
          ])
          ≡ map (λ n. Outer n) l ++ waiting below path
      go [] e = leave_open path
      go (n ∷ more) e = ap (λ (l : List Node). Outer n ∷ (map (λ m. Outer m) l ++ waiting below path))
          (ap (λ l. drop 1 l) e)

  go_on_open : (path : List (PathNode Node)) (keep : List ℕ) (nodes : List (List Exclusion))
      → open_nodes below (go_on below path keep nodes) ≡ map (λ fs. Inner keep fs) nodes ++ waiting below path
  go_on_open path keep [] = leave_open path
  go_on_open path keep (es ∷ behind) = refl

  module _ (step : Node → PlainToken → OuterStep) (Takes : OpenNode Node → PlainToken → Type 0)
      (kids : OpenNode Node → PlainToken → List (OpenNode Node))
      (inner : (keep : List ℕ) (es : List Exclusion) (t : PlainToken)
      → kids (Inner keep es) t ≡ map (λ fs. Inner keep fs) (children es t))
      (outer : (node : Node) (t : PlainToken) (path : List (PathNode Node)) → Takes (Outer node) t
      → kids (Outer node) t ++ waiting below path ≡ open_nodes below (stepped below path node (step node t))) where
    pub fed_view : (tokens : List PlainToken) (view : OuterView Node) (left : List (OpenNode Node))
        → FeedsBy Takes kids (open_nodes below view) tokens left
        → left ≡ open_nodes below (views_after below step view tokens)
    fed_view [] view left h = sym h
    fed_view (t ∷ ts) Whole left h = absurd h
    fed_view (t ∷ ts) (On path (At node)) left h =
        fed_view ts (stepped below path node (step node t)) left
        (subst (λ (l : List (OpenNode Node)). FeedsBy Takes kids l ts left) (outer node t path h.0) h.1)
    fed_view (t ∷ ts) (On path (Inside keep es behind)) left h =
        fed_view ts (go_on below path keep (children es t ++ behind)) left
        (subst (λ (l : List (OpenNode Node)). FeedsBy Takes kids l ts left)
        (ap (λ l. l ++ (map (λ fs. Inner keep fs) behind ++ waiting below path)) (inner keep es t)
        ∙ (sym (append_assoc (map (λ fs. Inner keep fs) (children es t)) (map (λ fs. Inner keep fs) behind)
        (waiting below path))
        ∙ (ap (λ l. l ++ waiting below path) (sym (map-append (λ fs. Inner keep fs) (children es t) behind))
        ∙ sym (go_on_open path keep (children es t ++ behind))))) h.1)

    -- each split places a box that wasn't placed
    module _ (n : ℕ) (Placed : Node → ℕ → Type 0)
        (child_has : (node child : Node) (v : ℕ) → IsIn child (below node v) → Placed child (pred v))
        (child_keeps : (node child : Node) (v u : ℕ) → IsIn child (below node v) → Placed node u → Placed child u)
        (is_new : (node : Node) (t : PlainToken) (v : ℕ) → Takes (Outer node) t → step node t ≡ SplitBy v
        → (pred v < n) × ¬ Placed node (pred v)) where
      abbrev Leads : List (PathNode Node) → Node → Type 0
      Leads [] node = Unit {0}
      Leads (p ∷ path) node = IsIn node (below p.node p.box_no) × Leads path p.node

      abbrev boxes : List (PathNode Node) → List ℕ
      boxes path = map (λ p. pred p.box_no) path

      abbrev LeadsTo : List (PathNode Node) → CurrentNode Node → Type 0
      LeadsTo path (At node) = Leads path node
      LeadsTo path (Inside keep es behind) = (node : Node) × Leads path node

      abbrev IsPath : OuterView Node → Type 0
      IsPath Whole = Unit {0}
      IsPath (On path current) = AreBoxesAmong n (boxes path) × LeadsTo path current

      all_placed : (path : List (PathNode Node)) (node : Node) → Leads path node
          → AllByRecursion (λ u. Placed node u) (boxes path)
      all_placed [] node h = tt
      all_placed (p ∷ path) node h = (
        child_has p.node node p.box_no h.0,
        each_from (λ u. Placed node u) (boxes path)
            (λ u i. child_keeps p.node node p.box_no u h.0
            (each_in (λ w. Placed p.node w) (boxes path) (all_placed path p.node h.1) u i)),
      )

      leave_path : (path : List (PathNode Node)) (node : Node) → AreBoxesAmong n (boxes path) → Leads path node
          → IsPath (leave below path)
      leave_path [] node b h = tt
      leave_path (p ∷ path) node b h =
          go (drop (suc p.closed) (below p.node p.box_no)) refl (leave_path path p.node b.2 h.1)
        where
          go : (l : List Node) → drop (suc p.closed) (below p.node p.box_no) ≡ l → IsPath (leave below path)
              → IsPath (elim l [
                | [] ↦ leave below path
                | m ∷ more ↦
                    On (record p { closed = suc p.closed } ∷ path) (At m)
              ])
          go [] e rest = rest
          go (m ∷ more) e rest = (
            b,
            (
              drop_in (suc p.closed) (below p.node p.box_no) m
                  (subst (λ (l : List Node). IsIn m l) (sym e) (inl refl)),
              h.1,
            ),
          )

      enter_path : (path : List (PathNode Node)) (node : Node) (v : ℕ) → AreBoxesAmong n (boxes path) → Leads path node
          → (pred v < n) × ¬ Placed node (pred v) → IsPath (enter below path node v)
      enter_path path node v b h new = go (below node v) refl
        where
          go : (l : List Node) → below node v ≡ l
              → IsPath (elim l [
                | [] ↦ leave below path
                | m ∷ more ↦
                    On (record { node = node; box_no = v; closed = 0 } ∷ path) (At m)
              ])
          go [] e = leave_path path node b h
          go (m ∷ more) e = (
            (
              new.0,
              each_from (λ u. pred v ≢ u) (boxes path)
                  (λ u i f. new.1 (subst (λ (w : ℕ). Placed node w) (sym f)
                  (each_in (λ w. Placed node w) (boxes path) (all_placed path node h) u i))),
              b,
            ),
            (subst (λ (l : List Node). IsIn m l) (sym e) (inl refl), h),
          )

      step_path : (path : List (PathNode Node)) (node : Node) (t : PlainToken) → AreBoxesAmong n (boxes path)
          → Leads path node → Takes (Outer node) t
          → IsPath (stepped below path node (step node t))
      step_path path node t b h takes = go (step node t) refl
        where
          go : (s : OuterStep) → step node t ≡ s → IsPath (stepped below path node s)
          go (SplitBy v) e = enter_path path node v b h (is_new node t v takes e)
          go (Begin keep) e = (b, (node, h))
          go Close e = leave_path path node b h

      on_path : (path : List (PathNode Node)) (node : Node) (keep : List ℕ) (nodes : List (List Exclusion))
          → AreBoxesAmong n (boxes path) → Leads path node
          → IsPath (go_on below path keep nodes)
      on_path path node keep [] b h = leave_path path node b h
      on_path path node keep (es ∷ behind) b h = (b, (node, h))

      paths_are : (tokens : List PlainToken) (view : OuterView Node) (left : List (OpenNode Node))
          → FeedsBy Takes kids (open_nodes below view) tokens left
          → IsPath view → IsPath (views_after below step view tokens)
      paths_are [] view left h p = p
      paths_are (t ∷ ts) Whole left h p = absurd h
      paths_are (t ∷ ts) (On path (At node)) left h p =
          paths_are ts (stepped below path node (step node t)) left
          (subst (λ (l : List (OpenNode Node)). FeedsBy Takes kids l ts left) (outer node t path h.0) h.1)
          (step_path path node t p.0 p.1 h.0)
      paths_are (t ∷ ts) (On path (Inside keep es behind)) left h p =
          paths_are ts (go_on below path keep (children es t ++ behind)) left
          (subst (λ (l : List (OpenNode Node)). FeedsBy Takes kids l ts left)
          (ap (λ l. l ++ (map (λ fs. Inner keep fs) behind ++ waiting below path)) (inner keep es t)
          ∙ (sym (append_assoc (map (λ fs. Inner keep fs) (children es t)) (map (λ fs. Inner keep fs) behind)
          (waiting below path))
          ∙ (ap (λ l. l ++ waiting below path) (sym (map-append (λ fs. Inner keep fs) (children es t) behind))
          ∙ sym (go_on_open path keep (children es t ++ behind))))) h.1)
          (on_path path p.1.0 keep (children es t ++ behind) p.0 p.1.1)

      short_path : (view : OuterView Node) → IsPath view → length (path_of view) ≤ n
      short_path Whole p = omega arith
      short_path (On path current) p = let e = length-map path (λ q. pred q.box_no) in let l =
          boxes_few n (boxes path) p.0 in omega (arith, e, l)

      pub few_on_path : (tokens : List PlainToken) (root : Node) (left : List (OpenNode Node))
          → FeedsBy Takes kids (Outer root ∷ []) tokens left
          → length (path_of (views_after below step (On [] (At root)) tokens)) ≤ n
      few_on_path tokens root left h =
          short_path (views_after below step (On [] (At root)) tokens)
          (paths_are tokens (On [] (At root)) left h (tt, tt))

-- ---- boxes put into sets

in_insert : (v u : ℕ) (us : List ℕ) → (u ≡ v) ⊎ IsIn u us → IsIn u (insert_box v us)
in_insert v u [] h = h
in_insert v u (x ∷ us) h = go (ltb v x) h (in_insert v u us)
  where
    go : (b : Bool) → (u ≡ v) ⊎ IsIn u (x ∷ us) → ((u ≡ v) ⊎ IsIn u us → IsIn u (insert_box v us))
        → IsIn u (if b then v ∷ x ∷ us else x ∷ insert_box v us)
    go true (inl e) rest = inl e
    go true (inr i) rest = inr i
    go false (inl e) rest = inr (rest (inl e))
    go false (inr (inl e)) rest = inl e
    go false (inr (inr i)) rest = inr (rest (inr i))

pub has_at : (v : ℕ) (us : List ℕ) → IsIn v us → has_box v us ≡ true
has_at v us i = any_at (λ u. eqb u v) v us i (eq-eqb v v refl)

insert_has : (v : ℕ) (us : List ℕ) → has_box v (insert_box v us) ≡ true
insert_has v us = has_at v (insert_box v us) (in_insert v v us (inl refl))

insert_keeps : (v u : ℕ) (us : List ℕ) → has_box u us ≡ true → has_box u (insert_box v us) ≡ true
insert_keeps v u us h = has_at u (insert_box v us) (in_insert v u us (inr (found u us h)))

-- ---- bins

abbrev IsPlaced : Bins → ℕ → Type 0
IsPlaced bins u = list_any (has_box u) bins ≡ true

box_placed : (bins : Bins) (b v : ℕ) → b < length bins → IsPlaced (with_box bins b v) v
box_placed [] b v l = absurd (omega (arith, l))
box_placed (us ∷ bins) zero v l = or_true _ _ (inl (insert_has v us))
box_placed (us ∷ bins) (suc b) v l = or_true _ _ (inr (box_placed bins b v (omega (arith, l))))

box_keeps : (bins : Bins) (b v u : ℕ) → IsPlaced bins u → IsPlaced (with_box bins b v) u
box_keeps [] b v u h = h
box_keeps (us ∷ bins) zero v u h = go (or_cases _ _ h)
  where
    go : (has_box u us ≡ true) ⊎ (list_any (has_box u) bins ≡ true) → IsPlaced (insert_box v us ∷ bins) u
    go (inl k) = or_true _ _ (inl (insert_keeps v u us k))
    go (inr k) = or_true _ _ (inr k)
box_keeps (us ∷ bins) (suc b) v u h = go (or_cases _ _ h) (box_keeps bins b v u)
  where
    go : (has_box u us ≡ true) ⊎ (list_any (has_box u) bins ≡ true) → (IsPlaced bins u → IsPlaced (with_box bins b v) u)
        → IsPlaced (us ∷ with_box bins b v) u
    go (inl k) rest = or_true _ _ (inl k)
    go (inr k) rest = or_true _ _ (inr (rest k))

new_placed : (bins : Bins) (v : ℕ) → IsPlaced (bins ++ (v ∷ []) ∷ []) v
new_placed [] v = or_true _ _ (inl (has_at v (v ∷ []) (inl refl)))
new_placed (us ∷ bins) v = or_true _ _ (inr (new_placed bins v))

new_keeps : (bins : Bins) (v u : ℕ) → IsPlaced bins u → IsPlaced (bins ++ (v ∷ []) ∷ []) u
new_keeps [] v u h = absurd (true≢false (sym h))
new_keeps (us ∷ bins) v u h = go (or_cases _ _ h) (new_keeps bins v u)
  where
    go : (has_box u us ≡ true) ⊎ (list_any (has_box u) bins ≡ true)
        → (IsPlaced bins u → IsPlaced (bins ++ (v ∷ []) ∷ []) u)
        → IsPlaced (us ∷ (bins ++ (v ∷ []) ∷ [])) u
    go (inl k) rest = or_true _ _ (inl k)
    go (inr k) rest = or_true _ _ (inr (rest k))

-- a child has its box in a used bin or in a new one
placement_is : (k : ℕ) (bins : Bins) (v : ℕ) (child : Bins) → IsIn child (placements k bins v)
    → ((b : ℕ) × (b < length bins) × (child ≡ with_box bins b v)) ⊎ (child ≡ bins ++ (v ∷ []) ∷ [])
placement_is k bins v child i = go (append_in child (map (λ b. with_box bins b v) (range_with_len 0 (length bins))) _ i)
  where
    last : (c : Bool) → IsIn child (if c then (bins ++ (v ∷ []) ∷ []) ∷ [] else []) → child ≡ bins ++ (v ∷ []) ∷ []
    last true (inl e) = e
    last true (inr j) = absurd j
    last false j = absurd j

    go : IsIn child (map (λ b. with_box bins b v) (range_with_len 0 (length bins)))
        ⊎ IsIn child (if ltb (length bins) k then (bins ++ (v ∷ []) ∷ []) ∷ [] else [])
        → ((b : ℕ) × (b < length bins) × (child ≡ with_box bins b v)) ⊎ (child ≡ bins ++ (v ∷ []) ∷ [])
    go (inl j) =
        let m = map_in (λ b. with_box bins b v) child (range_with_len 0 (length bins)) j in
        let r = range_in 0 (length bins) m.0 m.1 in
        inl (m.0, omega (arith, r), m.2)
    go (inr j) = inr (last (ltb (length bins) k) j)

module _ (instance : PlainInstance) (k : ℕ) where
  bin_outer : (node : Bins) (t : PlainToken) (path : List (PathNode Bins)) → AcceptsBins instance k (Outer node) t
      → bin_children k (Outer node) t ++ waiting (bins_with k) path
      ≡ open_nodes (bins_with k) (stepped (bins_with k) path node (bin_step node t))
  bin_outer node (GlobalScales fs) path h = sym (leave_open (bins_with k) path)
  bin_outer node (SetRefuted (Some b)) path h = refl
  bin_outer node (Assign v) path h = sym (enter_open (bins_with k) path node v)
  bin_outer node (SetRefuted None) path h = absurd h
  bin_outer node (Apart i u v) path h = absurd h
  bin_outer node (Order i u v) path h = absurd h
  bin_outer node Rules path h = absurd h
  bin_outer node (TooLarge v i) path h = absurd h
  bin_outer node (Scales fs) path h = absurd h
  bin_outer node (Choose v) path h = absurd h
  bin_outer node ValueShort path h = absurd h

  bin_has : (node child : Bins) (v : ℕ) → IsIn child (bins_with k node v) → IsPlaced child (pred v)
  bin_has node child v i = go (placement_is k node (pred v) child i)
    where
      go : ((b : ℕ) × (b < length node) × (child ≡ with_box node b (pred v))) ⊎ (child ≡ node ++ (pred v ∷ []) ∷ [])
          → IsPlaced child (pred v)
      go (inl (b, l, e)) = subst (λ (c : Bins). IsPlaced c (pred v)) (sym e) (box_placed node b (pred v) l)
      go (inr e) = subst (λ (c : Bins). IsPlaced c (pred v)) (sym e) (new_placed node (pred v))

  bin_keeps : (node child : Bins) (v u : ℕ) → IsIn child (bins_with k node v) → IsPlaced node u → IsPlaced child u
  bin_keeps node child v u i h = go (placement_is k node (pred v) child i)
    where
      go : ((b : ℕ) × (b < length node) × (child ≡ with_box node b (pred v))) ⊎ (child ≡ node ++ (pred v ∷ []) ∷ [])
          → IsPlaced child u
      go (inl (b, l, e)) = subst (λ (c : Bins). IsPlaced c u) (sym e) (box_keeps node b (pred v) u h)
      go (inr e) = subst (λ (c : Bins). IsPlaced c u) (sym e) (new_keeps node (pred v) u h)

  split_only : (v w : ℕ) → SplitBy v ≡ SplitBy w → v ≡ w
  split_only v w e = cc

  bin_new : (node : Bins) (t : PlainToken) (v : ℕ) → AcceptsBins instance k (Outer node) t → bin_step node t ≡ SplitBy v
      → (pred v < box_count instance) × ¬ IsPlaced node (pred v)
  bin_new node (Assign w) v h e =
      let s = split_only w v e in
      let a = h.from in
      let b = h.to in
      subst (λ (x : ℕ). (pred x < box_count instance) × ¬ IsPlaced node (pred x)) s
      (omega (arith, a, b), λ p. true≢false (sym p ∙ h.unplaced))
  bin_new node (GlobalScales fs) v h e = absurd (cc)
  bin_new node (SetRefuted (Some b)) v h e = absurd (cc)
  bin_new node (SetRefuted None) v h e = absurd h
  bin_new node (Apart i a b) v h e = absurd h
  bin_new node (Order i a b) v h e = absurd h
  bin_new node Rules v h e = absurd h
  bin_new node (TooLarge a i) v h e = absurd h
  bin_new node (Scales fs) v h e = absurd h
  bin_new node (Choose a) v h e = absurd h
  bin_new node ValueShort v h e = absurd h

  pub bins_view : (view : OuterView Bins) (tokens : List PlainToken) (left : List (OpenNode Bins))
      → FeedsBins instance k (open_nodes (bins_with k) view) tokens left
      → left ≡ open_nodes (bins_with k) (views_after (bins_with k) bin_step view tokens)
  bins_view view tokens left h =
      fed_view (bins_with k) bin_step (AcceptsBins instance k) (bin_children k) (λ keep es t. refl) bin_outer
      tokens view left h

  pub bins_path : (tokens : List PlainToken) (left : List (OpenNode Bins))
      → FeedsBins instance k (Outer [] ∷ []) tokens left
      → length (path_of (views_after (bins_with k) bin_step (On [] (At [])) tokens)) ≤ box_count instance
  bins_path tokens left h = few_on_path (bins_with k) bin_step (AcceptsBins instance k) (bin_children k)
      (λ keep es t. refl) bin_outer (box_count instance) IsPlaced
      bin_has bin_keeps bin_new tokens [] left h

-- ---- values

abbrev IsDecided : Choice → ℕ → Type 0
IsDecided c u = (has_box u c.taken ≡ true) ⊎ (has_box u c.left ≡ true)

module _ (instance : PlainInstance) (goal : ℕ) where
  value_outer : (node : Choice) (t : PlainToken) (path : List (PathNode Choice))
      → AcceptsValue instance goal (Outer node) t
      → choice_children (Outer node) t ++ waiting choices_with path
      ≡ open_nodes choices_with (stepped choices_with path node (choice_step node t))
  value_outer node ValueShort path h = sym (leave_open choices_with path)
  value_outer node (SetRefuted None) path h = refl
  value_outer node (Choose v) path h = refl
  value_outer node (SetRefuted (Some b)) path h = absurd h
  value_outer node (Apart i u v) path h = absurd h
  value_outer node (Order i u v) path h = absurd h
  value_outer node Rules path h = absurd h
  value_outer node (TooLarge v i) path h = absurd h
  value_outer node (Scales fs) path h = absurd h
  value_outer node (Assign v) path h = absurd h
  value_outer node (GlobalScales fs) path h = absurd h

  value_has : (node child : Choice) (v : ℕ) → IsIn child (choices_with node v) → IsDecided child (pred v)
  value_has node child v (inl e) =
      subst (λ (c : Choice). IsDecided c (pred v)) (sym e) (inl (insert_has (pred v) node.taken))
  value_has node child v (inr (inl e)) =
      subst (λ (c : Choice). IsDecided c (pred v)) (sym e) (inr (insert_has (pred v) node.left))
  value_has node child v (inr (inr i)) = absurd i

  value_keeps : (node child : Choice) (v u : ℕ) → IsIn child (choices_with node v) → IsDecided node u
      → IsDecided child u
  value_keeps node child v u (inl e) h = subst (λ (c : Choice). IsDecided c u) (sym e) (go h)
    where
      go : IsDecided node u → IsDecided (with_taken node (pred v)) u
      go (inl k) = inl (insert_keeps (pred v) u node.taken k)
      go (inr k) = inr k
  value_keeps node child v u (inr (inl e)) h = subst (λ (c : Choice). IsDecided c u) (sym e) (go h)
    where
      go : IsDecided node u → IsDecided (with_left node (pred v)) u
      go (inl k) = inl k
      go (inr k) = inr (insert_keeps (pred v) u node.left k)
  value_keeps node child v u (inr (inr i)) h = absurd i

  value_new : (node : Choice) (t : PlainToken) (v : ℕ) → AcceptsValue instance goal (Outer node) t
      → choice_step node t ≡ SplitBy v
      → (pred v < box_count instance) × ¬ IsDecided node (pred v)
  value_new node (Choose w) v h e =
      let s : w ≡ v = cc in
      let a = h.from in
      let b = h.to in
      subst (λ (x : ℕ). (pred x < box_count instance) × ¬ IsDecided node (pred x)) s (omega (arith, a, b), λ p. none p)
    where
      none : IsDecided node (pred w) → ⊥
      none (inl k) = true≢false (sym k ∙ h.not_taken)
      none (inr k) = true≢false (sym k ∙ h.not_left)
  value_new node ValueShort v h e = absurd (cc)
  value_new node (SetRefuted None) v h e = absurd (cc)
  value_new node (SetRefuted (Some b)) v h e = absurd h
  value_new node (Apart i a b) v h e = absurd h
  value_new node (Order i a b) v h e = absurd h
  value_new node Rules v h e = absurd h
  value_new node (TooLarge a i) v h e = absurd h
  value_new node (Scales fs) v h e = absurd h
  value_new node (Assign a) v h e = absurd h
  value_new node (GlobalScales fs) v h e = absurd h

  pub value_view : (view : OuterView Choice) (tokens : List PlainToken) (left : List (OpenNode Choice))
      → FeedsValue instance goal (open_nodes choices_with view) tokens left
      → left ≡ open_nodes choices_with (views_after choices_with choice_step view tokens)
  value_view view tokens left h =
      fed_view choices_with choice_step (AcceptsValue instance goal) choice_children (λ keep es t. refl) value_outer
      tokens view left h

  pub value_path : (tokens : List PlainToken) (root : Choice) (left : List (OpenNode Choice))
      → FeedsValue instance goal (Outer root ∷ []) tokens left
      → length (path_of (views_after choices_with choice_step (On [] (At root)) tokens)) ≤ box_count instance
  value_path tokens root left h =
      few_on_path choices_with choice_step (AcceptsValue instance goal) choice_children (λ keep es t. refl) value_outer
      (box_count instance) IsDecided
      value_has value_keeps value_new tokens root left h
