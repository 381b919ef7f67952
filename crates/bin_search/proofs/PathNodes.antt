-- The child at the end of a path, as a child of the node above it.
use Rattle.std.proofs.Common.{◌≡◌, ℕ, zero, suc, ◌+◌, ◌<◌, refl, sym, ap, ap₂, subst, ◌∙◌, arith, List, [], ◌∷◌, ◌++◌}
use Rattle.std.proofs.Common.{length, take, drop, get_or, map, Option, Some, None}
use Rattle.packing_terms.specs.declared.ScaleFn.{ScaleFn}
use Rattle.packing_terms.specs.Limits.{IsInternalInstance}
use Rattle.packing_terms.specs.Goals.{subset}
use Rattle.packing_terms.specs.Tokens.PlainToken.{Assign, SetRefuted, GlobalScales}
use Rattle.packing_terms.specs.OuterRefutation.{Bins, placements}
use Rattle.packing_terms.proofs.Internal.{internal_sides, some_dimension}
use Rattle.packing_terms.proofs.WithBoxes.{inserted_some}
use Rattle.packing_terms.specs.Rank.{ranked}
use Rattle.tree_terms.specs.Search.{IsRightUnder}
use Rattle.tree_terms.specs.Trees.{SearchTree, Verdict, Yes, No, node_at}
use Rattle.tree_terms.specs.ClassTree.{first_exceeding}
use Rattle.tree_terms.specs.OuterTrees.{set_verdict, yes_numbers, with_answer, bin_child, bin_node, bin_root}
use Rattle.tree_terms.specs.Paths.{own_of, IsReachable}
use Rattle.tree_terms.proofs.BinSearch.{set_right}
use Rattle.set_search.specs.Children.{IsFound, IsFoundSet}
use Rattle.set_search.proofs.Reaching.{next_box, path_ends, past_leaf, refuted_leaf, own_within, reach_child}
use Rattle.bin_search.specs.Nodes.{AreInBins}
use Rattle.bin_search.specs.Trees.{PlainBinTree, shape}
use Rattle.bin_search.specs.Paths.{box_at, grown, bins_along, answers_of, AreFound, child_tree, IsChildStep}
use Rattle.bin_search.proofs.Placements.{placed_at, changed_at}
use Rattle.bin_search.proofs.Placing.{nothing_placed, grown_boxes, grown_set, next_placed}
use Rattle.class_search.proofs.Lists.{first_left}

-- the lists with one of them replaced
map_with : (f : List ℕ → List ℕ) (bins : Bins) (b : ℕ) (set : List ℕ)
    → map f (with_answer bins b set) ≡ with_answer (map f bins) b (f set)
map_with f [] b set = refl
map_with f (us ∷ bins) zero set = refl
map_with f (us ∷ bins) (suc b) set = ap (λ (x : List (List ℕ)). f us ∷ x) (map_with f bins b set)

each_with : (P : List ℕ → Type 0) (bins : Bins) (b : ℕ) (set : List ℕ)
    → ((c : ℕ) → c < length bins → P (get_or bins c [])) → P set
    → (c : ℕ) → c < length (with_answer bins b set) → P (get_or (with_answer bins b set) c [])
each_with P [] b set h p zero l = p
each_with P [] b set h p (suc c) l = absurd (omega (arith, l))
each_with P (us ∷ bins) zero set h p zero l = p
each_with P (us ∷ bins) zero set h p (suc c) l = h (suc c) (omega (arith, l))
each_with P (us ∷ bins) (suc b) set h p zero l = h 0 (omega arith)
each_with P (us ∷ bins) (suc b) set h p (suc c) l =
    each_with P bins b set (λ d m. h (suc d) (omega (arith, m))) p c (omega (arith, l))

module _ (t : PlainBinTree) (limits : IsInternalInstance t.instance) where
  -- what a step into a child comes to
  record IsInto (rest : List ℕ) (bins : Bins) (answers : List (List ℕ)) (own placed j : ℕ) (path : List ℕ) :
      Type 0 where
    there : placed < length (ranked t.instance)
    near : j < length (placements t.bins bins (box_at t.instance placed))
    is : node_at (Some (bin_node t.instance t.scales t.bins rest bins answers own)) (j ∷ path)
        ≡ node_at (Some (child_tree t placed bins j)) path
    reached : IsReachable (child_tree t placed bins j) path

  module _ (placed : ℕ) (bins : Bins) (answers : List (List ℕ)) (own j : ℕ) (path : List ℕ)
      (same : answers ≡ answers_of t.instance t.scales bins) where
    -- the child of the definition, and the same with the changed bin put in
    abbrev child : ℕ → List ℕ → Bins → List ℕ → SearchTree
    child v vs next set = bin_child j (set_verdict t.instance t.scales set)
        (λ ns n. bin_node t.instance t.scales t.bins vs next (with_answer answers j ns) n)

    same_child : (v : ℕ) (vs : List ℕ) → get_or (ranked t.instance) placed 0 ≡ v
        → drop (placed + 1) (ranked t.instance) ≡ vs → j < length (placements t.bins bins v)
        → child v vs (get_or (placements t.bins bins v) j []) (get_or (get_or (placements t.bins bins v) j []) j [])
        ≡ child_tree t placed bins j
    same_child v vs e f l =
        ap₂ (λ next set. child v vs next set) (placed_at t.bins bins v j l) (changed_at t.bins bins v j l)
        ∙ (ap₂ (λ w ws. child w ws (with_answer bins j (grown bins w j)) (grown bins w j)) (sym e) (sym f)
        ∙ ap (λ (known : List (List ℕ)). bin_child j
        (set_verdict t.instance t.scales (grown bins (box_at t.instance placed) j))
        (λ ns n. bin_node t.instance t.scales t.bins
        (drop (placed + 1) (ranked t.instance)) (with_answer bins j (grown bins (box_at t.instance placed) j))
        (with_answer known j ns) n)) same)

    into : IsReachable (bin_node t.instance t.scales t.bins (drop placed (ranked t.instance)) bins answers
        own) (j ∷ path)
        → IsInto (drop placed (ranked t.instance)) bins answers own placed j path
    into = go (drop placed (ranked t.instance)) refl
      where
        go : (us : List ℕ) → drop placed (ranked t.instance) ≡ us
            → IsReachable (bin_node t.instance t.scales t.bins us bins answers own) (j ∷ path)
            → IsInto us bins answers own placed j path
        go [] e r = past_leaf path r.there
        go (v ∷ vs) e r =
            let next = first_left (ranked t.instance) placed v vs e in
            let k = reach_child (Assign (suc v)) own (length (placements t.bins bins v)) _ j path r in
            let same = same_child v vs next.1 next.2 k.1 in
            record {
              there = next.0;
              near = subst (λ (w : ℕ). j < length (placements t.bins bins w)) (sym next.1) k.1;
              is = k.2 ∙ ap (λ (x : SearchTree). node_at (Some x) path) same;
              reached = subst (λ (x : SearchTree). IsReachable x path) same k.3;
            }

  own_is : (rest : List ℕ) (bins : Bins) (answers : List (List ℕ)) (own : ℕ)
      → own_of (bin_node t.instance t.scales t.bins rest bins answers own) ≡ own
  own_is [] bins answers own = refl
  own_is (v ∷ vs) bins answers own = refl

  come : (above : List ℕ) (k placed : ℕ) (bins : Bins) (answers : List (List ℕ)) (own : ℕ)
      → AreInBins t.instance t.bins placed bins answers
      → answers ≡ answers_of t.instance t.scales bins → AreFound t.instance t.scales bins
      → IsReachable (bin_node t.instance t.scales t.bins (drop placed (ranked t.instance)) bins answers own)
      (above ++ k ∷ [])
      → (end : ℕ) → end ≡ length above + placed
      → IsChildStep t end (bins_along bins (drop placed (ranked t.instance)) above) k
      (node_at (Some (bin_node t.instance t.scales t.bins (drop placed (ranked t.instance)) bins answers own))
      (above ++ k ∷ []))
  come [] k placed bins answers own h a f r end at =
      let i = into placed bins answers own k [] a r in
      let e : placed ≡ end = omega (arith, at) in
      subst (λ (m : ℕ). IsChildStep t m bins k
      (node_at (Some (bin_node t.instance t.scales t.bins (drop placed (ranked t.instance)) bins answers own))
      (k ∷ []))) e (record {
        above = record {
          there = i.there;
          node = subst (λ (known : List (List ℕ)). AreInBins t.instance t.bins placed bins known) a h;
          found = f;
        };
        near = i.near;
        is = i.is;
      })
  come (j ∷ above) k placed bins answers own h a f r end at =
      let i = into placed bins answers own j (above ++ k ∷ []) a r in
      let e = next_box (ranked t.instance) placed i.there in
      let n : end ≡ length above + (placed + 1) = omega (arith, at) in
      subst (λ (x : Option SearchTree). IsChildStep t end
      (bins_along bins (drop placed (ranked t.instance)) (j ∷ above)) k x) (sym i.is)
      (subst (λ (us : List ℕ). IsChildStep t end (bins_along bins us (j ∷ above)) k
      (node_at (Some (child_tree t placed bins j)) (above ++ k ∷ []))) (sym e)
      (step i.there i.near (set_verdict t.instance t.scales (grown bins (box_at t.instance placed) j)) refl i.reached
      (λ ns cost h' a' f' r'. come above k (placed + 1) (with_answer bins j (grown bins (box_at t.instance placed) j))
      (with_answer (answers_of t.instance t.scales bins) j ns) (1 + cost)
      h' a' f' r' end n)))
    where
      next : Bins
      next = with_answer bins j (grown bins (box_at t.instance placed) j)

      below : Verdict → SearchTree
      below w = bin_child j w (λ ns n. bin_node t.instance t.scales t.bins (drop (placed + 1) (ranked t.instance)) next
          (with_answer (answers_of t.instance t.scales bins) j ns) n)

      step : placed < length (ranked t.instance) → j < length (placements t.bins bins (box_at t.instance placed))
          → (w : Verdict) → set_verdict t.instance t.scales (grown bins (box_at t.instance placed) j) ≡ w
          → IsReachable (below w) (above ++ k ∷ [])
          → ((ns : List ℕ) (cost : ℕ) → AreInBins t.instance t.bins (placed + 1) next
          (with_answer (answers_of t.instance t.scales bins) j ns)
          → with_answer (answers_of t.instance t.scales bins) j ns ≡ answers_of t.instance t.scales next
          → AreFound t.instance t.scales next
          → IsReachable (below (Yes ns cost)) (above ++ k ∷ [])
          → IsChildStep t end (bins_along next (drop (placed + 1) (ranked t.instance)) above) k
          (node_at (Some (below (Yes ns cost))) (above ++ k ∷ [])))
          → IsChildStep t end (bins_along next (drop (placed + 1) (ranked t.instance)) above) k
          (node_at (Some (below w)) (above ++ k ∷ []))
      step there near (No ts cost) is g rest = refuted_leaf (SetRefuted (Some (suc j)) ∷ ts) (1 + cost) above k g
      step there near (Yes ns cost) is g rest =
          rest ns cost
          (next_placed t.instance limits t.bins placed bins (answers_of t.instance t.scales bins) here there j near ns
          (subst (λ (w : Verdict). IsRightUnder (subset t.instance (grown bins (box_at t.instance placed) j)) []
          w) is right))
          (ap (λ (x : List ℕ). with_answer (answers_of t.instance t.scales bins) j x) (sym (ap yes_numbers is))
          ∙ sym (map_with (λ set. yes_numbers (set_verdict t.instance t.scales set)) bins j
          (grown bins (box_at t.instance placed) j)))
          (each_with (λ set. IsFoundSet t.instance t.scales set) bins j
          (grown bins (box_at t.instance placed) j) f found) g
        where
          here : AreInBins t.instance t.bins placed bins (answers_of t.instance t.scales bins)
          here = subst (λ (known : List (List ℕ)). AreInBins t.instance t.bins placed bins known) a h

          right : IsRightUnder (subset t.instance (grown bins (box_at t.instance placed) j)) []
              (set_verdict t.instance t.scales (grown bins (box_at t.instance placed) j))
          right = set_right t.instance (internal_sides t.instance limits) (some_dimension t.instance limits) t.scales 0
              (grown bins (box_at t.instance placed) j)
              (grown_boxes t.instance limits t.bins placed bins (answers_of t.instance t.scales bins) here there j)
              (inserted_some (box_at t.instance placed) (get_or bins j []))

          found : IsFoundSet t.instance t.scales (grown bins (box_at t.instance placed) j)
          found = record {
            some = inserted_some (box_at t.instance placed) (get_or bins j []);
            boxes = grown_set t.instance limits t.bins placed bins (answers_of t.instance t.scales bins) here there j;
            found = subst IsFound (sym is) (let own = own_within (below (Yes ns cost)) above k g in
                let o = own_is (drop (placed + 1) (ranked t.instance)) next
                (with_answer (answers_of t.instance t.scales bins) j ns) (1 + cost) in omega (arith, own, o));
          }

  -- the child at the end of a path, by its last step
  pub end_is : (path : List ℕ) (last : ℕ) → last + 1 ≡ length path → IsReachable (shape t) path
      → IsChildStep t (length (take last path)) (bins_along [] (ranked t.instance) (take last path))
      (get_or path last 0) (node_at (Some (shape t)) path)
  end_is path last e r =
      let p = path_ends path last e in
      subst (λ (l : List ℕ). IsChildStep t (length (take last path))
      (bins_along [] (ranked t.instance) (take last path)) (get_or path last 0)
      (node_at (Some (shape t)) l)) (sym p)
      (go (first_exceeding t.instance t.bins t.scales) (subst (λ (l : List ℕ). IsReachable (shape t) l) p r))
    where
      go : (o : Option (List ScaleFn))
          → IsReachable (bin_root o (bin_node t.instance t.scales t.bins (ranked t.instance) [] [] 0))
          (take last path ++ get_or path last 0 ∷ [])
          → IsChildStep t (length (take last path)) (bins_along [] (ranked t.instance) (take last path))
          (get_or path last 0)
          (node_at (Some (bin_root o (bin_node t.instance t.scales t.bins (ranked t.instance) [] [] 0)))
          (take last path ++ get_or path last 0 ∷ []))
      go (Some fs) g = refuted_leaf (GlobalScales fs ∷ []) 0 (take last path) (get_or path last 0) g
      go None g = come (take last path) (get_or path last 0) 0 [] [] 0 (nothing_placed t.instance limits t.bins) refl
          (λ b l. absurd (omega (arith, l))) g (length (take last path)) (omega arith)
