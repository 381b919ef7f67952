-- Weights of chains stay good at each end of a closing when numbers are raised or taken back, when an
-- end is recorded or forgotten, and when the list of exclusions grows or is cut.
use Rattle.std.proofs.Common.{◌≡◌, ℕ, ◌+◌, ◌-◌, ◌<◌, ◌≤◌, ◌⊎◌, inl, inr, refl, sym, ap, ◌∙◌, subst, arith, zero, suc}
use Rattle.std.proofs.Common.{List, [], ◌∷◌, ◌++◌, length, drop, slice_index, slice_index_or, get_or, reverse, Option, None, Some, append-nil, replicate}
use Rattle.std.specs.Option.{option_to_list}
use Rattle.std.specs.List.{AllByRecursion, AllZip}
use Rattle.std.proofs.Math.ListN.{set}
use Rattle.std.proofs.lemmas.List.{get_or-set_same, length-set, length-drop, drop-drop, reverse-append, length-replicate, get_or-replicate}
use Rattle.packing_terms.specs.declared.Exclusion.{Exclusion}
use Rattle.packing_terms.specs.Packing.{PlainInstance, dims, box_count, side}
use Rattle.packing_terms.specs.Exclusions.{excludes, Exclusions}
use Rattle.packing_terms.specs.Runs.{most_weight, Leads}
use Rattle.edge_state.specs.Edges.{oldest}
use Rattle.edge_state.specs.declared.chain_weights.Raise.{Raise}
use Rattle.edge_state.specs.declared.chain_weights.ClosingEnd.{ClosingEnd}
use Rattle.edge_state.specs.ChainWeights.{IsWalk, alone, further, AreGood, AreGoodFor, with_number, taken_back, PlainWeights}
use Rattle.edge_state.specs.ChainWeights.{HoldBack, AreOf, AreForInstance, IsLogged, AreSized, IsNewestEnd}
use Rattle.edge_state.proofs.Oldest.{oldest_more, oldest_all, oldest_twice, oldest_count}

-- a written entry, and what was there written over it
set_back : {A : Type 0} (xs : List A) (i : ℕ) (x d : A) → set (set xs i x) i (get_or xs i d) ≡ xs
set_back [] i x d = refl
set_back (y ∷ xs) zero x d = refl
set_back (y ∷ xs) (suc i) x d = ap (λ zs. y ∷ zs) (set_back xs i x d)

-- what holds of a new entry and of an entry before holds of the entry after
read_set : {A : Type 0} (P : A → Type 0) (xs : List A) (i : ℕ) (x : A) (k : ℕ) (d : A) → P x
    → P (get_or xs k d) → P (get_or (set xs i x) k d)
read_set P [] i x k d new old = old
read_set P (y ∷ xs) zero x zero d new old = new
read_set P (y ∷ xs) zero x (suc k) d new old = old
read_set P (y ∷ xs) (suc i) x zero d new old = old
read_set P (y ∷ xs) (suc i) x (suc k) d new old = read_set P xs i x k d new old

-- a number, and what was there written over it
with_back : (numbers : List (List ℕ)) (list at w : ℕ) → list < length numbers
    → with_number (with_number numbers list at w) list at (slice_index (slice_index_or numbers list []) at) ≡ numbers
with_back numbers list at w small =
    let here = get_or-set_same numbers list (set (slice_index_or numbers list []) at w) [] small in
    rw (here, set_back (slice_index_or numbers list []) at w 0) (set_back numbers list _ [])

-- with no raises there is nothing to take back
back_none : (k : ℕ) (numbers : List (List ℕ)) → taken_back k numbers [] ≡ numbers
back_none zero numbers = refl
back_none (suc k) numbers = refl

-- raises are taken back in two goes
pub back_sum : (a b c : ℕ) (numbers : List (List ℕ)) (log : List Raise) → a + b ≡ c
    → taken_back b (taken_back a numbers log) (drop a log) ≡ taken_back c numbers log
back_sum zero b c numbers log e = ap (λ k. taken_back k numbers log) (omega (arith, e))
back_sum (suc a) b c numbers [] e = back_none b numbers ∙ sym (back_none c numbers)
back_sum (suc a) b zero numbers (r ∷ log) e = absurd (omega (arith, e))
back_sum (suc a) b (suc c) numbers (r ∷ log) e =
    back_sum a b c (with_number numbers r.list r.at r.old) log (omega (arith, e))

-- the number that a raise wrote over
abbrev pub raise_at : List (List ℕ) → (list at : ℕ) → Raise
raise_at numbers list at = record { list = list; at = at; old = slice_index (slice_index_or numbers list []) at }

module _ (d n : ℕ) (limits : List ℕ) (sides : List (List ℕ)) where
  -- a raise is kept with what was there
  pub held_raised : (es : List Exclusion) (last : ℕ) (numbers : List (List ℕ)) (log : List Raise)
      (ends : List ClosingEnd) (list at w : ℕ) → list < length numbers
      → HoldBack d n limits sides es last numbers log ends
      → HoldBack d n limits sides es last (with_number numbers list at w) (raise_at numbers list at ∷ log) ends
  held_raised es last numbers log [] list at w small h = tt
  held_raised es last numbers log (end ∷ ends) list at w small h =
      let within = h.0.raised in
      let more : length (raise_at numbers list at ∷ log) - end.raises ≡ suc (length log - end.raises) =
      omega (arith, within) in
      let back : taken_back (suc (length log - end.raises)) (with_number numbers list at w)
      (raise_at numbers list at ∷ log) ≡ taken_back (length log - end.raises) numbers log =
      ap (λ ns. taken_back (length log - end.raises) ns log) (with_back numbers list at w small) in (
        record {
          within = h.0.within;
          raised = omega (arith, within);
          good = rw (more, back) h.0.good;
        },
        rw (more, back) h.1,
      )

  -- the newest end is given up
  pub held_popped : (es : List Exclusion) (last : ℕ) (numbers : List (List ℕ)) (log : List Raise) (end : ClosingEnd)
      (ends : List ClosingEnd) → HoldBack d n limits sides es last numbers log (end ∷ ends)
      → HoldBack d n limits sides es last numbers log ends
  held_popped es last numbers log end [] h = tt
  held_popped es last numbers log end (next ∷ ends) h =
      let left = length-drop (length log - end.raises) log in
      let outer = h.0.raised in
      let inner = h.1.0.raised in
      let all : (length log - end.raises) + (length (drop (length log - end.raises) log) - next.raises)
      ≡ length log - next.raises = omega (arith, left, outer, inner) in
      let back = back_sum (length log - end.raises) (length (drop (length log - end.raises) log) - next.raises)
      (length log - next.raises) numbers log all in
      let rest = drop-drop (length (drop (length log - end.raises) log) - next.raises) (length log - end.raises) log
      ∙ ap (λ k. drop k log) all in (
        record {
          within = omega (arith, h.0.within, h.1.0.within);
          raised = omega (arith, left, outer, inner);
          good = rw (← back) h.1.0.good;
        },
        rw (← back, ← rest) h.1.1,
      )

  -- the weights are taken back to the newest end
  pub held_back : (es : List Exclusion) (last : ℕ) (numbers : List (List ℕ)) (log : List Raise) (end : ClosingEnd)
      (ends : List ClosingEnd) → HoldBack d n limits sides es last numbers log (end ∷ ends)
      → HoldBack d n limits sides es last (taken_back (length log - end.raises) numbers log)
      (drop (length log - end.raises) log) (end ∷ ends)
  held_back es last numbers log end ends h =
      let left = length-drop (length log - end.raises) log in
      let none : length (drop (length log - end.raises) log) - end.raises ≡ 0 = omega (arith, left, h.0.raised) in (
        record {
          within = h.0.within;
          raised = omega (arith, left, h.0.raised);
          good = rw none h.0.good;
        },
        rw none h.1,
      )

  -- a later position than `last` bounds the ends as well
  pub held_later : (es : List Exclusion) (last next : ℕ) (numbers : List (List ℕ)) (log : List Raise)
      (ends : List ClosingEnd) → last ≤ next → HoldBack d n limits sides es last numbers log ends
      → HoldBack d n limits sides es next numbers log ends
  held_later es last next numbers log [] l h = tt
  held_later es last next numbers log (end ∷ ends) l h =
      (record { within = omega (arith, l, h.0.within); raised = h.0.raised; good = h.0.good }, h.1)

  -- one more exclusion, at the same last end
  pub held_grown : (e : Exclusion) (es : List Exclusion) (last : ℕ) (numbers : List (List ℕ)) (log : List Raise)
      (ends : List ClosingEnd) → last ≤ length es → HoldBack d n limits sides es last numbers log ends
      → HoldBack d n limits sides (e ∷ es) last numbers log ends
  held_grown e es last numbers log [] l h = tt
  held_grown e es last numbers log (end ∷ ends) l h =
      let before : end.mark ≤ length es = omega (arith, l, h.0.within) in
      let same = oldest_more end.mark (e ∷ []) es before in (
        record { within = h.0.within; raised = h.0.raised; good = rw same h.0.good },
        held_grown e es end.mark _ _ ends before h.1,
      )

  -- the list is cut, but to no position before an end
  pub held_shorter : (to : ℕ) (es : List Exclusion) (last : ℕ) (numbers : List (List ℕ)) (log : List Raise)
      (ends : List ClosingEnd) → to ≤ length es → last ≤ to → HoldBack d n limits sides es last numbers log ends
      → HoldBack d n limits sides (oldest to es) last numbers log ends
  held_shorter to es last numbers log [] l m h = tt
  held_shorter to es last numbers log (end ∷ ends) l m h =
      let before : end.mark ≤ to = omega (arith, m, h.0.within) in
      let same = oldest_twice end.mark to es before l in (
        record { within = h.0.within; raised = h.0.raised; good = rw same h.0.good },
        held_shorter to es end.mark _ _ ends l before h.1,
      )

-- one more exclusion
pub of_more : (d n : ℕ) (e : Exclusion) (es : List Exclusion) (k : PlainWeights) → AreOf d n es k
    → AreOf d n (e ∷ es) k
of_more d n e es k h =
    held_later d n k.limits k.sides (e ∷ es) (length es) (length (e ∷ es)) k.numbers k.log k.ends (omega arith)
    (held_grown d n k.limits k.sides e es (length es) k.numbers k.log k.ends (omega arith) h)

-- fewer exclusions, if the newest end isn't beyond them
pub of_cut : (d n to : ℕ) (es : List Exclusion) (k : PlainWeights) (end : ClosingEnd) → to ≤ length es
    → IsNewestEnd k.ends end → end.mark ≤ to → AreOf d n es k → AreOf d n (oldest to es) k
of_cut d n to es k end l newest m h =
    let g : HoldBack d n k.limits k.sides es (length es) k.numbers k.log (end ∷ newest.older) =
    rw newest.first at h in
    let cut = held_shorter d n k.limits k.sides to es to k.numbers k.log (end ∷ newest.older) l (omega arith)
    (record { within = m; raised = g.0.raised; good = g.0.good }, g.1) in
    rw (newest.first, oldest_count to es l) cut

-- without ends nothing has to hold
pub of_none : (d n : ℕ) (es : List Exclusion) (k : PlainWeights) → k.ends ≡ [] → AreOf d n es k
of_none d n es k e = rw e tt

-- a number is raised
pub of_raised : (d n : ℕ) (es : List Exclusion) (k : PlainWeights) (list at w : ℕ) → list < length k.numbers
    → AreOf d n es k
    → AreOf d n es (record k { numbers = with_number k.numbers list at w; log = raise_at k.numbers list at ∷ k.log })
of_raised d n es k list at w small h =
    held_raised d n k.limits k.sides es (length es) k.numbers k.log k.ends list at w small h

-- walks weigh the same where the boxes do
pub walk_same : (n : ℕ) (R : ℕ → ℕ → Type 0) (w z : ℕ → ℕ) → ((u : ℕ) → u < n → w u ≡ z u) → (v k : ℕ)
    → IsWalk n R w v k → IsWalk n R z v k
walk_same n R w z same _ _ (alone v l) = rw (same v l) (alone v l)
walk_same n R w z same _ _ (further v x j l ne r rest) =
    rw (same v l) (further v x j l ne r (walk_same n R w z same x j rest))

-- weights that are good stay so where the sides and the limit are the same
pub good_same : (n i : ℕ) (X : Exclusions) (w z : ℕ → ℕ) (limit most : ℕ) (numbers : List (List ℕ))
    → ((u : ℕ) → u < n → w u ≡ z u) → limit ≡ most → AreGood n i X w limit numbers → AreGood n i X z most numbers
good_same n i X w z limit most numbers same e good = record {
  walks = λ direction v hv. walk_same n (Leads X i direction) w z same v _ (good.walks direction v hv);
  settled = λ direction v x hv hx. record {
    below = λ ne r. (let k = (good.settled direction v x hv hx).below ne r in omega (arith, k, same v hv));
  };
  fit = rw (← e) good.fit;
}

-- what is good for the sides that are kept is good for an instance with these sides
pub good_instance : (instance : PlainInstance) (X : Exclusions) (k : PlainWeights) (numbers : List (List ℕ))
    → AreForInstance instance k
    → ((i : ℕ) → i < dims instance → AreGood (box_count instance) i X (λ u. slice_index (slice_index_or k.sides u []) i)
    (slice_index k.limits i) numbers) → AreGoodFor instance X numbers
good_instance instance X k numbers same good i hi =
    good_same (box_count instance) i X (λ u. slice_index (slice_index_or k.sides u []) i) (λ u. side instance u i) _ _
    numbers (λ u hu. same.sides u i hu hi) (same.limits i hi) (good i hi)

-- and the other way round
pub instance_good : (instance : PlainInstance) (X : Exclusions) (k : PlainWeights) (numbers : List (List ℕ))
    → AreForInstance instance k → AreGoodFor instance X numbers → (i : ℕ) → i < dims instance
    → AreGood (box_count instance) i X (λ u. slice_index (slice_index_or k.sides u []) i) (slice_index k.limits i) numbers
instance_good instance X k numbers same good i hi =
    good_same (box_count instance) i X (λ u. side instance u i) (λ u. slice_index (slice_index_or k.sides u []) i) _ _
    numbers (λ u hu. sym (same.sides u i hu hi)) (sym (same.limits i hi)) (good i hi)

-- the weights are those of the end of a closing
pub of_ended : (instance : PlainInstance) (es : List Exclusion) (k : PlainWeights) (at : ℕ) → length es ≡ at
    → AreForInstance instance k → AreOf (dims instance) (box_count instance) es k
    → AreGoodFor instance (excludes es) k.numbers
    → AreOf (dims instance) (box_count instance) es
    (record k { ends = record { mark = at; raises = length k.log } ∷ k.ends })
of_ended instance es k at e same h good =
    let none : length k.log - length k.log ≡ 0 = omega arith in (
      record {
        within = omega (arith, e);
        raised = omega arith;
        good = rw (none, oldest_all es at (sym e)) (instance_good instance (excludes es) k k.numbers same good);
      },
      rw (none, ← e) h,
    )

-- what held at the newest end, for an instance of these sides
pub good_back : (instance : PlainInstance) (es : List Exclusion) (k : PlainWeights) (end : ClosingEnd)
    → AreForInstance instance k → IsNewestEnd k.ends end → AreOf (dims instance) (box_count instance) es k
    → AreGoodFor instance (excludes (oldest end.mark es)) (taken_back (length k.log - end.raises) k.numbers k.log)
good_back instance es k end same newest h =
    let g : HoldBack (dims instance) (box_count instance) k.limits k.sides es (length es) k.numbers k.log
    (end ∷ newest.older) = rw newest.first at h in
    good_instance instance (excludes (oldest end.mark es)) k _ same g.0.good

-- the weights are taken back to the newest end
pub of_back : (d n : ℕ) (es : List Exclusion) (k : PlainWeights) (end : ClosingEnd) → IsNewestEnd k.ends end
    → AreOf d n es k
    → AreOf d n es (record k {
      numbers = taken_back (length k.log - end.raises) k.numbers k.log;
      log = drop (length k.log - end.raises) k.log;
    })
of_back d n es k end newest h =
    let g : HoldBack d n k.limits k.sides es (length es) k.numbers k.log (end ∷ newest.older) =
    rw newest.first at h in
    rw newest.first (held_back d n k.limits k.sides es (length es) k.numbers k.log end newest.older g)

-- a number of the lists, or the written one
number_written : (numbers : List (List ℕ)) (list at w most : ℕ) → w ≤ most
    → ((l k : ℕ) → slice_index (slice_index_or numbers l []) k ≤ most) → (l k : ℕ)
    → slice_index (slice_index_or (with_number numbers list at w) l []) k ≤ most
number_written numbers list at w most small old l k =
    read_set (λ (ks : List ℕ). slice_index ks k ≤ most) numbers list (set (slice_index_or numbers list []) at w) l []
    (read_set (λ (x : ℕ). x ≤ most) (slice_index_or numbers list []) at w k 0 small (old list k)) (old l k)

-- the lists stay as long as they were
each_written : (numbers : List (List ℕ)) (list at w : ℕ) → list < 8
    → ((l : ℕ) → l < 8 → length (slice_index_or numbers l []) ≡ 128) → (l : ℕ) → l < 8
    → length (slice_index_or (with_number numbers list at w) l []) ≡ 128
each_written numbers list at w small old l hl =
    read_set (λ (ks : List ℕ). length ks ≡ 128) numbers list (set (slice_index_or numbers list []) at w) l []
    (length-set (slice_index_or numbers list []) at w ∙ old list small) (old l hl)

-- with one raise more there is still all that later calls need
pub sized_raised : (k : PlainWeights) (m e l : ℕ) (list at w : ℕ) → list < 8 → at < 128 → w ≤ most_weight → l ≡ m
    → AreSized k m e
    → AreSized (record k { numbers = with_number k.numbers list at w; log = raise_at k.numbers list at ∷ k.log }) l e
sized_raised k m e l list at w small box few same sized = record {
  lists = length-set k.numbers list _ ∙ sized.lists;
  each = each_written k.numbers list at w small sized.each;
  small = number_written k.numbers list at w most_weight few sized.small;
  raises = (record { list = small; at = box; small = sized.small list at }, sized.raises);
  sides = sized.sides;
  each_side = sized.each_side;
  limits = sized.limits;
  log_memory = omega (arith, same, sized.log_memory);
  end_memory = sized.end_memory;
}

-- and with the newest raise taken back
pub sized_back : (k : PlainWeights) (m e l : ℕ) (r : Raise) (log : List Raise) → k.log ≡ r ∷ log → l ≡ m
    → AreSized k m e → AreSized (record k { numbers = with_number k.numbers r.list r.at r.old; log = log }) l e
sized_back k m e l r log is same sized =
    let raises : AllByRecursion IsLogged (r ∷ log) = rw is at sized.raises in
    let list = raises.0.list in
    record {
      lists = length-set k.numbers r.list _ ∙ sized.lists;
      each = each_written k.numbers r.list r.at r.old list sized.each;
      small = number_written k.numbers r.list r.at r.old most_weight raises.0.small sized.small;
      raises = raises.1;
      sides = sized.sides;
      each_side = sized.each_side;
      limits = sized.limits;
      log_memory = omega (arith, same, sized.log_memory);
      end_memory = sized.end_memory;
    }

-- a raise that was pushed is the newest
pub log_pushed : (log new : List Raise) (numbers : List (List ℕ)) (row : List ℕ) (list at : ℕ)
    → row ≡ slice_index_or numbers list [] → new ≡ log ++ record { list = list; at = at; old = slice_index row at } ∷ []
    → reverse new ≡ raise_at numbers list at ∷ reverse log
log_pushed log new numbers row list at same e =
    rw (e, same) (reverse-append log (raise_at numbers list at ∷ []))

-- a list of numbers that was written, which was read before
pub is_written : (numbers : List (List ℕ)) (row : List ℕ) (list at w : ℕ) → row ≡ slice_index_or numbers list []
    → set numbers list (set row at w) ≡ with_number numbers list at w
is_written numbers row list at w same = rw same refl

-- one raise more is taken back
pub back_next : (numbers : List (List ℕ)) (log rest : List Raise) (r : Raise) (j next : ℕ) → drop j log ≡ r ∷ rest
    → j + 1 ≡ next → with_number (taken_back j numbers log) r.list r.at r.old ≡ taken_back next numbers log
back_next numbers log rest r j next is e = let both = back_sum j 1 next numbers log e in rw is at both

-- what follows the first entry that is left, once that is dropped too
pub drop_next : {A : Type 0} (log rest : List A) (r : A) (j next : ℕ) → drop j log ≡ r ∷ rest → j + 1 ≡ next
    → rest ≡ drop next log
drop_next log rest r j next is e =
    let both : drop 1 (drop j log) ≡ drop next log = drop-drop 1 j log ∙ ap (λ k. drop k log) e in
    rw is at both

-- the newest end is given up
pub of_popped : (d n : ℕ) (es : List Exclusion) (k : PlainWeights) (end : ClosingEnd) (older : List ClosingEnd)
    → k.ends ≡ end ∷ older → AreOf d n es k → AreOf d n es (record k { ends = older })
of_popped d n es k end older is h =
    let g : HoldBack d n k.limits k.sides es (length es) k.numbers k.log (end ∷ older) = rw is at h in
    held_popped d n k.limits k.sides es (length es) k.numbers k.log end older g

-- a list of ends whose last one, if any, is taken off
pub of_popped_any : (d n : ℕ) (es : List Exclusion) (k : PlainWeights) (o : Option ClosingEnd)
    (old new : List ClosingEnd) → k.ends ≡ reverse old → old ≡ new ++ option_to_list o → AreOf d n es k
    → AreOf d n es (record k { ends = reverse new })
of_popped_any d n es k None old new is e h =
    let same : k.ends ≡ reverse new = is ∙ ap reverse (e ∙ append-nil new) in
    rw (← same) h
of_popped_any d n es k (Some end) old new is e h =
    of_popped d n es k end (reverse new) (is ∙ (ap reverse e ∙ reverse-append new (end ∷ []))) h

-- an end that was pushed is the newest
pub ends_pushed : (ends new : List ClosingEnd) (at raises count : ℕ)
    → new ≡ ends ++ record { mark = at; raises = raises } ∷ [] → raises ≡ count
    → reverse new ≡ record { mark = at; raises = count } ∷ reverse ends
ends_pushed ends new at raises count e same =
    rw (e, same) (reverse-append ends (record { mark = at; raises = count } ∷ []))

-- an end is kept after the log and the older ends were kept, or both forgotten
pub of_ended_either : (instance : PlainInstance) (es : List Exclusion) (old new : PlainWeights) (at : ℕ)
    → (new ≡ old) ⊎ (new ≡ record old { log = []; ends = [] }) → length es ≡ at → AreForInstance instance old
    → AreOf (dims instance) (box_count instance) es old → AreGoodFor instance (excludes es) old.numbers
    → AreOf (dims instance) (box_count instance) es
    (record new { ends = record { mark = at; raises = length new.log } ∷ new.ends })
of_ended_either instance es old new at (inl is) e same h good =
    subst (λ (k : PlainWeights). AreOf (dims instance) (box_count instance) es
    (record k { ends = record { mark = at; raises = length k.log } ∷ k.ends })) (sym is)
    (of_ended instance es old at e same h good)
of_ended_either instance es old new at (inr is) e same h good =
    subst (λ (k : PlainWeights). AreOf (dims instance) (box_count instance) es
    (record k { ends = record { mark = at; raises = length k.log } ∷ k.ends })) (sym is)
    (of_ended instance es (record old { log = []; ends = [] }) at e
    (record { limits = same.limits; sides = same.sides }) tt good)

-- what is read of a list of the same entry
read_same : {A : Type 0} (P : A → Type 0) (n i : ℕ) (x d : A) → P x → P d → P (get_or (replicate n x) i d)
read_same P zero i x d here none = none
read_same P (suc n) zero x d here none = here
read_same P (suc n) (suc i) x d here none = read_same P n i x d here none

-- new weights are 0, with all that later calls need
pub sized_new : (limits : List ℕ) (sides numbers : List (List ℕ)) (log : List Raise) (ends : List ClosingEnd) (m e : ℕ)
    → length limits ≡ 4 → sides ≡ replicate 128 (replicate 4 0) → numbers ≡ replicate 8 (replicate 128 0) → log ≡ []
    → 4096 ≤ m → 1024 ≤ e
    → AreSized (record { limits = limits; sides = sides; numbers = numbers; log = log; ends = ends }) m e
sized_new limits sides numbers log ends m e four boxes lists none raises closings = record {
  lists = ap length lists ∙ length-replicate 8 zeros;
  each = λ l hl. ap (λ (ks : List (List ℕ)). length (slice_index_or ks l [])) lists
      ∙ (ap length (get_or-replicate 8 l zeros [] hl) ∙ length-replicate 128 nothing);
  small = λ l at. subst (λ (ks : List (List ℕ)). slice_index (slice_index_or ks l []) at ≤ most_weight) (sym lists)
      (read_same (λ (ks : List ℕ). slice_index ks at ≤ most_weight) 8 l zeros []
      (read_same (λ x. x ≤ most_weight) 128 at 0 0 zero_least zero_least) zero_least);
  raises = subst (λ (rs : List Raise). AllByRecursion IsLogged rs) (sym none) tt;
  sides = ap length boxes ∙ length-replicate 128 four_zeros;
  each_side = λ u hu. ap (λ (ks : List (List ℕ)). length (slice_index_or ks u [])) boxes
      ∙ (ap length (get_or-replicate 128 u four_zeros [] hu) ∙ length-replicate 4 nothing);
  limits = four;
  log_memory = raises;
  end_memory = closings;
}
  where
    nothing : ℕ
    nothing = 0

    zeros : List ℕ
    zeros = replicate 128 0

    four_zeros : List ℕ
    four_zeros = replicate 4 0

    zero_least : 0 ≤ most_weight
    zero_least = omega arith

-- copies of numbers are these numbers
pub copy_same : (xs ys : List ℕ) → AllZip (λ x y. y ≡ x) xs ys → ys ≡ xs
copy_same [] [] h = refl
copy_same [] (y ∷ ys) h = absurd h
copy_same (x ∷ xs) [] h = absurd h
copy_same (x ∷ xs) (y ∷ ys) h = rw (h.0, copy_same xs ys h.1) refl
