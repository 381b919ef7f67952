-- A new board is kept.
use Rattle.std.proofs.Common.{◌≡◌, ℕ, zero, suc, ◌<◌, ◌≤◌, inl, refl, sym, ap, ◌∙◌, subst, arith, [], ◌∷◌, reverse}
use Rattle.std.proofs.Common.{Some, None, false}
use Rattle.tree_terms.specs.Trees.{SearchTree}
use Rattle.work_share.specs.Board.{BoardState}
use Rattle.work_share.specs.Replay.{replay}
use Rattle.work_share.specs.declared.slot.Slot.{Slot}
use Rattle.work_share.specs.declared.slot.SlotState.TheVariants.{Waits}
use Rattle.work_share.specs.Slots.{entry_as}
use Rattle.work_share.specs.Links.{IsLinked}
use Rattle.work_share.specs.Fronts.{IsFront}
use Rattle.work_share.specs.Boards.{stored_state, waiting_tasks, owed, IsIn, IsKept}
use Rattle.work_share.proofs.Kept.{keeps_stored, apart_stored}

pub start_kept : (tree : SearchTree) (budget : ℕ) (root : Slot) (capacity : ℕ) → root.path.items ≡ []
    → root.state ≡ Waits → 3 ≤ capacity
    → IsKept tree budget (root ∷ []) (0 ∷ []) (record { path = []; number = 0 } ∷ []) 0 0 false false [] capacity
start_kept tree budget root capacity path state room =
    let replays : replay tree budget [] ≡ stored_state (root ∷ []) (0 ∷ []) false =
    sym (ap (λ p. record { entries = entry_as 0 p root.state ∷ []; is_short = false }) path
    ∙ ap (λ s. record { entries = entry_as 0 [] s ∷ []; is_short = false }) state) in
    let entries = ap (λ (b : BoardState). b.entries) replays in
    record {
      replays = replays;
      apart = apart_stored tree budget (root ∷ []) (0 ∷ []) false [] replays;
      right = (keeps_stored tree budget (root ∷ []) (0 ∷ []) false [] replays).right;
      size = refl;
      all = first;
      stacked = ap (λ es. reverse (waiting_tasks es)) entries;
      front = subst (λ es. IsFront budget es 0 0 false) entries
          (record {
            known = record { inside = omega arith; refuted = tt; sum = refl; within = omega arith };
            stands = refl;
          });
      owes = let e = ap owed entries in omega (arith, e);
      room = omega (arith, room);
    }
  where
    first : (n : ℕ) → n < 1 → IsIn n (0 ∷ [])
    first zero l = inl refl
    first (suc n) l = absurd (omega (arith, l))

pub start_linked : (root : Slot) → root.behind ≡ None → IsLinked (root ∷ []) 0 (Some 0)
start_linked root none = record { chain = (refl, none); here = refl }
