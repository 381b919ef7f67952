-- The front, taken on by one entry, and kept where an entry behind it changes.
use Rattle.std.proofs.Common.{◌≡◌, ℕ, zero, suc, ◌+◌, ◌<◌, ◌≤◌, refl, sym, ap, ◌∙◌, subst, arith, List, [], ◌∷◌, ◌++◌}
use Rattle.std.proofs.Common.{length, take, drop, Bool, true, false, if◌then◌else◌, get_or, ◌==◌, ◌-◌, add-one, Option}
use Rattle.std.proofs.Common.{Some}
use Rattle.std.proofs.lemmas.Bool.{true≢false}
use Rattle.std.specs.Prelude.{slice_get}
use Rattle.std.proofs.lemmas.Option.{slice_get_read, slice_get_within, same_Some}
use Rattle.std.proofs.lemmas.List.{take_more, drop_more, length-map}
use Rattle.work_share.specs.Board.{PlainEntry, SplitEntry, TaskEntry, PlainTaskState, Waits, Out, Done, at_first}
use Rattle.work_share.specs.Board.{state_waits, waits_as, is_out}
use Rattle.work_share.specs.Kept.{AreBelow}
use Rattle.work_share.proofs.Outs.{out_is}
use Rattle.work_share.specs.declared.slot.Slot.{Slot}
use Rattle.work_share.specs.declared.slot.Piece.{Piece}
use Rattle.work_share.specs.declared.slot.Piece.TheVariants.{Open, Refuted}
use Rattle.work_share.specs.Slots.{entry_of, entry_or, entry_at, entries_of}
use Rattle.work_share.specs.Links.{next_of, order_of, IsLinked}
use Rattle.work_share.specs.Fronts.{piece_of, IsRefutedPiece, AreRefuted, count_in, counted, Ends, EndsWithFirst}
use Rattle.work_share.specs.Fronts.{IsOpen, StandsAt, HasFront, HasFrontTo, IsFront}
use Rattle.work_share.proofs.Links.{chain_next}

-- ---- one entry more

-- an entry to read where none is
abbrev pub no_entry : PlainEntry
no_entry = TaskEntry 0 [] Waits

refuted_push : (es : List PlainEntry) (e : PlainEntry) → AreRefuted es → IsRefutedPiece (piece_of e)
    → AreRefuted (es ++ e ∷ [])
refuted_push [] e a r = (r, tt)
refuted_push (x ∷ es) e a r = (a.0, refuted_push es e a.1 r)

counted_push : (es : List PlainEntry) (e : PlainEntry) → counted (es ++ e ∷ []) ≡ counted es + count_in (piece_of e)
counted_push [] e = omega arith
counted_push (x ∷ es) e = let r = counted_push es e in omega (arith, r)

pub front_more : (budget : ℕ) (es : List PlainEntry) (d : PlainEntry) (len count more : ℕ)
    → HasFront budget es len count → len < length es
    → Refuted more ≡ piece_of (get_or es len d) → more ≤ budget - count → HasFront budget es (len + 1) (count + more)
front_more budget es d len count more f l p small =
    let e = get_or es len d in
    let push : take (len + 1) es ≡ take len es ++ e ∷ [] = take_more es len d l in
    let w = f.within in
    record {
      inside = omega (arith, l);
      refuted = subst AreRefuted (sym push) (refuted_push (take len es) e f.refuted (subst IsRefutedPiece p tt));
      sum =
          let c = ap counted push ∙ counted_push (take len es) e in
          let m : count_in (piece_of e) ≡ more = sym (ap count_in p) in
          let s = f.sum in
          omega (arith, c, m, s);
      within = omega (arith, w, small);
    }

pub front_open : (budget : ℕ) (es : List PlainEntry) (d : PlainEntry) (len count : ℕ) → HasFront budget es len count
    → len < length es
    → Open ≡ piece_of (get_or es len d) → IsFront budget es len count false
front_open budget es d len count f l p =
    record { known = f; stands = subst IsOpen (sym (drop_more es len d l)) (sym p) }

pub front_ends : (budget : ℕ) (es : List PlainEntry) (d : PlainEntry) (len count : ℕ) (p : Piece)
    → HasFront budget es len count → len < length es
    → p ≡ piece_of (get_or es len d) → Ends budget count p → IsFront budget es len count true
front_ends budget es d len count p f l e h =
    record {
      known = f;
      stands = subst (EndsWithFirst budget count) (sym (drop_more es len d l))
          (subst (Ends budget count) e h);
    }

-- ---- an entry behind the front changes

-- a test that only entries pass that aren't finished
abbrev pub FindsOpen : (PlainEntry → Bool) → Type 0
FindsOpen test = (e : PlainEntry) → test e ≡ true → piece_of e ≡ Open

pub waits_open : (n : ℕ) → FindsOpen (waits_as n)
waits_open n (SplitEntry number path token own children) h = absurd (true≢false (sym h))
waits_open n (TaskEntry number path state) h = go (number == n) state h
  where
    go : (b : Bool) (s : PlainTaskState) → (if b then state_waits s else false) ≡ true
        → piece_of (TaskEntry number path s) ≡ Open
    go true Waits f = refl
    go true Out f = absurd (true≢false (sym f))
    go true (Done o) f = absurd (true≢false (sym f))
    go false s f = absurd (true≢false (sym f))

pub out_open : (n : ℕ) → FindsOpen (is_out n)
out_open n e h = ap piece_of (out_is n e h).1

open_not_refuted : (p : Piece) → p ≡ Open → IsRefutedPiece p → ⊥
open_not_refuted p e r = subst IsRefutedPiece e r

module _ (test : PlainEntry → Bool) (change : PlainEntry → List PlainEntry) (finds : FindsOpen test) where
  -- the entries of the front stay
  front_stays : (len : ℕ) (es : List PlainEntry) → len ≤ length es → AreRefuted (take len es)
      → (take len (at_first test change es) ≡ take len es)
      × (drop len (at_first test change es) ≡ at_first test change (drop len es))
      × (len ≤ length (at_first test change es))
  front_stays zero es l r = (refl, refl, omega arith)
  front_stays (suc len) [] l r = absurd (omega (arith, l))
  front_stays (suc len) (e ∷ es) l r =
      let rest = front_stays len es (omega (arith, l)) r.1 in
      elim (test e) as (λ b. test e ≡ b
      → (take (suc len) (if b then change e ++ es else e ∷ at_first test change es) ≡ take (suc len) (e ∷ es))
      × (drop (suc len) (if b then change e ++ es else e ∷ at_first test change es)
      ≡ at_first test change (drop len es))
      × (suc len ≤ length (if b then change e ++ es else e ∷ at_first test change es))) [
        | true ↦ λ f. absurd (open_not_refuted (piece_of e) (finds e f) r.0)
        | false ↦ λ _. (ap (λ xs. e ∷ xs) rest.0, rest.1, (let h = rest.2 in omega (arith, h)))
      ] refl

  pub front_kept : (budget : ℕ) (es : List PlainEntry) (len count : ℕ) → HasFront budget es len count
      → HasFront budget (at_first test change es) len count
  front_kept budget es len count f =
      let stays = front_stays len es f.inside f.refuted in
      record {
        inside = stays.2;
        refuted = subst AreRefuted (sym stays.0) f.refuted;
        sum = ap counted stays.0 ∙ f.sum;
        within = f.within;
      }

  ends_not_open : (budget count : ℕ) (p : Piece) → p ≡ Open → Ends budget count p → ⊥
  ends_not_open budget count p e h = subst (Ends budget count) e h

  -- an entry that ends the run stays
  ended_stays : (budget count : ℕ) (es : List PlainEntry) → EndsWithFirst budget count es
      → EndsWithFirst budget count (at_first test change es)
  ended_stays budget count [] h = h
  ended_stays budget count (e ∷ es) h =
      elim (test e) as (λ b. test e ≡ b
      → EndsWithFirst budget count (if b then change e ++ es else e ∷ at_first test change es)) [
        | true ↦ λ f. absurd (ends_not_open budget count (piece_of e) (finds e f) h)
        | false ↦ λ _. h
      ] refl

  pub front_known : (budget : ℕ) (es : List PlainEntry) (len count : ℕ) (ended : Bool)
      → IsFront budget es len count ended
      → HasFrontTo budget (at_first test change es) len count ended
  front_known budget es len count ended f =
      let stays = front_stays len es f.known.inside f.known.refuted in
      record {
        known = front_kept budget es len count f.known;
        ended = λ e. subst (EndsWithFirst budget count) (sym stays.1)
            (ended_stays budget count (drop len es) (subst (λ b. StandsAt budget count b (drop len es)) e f.stands));
      }

  -- where what comes in the entry's place isn't finished either
  module _ (opens : (e : PlainEntry) → test e ≡ true → (x : PlainEntry) × (xs : List PlainEntry) × (change e ≡ x ∷ xs)
      × (piece_of x ≡ Open)) where
    open_stays : (es : List PlainEntry) → IsOpen es → IsOpen (at_first test change es)
    open_stays [] h = tt
    open_stays (e ∷ es) h =
        elim (test e) as (λ b. test e ≡ b → IsOpen (if b then change e ++ es else e ∷ at_first test change es)) [
          | true ↦ λ f. let o = opens e f in subst (λ xs. IsOpen (xs ++ es)) (sym o.2) o.3
          | false ↦ λ _. h
        ] refl

    pub front_same : (budget : ℕ) (es : List PlainEntry) (len count : ℕ) (ended : Bool)
        → IsFront budget es len count ended
        → IsFront budget (at_first test change es) len count ended
    front_same budget es len count ended f =
        let stays = front_stays len es f.known.inside f.known.refuted in
        record {
          known = front_kept budget es len count f.known;
          stands = subst (StandsAt budget count ended) (sym stays.1) (go ended f.stands);
        }
      where
        go : (b : Bool) → StandsAt budget count b (drop len es)
            → StandsAt budget count b (at_first test change (drop len es))
        go true h = ended_stays budget count (drop len es) h
        go false h = open_stays (drop len es) h

pub below_at : (n : ℕ) (order : List ℕ) (k : ℕ) → AreBelow n order → k < length order → get_or order k 0 < n
below_at n [] k a l = absurd (omega (arith, l))
below_at n (x ∷ order) zero a l = a.0
below_at n (x ∷ order) (suc k) a l = below_at n order k a.1 (omega (arith, l))

-- a number of the order
pub below_there : (n : ℕ) (order : List ℕ) (k m : ℕ) → AreBelow n order → slice_get order k ≡ Some m → m < n
below_there n [] k m a e = absurd (cc e)
below_there n (x ∷ order) zero m a e = subst (λ y. y < n) (same_Some x m e) a.0
below_there n (x ∷ order) (suc k) m a e = below_there n order k m a.1 e

-- its entry
pub entry_there : (slots : List Slot) (order : List ℕ) (k n : ℕ) (d : PlainEntry) → slice_get order k ≡ Some n
    → get_or (entries_of slots order) k d ≡ entry_at slots n
entry_there slots [] k n d e = absurd (cc e)
entry_there slots (x ∷ order) zero n d e = ap (entry_at slots) (same_Some x n e)
entry_there slots (x ∷ order) (suc k) n d e = entry_there slots order k n d e

pub entry_read : (slots : List Slot) (n : ℕ) (slot : Slot) → n < length slots → slot ≡ get_or slots n slot
    → entry_at slots n ≡ entry_of n slot
entry_read slots n slot l is = ap (entry_or n) (slice_get_read slots (length slots) n slot refl l is)

-- ---- a position of the order, by the number that stands there

module _ (slots : List Slot) (len n : ℕ) (behind : Option ℕ) (linked : IsLinked slots len behind)
    (is : behind ≡ Some n) where
  linked_there : slice_get (order_of slots) len ≡ Some n
  linked_there = sym linked.here ∙ is

  pub linked_inside : len < length (entries_of slots (order_of slots))
  linked_inside = subst (λ k. len < k) (sym (length-map (order_of slots) (entry_at slots)))
      (slice_get_within (order_of slots) len n linked_there)

  pub linked_below : AreBelow (length slots) (order_of slots) → n < length slots
  linked_below below = below_there (length slots) (order_of slots) len n below linked_there

  pub linked_entry : (d : PlainEntry) → get_or (entries_of slots (order_of slots)) len d ≡ entry_at slots n
  linked_entry d = entry_there slots (order_of slots) len n d linked_there

  pub linked_piece : (p : Piece) → p ≡ piece_of (entry_at slots n) → p
      ≡ piece_of (get_or (entries_of slots (order_of slots)) len no_entry)
  linked_piece p e = e ∙ ap piece_of (sym (linked_entry no_entry))

  pub linked_more : (after : Option ℕ) → after ≡ next_of slots n → IsLinked slots (len + 1) after
  linked_more after e = record {
    chain = linked.chain;
    here = e ∙ (chain_next slots (Some 0) (order_of slots) len n linked.chain linked_there
        ∙ ap (slice_get (order_of slots)) (sym (add-one len)));
  }
