-- What a block holds back, and what that says of the sink behind it.
use Rattle.std.proofs.Common.{ℕ, ◌≡◌, ◌≤◌, ◌+◌, ◌-◌, min, List, [], ◌++◌, take, drop, length, arith, refl, sym, ap}
use Rattle.std.proofs.Common.{subst, ◌∙◌, append-nil, append_assoc, Option, Some, None, Bool, true, false, Result, Ok}
use Rattle.std.proofs.Common.{Err, OnOk}
use Rattle.std.specs.Result.{is_err}
use Rattle.pack_streams.specs.Faults.{FaultCount, Stays, FailedOnce}
use Rattle.pack_streams.proofs.Faults.{stays_on, fails_then}
use Rattle.std.proofs.lemmas.Bool.{true≢false}
use Rattle.std.proofs.lemmas.List.{drop-take, drop-drop, drop-append-le, take-append-drop, length-take, length-take-le}
use Rattle.std.proofs.lemmas.List.{take-take, append_cancel_left}
use Rattle.std.proofs.Math.Seq.{take-append_seam, take-length}
use Rattle.std.specs.Io.KnownBytes.{append_known}
use Rattle.pack_streams.specs.Moves.{Appended}
use Rattle.pack_streams.specs.Writing.{CountsWriting, AppendedPrefix, Writes}
use Rattle.answer_streams.specs.Fronts.{part_of, shown, IsReportedFront}

-- the part of a block is what is left of its front
part_is : (block : List ℕ) (start end : ℕ) → start ≤ end → part_of block start end ≡ drop start (take end block)
part_is block start end le =
    let split : end ≡ start + (end - start) = omega (arith, le) in
    sym (ap (λ k. drop start (take k block)) split ∙ drop-take start (end - start) block)

-- what is given from the front of the part is no longer held back
known_split : (w : Option (List ℕ)) (t : ℕ) (held : List ℕ) → append_known (append_known w (take t held)) (drop t held)
    ≡ append_known w held
known_split None t held = refl
known_split (Some xs) t held =
    ap Some (append_assoc xs (take t held) (drop t held) ∙ ap (λ ys. xs ++ ys) (take-append-drop t held))

part_drop : (block : List ℕ) (start end t : ℕ) → start + t ≤ end
    → part_of block (start + t) end ≡ drop t (part_of block start end)
part_drop block start end t le =
    part_is block (start + t) end le ∙ sym (drop-drop t start (take end block))
    ∙ ap (drop t) (sym (part_is block start end (omega (arith, le))))

pub shown_given : (w v : Option (List ℕ)) (block : List ℕ) (start end t : ℕ) → start + t ≤ end
    → Appended w v (take t (part_of block start end)) → shown v block (start + t) end ≡ shown w block start end
shown_given w v block start end t le gains =
    ap (append_known v) (part_drop block start end t le)
    ∙ ap (λ u. append_known u (drop t (part_of block start end))) gains
    ∙ known_split w t (part_of block start end)

known_more : (w : Option (List ℕ)) (xs ys : List ℕ) → append_known w (xs ++ ys) ≡ append_known (append_known w xs) ys
known_more None xs ys = refl
known_more (Some zs) xs ys = ap Some (sym (append_assoc zs xs ys))

take_within : (k p : ℕ) (xs bytes : List ℕ) → length bytes ≡ k → take k (take p xs) ≡ bytes
    → take k (take p xs) ≡ take k xs
take_within k p xs bytes len is =
    let count : min k (length (take p xs)) ≡ length bytes = sym (length-take k (take p xs)) ∙ ap length is in
    let most : length (take p xs) ≡ min p (length xs) = length-take p xs in
    take-take k p xs (omega (arith, count, most, len))

-- what is put into the block is held back too
pub shown_put : (w : Option (List ℕ)) (old new : List ℕ) (start end count : ℕ) (piece : List ℕ) → start ≤ end
    → end ≤ length old
    → take (end + count) new ≡ take end old ++ take count piece
    → shown w new start (end + count) ≡ append_known (shown w old start end) (take count piece)
shown_put w old new start end count piece le few is =
    let within : start ≤ length (take end old) = rw (length-take-le end old few) le in
    ap (append_known w) (
    part_is new start (end + count) (omega (arith, le))
    ∙ ap (drop start) is
    ∙ drop-append-le start (take end old) (take count piece) within
    ∙ ap (λ xs. xs ++ take count piece) (sym (part_is old start end le)))
    ∙ known_more w (part_of old start end) (take count piece)

abbrev of_some : Option (List ℕ) → List ℕ
of_some None = []
of_some (Some xs) = xs

abbrev is_told : Option (List ℕ) → Bool
is_told None = false
is_told (Some xs) = true

-- the sink behind took a part of the text, where what it took and what is held back is a part of the text
pub part_behind : (w v : Option (List ℕ)) (held text : List ℕ) → IsReportedFront w v
    → AppendedPrefix w (append_known v held) text → AppendedPrefix w v text
part_behind None None held text front part = (0, refl)
part_behind None (Some ys) held text front part = absurd (true≢false (ap is_told part.1))
part_behind (Some xs) None held text front part = absurd (true≢false (sym (ap is_told front)))
part_behind (Some xs) (Some ys) held text front part =
    let bytes : List ℕ = drop (length xs) ys in
    let split : ys ≡ xs ++ bytes = sym (take-append-drop (length xs) ys) ∙ ap (λ zs. zs ++ bytes) (ap of_some front) in
    let e : xs ++ (bytes ++ held) ≡ xs ++ take part.0 text =
    sym (append_assoc xs bytes held) ∙ ap (λ zs. zs ++ held) (sym split) ∙ ap of_some part.1 in
    let rest : bytes ++ held ≡ take part.0 text = append_cancel_left xs (bytes ++ held) (take part.0 text) e in
    let is : take (length bytes) (take part.0 text) ≡ bytes =
    ap (take (length bytes)) (sym rest) ∙ take-append_seam bytes held in (
      length bytes,
      ap Some (split ∙ ap (λ zs. xs ++ zs)
          (sym is ∙ take_within (length bytes) part.0 text bytes refl is)),
    )

-- a part without bytes
part_none : (block : List ℕ) (start end : ℕ) → start ≡ end → part_of block start end ≡ []
part_none block start end e = let none : end - start ≡ 0 = omega (arith, e) in ap (λ k. take k (drop start block)) none

pub shown_none : (w : Option (List ℕ)) (block : List ℕ) (start end : ℕ) → start ≡ end
    → shown w block start end ≡ append_known w []
shown_none w block start end e = ap (append_known w) (part_none block start end e)

pub known_none : (w : Option (List ℕ)) → append_known w [] ≡ w
known_none None = refl
known_none (Some xs) = ap Some (append-nil xs)

pub on_ok : {X E : Type 0} (r : Result X E) (P : Type 0) → false ≡ is_err r → OnOk r P → P
on_ok (Ok x) P e p = p
on_ok (Err x) P e p = absurd (true≢false (sym e))

whole_part : (w v : Option (List ℕ)) (text : List ℕ) → Appended w v text → AppendedPrefix w v text
whole_part w v text gains = (length text, gains ∙ ap (append_known w) (sym (take-length text)))

-- a failed text through a front is a failed text to the sink behind it
pub behind_err : {E : Type 0} (w s v : Option (List ℕ)) (held : List ℕ) (f g h : FaultCount) (text : List ℕ) (e d : E)
    → s ≡ w → g ≡ f → IsReportedFront w v → Writes {E = E} s (append_known v held) g h text (Err e)
    → Writes {E = E} w v f h text (Err d)
behind_err w s v held f g h text e d p q front t =
    record {
      whole = tt;
      part = part_behind w v held text front (subst (λ u. AppendedPrefix u (append_known v held) text) p t.part);
      count = subst (λ n. FailedOnce n h) q t.count;
    }

-- a whole text through a front, and then what is held back, or a part of it
pub behind_end : {E : Type 0} (w s u v : Option (List ℕ)) (block : List ℕ) (start end : ℕ) (f g h k : FaultCount)
    (text : List ℕ)
    (r : Result (Unit {0}) E)
    → s ≡ w → g ≡ f → IsReportedFront w v → Writes {E = E} s u g h text (Ok tt) → shown v block start end ≡ u
    → OnOk r (start ≡ end)
    → CountsWriting h k r → Writes {E = E} w v f k text r
behind_end w s u v block start end f g h k text (Ok x) p q front t same none count =
    let gains : v ≡ append_known w text =
    sym (known_none v) ∙ sym (shown_none v block start end none) ∙ same ∙ t.whole ∙ ap (λ z. append_known z text) p in
    record {
      whole = gains;
      part = whole_part w v text gains;
      count = subst (λ n. Stays n k) q (stays_on g h k t.count count);
    }
behind_end w s u v block start end f g h k text (Err x) p q front t same none count =
    record {
      whole = tt;
      part = part_behind w v (part_of block start end) text front
          (whole_part w (shown v block start end) text (same ∙ t.whole ∙ ap (λ z. append_known z text) p));
      count = subst (λ n. FailedOnce n k) q (fails_then g h k t.count count);
    }

-- a text that was written from the same start
pub same_start : {E : Type 0} (s w u : Option (List ℕ)) (f g h : FaultCount) (text : List ℕ) (r : Result (Unit {0}) E)
    → s ≡ w → f ≡ g
    → Writes {E = E} s u f h text r → Writes {E = E} w u g h text r
same_start s w u f g h text r p q wrote =
    subst (λ z. Writes z u g h text r) p (subst (λ n. Writes s u n h text r) q wrote)
