-- The steps of reading, over plain values.
use Rattle.std.proofs.Common.{◌≡◌, ℕ, suc, pred, ◌+◌, ◌<◌, ◌≤◌, inl, inr, refl, sym, ap, subst, ◌∙◌, arith, Bool, true}
use Rattle.std.proofs.Common.{false, cond, List, [], ◌∷◌, ◌++◌, length, take, drop, append_assoc, append-nil, get_or}
use Rattle.std.proofs.Common.{Option, Some, None, Result, Ok, Err, not}
use Rattle.std.specs.List.{slice_split, onto_first}
use Rattle.std.specs.Io.KnownBytes.{IsAtEnd}
use Rattle.std.proofs.lemmas.Bool.{eqb-true}
use Rattle.std.proofs.lemmas.List.{length-append, take_at, take-append-drop}
use Rattle.std.proofs.lemmas.List.Splits.{length-slice_split}
use Rattle.pack_streams.specs.Moves.{Consumed}
use Rattle.text_terms.specs.Lines.{is_line_feed, text_lines, drop_empty_end}
use Rattle.packing_terms.specs.Results.{◌>>=◌}
use Rattle.text_terms.specs.Feeding.{Lexer, new_lexer, end_line as end_line_step, add_byte, held_of, feed, finish}
use Rattle.text_terms.specs.Feeding.{ended_line}
use Rattle.text_terms.specs.declared.claim.Claim.{Claim}
use Rattle.verdict_terms.specs.declared.reason.Reason.{Reason}
use Rattle.verdict_terms.specs.declared.heading.Heading.{Heading}
use Rattle.verdict_terms.specs.Stages.{Stage, stage_after}
use Rattle.verdict_terms.specs.Stages.Stage.{Beginning}
use Rattle.verdict_terms.specs.Documents.{Refusal, document_at_line, document_at_end, headed_verdict}
use Rattle.verdict_terms.specs.Fed.{taken_line, fed_verdict, NoneRefusedUnder, EndsRefused}
use Rattle.verdict_terms.proofs.FedGiven.{documents_are_fed}
use Rattle.verdict_terms.proofs.Stays.{refusals_stay, split_feed, end_append, end_line}
use Rattle.pack_streams.specs.Faults.{FaultCount, Stays, FailedOnce}
use Rattle.pack_streams.specs.Moves.{ReadsPiece}
use Rattle.pack_streams.specs.declared.source.ReadAnswer.TheVariants.{Got, End as SourceEnd}
use Rattle.pack_streams.proofs.Runs.{gives_more}
use Rattle.document_lines.specs.declared.judge.LineStop.{LineStop}
use Rattle.document_lines.specs.declared.judge.LineStop.TheVariants.{Refused as LineRefused}
use Rattle.document_lines.specs.declared.judge.ReadEnd.{ReadEnd}
use Rattle.document_lines.specs.declared.judge.ReadEnd.TheVariants.{End, Paused, Refused, TooLong, ReadFault, NoMemory}
use Rattle.document_lines.specs.Reading.{IsSoFar, Begins, IsTaking, TakesByte, TakesEnd, NoneBeforeUnder, IsRead}

-- ---- bytes of a source

pub gives_none : (old : Option (List ℕ)) → Consumed old old []
gives_none None = refl
gives_none (Some xs) = refl

-- ---- how many lines have ended

split_push : (xs : List ℕ) (b : ℕ) → is_line_feed b ≡ false → length (slice_split is_line_feed (xs ++ b ∷ []))
    ≡ length (slice_split is_line_feed xs)
split_push [] b f = ap (λ t. length (cond t ([] ∷ ([] ∷ [])) (onto_first b ([] ∷ [])))) f
split_push (x ∷ xs) b f = go (is_line_feed x) (split_push xs b f) (slice_split is_line_feed (xs ++ b ∷ []))
    (slice_split is_line_feed xs) refl refl
  where
    onto_length : (ls : List (List ℕ)) → 1 ≤ length ls → length (onto_first x ls) ≡ length ls
    onto_length [] h = absurd (omega arith)
    onto_length (l ∷ ls) h = refl

    go : (t : Bool) → length (slice_split is_line_feed (xs ++ b ∷ [])) ≡ length (slice_split is_line_feed xs)
        → (us vs : List (List ℕ)) → slice_split is_line_feed (xs ++ b ∷ []) ≡ us → slice_split is_line_feed xs ≡ vs
        → length (cond t ([] ∷ us) (onto_first x us)) ≡ length (cond t ([] ∷ vs) (onto_first x vs))
    go true e us vs p q = ap suc (sym (ap length p) ∙ e ∙ ap length q)
    go false e us vs p q =
        let m = length-slice_split is_line_feed (xs ++ b ∷ []) in
        let n = length-slice_split is_line_feed xs in
        let i : length us ≡ length (slice_split is_line_feed (xs ++ b ∷ [])) = ap length (sym p) in
        let j : length vs ≡ length (slice_split is_line_feed xs) = ap length (sym q) in
        onto_length us (omega (arith, m, i)) ∙ i ∙ e ∙ sym j ∙ sym (onto_length vs (omega (arith, n, j)))

-- the number of lines of a text that ends in a line feed
ended_lines : (front : List ℕ) → length (text_lines (front ++ 10 ∷ [])) ≡ length (slice_split is_line_feed front)
ended_lines front =
    ap (λ ls. length (drop_empty_end ls)) (split_feed front [])
    ∙ ap length (end_append (slice_split is_line_feed front) ([] ∷ []) (omega arith)
    ∙ append-nil (slice_split is_line_feed front))

feed_number : (s : Lexer) (b : ℕ) → is_line_feed b ≡ true → (feed b s).number ≡ s.number + 1
feed_number s b f = ap (λ t. (cond t (end_line_step s)
    (record { number = s.number; begun = true; held = add_byte b (held_of s) })).number) f

same_number : (s : Lexer) (b : ℕ) → is_line_feed b ≡ false → (feed b s).number ≡ s.number
same_number s b f = ap (λ t. (cond t (end_line_step s)
    (record { number = s.number; begun = true; held = add_byte b (held_of s) })).number) f

-- ---- steps

pub so_far_start : (heading : Heading) → IsSoFar heading new_lexer (Beginning heading) []
so_far_start heading = record { goes = λ rest. documents_are_fed heading rest; number = refl }

-- a byte more
pub so_far_more : (heading : Heading) (s : Lexer) (stage next : Stage) (taken : List ℕ) (b : ℕ)
    → IsSoFar heading s stage taken
    → ((rest : List ℕ) → fed_verdict s stage (b ∷ rest) ≡ fed_verdict (feed b s) next rest)
    → IsSoFar heading (feed b s) next (taken ++ b ∷ [])
so_far_more heading s stage next taken b h step = record {
  goes = λ rest. sym (step rest) ∙ h.goes (b ∷ rest)
      ∙ ap (headed_verdict heading) (sym (append_assoc taken (b ∷ []) rest));
  number = go (is_line_feed b) refl;
}
  where
    go : (t : Bool) → is_line_feed b ≡ t → (feed b s).number + 1 ≡ length (slice_split is_line_feed (taken ++ b ∷ []))
    go true f =
        let ten : b ≡ 10 = eqb-true b 10 f in
        let e : length (slice_split is_line_feed (taken ++ b ∷ []))
        ≡ length (slice_split is_line_feed taken ++ ([] ∷ [])) =
        ap (λ x. length (slice_split is_line_feed (taken ++ x ∷ []))) ten ∙ ap length (split_feed taken []) in
        let l = length-append (slice_split is_line_feed taken) ([] ∷ []) in
        let n = h.number in
        let m = feed_number s b f in
        omega (arith, e, l, n, m)
    go false f = let e = split_push taken b f in let n = h.number in let m = same_number s b f in omega (arith, e, n, m)

-- a refused line
pub refused_here : (heading : Heading) (s : Lexer) (stage : Stage) (taken : List ℕ) (b : ℕ) (reason : Reason)
    → IsSoFar heading s stage taken → is_line_feed b ≡ true
    → ((rest : List ℕ) → fed_verdict s stage (b ∷ rest) ≡ Err (record { line = (feed b s).number; reason = reason }))
    → (headed_verdict heading (taken ++ b ∷ []) ≡ Err (record { line = (feed b s).number; reason = reason }))
    × EndsRefused (taken ++ b ∷ []) (record { line = (feed b s).number; reason = reason })
refused_here heading s stage taken b reason h f step = (
  sym (h.goes (b ∷ [])) ∙ step [],
  record {
    front = taken;
    are = ap (λ x. taken ++ x ∷ []) (eqb-true b 10 f);
    is_last = feed_number s b f ∙ h.number ∙ sym (ended_lines taken) ∙ ap (λ x. length (text_lines (taken ++ x ∷ [])))
        (sym (eqb-true b 10 f));
  },
)

-- each refusal that is still to come is of a later line
late : (s : Lexer) (stage : Stage) (rest : List ℕ) (r : Refusal) → fed_verdict s stage rest ≡ Err r → s.number < r.line
late s stage [] r e = go s.begun refl e
  where
    ended : s.begun ≡ true → (finish s).number ≡ s.number + 1
    ended f = ap (λ t. (cond t (end_line_step s) s).number) f

    later : (x : Result Stage Reason)
        → ◌≡◌ {A = Result Claim Refusal}
        (document_at_line (finish s).number x >>= λ next. document_at_end next (finish s).number) (Err r)
        → (finish s).number ≤ r.line
    later (Ok next) f = let n = end_line next (finish s).number r f in omega (arith, n)
    later (Err reason) f =
        let same : record { line = (finish s).number; reason = reason } ≡ r = cc (f) in
        let n : (finish s).number ≡ r.line = ap (λ x. x.line) same in omega (arith, n)

    go : (t : Bool) → s.begun ≡ t → ◌≡◌ {A = Result Claim Refusal}
        (cond t (taken_line stage (finish s) >>= λ next. document_at_end next (finish s).number)
        (document_at_end stage s.number)) (Err r) → s.number < r.line
    go true f g = let l = later (stage_after stage (ended_line (finish s).held)) g in let n = ended f in
        omega (arith, l, n)
    go false f g = let n = end_line stage s.number r g in omega (arith, n)
late s stage (b ∷ rest) r e = go (is_line_feed b) refl e (λ next f. late (feed b s) next rest r f)
  where
    accepted : (x : Result Stage Reason)
        → ◌≡◌ {A = Result Claim Refusal}
        (document_at_line (feed b s).number x >>= λ next. fed_verdict (feed b s) next rest) (Err r)
        → ((next : Stage) → fed_verdict (feed b s) next rest ≡ Err r → (feed b s).number < r.line)
        → (feed b s).number ≤ r.line
    accepted (Ok next) f later = let l = later next f in omega (arith, l)
    accepted (Err reason) f later =
        let same : record { line = (feed b s).number; reason = reason } ≡ r = cc (f) in
        let n : (feed b s).number ≡ r.line = ap (λ x. x.line) same in omega (arith, n)

    go : (t : Bool) → is_line_feed b ≡ t
        → ◌≡◌ {A = Result Claim Refusal}
        (cond t (taken_line stage (feed b s) >>= λ next. fed_verdict (feed b s) next rest)
        (fed_verdict (feed b s) stage rest)) (Err r)
        → ((next : Stage) → fed_verdict (feed b s) next rest ≡ Err r → (feed b s).number < r.line) → s.number < r.line
    go true f g later = let l = accepted (stage_after stage (ended_line (feed b s).held)) g later in let n =
        feed_number s b f in omega (arith, l, n)
    go false f g later = let l = later stage g in let n = same_number s b f in omega (arith, l, n)

-- no line that was whole is refused
pub none_refused : (heading : Heading) (s : Lexer) (stage : Stage) (taken : List ℕ) → IsSoFar heading s stage taken
    → NoneRefusedUnder heading taken
none_refused heading s stage taken h front rest refusal e ends v =
    let whole : taken ++ [] ≡ front ++ rest = append-nil taken ∙ e in
    let last : fed_verdict s stage [] ≡ Err refusal =
    h.goes [] ∙ ap (headed_verdict heading) whole ∙ refusals_stay heading front rest refusal v ends in
    let l = late s stage [] refusal last in
    let here : refusal.line ≡ length (slice_split is_line_feed ends.front) =
    ends.is_last ∙ ap (λ x. length (text_lines x)) ends.are ∙ ended_lines ends.front in
    let parts : taken ≡ ends.front ++ 10 ∷ rest =
    e ∙ ap (λ x. x ++ rest) ends.are ∙ append_assoc ends.front (10 ∷ []) rest in
    let count : length (slice_split is_line_feed taken)
    ≡ length (slice_split is_line_feed ends.front ++ slice_split is_line_feed rest) =
    ap (λ x. length (slice_split is_line_feed x)) parts ∙ ap length (split_feed ends.front rest) in
    let a = length-append (slice_split is_line_feed ends.front) (slice_split is_line_feed rest) in
    let b = length-slice_split is_line_feed rest in
    let n = h.number in
    absurd (omega (arith, l, here, count, a, b, n))

-- fewer bytes have no refused line either
fewer_refused : (heading : Heading) (n : ℕ) (bytes : List ℕ) → NoneRefusedUnder heading bytes
    → NoneRefusedUnder heading (take n bytes)
fewer_refused heading n bytes none front rest refusal e =
    none front (rest ++ drop n bytes) refusal
    (sym (take-append-drop n bytes) ∙ ap (λ xs. xs ++ drop n bytes) e ∙ append_assoc front rest (drop n bytes))

-- bytes that leave a stage have no refused line, also before the last of them
pub none_before : (heading : Heading) (s : Lexer) (stage : Stage) (taken : List ℕ) → IsSoFar heading s stage taken
    → NoneBeforeUnder heading taken
none_before heading s stage taken h =
    fewer_refused heading (pred (length taken)) taken (none_refused heading s stage taken h)

-- nor have they before one byte more
none_before_one : (heading : Heading) (s : Lexer) (stage : Stage) (taken : List ℕ) (b : ℕ)
    → IsSoFar heading s stage taken → NoneBeforeUnder heading (taken ++ b ∷ [])
none_before_one heading s stage taken b h =
    let l = length-append taken (b ∷ []) in
    let last : length taken ≡ pred (length (taken ++ b ∷ [])) = omega (arith, l) in
    subst (NoneRefusedUnder heading) (sym (take_at taken (b ∷ []) (pred (length (taken ++ b ∷ []))) last))
    (none_refused heading s stage taken h)

-- ---- how the reading ends

-- one byte was read
pub one_byte : (mid now : Option (List ℕ)) (k b : ℕ) → ReadsPiece mid now (Got k) (b ∷ []) → Consumed mid now (b ∷ [])
one_byte mid now k b reads = let one : k ≡ 1 = let l = reads.0 in let m = reads.1 in omega (arith, l, m) in
    subst (λ j. Consumed mid now (take j (b ∷ []))) one reads.2

-- a piece of one byte
pub single : (xs : List ℕ) → length xs ≡ 1 → xs ≡ get_or xs 0 0 ∷ []
single [] e = absurd (omega (arith, e))
single (x ∷ []) e = refl
single (x ∷ y ∷ xs) e = absurd (omega (arith, e))

-- bytes and one more
begins_more : (front taken : List ℕ) (b : ℕ) → Begins front taken → Begins front (taken ++ b ∷ [])
begins_more front taken b h = (h.0 ++ b ∷ [], ap (λ xs. xs ++ b ∷ []) h.1 ∙ append_assoc front h.0 (b ∷ []))

-- `n` bytes were taken, and then a read didn't fail
module _ (heading : Heading) (front : List ℕ) (limit m : ℕ) (old mid now : Option (List ℕ)) (before after : FaultCount)
    (s : Lexer) (stage : Stage) (n : ℕ) (so_far : IsTaking heading front old mid s stage n)
    (stays : Stays before after) where
  -- the end of the source
  pub ends_here : (piece : List ℕ) (new : Lexer) (next : Stage) (result : ReadEnd) → n ≤ limit
      → ReadsPiece mid now SourceEnd piece → TakesEnd s stage new next result
      → IsRead heading front limit old now before after new next m result
  ends_here piece new next End few reads ends = record {
    taken = so_far.taken;
    begins = so_far.begins;
    gives = subst (λ x. Consumed old x so_far.taken) (sym reads.1) so_far.gives;
    faults = stays;
    ends = (
      subst IsAtEnd (sym reads.1) reads.0,
      (let c = so_far.counted in omega (arith, c, few)),
      ap (headed_verdict heading) (sym (append-nil so_far.taken)) ∙ sym (so_far.so_far.goes []) ∙ ends,
      none_refused heading s stage so_far.taken so_far.so_far,
    );
  }
  ends_here piece new next (Refused reason) few reads ends = record {
    taken = so_far.taken;
    begins = so_far.begins;
    gives = subst (λ x. Consumed old x so_far.taken) (sym reads.1) so_far.gives;
    faults = stays;
    ends = (
      ap (headed_verdict heading) (sym (append-nil so_far.taken)) ∙ sym (so_far.so_far.goes []) ∙ ends,
      (let c = so_far.counted in omega (arith, c, few)),
      inr (subst IsAtEnd (sym reads.1) reads.0, none_refused heading s stage so_far.taken so_far.so_far),
    );
  }
  ends_here piece new next Paused few reads ends = absurd ends
  ends_here piece new next TooLong few reads ends = absurd ends
  ends_here piece new next ReadFault few reads ends = absurd ends
  ends_here piece new next NoMemory few reads ends = record {
    taken = so_far.taken;
    begins = so_far.begins;
    gives = subst (λ x. Consumed old x so_far.taken) (sym reads.1) so_far.gives;
    faults = stays;
    ends = ((let c = so_far.counted in omega (arith, c, few)), none_before heading s stage so_far.taken so_far.so_far);
  }

  -- a byte, in a piece of one byte
  one_read : (k : ℕ) (piece : List ℕ) → length piece ≡ 1 → ReadsPiece mid now (Got k) piece
      → Consumed mid now (get_or piece 0 0 ∷ [])
  one_read k piece e reads = one_byte mid now k (get_or piece 0 0)
      (subst (λ p. ReadsPiece mid now (Got k) p) (single piece e) reads)

  gives_one : (k : ℕ) (piece : List ℕ) → length piece ≡ 1 → ReadsPiece mid now (Got k) piece
      → Consumed old now (so_far.taken ++ get_or piece 0 0 ∷ [])
  gives_one k piece e reads = gives_more old mid now so_far.taken (get_or piece 0 0 ∷ []) so_far.gives
      (one_read k piece e reads)

  one_more_byte : (b : ℕ) → length (so_far.taken ++ b ∷ []) ≡ n + 1
  one_more_byte b = length-append so_far.taken (b ∷ []) ∙ ap (λ k. k + 1) so_far.counted

  -- what is held behind it
  pub taking_more : (k : ℕ) (piece : List ℕ) (next : Stage) (new : Lexer) → length piece ≡ 1
      → ReadsPiece mid now (Got k) piece
      → TakesByte s stage (get_or piece 0 0) new next (Ok tt) → IsTaking heading front old now new next (n + 1)
  taking_more k piece next new e reads step =
      subst (λ x. IsTaking heading front old now x next (n + 1)) (sym step.0) (record {
        taken = so_far.taken ++ get_or piece 0 0 ∷ [];
        begins = begins_more front so_far.taken (get_or piece 0 0) so_far.begins;
        gives = gives_one k piece e reads;
        counted = one_more_byte (get_or piece 0 0);
        so_far = so_far_more heading s stage next so_far.taken (get_or piece 0 0) so_far.so_far
            (λ rest. step.1 rest ∙ ap (λ x. fed_verdict x next rest) step.0);
      })

  -- it ends the refused line
  pub refused_at : (k : ℕ) (piece : List ℕ) (next : Stage) (new : Lexer) → n < limit → length piece ≡ 1
      → ReadsPiece mid now (Got k) piece
      → (code : LineStop) (reason : Reason) → code ≡ LineRefused reason
      → TakesByte s stage (get_or piece 0 0) new next (Err code)
      → IsRead heading front limit old now before after new next m (Refused reason)
  refused_at k piece next new room e reads code reason is step =
      let b : ℕ = get_or piece 0 0 in
      let refused : TakesByte s stage b new next (Err (LineRefused reason)) =
      subst (λ x. TakesByte s stage b new next (Err x)) is step in
      let h = refused_here heading s stage so_far.taken b reason so_far.so_far refused.1
      (λ rest. refused.2 rest ∙ ap (λ (x : Lexer). Err (record { line = x.number; reason = reason })) refused.0) in
      let line : (feed b s).number ≡ new.number = ap (λ (x : Lexer). x.number) (sym refused.0) in record {
        taken = so_far.taken ++ b ∷ [];
        begins = begins_more front so_far.taken b so_far.begins;
        gives = gives_one k piece e reads;
        faults = stays;
        ends = (
          subst (λ l. headed_verdict heading (so_far.taken ++ b ∷ [])
              ≡ Err (record { line = l; reason = reason })) line h.0,
          (let l = one_more_byte b in omega (arith, l, room)),
          inl (subst (λ l. EndsRefused (so_far.taken ++ b ∷ []) (record { line = l; reason = reason })) line h.1),
        );
      }

  -- memory was refused for the line that it ends
  pub no_memory_at : (k : ℕ) (piece : List ℕ) (next : Stage) (new : Lexer) → n < limit → length piece ≡ 1
      → ReadsPiece mid now (Got k) piece
      → IsRead heading front limit old now before after new next m NoMemory
  no_memory_at k piece next new room e reads = record {
    taken = so_far.taken ++ get_or piece 0 0 ∷ [];
    begins = begins_more front so_far.taken (get_or piece 0 0) so_far.begins;
    gives = gives_one k piece e reads;
    faults = stays;
    ends = (
      (let l = one_more_byte (get_or piece 0 0) in omega (arith, l, room)),
      none_before_one heading s stage so_far.taken (get_or piece 0 0) so_far.so_far,
    );
  }

  -- it is one byte too many
  pub long_here : (k : ℕ) (piece : List ℕ) → n ≡ limit → length piece ≡ 1 → ReadsPiece mid now (Got k) piece
      → IsRead heading front limit old now before after s stage m TooLong
  long_here k piece full e reads =
      let b : ℕ = get_or piece 0 0 in record {
        taken = so_far.taken ++ b ∷ [];
        begins = begins_more front so_far.taken b so_far.begins;
        gives = gives_one k piece e reads;
        faults = stays;
        ends = (
          one_more_byte b ∙ ap (λ x. x + 1) full,
          subst (NoneRefusedUnder heading) (sym (take_at so_far.taken (b ∷ []) limit (so_far.counted ∙ full)))
              (none_refused heading s stage so_far.taken so_far.so_far),
        );
      }

  -- the judge has taken its last line
  pub paused_at : (k : ℕ) (piece : List ℕ) (next : Stage) (new : Lexer) → length piece ≡ 1
      → ReadsPiece mid now (Got k) piece
      → TakesByte s stage (get_or piece 0 0) new next (Ok tt) → m ≡ n + 1
      → IsRead heading front limit old now before after new next m Paused
  paused_at k piece next new e reads step counted =
      let l = taking_more k piece next new e reads step in record {
        taken = l.taken;
        begins = l.begins;
        gives = l.gives;
        faults = stays;
        ends = (l.counted ∙ sym counted, l.so_far);
      }

-- `n` bytes were taken, and then a read failed
pub fails_here : (heading : Heading) (front : List ℕ) (limit m : ℕ) (old mid now : Option (List ℕ)) (before after : FaultCount)
    (s : Lexer) (stage : Stage) (n : ℕ) → IsTaking heading front old mid s stage n → FailedOnce before after
    → n ≤ limit → now ≡ mid → IsRead heading front limit old now before after s stage m ReadFault
fails_here heading front limit m old mid now before after s stage n so_far once few same = record {
  taken = so_far.taken;
  begins = so_far.begins;
  gives = subst (λ x. Consumed old x so_far.taken) (sym same) so_far.gives;
  faults = once;
  ends = ((let c = so_far.counted in omega (arith, c, few)), none_refused heading s stage so_far.taken so_far.so_far);
}

-- ---- the loop

-- what holds in the loop, behind any bytes that were taken before
pub record IsReading (old now : Option (List ℕ)) (before after : FaultCount) (s0 : Lexer) (stage0 : Stage) (n0 : ℕ)
    (s : Lexer) (stage : Stage) (n : ℕ) (takes : Bool) (piece : List ℕ) : Type 0 where
  pub taking : (heading : Heading) (front : List ℕ) (first : Option (List ℕ))
      → IsTaking heading front first old s0 stage0 n0 → IsTaking heading front first now s stage n
  pub one : length piece ≡ 1
  pub number : s.number ≤ n
  pub few : n ≤ 1099511627776
  pub stays : Stays before after
  pub ready : takes ≡ true

-- a byte ends at most one line
pub number_rises : (s : Lexer) (b : ℕ) → (feed b s).number ≤ s.number + 1
number_rises s b = go (is_line_feed b) refl
  where
    go : (t : Bool) → is_line_feed b ≡ t → (feed b s).number ≤ s.number + 1
    go true f = let e = feed_number s b f in omega (arith, e)
    go false f = let e = same_number s b f in omega (arith, e)

-- a judge that isn't paused takes the next line
pub still_takes : (takes : Bool) → false ≡ not takes → takes ≡ true
still_takes true e = refl
still_takes false e = absurd (cc (e))
