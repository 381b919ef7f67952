-- A text that is read byte by byte.
use Rattle.std.proofs.Common.{◌≡◌, ℕ, ◌+◌, ◌<◌, ◌≤◌, Bool, true, false, cond, List, [], ◌∷◌, drop, length, get_or}
use Rattle.std.proofs.Common.{arith, refl, sym, ap, subst, ◌∙◌, Result, Ok, Err, inl, inr, ◌⊎◌}
use Rattle.std.proofs.lemmas.Bool.{cond-true}
use Rattle.std.proofs.lemmas.List.{drop_more, drop_all}
use Rattle.instance_text.specs.declared.lexer.LexStep.TheVariants.{More, Line}
use Rattle.instance_text.specs.Steps.{step_of}
use Rattle.packing_terms.specs.Packing.{PlainInstance}
use Rattle.text_terms.specs.declared.fault.TextFault.{TextFault}
use Rattle.text_terms.specs.Lines.{is_line_feed}
use Rattle.packing_terms.specs.Results.{◌>>=◌}
use Rattle.text_terms.specs.Texts.{Parts, at_end, text_instance, no_parts}
use Rattle.text_terms.specs.Feeding.{Lexer, new_lexer, end_line, feed, finish, take_line, feed_all}
use Rattle.std.specs.Prelude.{IfOk}
use Rattle.packing_terms.specs.Limits.{IsInstance}
use Rattle.text_terms.proofs.Good.{texts_are_instances}
use Rattle.text_terms.proofs.Texts.{texts_are_fed}
use Rattle.instance_text.specs.declared.reader.ReadTextError.{ReadTextError}
use Rattle.instance_text.specs.declared.reader.ReadTextError.TheVariants.{Fault, NoMemory}
use Rattle.instance_text.specs.Reading.{Steps, Answers, ReadsAs, as_read, finished_instance}

-- what is held so far and the bytes that are left give what is read
abbrev pub IsReading : Lexer → Result Parts ReadTextError → List ℕ → Result PlainInstance TextFault → Type 0
IsReading s (Ok parts) rest read = feed_all s parts rest ≡ read
IsReading s (Err error) rest read = ⊥

pub reading_start : (text : List ℕ) → IsReading new_lexer (Ok no_parts) text (text_instance text)
reading_start text = texts_are_fed text

-- a line that gives t leaves new; the rest goes on from there by f
added : (t : Result Parts TextFault) (new : Result Parts ReadTextError) (y : Unit {0})
    (f : Parts → Result PlainInstance TextFault) (read : Result PlainInstance TextFault)
    (P : Result Parts ReadTextError → Type 0) → (t >>= f) ≡ read → (new ≡ Err NoMemory) ⊎ (new ≡ as_read t)
    → Answers new (Ok y) → ((m : Parts) → f m ≡ read → P (Ok m)) → P new
added t (Err error) y f read P h steps answers goes = absurd answers
added (Ok m) (Ok n) y f read P h steps answers goes = elim steps [
  | inl e ↦ absurd (cc (e))
  | inr e ↦ let same : Ok m ≡ Ok n = sym e in subst P same (goes m h)
]
added (Err fault) (Ok n) y f read P h steps answers goes = elim steps [
  | inl e ↦ absurd (cc (e))
  | inr e ↦ absurd (cc (e))
]

fault_is : (fault : TextFault) (error : ReadTextError) (read : Result PlainInstance TextFault) → Fault fault ≡ error
    → Err fault ≡ read → ReadsAs read (Err error)
fault_is fault error read e h = let P : ReadTextError → Type 0 = λ x. ReadsAs read (Err x) in subst P e (sym h)

memory_is : (error : ReadTextError) (read : Result PlainInstance TextFault) → NoMemory ≡ error
    → ReadsAs read (Err error)
memory_is error read e = let P : ReadTextError → Type 0 = λ x. ReadsAs read (Err x) in subst P e tt

stopped : (t : Result Parts TextFault) (new : Result Parts ReadTextError) (error : ReadTextError)
    (f : Parts → Result PlainInstance TextFault) (read : Result PlainInstance TextFault)
    → (t >>= f) ≡ read → (new ≡ Err NoMemory) ⊎ (new ≡ as_read t) → Answers {Y = Unit {0}} new (Err error)
    → ReadsAs read (Err error)
stopped t (Ok n) error f read h steps answers = absurd answers
stopped (Ok m) (Err kept) error f read h steps answers = elim steps [
  | inl e ↦ memory_is error read (cc (e, answers))
  | inr e ↦ absurd (cc (e))
]
stopped (Err fault) (Err kept) error f read h steps answers = elim steps [
  | inl e ↦ memory_is error read (cc (e, answers))
  | inr e ↦ fault_is fault error read (cc (e, answers)) h
]

line_first : (b : ℕ) (s : Lexer) (parts : Parts) (rest : List ℕ) (read : Result PlainInstance TextFault)
    → is_line_feed b ≡ true
    → feed_all s parts (b ∷ rest) ≡ read → (take_line parts (feed b s) >>= λ m. feed_all (feed b s) m rest) ≡ read
line_first b s parts rest read e h =
    sym (cond-true (is_line_feed b) (take_line parts (feed b s) >>= λ m. feed_all (feed b s) m rest)
    (feed_all (feed b s) parts rest) e) ∙ h

pub line_stop : (b : ℕ) (s : Lexer) (r new : Result Parts ReadTextError) (error : ReadTextError) (rest : List ℕ)
    (read : Result PlainInstance TextFault)
    → is_line_feed b ≡ true → IsReading s r (b ∷ rest) read → Steps r (feed b s) new
    → Answers {Y = Unit {0}} new (Err error) → ReadsAs read (Err error)
line_stop b s (Ok parts) new error rest read e h steps answers =
    stopped (take_line parts (feed b s)) new error (λ m. feed_all (feed b s) m rest) read
    (line_first b s parts rest read e h) steps answers
line_stop b s (Err error) new f rest read e h steps answers = absurd h

-- all lines are read
abbrev pub IsRead : Result Parts ReadTextError → ℕ → Result PlainInstance TextFault → Type 0
IsRead (Ok parts) n read = at_end parts n ≡ read
IsRead (Err error) n read = ⊥

pub read_end : (s : Lexer) (r : Result Parts ReadTextError) (read : Result PlainInstance TextFault)
    → s.begun ≡ false → IsReading s r [] read → IsRead r (finish s).number read
read_end s (Ok parts) read e h = let g = rw e at h in rw e g
read_end s (Err error) read e h = h

opened : (s : Lexer) (parts : Parts) (read : Result PlainInstance TextFault) → s.begun ≡ true
    → feed_all s parts [] ≡ read
    → (take_line parts (finish s) >>= λ m. at_end m (finish s).number) ≡ read
opened s parts read e h =
    sym (ap (λ t. cond t (take_line parts (finish s) >>= λ m. at_end m (finish s).number)
    (at_end parts s.number)) e) ∙ h

as_it_is : (t read : Result PlainInstance TextFault) → t ≡ read → ReadsAs read (as_read t)
as_it_is (Ok i) read e = sym e
as_it_is (Err fault) read e = sym e

pub last_more : (s : Lexer) (r new : Result Parts ReadTextError) (y : Unit {0}) (read : Result PlainInstance TextFault)
    → s.begun ≡ true → IsReading s r [] read → Steps r (finish s) new → Answers new (Ok y)
    → IsRead new (finish s).number read
last_more s (Ok parts) new y read e h steps answers =
    added (take_line parts (finish s)) new y (λ m. at_end m (finish s).number) read
    (λ r. IsRead r (finish s).number read) (opened s parts read e h) steps answers (λ m g. g)
last_more s (Err error) new y read e h steps answers = absurd h

pub last_stop : (s : Lexer) (r new : Result Parts ReadTextError) (error : ReadTextError)
    (read : Result PlainInstance TextFault)
    → s.begun ≡ true → IsReading s r [] read → Steps r (finish s) new → Answers {Y = Unit {0}} new (Err error)
    → ReadsAs read (Err error)
last_stop s (Ok parts) new error read e h steps answers =
    stopped (take_line parts (finish s)) new error (λ m. at_end m (finish s).number) read (opened s parts read e h)
    steps answers
last_stop s (Err error) new f read e h steps answers = absurd h

pub whole_read : (r : Result Parts ReadTextError) (n : ℕ) (read : Result PlainInstance TextFault)
    (result : Result PlainInstance ReadTextError)
    → IsRead r n read → result ≡ finished_instance r n → ReadsAs read result
whole_read (Ok parts) n read result h e =
    let P : Result PlainInstance ReadTextError → Type 0 = ReadsAs read in
    subst P (sym e) (as_it_is (at_end parts n) read h)
whole_read (Err error) n read result h e = absurd h

is_line : (t : Bool) → Line ≡ step_of t → t ≡ true
is_line true e = refl
is_line false e = absurd (cc (e))

is_more : (t : Bool) → More ≡ step_of t → t ≡ false
is_more true e = absurd (cc (e))
is_more false e = refl

-- a line in the text is at fault, or memory was refused
pub stop_at : (text : List ℕ) (i : ℕ) (s u : Lexer) (r new : Result Parts ReadTextError) (error : ReadTextError)
    (read : Result PlainInstance TextFault)
    → i < length text → u ≡ feed (get_or text i 0) s → Line ≡ step_of (is_line_feed (get_or text i 0))
    → IsReading s r (drop i text) read → Steps r u new → Answers {Y = Unit {0}} new (Err error)
    → ReadsAs read (Err error)
stop_at text i s u r new error read lt step line h steps answers =
    let first : IsReading s r (get_or text i 0 ∷ drop (i + 1) text) read =
    subst (λ rest. IsReading s r rest read) (drop_more text i 0 lt) h in
    line_stop (get_or text i 0) s r new error (drop (i + 1) text) read (is_line _ line) first
    (subst (λ v. Steps r v new) step steps) answers

-- the last line
pub stop_last : (text : List ℕ) (i : ℕ) (s u : Lexer) (r new : Result Parts ReadTextError) (error : ReadTextError)
    (read : Result PlainInstance TextFault)
    → length text ≤ i → u ≡ finish s → Line ≡ step_of s.begun
    → IsReading s r (drop i text) read → Steps r u new → Answers {Y = Unit {0}} new (Err error)
    → ReadsAs read (Err error)
stop_last text i s u r new error read le step line h steps answers =
    last_stop s r new error read (is_line _ line) (subst (λ rest. IsReading s r rest read) (drop_all i text le) h)
    (subst (λ v. Steps r v new) step steps) answers

pub read_last : (text : List ℕ) (i : ℕ) (s u : Lexer) (r new : Result Parts ReadTextError) (y : Unit {0})
    (read : Result PlainInstance TextFault)
    → length text ≤ i → u ≡ finish s → Line ≡ step_of s.begun
    → IsReading s r (drop i text) read → Steps r u new → Answers new (Ok y) → IsRead new u.number read
read_last text i s u r new y read le step line h steps answers =
    subst (λ v. IsRead new v.number read) (sym step)
    (last_more s r new y read (is_line _ line) (subst (λ rest. IsReading s r rest read) (drop_all i text le) h)
    (subst (λ v. Steps r v new) step steps) answers)

pub read_none : (text : List ℕ) (i : ℕ) (s u : Lexer) (r : Result Parts ReadTextError)
    (read : Result PlainInstance TextFault)
    → length text ≤ i → u ≡ finish s → More ≡ step_of s.begun → IsReading s r (drop i text) read
    → IsRead r u.number read
read_none text i s u r read le step more h =
    subst (λ v. IsRead r v.number read) (sym step)
    (read_end s r read (is_more _ more) (subst (λ rest. IsReading s r rest read) (drop_all i text le) h))

-- how many lines there are, the one begun included
abbrev pub lines : Lexer → ℕ
lines s = s.number + cond s.begun 1 0

pub lines_end : (s u : Lexer) (n : ℕ) → u ≡ finish s → lines s ≤ n → u.number ≤ n
lines_end s u n e le = subst (λ (v : Lexer). v.number ≤ n) (sym e) (at_end_by s.begun s n le)
  where
    at_end_by : (begun : Bool) (s : Lexer) (n : ℕ) → s.number + cond begun 1 0 ≤ n
        → (cond begun (end_line s) s).number ≤ n
    at_end_by true s n le = le
    at_end_by false s n le = omega arith

-- what is read is within the limits
pub read_limits : (text : List ℕ) (result : Result PlainInstance ReadTextError) → ReadsAs (text_instance text) result
    → IfOk result IsInstance
read_limits text (Ok i) e = texts_are_instances text i e
read_limits text (Err error) e = tt
