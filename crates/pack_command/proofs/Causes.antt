-- Which words and which input end with an answer, and which with what cause.
use Rattle.std.proofs.Common.{ℕ, ◌≡◌, ◌≢◌, ◌≤◌, ◌<◌, ◌⊎◌, inl, inr, arith, refl, sym, ap, ◌∙◌, subst, List, length}
use Rattle.std.proofs.Common.{Option, Some, Result, Ok, Err, String, Global}
use Rattle.packing_terms.specs.Packing.{PlainInstance}
use Rattle.text_terms.specs.declared.fault.TextFault.{TextFault}
use Rattle.text_terms.specs.declared.settings.Settings.{Settings}
use Rattle.answer_terms.specs.declared.job.DocumentJob.{DocumentJob}
use Rattle.text_terms.specs.declared.claim.Claim.{Claim}
use Rattle.verdict_terms.specs.Documents.{Refusal}
use Rattle.pack_streams.specs.Faults.{FaultCount, Stays, FailedOnce}
use Rattle.pack_command.specs.Answered.{IsAnswerStatus}
use Rattle.pack_command.specs.Asked.{ProposedJob, AsksToSolve, AsksCheck, AsksToMake, AsksNothing, IsSolving, IsChecking, IsReading}
use Rattle.pack_command.specs.Asked.{IsFrontRun, IsProposalRun, HasAnswer, ReadsNothing, IsLongInstance, IsLongDocument}
use Rattle.pack_command.specs.Asked.{IsLongReading, IsFaultyText, IsRefusable}
use Rattle.pack_command.specs.Checks.{IsVerdictStatus, IsWithoutVerdict, IsPastLimit}
use Rattle.pack_command.specs.Counts.{CountsReads, CountsWrites, CountsStatus, IsFaultStatus}
use Rattle.pack_command.specs.Ends.{IsJobCompleted, IsJobAborted}
use Rattle.pack_command.specs.Run.{IsAnswered, IsStopped}
use Rattle.pack_command.specs.Stops.{stop_status, message_of}
use Rattle.pack_command.specs.declared.stop.Stop.{Stop}
use Rattle.pack_command.specs.declared.stop.Stop.TheVariants.{Words, TooLong, Text, Dimensions, ReadFault, WriteFault}
use Rattle.pack_command.specs.declared.stop.Stop.TheVariants.{NoMemory}
use Rattle.answer_streams.specs.Verdicts.{verdict_status}
use Rattle.pack_command.proofs.Written.{taken_all, taken_within}
use Rattle.pack_command.proofs.Stopped.{never_stops}
use Rattle.pack_command.proofs.Checked.{one_job, solved_done, solved_undone, found_within}
use Rattle.pack_command.specs.Readings.{DocumentTask, IsWithoutReading}
use Rattle.pack_command.proofs.Audited.{reading_done, reading_undone, few_enough, past_taken, long_read}
use Rattle.pack_command.proofs.OneJob.{front_checks, proposed_checks}
use Rattle.pack_command.proofs.Fronted.{fronted_done, fronted_undone, front_never_stops, long_fronted, faulty_fronted}
use Rattle.pack_command.proofs.Fronted.{other_fronted, front_long_ends, front_faulty_ends, front_other_ends}
use Rattle.pack_command.proofs.ProposedEnds.{proposed_done, proposed_undone, proposed_never_stops, long_proposed}
use Rattle.pack_command.proofs.ProposedEnds.{faulty_proposed, proposed_long_ends, proposed_faulty_ends}
use Rattle.pack_command.proofs.Generating.{no_check, task_checks, never_unmade, never_broken_off}

-- ---- statuses

pub stop_unanswered : (stop : Stop) (status : ℕ) → status ≡ stop_status stop → IsAnswerStatus status → ⊥
stop_unanswered stop status is answer = go stop is answer
  where
    other : (n : ℕ) → 2 ≤ n → n ≢ 3 → status ≡ n → IsAnswerStatus status → ⊥
    other n low three e (inl z) = omega (arith, low, e, z)
    other n low three e (inr (inl o)) = omega (arith, low, e, o)
    other n low three e (inr (inr t)) = three (sym e ∙ t)

    go : (s : Stop) → status ≡ stop_status s → IsAnswerStatus status → ⊥
    go Words e = other 2 (omega arith) (omega arith) e
    go TooLong e = other 2 (omega arith) (omega arith) e
    go (Text fault) e = other 2 (omega arith) (omega arith) e
    go Dimensions e = other 2 (omega arith) (omega arith) e
    go ReadFault e = other 4 (omega arith) (omega arith) e
    go WriteFault e = other 5 (omega arith) (omega arith) e
    go NoMemory e = other 6 (omega arith) (omega arith) e

pub verdict_answers : (status : ℕ) → IsVerdictStatus status → IsAnswerStatus status
verdict_answers status (inl z) = inl z
verdict_answers status (inr o) = inr (inl o)

pub is_verdict_status : (verdict : Result Claim Refusal) (status : ℕ) → status ≡ verdict_status verdict
    → IsVerdictStatus status
is_verdict_status (Ok claim) status e = inl e
is_verdict_status (Err refusal) status e = inr e

-- ---- counts of faults

not_fault : (fault status : ℕ) → 4 ≤ fault → IsAnswerStatus status → ¬ (status ≡ fault)
not_fault fault status four (inl e) f = omega (arith, four, e, f)
not_fault fault status four (inr (inl e)) f = omega (arith, four, e, f)
not_fault fault status four (inr (inr e)) f = omega (arith, four, e, f)

pub answer_counts : (fault status : ℕ) (before now : FaultCount) → 4 ≤ fault → IsAnswerStatus status
    → Stays before now → CountsStatus fault status before now
answer_counts fault status before now four answer same =
    record { failed = (λ e. absurd (not_fault fault status four answer e)); still = (λ n. same) }

-- another fault
other_fault : (fault n status : ℕ) (before now : FaultCount) → n ≢ fault → status ≡ n → Stays before now
    → CountsStatus fault status before now
other_fault fault n status before now other is same =
    record { failed = (λ e. absurd (other (sym is ∙ e))); still = (λ k. same) }

rises : (fault status : ℕ) (before now : FaultCount) → status ≡ fault → FailedOnce before now
    → CountsStatus fault status before now
rises fault status before now is failed = record { failed = (λ e. failed); still = (λ n. absurd (n is)) }

pub stop_reads : (stop : Stop) (status : ℕ) (before now : FaultCount) → status ≡ stop_status stop
    → CountsReads {A = ℕ} before now (Err stop) → CountsStatus 4 status before now
stop_reads Words status before now is c = other_fault 4 2 status before now (omega arith) is c
stop_reads TooLong status before now is c = other_fault 4 2 status before now (omega arith) is c
stop_reads (Text fault) status before now is c = other_fault 4 2 status before now (omega arith) is c
stop_reads Dimensions status before now is c = other_fault 4 2 status before now (omega arith) is c
stop_reads ReadFault status before now is c = rises 4 status before now is c
stop_reads WriteFault status before now is c = other_fault 4 5 status before now (omega arith) is c
stop_reads NoMemory status before now is c = other_fault 4 6 status before now (omega arith) is c

pub stop_writes : (stop : Stop) (status : ℕ) (before now : FaultCount) → status ≡ stop_status stop
    → CountsWrites {A = ℕ} before now (Err stop) → CountsStatus 5 status before now
stop_writes Words status before now is c = other_fault 5 2 status before now (omega arith) is c
stop_writes TooLong status before now is c = other_fault 5 2 status before now (omega arith) is c
stop_writes (Text fault) status before now is c = other_fault 5 2 status before now (omega arith) is c
stop_writes Dimensions status before now is c = other_fault 5 2 status before now (omega arith) is c
stop_writes ReadFault status before now is c = other_fault 5 4 status before now (omega arith) is c
stop_writes WriteFault status before now is c = rises 5 status before now is c
stop_writes NoMemory status before now is c = other_fault 5 6 status before now (omega arith) is c

-- ---- the check of a document

-- it ends without a verdict for no other cause than these
module _ (old new sunk_old sunk_new : Option (List ℕ)) (bytes : List ℕ) (is : old ≡ Some bytes) where
  too_many : IsPastLimit old new → length bytes ≤ 1099511627776 → ⊥
  too_many p few =
      let l = taken_within old new p.taken bytes is p.gives in
      let past = p.past in
      omega (arith, l, past, few)

  pub unjudged_within : (stop : Stop) (status : ℕ) → length bytes ≤ 1099511627776 → status ≡ stop_status stop
      → IsWithoutVerdict old new sunk_old sunk_new stop → IsFaultStatus status
  unjudged_within Words status few e w = absurd w
  unjudged_within TooLong status few e w = absurd (too_many w.0 few)
  unjudged_within (Text fault) status few e w = absurd w
  unjudged_within Dimensions status few e w = absurd w
  unjudged_within ReadFault status few e w = inl e
  unjudged_within WriteFault status few e w = inr (inl e)
  unjudged_within NoMemory status few e w = inr (inr e)

pub unjudged_past : (old new sunk_old sunk_new : Option (List ℕ)) (stop : Stop) (status : ℕ) → status ≡ stop_status stop
    → IsWithoutVerdict old new sunk_old sunk_new stop
    → (status ≡ 2) ⊎ IsFaultStatus status
unjudged_past old new sunk_old sunk_new Words status e w = absurd w
unjudged_past old new sunk_old sunk_new TooLong status e w = inl e
unjudged_past old new sunk_old sunk_new (Text fault) status e w = absurd w
unjudged_past old new sunk_old sunk_new Dimensions status e w = absurd w
unjudged_past old new sunk_old sunk_new ReadFault status e w = inr (inl e)
unjudged_past old new sunk_old sunk_new WriteFault status e w = inr (inr (inl e))
unjudged_past old new sunk_old sunk_new NoMemory status e w = inr (inr (inr e))

-- ---- the whole program

module _ (words : List (String Global)) (old new sunk_old sunk_new : Option (List ℕ)) where
  pub judged_undone : (stop : Stop) → AsksCheck words → IsJobAborted words old new sunk_old sunk_new stop
      → IsWithoutVerdict old new sunk_old sunk_new stop ⊎ (stop ≡ NoMemory)
  judged_undone stop asks (inl s) = go stop s
    where
      none : AsksNothing words → ⊥
      none n = let i = asks.is in absurd (cc (n, i))

      solves : ((job : DocumentJob) × (settings : Settings) × AsksToSolve words job settings) → ⊥
      solves a = one_job words a.0 a.1 a.2 asks

      go : (stop : Stop) → IsStopped words old new sunk_old sunk_new stop
          → IsWithoutVerdict old new sunk_old sunk_new stop ⊎ (stop ≡ NoMemory)
      go Words s = absurd (none s.0)
      go TooLong s = absurd (solves s.0)
      go (Text fault) s = absurd (solves s.0)
      go Dimensions s = absurd s
      go ReadFault s = absurd (solves s.0)
      go WriteFault s = absurd (one_job words s.answered.job s.answered.settings s.answered.asked asks)
      go NoMemory s = inr refl
  judged_undone stop asks (inr (inl c)) = inl c.1
  judged_undone stop asks (inr (inr (inl m))) = absurd (no_check words m.number m.settings m.asked asks)
  judged_undone stop asks (inr (inr (inr (inl a)))) = absurd (task_checks words a.0 asks a.1)
  judged_undone stop asks (inr (inr (inr (inr (inl f))))) = absurd (front_checks words f.0.0 f.0.1 asks)
  judged_undone stop asks (inr (inr (inr (inr (inr p))))) = absurd (proposed_checks words p.0.0 p.0.1 p.0.2 asks)

  -- ---- words and an input that have an answer

  -- the cause is a fault of the source or the sink, or want of memory
  abbrev IsFault : Stop → Type 0
  IsFault Words = ⊥
  IsFault TooLong = ⊥
  IsFault (Text fault) = ⊥
  IsFault Dimensions = ⊥
  IsFault ReadFault = Unit {0}
  IsFault WriteFault = Unit {0}
  IsFault NoMemory = Unit {0}

  fault_status : (stop : Stop) (status : ℕ) → IsFault stop → status ≡ stop_status stop → IsFaultStatus status
  fault_status Words status f e = absurd f
  fault_status TooLong status f e = absurd f
  fault_status (Text fault) status f e = absurd f
  fault_status Dimensions status f e = absurd f
  fault_status ReadFault status f e = inl e
  fault_status WriteFault status f e = inr (inl e)
  fault_status NoMemory status f e = inr (inr e)

  -- a cause that is none of the three
  by_cases : (stop : Stop) → (¬ (stop ≡ ReadFault) → ¬ (stop ≡ WriteFault) → ¬ (stop ≡ NoMemory) → ⊥) → IsFault stop
  by_cases Words none = absurd (none (λ e. absurd (cc (e))) (λ e. absurd (cc (e))) (λ e. absurd (cc (e))))
  by_cases TooLong none = absurd (none (λ e. absurd (cc (e))) (λ e. absurd (cc (e))) (λ e. absurd (cc (e))))
  by_cases (Text fault) none = absurd (none (λ e. absurd (cc (e))) (λ e. absurd (cc (e))) (λ e. absurd (cc (e))))
  by_cases Dimensions none = absurd (none (λ e. absurd (cc (e))) (λ e. absurd (cc (e))) (λ e. absurd (cc (e))))
  by_cases ReadFault none = tt
  by_cases WriteFault none = tt
  by_cases NoMemory none = tt

  solving_stops : (job : DocumentJob) (settings : Settings) (instance : PlainInstance)
      → IsSolving words old job settings instance → (stop : Stop)
      → IsJobAborted words old new sunk_old sunk_new stop → IsFault stop
  solving_stops job settings instance s stop undone =
      by_cases stop (never_stops words old new sunk_old sunk_new job settings s.bytes instance s.asks s.stated
      s.within s.read stop
      (solved_undone words old new sunk_old sunk_new stop job settings s.asks undone))

  checking_stops : (bytes : List ℕ) → IsChecking words old bytes → (stop : Stop)
      → IsJobAborted words old new sunk_old sunk_new stop → IsFault stop
  checking_stops bytes s stop undone = go stop (judged_undone stop s.asks undone)
    where
      go : (stop : Stop) → IsWithoutVerdict old new sunk_old sunk_new stop ⊎ (stop ≡ NoMemory) → IsFault stop
      go stop (inr e) = subst IsFault (sym e) tt
      go Words (inl w) = absurd w
      go TooLong (inl w) = absurd (too_many old new sunk_old sunk_new bytes s.stated w.0 s.within)
      go (Text fault) (inl w) = absurd w
      go Dimensions (inl w) = absurd w
      go ReadFault (inl w) = tt
      go WriteFault (inl w) = tt
      go NoMemory (inl w) = tt

  making_stops : (number : ℕ) (settings : Settings) → AsksToMake words number settings → (stop : Stop)
      → IsJobAborted words old new sunk_old sunk_new stop → IsFault stop
  making_stops number settings asks stop undone =
      by_cases stop (λ r w m. never_unmade words old new sunk_old sunk_new number settings asks stop undone w m)

  reading_stops : (task : DocumentTask) (bytes : List ℕ) → IsReading words old task bytes → (stop : Stop)
      → IsJobAborted words old new sunk_old sunk_new stop → IsFault stop
  reading_stops task bytes s stop undone =
      go stop (reading_undone words old new sunk_old sunk_new task stop s.asks undone)
    where
      go : (stop : Stop) → IsWithoutReading task old new sunk_old sunk_new stop ⊎ (stop ≡ NoMemory) → IsFault stop
      go stop (inr e) = subst IsFault (sym e) tt
      go Words (inl w) = absurd w
      go TooLong (inl w) = absurd (few_enough task old new bytes s.stated s.within w.0)
      go (Text fault) (inl w) = absurd w
      go Dimensions (inl w) = absurd w
      go ReadFault (inl w) = tt
      go WriteFault (inl w) = tt
      go NoMemory (inl w) = tt

  fronting_stops : (settings : Settings) (instance : PlainInstance) → IsFrontRun words old settings instance
      → (stop : Stop)
      → IsJobAborted words old new sunk_old sunk_new stop → IsFault stop
  fronting_stops settings instance s stop undone =
      by_cases stop (front_never_stops words old new sunk_old sunk_new settings instance s stop
      (fronted_undone words old new sunk_old sunk_new stop settings s.asks undone))

  proposing_stops : (job : ProposedJob) (settings : Settings) (instance : PlainInstance)
      → IsProposalRun words old job settings instance → (stop : Stop)
      → IsJobAborted words old new sunk_old sunk_new stop → IsFault stop
  proposing_stops job settings instance s stop undone =
      by_cases stop (proposed_never_stops words old new sunk_old sunk_new job settings instance s stop
      (proposed_undone words old new sunk_old sunk_new stop job settings s.asks undone))

  pub completes : HasAnswer words old → (stop : Stop) (status : ℕ) → status ≡ stop_status stop
      → IsJobAborted words old new sunk_old sunk_new stop → IsFaultStatus status
  completes (inl s) stop status e undone = fault_status stop status (solving_stops s.0 s.1 s.2 s.3 stop undone) e
  completes (inr (inl s)) stop status e undone = fault_status stop status (checking_stops s.0 s.1 stop undone) e
  completes (inr (inr (inl s))) stop status e undone = fault_status stop status (making_stops s.0 s.1 s.2 stop undone) e
  completes (inr (inr (inr (inl s)))) stop status e undone =
      fault_status stop status (reading_stops s.0 s.1 s.2 stop undone) e
  completes (inr (inr (inr (inr (inl s))))) stop status e undone =
      fault_status stop status (fronting_stops s.0 s.1 s.2 stop undone) e
  completes (inr (inr (inr (inr (inr s))))) stop status e undone =
      fault_status stop status (proposing_stops s.0 s.1 s.2 s.3 stop undone) e

  -- ---- words and an input that are to be refused

  nothing_answered : AsksNothing words → (status : ℕ) (document : List ℕ) → IsAnswered words old new status document → ⊥
  nothing_answered none status document a = let i = (a.asked).is in absurd (cc (none, i))

  long_answered : IsLongInstance words old → (status : ℕ) (document : List ℕ)
      → IsAnswered words old new status document → ⊥
  long_answered l status document a =
      let same : a.bytes ≡ l.bytes = taken_all old new a.bytes l.bytes l.stated a.input.taken a.input.ended in
      let few = a.input.within in
      let past = l.past in
      omega (arith, ap length same, few, past)

  faulty_answered : (fault : TextFault) → IsFaultyText words old fault → (status : ℕ) (document : List ℕ)
      → IsAnswered words old new status document → ⊥
  faulty_answered fault l status document a =
      let same : a.bytes ≡ l.bytes = taken_all old new a.bytes l.bytes l.stated a.input.taken a.input.ended in
      let wrong = l.wrong in
      let read = a.read in
      absurd (cc (same, wrong, read))

  -- they have no answer
  pub refusable_done : (stop : Stop) → IsRefusable words old stop → (status : ℕ)
      → IsJobCompleted words old new sunk_old sunk_new status → ⊥
  refusable_done Words none status (inl w) = nothing_answered none status w.document w.answered
  refusable_done Words none status (inr (inl c)) = let i = c.0.is in absurd (cc (none, i))
  refusable_done Words none status (inr (inr (inl m))) = let i = (m.asked).is in absurd (cc (none, i))
  refusable_done Words none status (inr (inr (inr (inl a)))) = let i = a.1.is in absurd (cc (none, i))
  refusable_done Words none status (inr (inr (inr (inr (inl f))))) = let i = (f.answered.asked).is in
      absurd (cc (none, i))
  refusable_done Words none status (inr (inr (inr (inr (inr p))))) = let i = (p.answered.asked).is in
      absurd (cc (none, i))
  refusable_done TooLong (inl l) status done =
      let w = solved_done words old new sunk_old sunk_new status l.job l.settings l.asks done in
      long_answered l status w.document w.answered
  refusable_done TooLong (inr (inr (inr (inr l)))) status done =
      long_proposed words old new sunk_old sunk_new status l
      (proposed_done words old new sunk_old sunk_new status l.job l.settings l.asks done)
  refusable_done TooLong (inr (inr (inr (inl l)))) status done =
      long_fronted words old new sunk_old sunk_new status l
      (fronted_done words old new sunk_old sunk_new status l.settings l.asks done)
  refusable_done TooLong (inr (inr (inl l))) status done =
      long_read words old new sunk_old sunk_new status l
      (reading_done words old new sunk_old sunk_new l.task status l.asks done)
  refusable_done TooLong (inr (inl l)) status (inl w) =
      one_job words w.answered.job w.answered.settings w.answered.asked l.asks
  refusable_done TooLong (inr (inl l)) status (inr (inl c)) =
      found_within old new l.bytes l.stated l.past l.none c.1.verdict c.1.found
  refusable_done TooLong (inr (inl l)) status (inr (inr (inl m))) = no_check words m.number m.settings m.asked l.asks
  refusable_done TooLong (inr (inl l)) status (inr (inr (inr (inl a)))) = task_checks words a.0 l.asks a.1
  refusable_done TooLong (inr (inl l)) status (inr (inr (inr (inr (inl f))))) =
      front_checks words f.settings f.answered.asked l.asks
  refusable_done TooLong (inr (inl l)) status (inr (inr (inr (inr (inr p))))) =
      proposed_checks words p.job p.settings p.answered.asked l.asks
  refusable_done (Text fault) (inr (inr l)) status done =
      faulty_proposed words old new sunk_old sunk_new status fault l
      (proposed_done words old new sunk_old sunk_new status l.job l.settings l.asks done)
  refusable_done (Text fault) (inr (inl l)) status done =
      faulty_fronted words old new sunk_old sunk_new status fault l
      (fronted_done words old new sunk_old sunk_new status l.settings l.asks done)
  refusable_done Dimensions l status done =
      other_fronted words old new sunk_old sunk_new status l
      (fronted_done words old new sunk_old sunk_new status l.settings l.asks done)
  refusable_done (Text fault) (inl l) status done =
      let w = solved_done words old new sunk_old sunk_new status l.job l.settings l.asks done in
      faulty_answered fault l status w.document w.answered
  refusable_done ReadFault l status done = l
  refusable_done WriteFault l status done = l
  refusable_done NoMemory l status done = l

  -- how else they end: for this cause, or by a failed read or want of memory
  abbrev EndsFor : Stop → Stop → Type 0
  EndsFor stop end = (end ≡ stop) ⊎ ((end ≡ ReadFault) ⊎ (end ≡ NoMemory))

  nothing_ends : AsksNothing words → (end : Stop) → IsJobAborted words old new sunk_old sunk_new end → EndsFor Words end
  nothing_ends none end (inl s) = go end s
    where
      solves : ((job : DocumentJob) × (settings : Settings) × AsksToSolve words job settings) → ⊥
      solves a = let i = a.2.is in absurd (cc (none, i))

      go : (end : Stop) → IsStopped words old new sunk_old sunk_new end → EndsFor Words end
      go Words s = inl refl
      go TooLong s = absurd (solves s.0)
      go (Text fault) s = absurd (solves s.0)
      go Dimensions s = absurd s
      go ReadFault s = absurd (solves s.0)
      go WriteFault s = absurd (nothing_answered none s.status s.document s.answered)
      go NoMemory s = inr (inr refl)
  nothing_ends none end (inr (inl c)) = let i = c.0.is in absurd (cc (none, i))
  nothing_ends none end (inr (inr (inl m))) = let i = (m.asked).is in absurd (cc (none, i))
  nothing_ends none end (inr (inr (inr (inl a)))) = let i = a.1.is in absurd (cc (none, i))
  nothing_ends none end (inr (inr (inr (inr (inl f))))) = let i = f.0.1.is in absurd (cc (none, i))
  nothing_ends none end (inr (inr (inr (inr (inr p))))) = let i = p.0.2.is in absurd (cc (none, i))

  long_ends : IsLongInstance words old → (end : Stop) → IsStopped words old new sunk_old sunk_new end
      → EndsFor TooLong end
  long_ends l Words s = let i = (l.asks).is in absurd (cc (s.0, i))
  long_ends l TooLong s = inl refl
  long_ends l (Text fault) s =
      let (bytes, input, wrong) = s.1 in
      let same : bytes ≡ l.bytes = taken_all old new bytes l.bytes l.stated input.taken input.ended in
      let few = input.within in
      let past = l.past in
      absurd (omega (arith, ap length same, few, past))
  long_ends l Dimensions s = absurd s
  long_ends l ReadFault s = inr (inl refl)
  long_ends l WriteFault s = absurd (long_answered l s.status s.document s.answered)
  long_ends l NoMemory s = inr (inr refl)

  long_document_ends : IsLongDocument words old → (end : Stop) → IsWithoutVerdict old new sunk_old sunk_new end
      ⊎ (end ≡ NoMemory) → EndsFor TooLong end
  long_document_ends l end (inr e) = inr (inr e)
  long_document_ends l Words (inl w) = absurd w
  long_document_ends l TooLong (inl w) = inl refl
  long_document_ends l (Text fault) (inl w) = absurd w
  long_document_ends l Dimensions (inl w) = absurd w
  long_document_ends l ReadFault (inl w) = inr (inl refl)
  long_document_ends l WriteFault (inl w) = absurd (found_within old new l.bytes l.stated l.past l.none w.verdict w.found)
  long_document_ends l NoMemory (inl w) = inr (inr refl)

  long_reading_ends : (l : IsLongReading words old) → (end : Stop)
      → IsWithoutReading l.task old new sunk_old sunk_new end ⊎ (end ≡ NoMemory) → EndsFor TooLong end
  long_reading_ends l end (inr e) = inr (inr e)
  long_reading_ends l Words (inl w) = absurd w
  long_reading_ends l TooLong (inl w) = inl refl
  long_reading_ends l (Text fault) (inl w) = absurd w
  long_reading_ends l Dimensions (inl w) = absurd w
  long_reading_ends l ReadFault (inl w) = inr (inl refl)
  long_reading_ends l WriteFault (inl w) =
      absurd (past_taken l.task old new l.bytes l.stated l.past w.bytes w.input)
  long_reading_ends l NoMemory (inl w) = inr (inr refl)

  faulty_ends : (fault : TextFault) → IsFaultyText words old fault → (end : Stop)
      → IsStopped words old new sunk_old sunk_new end → EndsFor (Text fault) end
  faulty_ends fault l Words s = let i = (l.asks).is in absurd (cc (s.0, i))
  faulty_ends fault l TooLong s =
      let (bytes, gives, past, most) = s.1 in
      let few = l.within in
      let t = taken_within old new bytes l.bytes l.stated gives in
      absurd (omega (arith, t, past, few))
  faulty_ends fault l (Text other) s =
      let (bytes, input, wrong) = s.1 in
      let same : bytes ≡ l.bytes = taken_all old new bytes l.bytes l.stated input.taken input.ended in
      let mine = l.wrong in
      let one : other ≡ fault = cc (same, wrong, mine) in
      inl (ap (λ f. Text f) one)
  faulty_ends fault l Dimensions s = absurd s
  faulty_ends fault l ReadFault s = inr (inl refl)
  faulty_ends fault l WriteFault s = absurd (faulty_answered fault l s.status s.document s.answered)
  faulty_ends fault l NoMemory s = inr (inr refl)

  refusable_ends : (stop : Stop) → IsRefusable words old stop → (end : Stop)
      → IsJobAborted words old new sunk_old sunk_new end → EndsFor stop end
  refusable_ends Words none end undone = nothing_ends none end undone
  refusable_ends TooLong (inl l) end undone =
      long_ends l end (solved_undone words old new sunk_old sunk_new end l.job l.settings l.asks undone)
  refusable_ends TooLong (inr (inl l)) end undone = long_document_ends l end (judged_undone end l.asks undone)
  refusable_ends TooLong (inr (inr (inr (inr l)))) end undone =
      proposed_long_ends words old new sunk_old sunk_new l end
      (proposed_undone words old new sunk_old sunk_new end l.job l.settings l.asks undone)
  refusable_ends TooLong (inr (inr (inr (inl l)))) end undone =
      front_long_ends words old new sunk_old sunk_new l end
      (fronted_undone words old new sunk_old sunk_new end l.settings l.asks undone)
  refusable_ends TooLong (inr (inr (inl l))) end undone =
      long_reading_ends l end (reading_undone words old new sunk_old sunk_new l.task end l.asks undone)
  refusable_ends (Text fault) (inr (inr l)) end undone =
      proposed_faulty_ends words old new sunk_old sunk_new fault l end
      (proposed_undone words old new sunk_old sunk_new end l.job l.settings l.asks undone)
  refusable_ends (Text fault) (inr (inl l)) end undone =
      front_faulty_ends words old new sunk_old sunk_new fault l end
      (fronted_undone words old new sunk_old sunk_new end l.settings l.asks undone)
  refusable_ends Dimensions l end undone =
      front_other_ends words old new sunk_old sunk_new l end
      (fronted_undone words old new sunk_old sunk_new end l.settings l.asks undone)
  refusable_ends (Text fault) (inl l) end undone =
      faulty_ends fault l end (solved_undone words old new sunk_old sunk_new end l.job l.settings l.asks undone)
  refusable_ends ReadFault l end undone = absurd l
  refusable_ends WriteFault l end undone = absurd l
  refusable_ends NoMemory l end undone = absurd l

  two : (stop : Stop) → IsRefusable words old stop → stop_status stop ≡ 2
  two Words l = refl
  two TooLong l = refl
  two (Text fault) l = refl
  two Dimensions l = refl
  two ReadFault l = absurd l
  two WriteFault l = absurd l
  two NoMemory l = absurd l

  pub refuses : (stop : Stop) → IsRefusable words old stop → (end : Stop) (status : ℕ) → status ≡ stop_status end
      → IsJobAborted words old new sunk_old sunk_new end
      → (Told : List ℕ → Type 0) → Told (message_of end) → ((status ≡ 2) × Told (message_of stop))
      ⊎ ((status ≡ 4) ⊎ (status ≡ 6))
  refuses stop l end status is undone Told stated = go (refusable_ends stop l end undone)
    where
      go : EndsFor stop end → ((status ≡ 2) × Told (message_of stop)) ⊎ ((status ≡ 4) ⊎ (status ≡ 6))
      go (inl e) = inl (is ∙ ap stop_status e ∙ two stop l, subst (λ s. Told (message_of s)) e stated)
      go (inr (inl e)) = inr (inl (is ∙ ap stop_status e))
      go (inr (inr e)) = inr (inr (is ∙ ap stop_status e))

  -- ---- words for which nothing is read

  nothing_broken : AsksNothing words → IsJobAborted words old new sunk_old sunk_new ReadFault → ⊥
  nothing_broken none (inl s) = let i = s.0.2.is in absurd (cc (none, i))
  nothing_broken none (inr (inl c)) = let i = c.0.is in absurd (cc (none, i))
  nothing_broken none (inr (inr (inl m))) = m.cut
  nothing_broken none (inr (inr (inr (inl a)))) = let i = a.1.is in absurd (cc (none, i))
  nothing_broken none (inr (inr (inr (inr (inl f))))) = let i = f.0.1.is in absurd (cc (none, i))
  nothing_broken none (inr (inr (inr (inr (inr p))))) = let i = p.0.2.is in absurd (cc (none, i))

  pub never_read : ReadsNothing words → (end : Stop) (status : ℕ) → status ≡ stop_status end
      → IsJobAborted words old new sunk_old sunk_new end → ¬ (status ≡ 4)
  never_read (inl none) end status is undone four = go (nothing_ends none end undone)
    where
      go : EndsFor Words end → ⊥
      go (inl w) = let s : stop_status end ≡ 2 = ap stop_status w in omega (arith, four, is, s)
      go (inr (inl r)) = nothing_broken none (subst (λ s. IsJobAborted words old new sunk_old sunk_new s) r undone)
      go (inr (inr m)) = let s : stop_status end ≡ 6 = ap stop_status m in omega (arith, four, is, s)
  never_read (inr (number, settings, asks)) end status is undone four =
      never_broken_off words old new sunk_old sunk_new number settings asks end undone (sym is ∙ four)
