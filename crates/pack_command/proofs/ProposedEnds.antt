-- What was done for a job with proposals is a written answer, and why it ends otherwise.
use Rattle.std.proofs.Common.{◌≡◌, ℕ, ◌≤◌, ◌⊎◌, inl, inr, arith, refl, ap, List, length, Option, Some, String, Global}
use Rattle.packing_terms.specs.Packing.{PlainInstance}
use Rattle.text_terms.specs.declared.fault.TextFault.{TextFault}
use Rattle.text_terms.specs.declared.settings.Settings.{Settings}
use Rattle.answer_terms.specs.declared.job.DocumentJob.{DocumentJob}
use Rattle.pack_command.specs.Asked.{ProposedJob, AsksToSolve, AsksNothing, AsksProposed, IsProposalRun, IsLongProposed}
use Rattle.pack_command.specs.Asked.{IsFaultyProposed}
use Rattle.pack_command.specs.Ends.{IsJobCompleted, IsJobAborted}
use Rattle.pack_command.specs.Proposed.{IsProposedWritten, IsProposedAnswered, IsWithoutProposed}
use Rattle.pack_command.specs.Run.{IsStopped}
use Rattle.pack_command.specs.declared.stop.Stop.{Stop}
use Rattle.pack_command.specs.declared.stop.Stop.TheVariants.{Words, TooLong, Text, Dimensions, ReadFault, WriteFault}
use Rattle.pack_command.specs.declared.stop.Stop.TheVariants.{NoMemory}
use Rattle.pack_command.proofs.Written.{taken_all, taken_within}
use Rattle.pack_command.proofs.OneJob.{proposed_solves, proposed_checks, proposed_tasks, proposed_makes}
use Rattle.pack_command.proofs.OneJob.{proposed_fronts}

module _ (words : List (String Global)) (old new sunk_old sunk_new : Option (List ℕ)) where
  pub proposed_done : (status : ℕ) (job : ProposedJob) (settings : Settings) → AsksProposed words job settings
      → IsJobCompleted words old new sunk_old sunk_new status
      → IsProposedWritten words old new sunk_old sunk_new status
  proposed_done status job settings asks (inl w) =
      absurd (proposed_solves words w.answered.job job w.answered.settings settings w.answered.asked asks)
  proposed_done status job settings asks (inr (inl c)) = absurd (proposed_checks words job settings asks c.0)
  proposed_done status job settings asks (inr (inr (inl m))) =
      absurd (proposed_makes words m.number job m.settings settings m.asked asks)
  proposed_done status job settings asks (inr (inr (inr (inl a)))) =
      absurd (proposed_tasks words job settings a.0 asks a.1)
  proposed_done status job settings asks (inr (inr (inr (inr (inl f))))) =
      absurd (proposed_fronts words job f.settings settings f.answered.asked asks)
  proposed_done status job settings asks (inr (inr (inr (inr (inr p))))) = p

  pub proposed_undone : (stop : Stop) (job : ProposedJob) (settings : Settings) → AsksProposed words job settings
      → IsJobAborted words old new sunk_old sunk_new stop
      → IsWithoutProposed words old new sunk_old sunk_new stop ⊎ (stop ≡ NoMemory)
  proposed_undone stop job settings asks (inl s) = go stop s
    where
      none : AsksNothing words → ⊥
      none n = let i = asks.is in absurd (cc (n, i))

      solves : ((job : DocumentJob) × (others : Settings) × AsksToSolve words job others) → ⊥
      solves a = proposed_solves words a.0 job a.1 settings a.2 asks

      go : (stop : Stop) → IsStopped words old new sunk_old sunk_new stop
          → IsWithoutProposed words old new sunk_old sunk_new stop ⊎ (stop ≡ NoMemory)
      go Words s = absurd (none s.0)
      go TooLong s = absurd (solves s.0)
      go (Text fault) s = absurd (solves s.0)
      go Dimensions s = absurd s
      go ReadFault s = absurd (solves s.0)
      go WriteFault s = absurd (proposed_solves words s.answered.job job s.answered.settings settings
          s.answered.asked asks)
      go NoMemory s = inr refl
  proposed_undone stop job settings asks (inr (inl c)) = absurd (proposed_checks words job settings asks c.0)
  proposed_undone stop job settings asks (inr (inr (inl m))) =
      absurd (proposed_makes words m.number job m.settings settings m.asked asks)
  proposed_undone stop job settings asks (inr (inr (inr (inl a)))) =
      absurd (proposed_tasks words job settings a.0 asks a.1)
  proposed_undone stop job settings asks (inr (inr (inr (inr (inl f))))) =
      absurd (proposed_fronts words job f.0.0 settings f.0.1 asks)
  proposed_undone stop job settings asks (inr (inr (inr (inr (inr p))))) = inl p.1

  -- ---- an input that has an answer

  module _ (job : ProposedJob) (settings : Settings) (instance : PlainInstance)
      (s : IsProposalRun words old job settings instance) where
    never_long : (bytes : List ℕ) → old ≡ Some bytes → length bytes ≤ 1048576
        → IsWithoutProposed words old new sunk_old sunk_new TooLong → ⊥
    never_long stated is few w =
        let (bytes, gives, past, most) = w.0 in
        let l = taken_within old new bytes stated is gives in
        omega (arith, l, past, few)

    pub proposed_never_stops : (stop : Stop) → IsWithoutProposed words old new sunk_old sunk_new stop
        ⊎ (stop ≡ NoMemory)
        → ¬ (stop ≡ ReadFault) → ¬ (stop ≡ WriteFault) → ¬ (stop ≡ NoMemory) → ⊥
    proposed_never_stops stop (inr e) r w m = m e
    proposed_never_stops Words (inl s) r w m = s
    proposed_never_stops TooLong (inl t) r w m = never_long s.bytes s.stated s.within t
    proposed_never_stops (Text fault) (inl t) r w m =
        let (bytes, input, wrong) = t.0 in
        let same : bytes ≡ s.bytes = taken_all old new bytes s.bytes s.stated input.taken input.ended in
        let read = s.read in
        absurd (cc (same, wrong, read))
    proposed_never_stops Dimensions (inl t) r w m = t
    proposed_never_stops ReadFault (inl t) r w m = r refl
    proposed_never_stops WriteFault (inl t) r w m = w refl
    proposed_never_stops NoMemory (inl t) r w m = m refl

  -- ---- an input that is to be refused

  long_answered : IsLongProposed words old
      → (job : ProposedJob) (settings : Settings) (instance : PlainInstance) (status : ℕ) (document : List ℕ)
      → IsProposedAnswered words old new job settings instance status document → ⊥
  long_answered l job settings instance status document a =
      let same : a.bytes ≡ l.bytes = taken_all old new a.bytes l.bytes l.stated a.input.taken a.input.ended in
      let few = a.input.within in
      let past = l.past in
      omega (arith, ap length same, few, past)

  faulty_answered : (fault : TextFault) → IsFaultyProposed words old fault
      → (job : ProposedJob) (settings : Settings) (instance : PlainInstance) (status : ℕ) (document : List ℕ)
      → IsProposedAnswered words old new job settings instance status document → ⊥
  faulty_answered fault l job settings instance status document a =
      let same : a.bytes ≡ l.bytes = taken_all old new a.bytes l.bytes l.stated a.input.taken a.input.ended in
      let wrong = l.wrong in
      let read = a.read in
      absurd (cc (same, wrong, read))

  pub long_proposed : (status : ℕ) → IsLongProposed words old
      → IsProposedWritten words old new sunk_old sunk_new status → ⊥
  long_proposed status l w = long_answered l w.job w.settings w.instance status w.document w.answered

  pub faulty_proposed : (status : ℕ) (fault : TextFault) → IsFaultyProposed words old fault
      → IsProposedWritten words old new sunk_old sunk_new status → ⊥
  faulty_proposed status fault l w = faulty_answered fault l w.job w.settings w.instance status w.document w.answered

  -- how else it ends: for this cause, or by a failed read or want of memory
  abbrev EndsFor : Stop → Stop → Type 0
  EndsFor stop end = (end ≡ stop) ⊎ ((end ≡ ReadFault) ⊎ (end ≡ NoMemory))

  pub proposed_long_ends : IsLongProposed words old → (end : Stop)
      → IsWithoutProposed words old new sunk_old sunk_new end ⊎ (end ≡ NoMemory) → EndsFor TooLong end
  proposed_long_ends l end (inr e) = inr (inr e)
  proposed_long_ends l Words (inl s) = absurd s
  proposed_long_ends l TooLong (inl s) = inl refl
  proposed_long_ends l (Text fault) (inl s) =
      let (bytes, input, wrong) = s.0 in
      let same : bytes ≡ l.bytes = taken_all old new bytes l.bytes l.stated input.taken input.ended in
      let few = input.within in
      let past = l.past in
      absurd (omega (arith, ap length same, few, past))
  proposed_long_ends l Dimensions (inl s) = absurd s
  proposed_long_ends l ReadFault (inl s) = inr (inl refl)
  proposed_long_ends l WriteFault (inl s) = absurd (long_answered l s.job s.settings s.instance s.status s.document s.answered)
  proposed_long_ends l NoMemory (inl s) = inr (inr refl)

  pub proposed_faulty_ends : (fault : TextFault) → IsFaultyProposed words old fault → (end : Stop)
      → IsWithoutProposed words old new sunk_old sunk_new end ⊎ (end ≡ NoMemory)
      → EndsFor (Text fault) end
  proposed_faulty_ends fault l end (inr e) = inr (inr e)
  proposed_faulty_ends fault l Words (inl s) = absurd s
  proposed_faulty_ends fault l TooLong (inl s) =
      let (bytes, gives, past, most) = s.0 in
      let few = l.within in
      let t = taken_within old new bytes l.bytes l.stated gives in
      absurd (omega (arith, t, past, few))
  proposed_faulty_ends fault l (Text other) (inl s) =
      let (bytes, input, wrong) = s.0 in
      let same : bytes ≡ l.bytes = taken_all old new bytes l.bytes l.stated input.taken input.ended in
      let mine = l.wrong in
      let one : other ≡ fault = cc (same, wrong, mine) in
      inl (ap (λ f. Text f) one)
  proposed_faulty_ends fault l Dimensions (inl s) = absurd s
  proposed_faulty_ends fault l ReadFault (inl s) = inr (inl refl)
  proposed_faulty_ends fault l WriteFault (inl s) =
      absurd (faulty_answered fault l s.job s.settings s.instance s.status s.document s.answered)
  proposed_faulty_ends fault l NoMemory (inl s) = inr (inr refl)
