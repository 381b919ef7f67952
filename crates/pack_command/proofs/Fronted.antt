-- What was done for `front` is a written front, and why it ends otherwise.
use Rattle.std.proofs.Common.{◌≡◌, ℕ, ◌≤◌, ◌⊎◌, inl, inr, arith, refl, ap, ◌∙◌, List, length, Option}
use Rattle.std.proofs.Common.{Some, String, Global}
use Rattle.packing_terms.specs.Packing.{PlainInstance, dims}
use Rattle.text_terms.specs.declared.fault.TextFault.{TextFault}
use Rattle.text_terms.specs.declared.settings.Settings.{Settings}
use Rattle.answer_terms.specs.declared.job.DocumentJob.{DocumentJob}
use Rattle.pack_command.specs.Asked.{AsksToSolve, AsksNothing, AsksFront, IsFrontRun, IsLongFront, IsFaultyFront}
use Rattle.pack_command.specs.Asked.{IsOtherFront}
use Rattle.pack_command.specs.Ends.{IsJobCompleted, IsJobAborted}
use Rattle.pack_command.specs.Fronts.{IsFrontWritten, IsFrontAnswered, IsWithoutFront}
use Rattle.pack_command.specs.Run.{IsStopped}
use Rattle.pack_command.specs.declared.stop.Stop.{Stop}
use Rattle.pack_command.specs.declared.stop.Stop.TheVariants.{Words, TooLong, Text, Dimensions, ReadFault, WriteFault}
use Rattle.pack_command.specs.declared.stop.Stop.TheVariants.{NoMemory}
use Rattle.pack_command.proofs.Written.{taken_all, taken_within}
use Rattle.pack_command.proofs.OneJob.{front_solves, front_checks, front_tasks, front_makes, proposed_fronts}

module _ (words : List (String Global)) (old new sunk_old sunk_new : Option (List ℕ)) where
  pub fronted_done : (status : ℕ) (settings : Settings) → AsksFront words settings
      → IsJobCompleted words old new sunk_old sunk_new status
      → IsFrontWritten words old new sunk_old sunk_new status
  fronted_done status settings asks (inl w) =
      absurd (front_solves words w.answered.job w.answered.settings settings w.answered.asked asks)
  fronted_done status settings asks (inr (inl c)) = absurd (front_checks words settings asks c.0)
  fronted_done status settings asks (inr (inr (inl m))) =
      absurd (front_makes words m.number m.settings settings m.asked asks)
  fronted_done status settings asks (inr (inr (inr (inl a)))) = absurd (front_tasks words settings a.0 asks a.1)
  fronted_done status settings asks (inr (inr (inr (inr (inl f))))) = f
  fronted_done status settings asks (inr (inr (inr (inr (inr p))))) =
      absurd (proposed_fronts words p.job settings p.settings asks p.answered.asked)

  pub fronted_undone : (stop : Stop) (settings : Settings) → AsksFront words settings
      → IsJobAborted words old new sunk_old sunk_new stop
      → IsWithoutFront words old new sunk_old sunk_new stop ⊎ (stop ≡ NoMemory)
  fronted_undone stop settings asks (inl s) = go stop s
    where
      none : AsksNothing words → ⊥
      none n = let i = asks.is in absurd (cc (n, i))

      solves : ((job : DocumentJob) × (others : Settings) × AsksToSolve words job others) → ⊥
      solves a = front_solves words a.0 a.1 settings a.2 asks

      go : (stop : Stop) → IsStopped words old new sunk_old sunk_new stop
          → IsWithoutFront words old new sunk_old sunk_new stop ⊎ (stop ≡ NoMemory)
      go Words s = absurd (none s.0)
      go TooLong s = absurd (solves s.0)
      go (Text fault) s = absurd (solves s.0)
      go Dimensions s = absurd s
      go ReadFault s = absurd (solves s.0)
      go WriteFault s = absurd (front_solves words s.answered.job s.answered.settings settings s.answered.asked asks)
      go NoMemory s = inr refl
  fronted_undone stop settings asks (inr (inl c)) = absurd (front_checks words settings asks c.0)
  fronted_undone stop settings asks (inr (inr (inl m))) =
      absurd (front_makes words m.number m.settings settings m.asked asks)
  fronted_undone stop settings asks (inr (inr (inr (inl a)))) = absurd (front_tasks words settings a.0 asks a.1)
  fronted_undone stop settings asks (inr (inr (inr (inr (inl f))))) = inl f.1
  fronted_undone stop settings asks (inr (inr (inr (inr (inr p))))) =
      absurd (proposed_fronts words p.0.0 settings p.0.1 asks p.0.2)

  -- ---- an input that has an answer

  module _ (settings : Settings) (instance : PlainInstance) (s : IsFrontRun words old settings instance) where
    never_long : (bytes : List ℕ) → old ≡ Some bytes → length bytes ≤ 1048576
        → IsWithoutFront words old new sunk_old sunk_new TooLong → ⊥
    never_long stated is few w =
        let (bytes, gives, past, most) = w.0 in
        let l = taken_within old new bytes stated is gives in
        omega (arith, l, past, few)

    pub front_never_stops : (stop : Stop) → IsWithoutFront words old new sunk_old sunk_new stop ⊎ (stop ≡ NoMemory)
        → ¬ (stop ≡ ReadFault) → ¬ (stop ≡ WriteFault) → ¬ (stop ≡ NoMemory) → ⊥
    front_never_stops stop (inr e) r w m = m e
    front_never_stops Words (inl s) r w m = s
    front_never_stops TooLong (inl t) r w m = never_long s.bytes s.stated s.within t
    front_never_stops (Text fault) (inl t) r w m =
        let (bytes, input, wrong) = t.0 in
        let same : bytes ≡ s.bytes = taken_all old new bytes s.bytes s.stated input.taken input.ended in
        let read = s.read in
        absurd (cc (same, wrong, read))
    front_never_stops Dimensions (inl t) r w m =
        let o = t.0 in
        let same : o.bytes ≡ s.bytes = taken_all old new o.bytes s.bytes s.stated o.input.taken o.input.ended in
        let one = o.read in
        let two = s.read in
        let is : o.instance ≡ instance = cc (same, one, two) in
        o.other (ap dims is ∙ s.plane)
    front_never_stops ReadFault (inl t) r w m = r refl
    front_never_stops WriteFault (inl t) r w m = w refl
    front_never_stops NoMemory (inl t) r w m = m refl

  -- ---- an input that is to be refused

  long_answered : IsLongFront words old → (settings : Settings) (instance : PlainInstance)
      → IsFrontAnswered words old new settings instance → ⊥
  long_answered l settings instance a =
      let same : a.bytes ≡ l.bytes = taken_all old new a.bytes l.bytes l.stated a.input.taken a.input.ended in
      let few = a.input.within in
      let past = l.past in
      omega (arith, ap length same, few, past)

  faulty_answered : (fault : TextFault) → IsFaultyFront words old fault
      → (settings : Settings) (instance : PlainInstance) → IsFrontAnswered words old new settings instance → ⊥
  faulty_answered fault l settings instance a =
      let same : a.bytes ≡ l.bytes = taken_all old new a.bytes l.bytes l.stated a.input.taken a.input.ended in
      let wrong = l.wrong in
      let read = a.read in
      absurd (cc (same, wrong, read))

  other_answered : IsOtherFront words old → (settings : Settings) (instance : PlainInstance)
      → IsFrontAnswered words old new settings instance → ⊥
  other_answered l settings instance a =
      let same : a.bytes ≡ l.bytes = taken_all old new a.bytes l.bytes l.stated a.input.taken a.input.ended in
      let one = a.read in
      let two = l.read in
      let is : l.instance ≡ instance = cc (same, one, two) in
      l.other (ap dims is ∙ a.plane)

  pub long_fronted : (status : ℕ) → IsLongFront words old → IsFrontWritten words old new sunk_old sunk_new status → ⊥
  long_fronted status l w = long_answered l w.settings w.instance w.answered

  pub faulty_fronted : (status : ℕ) (fault : TextFault) → IsFaultyFront words old fault
      → IsFrontWritten words old new sunk_old sunk_new status → ⊥
  faulty_fronted status fault l w = faulty_answered fault l w.settings w.instance w.answered

  pub other_fronted : (status : ℕ) → IsOtherFront words old → IsFrontWritten words old new sunk_old sunk_new status → ⊥
  other_fronted status l w = other_answered l w.settings w.instance w.answered

  -- how else it ends: for this cause, or by a failed read or want of memory
  abbrev EndsFor : Stop → Stop → Type 0
  EndsFor stop end = (end ≡ stop) ⊎ ((end ≡ ReadFault) ⊎ (end ≡ NoMemory))

  pub front_long_ends : IsLongFront words old → (end : Stop) → IsWithoutFront words old new sunk_old sunk_new end
      ⊎ (end ≡ NoMemory) → EndsFor TooLong end
  front_long_ends l end (inr e) = inr (inr e)
  front_long_ends l Words (inl s) = absurd s
  front_long_ends l TooLong (inl s) = inl refl
  front_long_ends l (Text fault) (inl s) =
      let (bytes, input, wrong) = s.0 in
      let same : bytes ≡ l.bytes = taken_all old new bytes l.bytes l.stated input.taken input.ended in
      let few = input.within in
      let past = l.past in
      absurd (omega (arith, ap length same, few, past))
  front_long_ends l Dimensions (inl s) =
      let o = s.0 in
      let same : o.bytes ≡ l.bytes = taken_all old new o.bytes l.bytes l.stated o.input.taken o.input.ended in
      let few = o.input.within in
      let past = l.past in
      absurd (omega (arith, ap length same, few, past))
  front_long_ends l ReadFault (inl s) = inr (inl refl)
  front_long_ends l WriteFault (inl s) = absurd (long_answered l s.settings s.instance s.answered)
  front_long_ends l NoMemory (inl s) = inr (inr refl)

  pub front_faulty_ends : (fault : TextFault) → IsFaultyFront words old fault → (end : Stop)
      → IsWithoutFront words old new sunk_old sunk_new end ⊎ (end ≡ NoMemory)
      → EndsFor (Text fault) end
  front_faulty_ends fault l end (inr e) = inr (inr e)
  front_faulty_ends fault l Words (inl s) = absurd s
  front_faulty_ends fault l TooLong (inl s) =
      let (bytes, gives, past, most) = s.0 in
      let few = l.within in
      let t = taken_within old new bytes l.bytes l.stated gives in
      absurd (omega (arith, t, past, few))
  front_faulty_ends fault l (Text other) (inl s) =
      let (bytes, input, wrong) = s.0 in
      let same : bytes ≡ l.bytes = taken_all old new bytes l.bytes l.stated input.taken input.ended in
      let mine = l.wrong in
      let one : other ≡ fault = cc (same, wrong, mine) in
      inl (ap (λ f. Text f) one)
  front_faulty_ends fault l Dimensions (inl s) =
      let o = s.0 in
      let same : o.bytes ≡ l.bytes = taken_all old new o.bytes l.bytes l.stated o.input.taken o.input.ended in
      let wrong = l.wrong in
      let read = o.read in
      absurd (cc (same, wrong, read))
  front_faulty_ends fault l ReadFault (inl s) = inr (inl refl)
  front_faulty_ends fault l WriteFault (inl s) = absurd (faulty_answered fault l s.settings s.instance s.answered)
  front_faulty_ends fault l NoMemory (inl s) = inr (inr refl)

  pub front_other_ends : IsOtherFront words old → (end : Stop) → IsWithoutFront words old new sunk_old sunk_new end
      ⊎ (end ≡ NoMemory) → EndsFor Dimensions end
  front_other_ends l end (inr e) = inr (inr e)
  front_other_ends l Words (inl s) = absurd s
  front_other_ends l TooLong (inl s) =
      let (bytes, gives, past, most) = s.0 in
      let few = l.within in
      let t = taken_within old new bytes l.bytes l.stated gives in
      absurd (omega (arith, t, past, few))
  front_other_ends l (Text fault) (inl s) =
      let (bytes, input, wrong) = s.0 in
      let same : bytes ≡ l.bytes = taken_all old new bytes l.bytes l.stated input.taken input.ended in
      let read = l.read in
      absurd (cc (same, wrong, read))
  front_other_ends l Dimensions (inl s) = inl refl
  front_other_ends l ReadFault (inl s) = inr (inl refl)
  front_other_ends l WriteFault (inl s) = absurd (other_answered l s.settings s.instance s.answered)
  front_other_ends l NoMemory (inl s) = inr (inr refl)
