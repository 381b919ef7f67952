-- Within the limits, and without a fault or want of memory, a solving job doesn't stop without an answer.
use Rattle.std.proofs.Common.{ℕ, ◌≡◌, ◌≤◌, List, length, arith, refl, Option, Some, Ok, String, Global}
use Rattle.packing_terms.specs.Packing.{PlainInstance}
use Rattle.text_terms.specs.Texts.{text_instance}
use Rattle.answer_terms.specs.declared.job.DocumentJob.{DocumentJob}
use Rattle.text_terms.specs.declared.settings.Settings.{Settings}
use Rattle.pack_command.specs.Asked.{AsksToSolve}
use Rattle.pack_command.specs.Run.{IsStopped}
use Rattle.pack_command.specs.declared.stop.Stop.{Stop}
use Rattle.pack_command.specs.declared.stop.Stop.TheVariants.{Words, TooLong, Text, Dimensions, ReadFault, WriteFault}
use Rattle.pack_command.specs.declared.stop.Stop.TheVariants.{NoMemory}
use Rattle.pack_command.proofs.Written.{taken_all, taken_within}

module _ (words : List (String Global)) (old new sunk_old sunk_new : Option (List ℕ)) (job : DocumentJob)
    (settings : Settings) (stated : List ℕ)
    (instance : PlainInstance) (asks : AsksToSolve words job settings) (is : old ≡ Some stated)
    (few : length stated ≤ 1048576) (read : text_instance stated ≡ Ok instance) where
  pub never_stops : (stop : Stop) → IsStopped words old new sunk_old sunk_new stop → ¬ (stop ≡ ReadFault)
      → ¬ (stop ≡ WriteFault) → ¬ (stop ≡ NoMemory) → ⊥
  never_stops Words s r w m = absurd (cc (s.0, asks.is))
  never_stops TooLong s r w m =
      let (bytes, gives, past, most) = s.1 in
      let l = taken_within old new bytes stated is gives in
      absurd (omega (arith, l, past, few))
  never_stops (Text fault) s r w m =
      let (bytes, input, wrong) = s.1 in
      let same : bytes ≡ stated = taken_all old new bytes stated is input.taken input.ended in
      absurd (cc (same, wrong, read))
  never_stops Dimensions s r w m = s
  never_stops ReadFault s r w m = r refl
  never_stops WriteFault s r w m = w refl
  never_stops NoMemory s r w m = m refl
