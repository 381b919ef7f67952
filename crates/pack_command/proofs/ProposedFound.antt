-- What was found for a job with proposals is its answer, also where a part of its document was written.
use Rattle.std.proofs.Common.{◌≡◌, ℕ, subst, List, Ok, String, Global}
use Rattle.std.specs.declared.option.Option.{Option}
use Rattle.packing_terms.specs.Packing.{PlainInstance}
use Rattle.packing_terms.specs.Limits.{IsInstance}
use Rattle.text_terms.specs.declared.settings.Settings.{Settings}
use Rattle.pack_streams.specs.Writing.{AppendedPrefix}
use Rattle.pack_command.specs.Asked.{ProposedJob, AsksProposed}
use Rattle.pack_command.specs.Inputs.{IsInputRead}
use Rattle.pack_command.specs.Proposed.{IsFound, IsProposedPartlyWritten}

pub proposed_cut : (words : List (String Global)) (old new sunk_old sunk_new : Option (List ℕ)) (job : ProposedJob)
    (settings : Settings) (instance : PlainInstance) (status : ℕ) (document : List ℕ)
    → AsksProposed words job settings → IsInputRead old new (Ok instance) → IsInstance instance
    → IsFound job settings instance status document → AppendedPrefix sunk_old sunk_new document
    → IsProposedPartlyWritten words old new sunk_old sunk_new
proposed_cut words old new sunk_old sunk_new job settings instance status document asks read limits is part = record {
  job = job;
  settings = settings;
  instance = instance;
  status = status;
  document = document;
  answered = record { asked = asks; bytes = read.0; input = read.1; read = read.2; limits = limits; is = is };
  part = part;
}

-- the same of a document that has the same text
pub same_part : (old new : Option (List ℕ)) (one other : List ℕ) → one ≡ other → AppendedPrefix old new one
    → AppendedPrefix old new other
same_part old new one other e part = subst (λ (text : List ℕ). AppendedPrefix old new text) e part
