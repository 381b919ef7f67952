-- What was read and found is an answer of the instance.
use Rattle.std.proofs.Common.{ℕ, List, Ok, String, Global}
use Rattle.std.specs.declared.option.Option.{Option}
use Rattle.packing_terms.specs.Packing.{PlainInstance}
use Rattle.packing_terms.specs.Limits.{IsInstance}
use Rattle.answer_terms.specs.declared.job.DocumentJob.{DocumentJob}
use Rattle.answer_terms.specs.Answers.{status_of}
use Rattle.pack_streams.specs.Writing.{AppendedPrefix}
use Rattle.text_terms.specs.declared.settings.Settings.{Settings}
use Rattle.answer_streams.specs.declared.solution.Solution.{Solution}
use Rattle.answer_streams.specs.Solutions.{answer_found, solution_text, IsSolution}
use Rattle.pack_command.specs.Asked.{AsksToSolve}
use Rattle.pack_command.specs.Inputs.{IsInputRead}
use Rattle.pack_command.specs.Run.{IsAnswered, IsDocumentPartlyWritten}

module _ (words : List (String Global)) (old new sunk_old sunk_new : Option (List ℕ)) (job : DocumentJob)
    (settings : Settings) (instance : PlainInstance)
    (solution : Solution) (asks : AsksToSolve words job settings) (read : IsInputRead old new (Ok instance))
    (limits : IsInstance instance)
    (found : IsSolution job settings instance solution) where
  answered : IsAnswered words old new (status_of (answer_found solution)) (solution_text instance solution)
  answered = record {
    job = job;
    settings = settings;
    bytes = read.0;
    instance = instance;
    asked = asks;
    input = read.1;
    read = read.2;
    limits = limits;
    status_is = found.status;
    document_is = found.text;
  }

  pub answer_cut : AppendedPrefix sunk_old sunk_new (solution_text instance solution)
      → IsDocumentPartlyWritten words old new sunk_old sunk_new
  answer_cut part = record {
    status = status_of (answer_found solution);
    document = solution_text instance solution;
    answered = answered;
    part = part;
  }
