-- The texts that were found in the words.
use Rattle.std.specs.Prelude.{option_map}
use Rattle.pack_words.specs.Job.{Texts}
use Rattle.pack_words.specs.declared.words.Found.{Found}

abbrev pub plain_found : Found → Texts
plain_found f = record {
  job = option_map (λ s. s.now) f.job;
  workers = option_map (λ s. s.now) f.workers;
  budget = option_map (λ s. s.now) f.budget;
  scales = option_map (λ s. s.now) f.scales;
  number = option_map (λ s. s.now) f.number;
  proposals = option_map (λ s. s.now) f.proposals;
  facts = option_map (λ s. s.now) f.facts;
  bounds = option_map (λ s. s.now) f.bounds;
}
