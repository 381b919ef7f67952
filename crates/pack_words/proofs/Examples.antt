-- Command lines with their jobs.
use Rattle.std.proofs.Common.{◌≡◌, [], ◌∷◌, Some, None, refl, codes, true, false}
use Rattle.text_terms.specs.Lines.{number_of}
use Rattle.pack_words.specs.declared.job.Job.TheVariants.{Fit, Strip, Knapsack, Make, Audit, Explain, Reduced, Front}
use Rattle.pack_words.specs.declared.job.Job.TheVariants.{ReducedStrip, Proposed, Bounded, BoundedStrip}
use Rattle.text_terms.specs.declared.claim.SolvingJob.TheVariants.{Fit as SolvesFit, Strip as SolvesStrip}
use Rattle.text_terms.specs.declared.claim.SolvingJob.TheVariants.{Bins as SolvesBins, Knapsack as SolvesKnapsack}
use Rattle.pack_words.specs.Job.{job_of_words}

eight_workers : job_of_words (codes "fit" ∷ codes "--workers=08" ∷ [])
    ≡ Some (record { job = Fit; settings = record { workers = 8; budget = 1000000; scales = true }; number = 0 })
unfolding job_of_words number_of
eight_workers = refl

all_options : job_of_words (codes "--number" ∷ codes "2147483647" ∷ codes "--budget=10000000" ∷ codes "--scales"
    ∷ codes "no" ∷ codes "--" ∷ codes "make" ∷ [])
    ≡ Some (record {
      job = Make;
      settings = record { workers = 1; budget = 10000000; scales = false };
      number = 2147483647;
    })
unfolding job_of_words number_of
all_options = refl

no_words : job_of_words [] ≡ None
unfolding job_of_words number_of
no_words = refl

no_such_job : job_of_words (codes "pile" ∷ []) ≡ None
unfolding job_of_words number_of
no_such_job = refl

two_jobs : job_of_words (codes "fit" ∷ codes "fit" ∷ []) ≡ None
unfolding job_of_words number_of
two_jobs = refl

many_workers : job_of_words (codes "fit" ∷ codes "--workers" ∷ codes "65" ∷ []) ≡ None
unfolding job_of_words number_of
many_workers = refl

no_workers : job_of_words (codes "fit" ∷ codes "--workers" ∷ codes "0" ∷ []) ≡ None
unfolding job_of_words number_of
no_workers = refl

foreign_number : job_of_words (codes "fit" ∷ codes "--number" ∷ codes "3" ∷ []) ≡ None
unfolding job_of_words number_of
foreign_number = refl

foreign_budget : job_of_words (codes "check" ∷ codes "--budget" ∷ codes "5" ∷ []) ≡ None
unfolding job_of_words number_of
foreign_budget = refl

budget_twice : job_of_words (codes "fit" ∷ codes "--budget" ∷ codes "5" ∷ codes "--budget" ∷ codes "5" ∷ []) ≡ None
unfolding job_of_words number_of
budget_twice = refl

other_scales : job_of_words (codes "fit" ∷ codes "--scales" ∷ codes "maybe" ∷ []) ≡ None
unfolding job_of_words number_of
other_scales = refl

shortened : job_of_words (codes "fit" ∷ codes "--work" ∷ codes "2" ∷ []) ≡ None
unfolding job_of_words number_of
shortened = refl

no_value : job_of_words (codes "fit" ∷ codes "--budget" ∷ []) ≡ None
unfolding job_of_words number_of
no_value = refl

hyphen_alone : job_of_words (codes "fit" ∷ codes "--budget" ∷ codes "-" ∷ []) ≡ None
unfolding job_of_words number_of
hyphen_alone = refl

reduced_with_options : job_of_words (codes "reduced" ∷ codes "--scales=no" ∷ codes "--budget" ∷ codes "0" ∷ [])
    ≡ Some (record { job = Reduced; settings = record { workers = 1; budget = 0; scales = false }; number = 0 })
unfolding job_of_words number_of
reduced_with_options = refl

reduced_with_number : job_of_words (codes "reduced" ∷ codes "--number" ∷ codes "3" ∷ []) ≡ None
unfolding job_of_words number_of
reduced_with_number = refl

audit_alone : job_of_words (codes "audit" ∷ [])
    ≡ Some (record { job = Audit; settings = record { workers = 1; budget = 1000000; scales = true }; number = 0 })
unfolding job_of_words number_of
audit_alone = refl

audit_with_options : job_of_words (codes "audit" ∷ codes "--workers=2" ∷ []) ≡ None
unfolding job_of_words number_of
audit_with_options = refl

explain_alone : job_of_words (codes "explain" ∷ [])
    ≡ Some (record { job = Explain; settings = record { workers = 1; budget = 1000000; scales = true }; number = 0 })
unfolding job_of_words number_of
explain_alone = refl

explain_with_options : job_of_words (codes "explain" ∷ codes "--scales" ∷ codes "no" ∷ []) ≡ None
unfolding job_of_words number_of
explain_with_options = refl

front_with_options : job_of_words (codes "front" ∷ codes "--budget=1" ∷ codes "--workers" ∷ codes "2" ∷ [])
    ≡ Some (record { job = Front; settings = record { workers = 2; budget = 1; scales = true }; number = 0 })
unfolding job_of_words number_of
front_with_options = refl

front_with_number : job_of_words (codes "front" ∷ codes "--number" ∷ codes "3" ∷ []) ≡ None
unfolding job_of_words number_of
front_with_number = refl

proposals_asked : job_of_words (codes "fit" ∷ codes "--proposals=yes" ∷ [])
    ≡ Some (record {
      job = Proposed SolvesFit;
      settings = record { workers = 1; budget = 1000000; scales = true };
      number = 0;
    })
unfolding job_of_words number_of
proposals_asked = refl

proposals_declined : job_of_words (codes "fit" ∷ codes "--proposals" ∷ codes "no" ∷ [])
    ≡ Some (record { job = Fit; settings = record { workers = 1; budget = 1000000; scales = true }; number = 0 })
unfolding job_of_words number_of
proposals_declined = refl

proposals_of_strip : job_of_words (codes "strip" ∷ codes "--proposals" ∷ codes "yes" ∷ [])
    ≡ Some (record {
      job = Proposed SolvesStrip;
      settings = record { workers = 1; budget = 1000000; scales = true };
      number = 0;
    })
unfolding job_of_words number_of
proposals_of_strip = refl

proposals_of_bins : job_of_words (codes "bins" ∷ codes "--proposals" ∷ codes "yes" ∷ [])
    ≡ Some (record {
      job = Proposed SolvesBins;
      settings = record { workers = 1; budget = 1000000; scales = true };
      number = 0;
    })
unfolding job_of_words number_of
proposals_of_bins = refl

proposals_of_knapsack : job_of_words (codes "knapsack" ∷ codes "--proposals" ∷ codes "yes" ∷ [])
    ≡ Some (record {
      job = Proposed SolvesKnapsack;
      settings = record { workers = 1; budget = 1000000; scales = true };
      number = 0;
    })
unfolding job_of_words number_of
proposals_of_knapsack = refl

foreign_proposals : job_of_words (codes "reduced" ∷ codes "--proposals" ∷ codes "no" ∷ []) ≡ None
unfolding job_of_words number_of
foreign_proposals = refl

proposed_is_no_word : job_of_words (codes "proposed" ∷ []) ≡ None
unfolding job_of_words number_of
proposed_is_no_word = refl

facts_asked : job_of_words (codes "strip" ∷ codes "--facts=yes" ∷ [])
    ≡ Some (record {
      job = ReducedStrip;
      settings = record { workers = 1; budget = 1000000; scales = true };
      number = 0;
    })
unfolding job_of_words number_of
facts_asked = refl

facts_declined : job_of_words (codes "strip" ∷ codes "--facts" ∷ codes "no" ∷ [])
    ≡ Some (record { job = Strip; settings = record { workers = 1; budget = 1000000; scales = true }; number = 0 })
unfolding job_of_words number_of
facts_declined = refl

facts_without_proposals : job_of_words (codes "strip" ∷ codes "--facts=yes" ∷ codes "--proposals=no" ∷ [])
    ≡ Some (record {
      job = ReducedStrip;
      settings = record { workers = 1; budget = 1000000; scales = true };
      number = 0;
    })
unfolding job_of_words number_of
facts_without_proposals = refl

facts_with_proposals : job_of_words (codes "strip" ∷ codes "--facts=yes" ∷ codes "--proposals=yes" ∷ []) ≡ None
unfolding job_of_words number_of
facts_with_proposals = refl

proposals_without_facts : job_of_words (codes "strip" ∷ codes "--facts=no" ∷ codes "--proposals=yes" ∷ [])
    ≡ Some (record {
      job = Proposed SolvesStrip;
      settings = record { workers = 1; budget = 1000000; scales = true };
      number = 0;
    })
unfolding job_of_words number_of
proposals_without_facts = refl

facts_misspelled : job_of_words (codes "strip" ∷ codes "--facts" ∷ codes "maybe" ∷ []) ≡ None
unfolding job_of_words number_of
facts_misspelled = refl

facts_of_bins : job_of_words (codes "bins" ∷ codes "--facts" ∷ codes "no" ∷ []) ≡ None
unfolding job_of_words number_of
facts_of_bins = refl

facts_of_fit : job_of_words (codes "fit" ∷ codes "--facts" ∷ codes "yes" ∷ []) ≡ None
unfolding job_of_words number_of
facts_of_fit = refl

bounds_asked : job_of_words (codes "knapsack" ∷ codes "--bounds" ∷ codes "yes" ∷ [])
    ≡ Some (record {
      job = Bounded false;
      settings = record { workers = 1; budget = 1000000; scales = true };
      number = 0;
    })
unfolding job_of_words number_of
bounds_asked = refl

bounds_with_proposals : job_of_words (codes "knapsack" ∷ codes "--bounds=yes" ∷ codes "--proposals" ∷ codes "yes" ∷ [])
    ≡ Some (record {
      job = Bounded true;
      settings = record { workers = 1; budget = 1000000; scales = true };
      number = 0;
    })
unfolding job_of_words number_of
bounds_with_proposals = refl

bounds_without_proposals : job_of_words (codes "knapsack" ∷ codes "--proposals=no" ∷ codes "--bounds=yes" ∷ [])
    ≡ Some (record {
      job = Bounded false;
      settings = record { workers = 1; budget = 1000000; scales = true };
      number = 0;
    })
unfolding job_of_words number_of
bounds_without_proposals = refl

bounds_declined : job_of_words (codes "knapsack" ∷ codes "--bounds" ∷ codes "no" ∷ [])
    ≡ Some (record {
      job = Knapsack;
      settings = record { workers = 1; budget = 1000000; scales = true };
      number = 0;
    })
unfolding job_of_words number_of
bounds_declined = refl

proposals_without_bounds : job_of_words (codes "knapsack" ∷ codes "--bounds=no" ∷ codes "--proposals=yes" ∷ [])
    ≡ Some (record {
      job = Proposed SolvesKnapsack;
      settings = record { workers = 1; budget = 1000000; scales = true };
      number = 0;
    })
unfolding job_of_words number_of
proposals_without_bounds = refl

bounds_misspelled : job_of_words (codes "knapsack" ∷ codes "--bounds" ∷ codes "maybe" ∷ []) ≡ None
unfolding job_of_words number_of
bounds_misspelled = refl

bounds_with_facts : job_of_words (codes "knapsack" ∷ codes "--bounds=yes" ∷ codes "--facts=yes" ∷ []) ≡ None
unfolding job_of_words number_of
bounds_with_facts = refl

bounds_of_strip : job_of_words (codes "strip" ∷ codes "--bounds" ∷ codes "yes" ∷ [])
    ≡ Some (record {
      job = BoundedStrip false;
      settings = record { workers = 1; budget = 1000000; scales = true };
      number = 0;
    })
unfolding job_of_words number_of
bounds_of_strip = refl

bounds_of_proposed_strip : job_of_words (codes "strip" ∷ codes "--proposals=yes" ∷ codes "--bounds=yes" ∷ [])
    ≡ Some (record {
      job = BoundedStrip true;
      settings = record { workers = 1; budget = 1000000; scales = true };
      number = 0;
    })
unfolding job_of_words number_of
bounds_of_proposed_strip = refl

bounds_declined_by_strip : job_of_words (codes "strip" ∷ codes "--bounds=no" ∷ codes "--facts=yes" ∷ [])
    ≡ Some (record {
      job = ReducedStrip;
      settings = record { workers = 1; budget = 1000000; scales = true };
      number = 0;
    })
unfolding job_of_words number_of
bounds_declined_by_strip = refl

bounds_with_facts_of_strip : job_of_words (codes "strip" ∷ codes "--bounds=yes" ∷ codes "--facts=yes" ∷ []) ≡ None
unfolding job_of_words number_of
bounds_with_facts_of_strip = refl

bounds_of_fit : job_of_words (codes "fit" ∷ codes "--bounds" ∷ codes "no" ∷ []) ≡ None
unfolding job_of_words number_of
bounds_of_fit = refl

bounds_of_bins : job_of_words (codes "bins" ∷ codes "--bounds" ∷ codes "yes" ∷ []) ≡ None
unfolding job_of_words number_of
bounds_of_bins = refl

bounds_of_check : job_of_words (codes "check" ∷ codes "--bounds" ∷ codes "no" ∷ []) ≡ None
unfolding job_of_words number_of
bounds_of_check = refl

bounds_of_make : job_of_words (codes "make" ∷ codes "--bounds" ∷ codes "no" ∷ []) ≡ None
unfolding job_of_words number_of
bounds_of_make = refl
