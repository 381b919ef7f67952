-- What the answer of `reduced` says.
use Rattle.std.proofs.Common.{ℕ, ◌≡◌, ◌≤◌, ◌<◌, inl, inr, Bool, true, false, refl, ltb, if◌then◌else◌, List, sym, subst}
use Rattle.std.proofs.lemmas.Bool.{ltb-true, ltb-false}
use Rattle.std.specs.declared.option.Option.{Option}
use Rattle.packing_terms.specs.Packing.{PlainInstance}
use Rattle.packing_terms.specs.Limits.{IsInstance, IsInternalInstance}
use Rattle.packing_terms.proofs.Internal.{written_internal, internal_sides, some_dimension}
use Rattle.packing_terms.proofs.Refuted.{refutes_sound}
use Rattle.packing_terms.proofs.Excess.{excess_law}
use Rattle.packing_terms.specs.Facts.{symmetry_facts}
use Rattle.packing_terms.proofs.SymmetryMembers.{facts_at_edges}
use Rattle.packing_terms.proofs.Respected.{some_packing_respects}
use Rattle.tree_terms.specs.Trees.{Verdict, Yes, No, Decided, Past, outcome, count_of}
use Rattle.tree_terms.specs.ClassTree.{class_tree}
use Rattle.tree_terms.specs.Search.{IsRightUnder}
use Rattle.tree_terms.proofs.Decisions.{class_tree_right}
use Rattle.answer_terms.specs.declared.job.DocumentJob.TheVariants.{Reduced as Reduces}
use Rattle.answer_terms.specs.declared.job.ReducedJob.TheVariants.{Fit as FromFit}
use Rattle.answer_terms.specs.Answers.{status_of}
use Rattle.answer_terms.specs.Reduced.{reduced_solved, reduced_text}
use Rattle.answer_terms.specs.Solved.{fit_answer}
use Rattle.pack_streams.specs.Moves.{Appended}
use Rattle.text_terms.specs.declared.settings.Settings.{Settings}
use Rattle.pack_command.specs.Answered.{answer_for}
use Rattle.pack_command.specs.Reductions.{reduced_branchings, IsReducedDecided}

-- the answer of `reduced` is yes with a packing, no with a refutation under the facts, or undecided
pub reduced_decided : (settings : Settings) (instance : PlainInstance) → IsInstance instance
    → (old new : Option (List ℕ))
    → Appended old new (answer_for (Reduces FromFit) settings instance).text
    → IsReducedDecided instance settings old new (answer_for (Reduces FromFit) settings instance).status
unfolding reduced_solved
reduced_decided settings instance limits old new gains =
    go (ltb settings.budget (reduced_branchings settings instance))
    (outcome (class_tree instance (symmetry_facts instance) settings.scales)) refl refl
    (class_tree_right instance internal (symmetry_facts instance)
    (facts_at_edges instance (some_dimension instance internal)) settings.scales) gains
  where
    internal : IsInternalInstance instance
    internal = written_internal instance limits

    go : (b : Bool) (v : Verdict) → b ≡ ltb settings.budget (count_of v)
        → v ≡ outcome (class_tree instance (symmetry_facts instance) settings.scales)
        → IsRightUnder instance (symmetry_facts instance) v
        → Appended old new (reduced_text instance (fit_answer (if b then Past else Decided v)))
        → IsReducedDecided instance settings old new (status_of (fit_answer (if b then Past else Decided v)))
    go true v e f r g =
        let l : settings.budget < count_of v = ltb-true settings.budget (count_of v) (sym e) in
        inr (inr (record { status_is = refl; past = subst (λ w. settings.budget < count_of w) f l; written = g }))
    go false (Yes ns c) e f r g =
        let l : c ≤ settings.budget = ltb-false settings.budget c (sym e) in
        inl (record {
          status_is = refl;
          places = ns;
          packing = r;
          within = subst (λ w. count_of w ≤ settings.budget) f l;
          written = g;
        })
    go false (No ts c) e f r g =
        let l : c ≤ settings.budget = ltb-false settings.budget c (sym e) in
        inr (inl (record {
          status_is = refl;
          none = (λ fits. (let k = some_packing_respects instance (internal_sides instance internal)
              (some_dimension instance internal) fits.0 fits.1 in
              refutes_sound excess_law instance (internal_sides instance internal) k.0 k.1 r k.2));
          tokens = ts;
          refutation = r;
          within = subst (λ w. count_of w ≤ settings.budget) f l;
          written = g;
        }))
