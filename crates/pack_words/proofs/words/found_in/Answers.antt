use Rattle.std.proofs.Common.{map, string_bytes, ◌∙◌, sym, ap, refl, codes, subst, false, true, ◌≡◌}
use denote.Enum.Bare.{sameb}
use Rattle.clap.specs.contracts.error.kind.ErrorKind.{the_type}
use Rattle.clap.specs.declared.error.kind.ErrorKind.TheVariants.{OutOfMemory}
use Rattle.clap.specs.Matches.{found_of}
use Rattle.clap.specs.Walk.{first_of}
use Rattle.clap.specs.Simple.{matches_of}
use Rattle.clap.specs.Faults.{fault_of}
use Rattle.clap.proofs.WalkLemmas.{first_value-rows}
use Rattle.pack_words.specs.Command.{pack_app}
use Rattle.pack_words.specs.Job.{job_of_texts}
use Rattle.pack_words.proofs.Walked.{ok_rows, none_said}
use Rattle.pack_words.proofs.Judged.{texts_same, job_of_rows, no_job_of_rows}
use Rattle.pack_words.proofs.words.found_in.Goals as goal

pub returns-in-Ok-clause-ok : goal.returns-in-Ok-clause-ok
returns-in-Ok-clause-ok c =
    let words = map string_bytes c.args.words.now in
    let rows = c.in-Ok.ensures.rows in
    let found = found_of c.in-Ok.matches in
    job_of_rows words (matches_of pack_app words) (ok_rows words c.in-Ok.ensures.fails)
    ∙ ap job_of_texts (sym (texts_same _ _ _ _ _ _ _ _ (matches_of pack_app words)
    (c.get_str.ensures ∙ (first_value-rows found (codes "job") ∙ ap (first_of (codes "job")) rows))
    (c.get_str-in-Ok.ensures ∙ (first_value-rows found (codes "workers") ∙ ap (first_of (codes "workers")) rows))
    (c.get_str-in-Ok-2.ensures ∙ (first_value-rows found (codes "budget") ∙ ap (first_of (codes "budget")) rows))
    (c.get_str-in-Ok-3.ensures ∙ (first_value-rows found (codes "scales") ∙ ap (first_of (codes "scales")) rows))
    (c.get_str-in-Ok-4.ensures ∙ (first_value-rows found (codes "number") ∙ ap (first_of (codes "number")) rows))
    (c.get_str-in-Ok-5.ensures ∙ (first_value-rows found (codes "proposals") ∙ ap (first_of (codes "proposals")) rows))
    (c.get_str-in-Ok-6.ensures ∙ (first_value-rows found (codes "facts") ∙ ap (first_of (codes "facts")) rows))
    (c.get_str-in-Ok-7.ensures ∙ (first_value-rows found (codes "bounds") ∙ ap (first_of (codes "bounds")) rows))))

pub returns-else-eq-clause-refused : goal.returns-else-eq-clause-refused
returns-else-eq-clause-refused c = λ _.
    let words = map string_bytes c.args.words.now in
    no_job_of_rows words (none_said words (fault_of pack_app words) c.in-Err.error refl c.in-Err.ensures.fails
    (λ memory. let h : false ≡ true = subst (λ k. false ≡ sameb the_type k OutOfMemory) (c.kind.ensures ∙ memory)
    c.if-eq.ensures in cc))
