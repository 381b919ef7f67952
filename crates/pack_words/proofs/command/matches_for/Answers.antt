use Rattle.std.proofs.Common.{◌≡◌, ◌∙◌, refl, ap, subst, map, string_bytes, true, IfOk}
use Rattle.std.proofs.lemmas.Result.{IfOk-weaker}
use Rattle.clap.specs.Faults.{fault_of, is_simple_and_free}
use Rattle.clap.specs.Kinds.{FailsBy}
use Rattle.clap.specs.Simple.{App, HasMatchesOf, is_simple}
use Rattle.pack_words.specs.Command.{pack_app}
use Rattle.pack_words.proofs.command.matches_for.Goals as goal

simple : is_simple pack_app ≡ true
simple = refl

free : is_simple_and_free pack_app ≡ true
free = refl

pub returns-clause-fails : goal.returns-clause-fails
returns-clause-fails c =
    subst (λ (a : App). FailsBy (fault_of a (map string_bytes c.args.words.now)) c.try_get_matches_from.result)
    c.in_ok-pack_command.ensures
    (c.try_get_matches_from.ensures.kinds (ap is_simple_and_free c.in_ok-pack_command.ensures ∙ free))

pub returns-clause-rows : goal.returns-clause-rows
returns-clause-rows c =
    IfOk-weaker c.try_get_matches_from.result _ _
    (λ m h. (h simple).0)
    (subst (λ (a : App). IfOk c.try_get_matches_from.result (HasMatchesOf a (map string_bytes c.args.words.now)))
    c.in_ok-pack_command.ensures
    c.try_get_matches_from.ensures.matches)
