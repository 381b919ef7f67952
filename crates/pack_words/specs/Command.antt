-- The command line, as `clap` sees it: seven options that take a value each, and one required job
-- word.
use Rattle.std.specs.Prelude.{Some, codes, true}
use Rattle.clap.specs.Walk.{Rule, Text}
use Rattle.clap.specs.Simple.{App, new_app, new_rule, with_rule, on_top}
use Rattle.clap.specs.declared.builder.action.ArgAction.TheVariants.{Set}

abbrev pub option_rule : Text → Rule
option_rule name = record (new_rule name) { long = Some name; action = Some Set }

abbrev pub job_rule : Rule
job_rule = record (new_rule (codes "job")) { required = true; action = Some Set }

abbrev pub bare_app : App
bare_app = on_top (λ s. record s { no_binary_name = true; disable_help_flag = true }) (new_app (codes "pack"))

abbrev pub pack_app : App
pack_app = with_rule (with_rule (with_rule (with_rule (with_rule (with_rule (with_rule (with_rule bare_app
    (option_rule (codes "workers"))) (option_rule (codes "budget")))
    (option_rule (codes "scales"))) (option_rule (codes "number"))) (option_rule (codes "proposals")))
    (option_rule (codes "facts"))) (option_rule (codes "bounds"))) job_rule
