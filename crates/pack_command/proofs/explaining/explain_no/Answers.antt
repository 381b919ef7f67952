use Rattle.std.proofs.Common.{◌∙◌, ap}
use Rattle.proof_tree.specs.Plain.{plain_tokens}
use Rattle.pack_command.proofs.ExplainedAs.{held_limits, held_explained}
use Rattle.pack_command.proofs.explaining.explain_no.Goals as goal

pub returns : goal.returns
returns c =
    let held = c.in_ok-held.ensures in
    record {
      is = held_explained c.args.bytes.now c.in_ok-held.held.instance (plain_tokens c.in_ok-held.held.tokens.items)
          c.in_ok-steps.steps c.requires held
          c.in_ok-steps.ensures.explains (c.in_ok-steps.ensures.tokens ∙ ap plain_tokens c.as_slice.ensures.value);
      ready = held_limits c.args.bytes.now c.in_ok-held.held.instance
          (plain_tokens c.in_ok-held.held.tokens.items) held;
    }
