use Rattle.pack_command.proofs.FrontAnswering.{found_placed}
use Rattle.pack_command.proofs.front_job.found.Goals as goal

pub returns-clause-placed : goal.returns-clause-placed
returns-clause-placed g c = found_placed c.args.instance.now c.args.settings.now c.requires.limits c.requires.plane _
    c.least_sizes.ensures.walk
