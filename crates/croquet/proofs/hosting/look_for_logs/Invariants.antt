use Rattle.std.proofs.Common.{drop}
use Rattle.command_host.specs.Hosting.{log_names}
use Rattle.commands.specs.Verdict.{look_steps}
use Rattle.run_steps.specs.Outside.{files_tell, output_tells}
use Rattle.croquet.proofs.Acts.{LeadsOn}
use Rattle.croquet.proofs.hosting.look_for_logs.Given as goal

-- what comes of the looks that are left comes of all
abbrev pub invariant-loop-place : goal.invariant-loop-place
invariant-loop-place g l =
    LeadsOn (files_tell g.F.Files) (output_tells g.W.Sink)
    (look_steps (log_names (drop l.place-index l.logs))) l.files l.out (look_steps (log_names l.logs)) l.fn.files l.fn.out
