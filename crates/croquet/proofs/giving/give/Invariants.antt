use Rattle.std.proofs.Common.{drop}
use Rattle.command_outcome.specs.Outcome.{steps_of}
use Rattle.run_steps.specs.Outside.{files_tell, output_tells}
use Rattle.croquet.proofs.Acts.{LeadsOn}
use Rattle.croquet.proofs.giving.give.Given as goal

-- what comes of the files that are left, and of the text, comes of all
abbrev pub invariant-loop-put : goal.invariant-loop-put
invariant-loop-put g l =
    LeadsOn (files_tell g.F.Files) (output_tells g.W.Sink)
    (steps_of (drop l.put-index l.put-items) l.outcome.text) l.files l.out (steps_of l.put-items l.outcome.text) l.fn.files l.fn.out
