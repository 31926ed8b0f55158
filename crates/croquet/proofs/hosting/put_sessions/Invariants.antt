use Rattle.std.proofs.Common.{drop}
use Rattle.command_host.specs.Hosting.{log_names, session_puts}
use Rattle.commands.specs.Verdict.{put_steps}
use Rattle.run_steps.specs.Outside.{files_tell, output_tells}
use Rattle.croquet.proofs.Acts.{LeadsOn}
use Rattle.croquet.proofs.hosting.put_sessions.Given as goal

-- what comes of the sessions that are left comes of all
abbrev pub invariant-loop-session : goal.invariant-loop-session
invariant-loop-session g l =
    LeadsOn (files_tell g.F.Files) (output_tells g.W.Sink)
    (put_steps (session_puts (log_names l.logs.items) (drop l.session-index l.sessions))) l.files l.out
    (put_steps (session_puts (log_names l.fn.logs.items) l.sessions)) l.fn.files l.fn.out
