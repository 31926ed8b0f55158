use Rattle.std.proofs.Common.{drop}
use Rattle.run_steps.specs.Outside.{links_tell}
use Rattle.live_shell.proofs.Sendings.{SentSoFar}
use Rattle.live_shell.proofs.calls.send_frames.Given as goal

-- the frames so far were sent
abbrev pub invariant-loop-frame : goal.invariant-loop-frame
invariant-loop-frame g l = SentSoFar (links_tell g.L.Link) l.frames (drop l.frame-index l.frames) l.fn.link l.link
