use Rattle.std.proofs.Common.{drop}
use Rattle.drill.proofs.FramesTaken.{LeadsOn}
use Rattle.drill.proofs.taking.take_all.Given as goal

-- what comes of the frames that are left comes of all
abbrev pub invariant-loop-frame : goal.invariant-loop-frame
invariant-loop-frame l = LeadsOn (drop l.frame-index l.frames) l.replica l.frames l.fn.replica
