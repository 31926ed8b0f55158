use Rattle.std.proofs.Common.{map}
use Rattle.world_plain.specs.World.{world_record}
use Rattle.time_line.proofs.LineLaws.{KeepsOn}
use Rattle.time_line.proofs.frames.frames_counted.Given as goal

-- the frames so far, and the world of the last of them
abbrev pub invariant-loop-k : goal.invariant-loop-k
invariant-loop-k g l = KeepsOn l.fn.world l.log.entries l.every l.k (map world_record l.frames.items) l.world
