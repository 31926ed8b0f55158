use Rattle.std.specs.Prelude.{All}
use Rattle.tea_io.specs.MemNet.{HasNoCounts}
use Rattle.croquet_cases.proofs.link.net_of.Given as goal

-- no call was made of any link
abbrev pub invariant-loop-part : goal.invariant-loop-part
invariant-loop-part l = All HasNoCounts l.links
