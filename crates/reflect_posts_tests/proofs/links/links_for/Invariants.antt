use Rattle.std.specs.Prelude.{All}
use Rattle.tea_io.specs.MemNet.{HasNoCounts}
use Rattle.reflect_posts_tests.proofs.links.links_for.Given as goal

-- no call was made of any link
abbrev pub invariant-loop-turn : goal.invariant-loop-turn
invariant-loop-turn l = All HasNoCounts l.links
