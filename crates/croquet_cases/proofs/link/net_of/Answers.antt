use Rattle.std.proofs.lemmas.List.Elements.{All-push, All-same}
use Rattle.tea_io.specs.MemNet.{HasNoCounts}
use Rattle.croquet_cases.proofs.link.net_of.Goals as goal

-- the link behind the others is new too
pub loop-part-preserved : goal.loop-part-preserved
loop-part-preserved c =
    All-same HasNoCounts _ _ c.in_ok-push.ensures.ok (All-push HasNoCounts _ _ c.loop-part.invariant c.in_ok-read_link.ensures)
