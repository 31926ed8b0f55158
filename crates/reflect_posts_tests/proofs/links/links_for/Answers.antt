use Rattle.std.proofs.lemmas.List.Elements.{All-push, All-same}
use Rattle.tea_io.specs.MemNet.{HasNoCounts}
use Rattle.reflect_posts_tests.proofs.links.links_for.Goals as goal

-- the link behind the others is new too
pub loop-turn-preserved : goal.loop-turn-preserved
loop-turn-preserved c =
    All-same HasNoCounts _ _ c.in_ok-push.ensures.ok (All-push HasNoCounts _ _ c.loop-turn.invariant c.in_ok-link_of.ensures)
