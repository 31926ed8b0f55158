use Rattle.std.proofs.Common.{arith}
use Rattle.live_view.proofs.machine.LiveView.taken.Goals as goal

pub returns-clause-count : goal.returns-clause-count
returns-clause-count c =
    let votes = c.votes_at-votes.ensures in
    let counted = c.requires.lines.counted in
    let queue = c.publishes.ensures in
    omega (arith, votes, counted, queue)

pub returns-clause-few : goal.returns-clause-few
returns-clause-few c =
    let votes = c.votes_at-votes.ensures in
    let counted = c.requires.lines.counted in
    let queue = c.publishes.ensures in
    let has = c.requires.lines.room in
    omega (arith, votes, counted, queue, has)
