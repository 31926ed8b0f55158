use Rattle.reflect_server.proofs.opening.LaterClockClock.now.Goals as goal

pub returns : goal.returns
returns g c = (c.now.result, c.now.ensures, c.saturating_add.ensures)
