use Rattle.drill.proofs.Asks.{told_asked, told_worker}
use Rattle.drill.proofs.worker.Worker.ask.Goals as goal

pub returns-clause-worker : goal.returns-clause-worker
returns-clause-worker g c = told_worker _ _ _ _ _ _ c.call.result c.requires.worker c.requires.asked c.call.ensures.kept c.call.ensures.call c.call.ensures.sound

pub returns-clause-asked : goal.returns-clause-asked
returns-clause-asked g c = told_asked _ _ _ _ _ _ c.call.result c.requires.worker c.call.ensures.call c.call.ensures.sound
