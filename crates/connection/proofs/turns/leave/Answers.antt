use Rattle.connection.proofs.Talking.{asks_leave, made_so}
use Rattle.connection.proofs.turns.leave.Goals as goal

pub returns-clause-talk : goal.returns-clause-talk
returns-clause-talk g c ended link = asks_leave _ _ c.ask.result c.args.cursor.now c.now-now.result ended c.args.pass.now c.ask.new.pass link (made_so _ _ c.args.cursor.now c.now-now.result c.ask.result c.now-now.ensures c.ask.ensures.unkept) c.ask.ensures.asked c.ask.ensures.sees
