use Rattle.std.proofs.Common.{◌∙◌}
use Rattle.connection.proofs.Talking.{spelled_sends}
use Rattle.connection.proofs.sending.send.Goals as goal

pub returns-clause-sent : goal.returns-clause-sent
returns-clause-sent g c = spelled_sends c.send.result _ _ _ c.args.frame.now (c.bytes-2.ensures ∙ c.in-Ok.ensures) (c.requires, c.typed_server.ensures) c.send.ensures.sent
