use Rattle.std.proofs.Common.{ap, length, arith}
use Rattle.replica.proofs.Outboxes.{bytes_below}
use Rattle.replica.proofs.outbox.Outbox.push.Goals as goal

pub overflow_add-self : goal.overflow_add-self
overflow_add-self c = omega (arith, bytes_below c.self.inside.payloads.items c.self.inside.bytes c.self.invariant, c.requires.short, ap length c.bytes.ensures)
