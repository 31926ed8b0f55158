use Rattle.std.proofs.Common.{ap, ◌∙◌, slice_get}
use Rattle.message_queue.specs.Queue.{QueueRecord, least_of}
use Rattle.message_queue.proofs.Held.{least_held}
use Rattle.message_queue.proofs.queue.Queue.least.Goals as goal

pub returns-clause-least : goal.returns-clause-least
returns-clause-least g c =
    least_held c.self.inside.messages.items c.in_ok-first.first.now c.self.inside.next c.self.inside.weight c.self.invariant (c.in_ok-first.ensures.value ∙ ap (λ l. slice_get l 0) c.deref.ensures.value)
    ∙ ap (λ (q : QueueRecord). least_of q.messages) c.self.view_is
