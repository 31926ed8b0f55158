use Rattle.std.proofs.Common.{Ok, Err}
use Rattle.tea_io.specs.declared.link.LinkFault.TheVariants as fault
use Rattle.connection.proofs.Talking.{sends_last, sent_as}
use Rattle.connection.proofs.sending.tell_last.Goals as goal

pub returns-in-Ok : goal.returns-in-Ok
returns-in-Ok g c pass =
    sends_last _ _ (Ok tt) c.args.frame.now c.args.ended _ pass _ _ (record { sent = c.in-Ok.ensures.sent; heard = c.send.ensures.heard; later = c.send.ensures.later; cause = c.in-Ok.ensures.cause })

pub returns-in-Err-Failed : goal.returns-in-Err-Failed
returns-in-Err-Failed g c pass =
    sends_last _ _ (Err fault.Failed) c.args.frame.now c.args.ended _ pass _ _
    (sent_as _ _ c.args.frame.now c.in-Err-Failed.field-0 fault.Failed c.in-Err-Failed.field-0-is (record { sent = c.in-Err-Failed.ensures.sent; heard = c.send.ensures.heard; later = c.send.ensures.later; cause = c.in-Err-Failed.ensures.cause }))

pub returns-in-Err-WantOfMemory : goal.returns-in-Err-WantOfMemory
returns-in-Err-WantOfMemory g c pass =
    sends_last _ _ (Err fault.WantOfMemory) c.args.frame.now c.args.ended _ pass _ _
    (sent_as _ _ c.args.frame.now c.in-Err-WantOfMemory.field-0 fault.WantOfMemory c.in-Err-WantOfMemory.field-0-is (record { sent = c.in-Err-WantOfMemory.ensures.sent; heard = c.send.ensures.heard; later = c.send.ensures.later; cause = c.in-Err-WantOfMemory.ensures.cause }))
