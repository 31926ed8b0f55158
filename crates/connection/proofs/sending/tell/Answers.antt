use Rattle.std.proofs.Common.{Ok, Err}
use Rattle.tea_io.specs.declared.link.LinkFault.TheVariants as fault
use Rattle.connection.proofs.Talking.{sends_on, sent_as, talks_to}
use Rattle.connection.proofs.sending.tell.Goals as goal

pub returns-in-Ok : goal.returns-in-Ok
returns-in-Ok g c pass rest next =
    sends_on _ _ (Ok tt) c.args.frame.now rest next _ _ pass _ _ (record { sent = c.in-Ok.ensures.sent; heard = c.send.ensures.heard; later = c.send.ensures.later; cause = c.in-Ok.ensures.cause })

pub returns-in-Err-Failed : goal.returns-in-Err-Failed
returns-in-Err-Failed g c pass rest next =
    talks_to _ _ _ _ _ _ _ c.leave_at.ensures
    (sends_on _ _ (Err fault.Failed) c.args.frame.now rest next _ _ pass _ _
    (sent_as _ _ c.args.frame.now c.in-Err-Failed.field-0 fault.Failed c.in-Err-Failed.field-0-is (record { sent = c.in-Err-Failed.ensures.sent; heard = c.send.ensures.heard; later = c.send.ensures.later; cause = c.in-Err-Failed.ensures.cause })))

pub returns-in-Err-WantOfMemory : goal.returns-in-Err-WantOfMemory
returns-in-Err-WantOfMemory g c pass rest next =
    talks_to _ _ _ _ _ _ _ c.leave_at-in-Err-WantOfMemory.ensures
    (sends_on _ _ (Err fault.WantOfMemory) c.args.frame.now rest next _ _ pass _ _
    (sent_as _ _ c.args.frame.now c.in-Err-WantOfMemory.field-0 fault.WantOfMemory c.in-Err-WantOfMemory.field-0-is (record { sent = c.in-Err-WantOfMemory.ensures.sent; heard = c.send.ensures.heard; later = c.send.ensures.later; cause = c.in-Err-WantOfMemory.ensures.cause })))
