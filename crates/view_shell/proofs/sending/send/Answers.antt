use Rattle.std.proofs.Common.{inl, inr, refl}
use Rattle.run_steps.specs.Outside.{Failed, WantedMemory}
use Rattle.view_shell.specs.declared.ending.ViewEnd.TheVariants as ending
use Rattle.view_shell.proofs.Going.{handed_on, link_wants, sent_goes, sent_stops}
use Rattle.view_shell.proofs.sending.send.Goals as goal

pub returns-in_err-bytes-clause-talk : goal.returns-in_err-bytes-clause-talk
returns-in_err-bytes-clause-talk g c v frames task reads =
    rw (handed_on c.from_residual.result ending.WantOfMemory c.from_residual.ensures.1) (link_wants _ _ _ _ refl)

pub returns-in-Ok-clause-talk : goal.returns-in-Ok-clause-talk
returns-in-Ok-clause-talk g c v frames task reads =
    sent_goes _ v c.args.frame.now frames task _ _ (c.requires, c.typed_client.ensures) reads (rw (c.bytes-2.ensures, c.in_ok-bytes.ensures) at c.in-Ok.ensures)

pub returns-in-Err-Failed-clause-talk : goal.returns-in-Err-Failed-clause-talk
returns-in-Err-Failed-clause-talk g c v frames task reads =
    sent_stops _ v c.args.frame.now frames task _ _ Failed ending.NetFault refl (inl refl) (c.requires, c.typed_client.ensures) reads
    (rw (c.in-Err-Failed.field-0-is, c.bytes-2.ensures, c.in_ok-bytes.ensures) at c.in-Err-Failed.ensures)

pub returns-clause-talk : goal.returns-clause-talk
returns-clause-talk g c v frames task reads =
    sent_stops _ v c.args.frame.now frames task _ _ WantedMemory ending.WantOfMemory refl (inr refl) (c.requires, c.typed_client.ensures) reads
    (rw (c.in-Err-WantOfMemory.field-0-is, c.bytes-2.ensures, c.in_ok-bytes.ensures) at c.in-Err-WantOfMemory.ensures)
