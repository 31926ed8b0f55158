use Rattle.std.proofs.Common.{inl, refl, ap, Err, arith}
use Rattle.commands.specs.Work.{plain_keeping}
use Rattle.croquet.proofs.KeptRuns.{told_unread}
use Rattle.croquet.proofs.keeping.read_and_resume.Goals as goal

pub put_and_resume-requires : goal.put_and_resume-requires
put_and_resume-requires g c = record { bytes = c.args.bytes.now; tells = c.requires; are = λ i. omega (arith, c.type_inv.bytes i); from = c.in-Ok.ensures.read }

pub returns-in-Err : goal.returns-in-Err
returns-in-Err g c =
    inl (
      told_unread _ _ c.args.files.now c.args.out.now c.tell_unread-status.new.out c.tell_unread-status.result (plain_keeping c.args.keeping.now) c.args.bytes.now c.in-Err.fault
          (λ is. c.in-Err.ensures.none (ap Err is)) (λ is. c.in-Err.ensures.other (ap Err is)) c.tell_unread-status.ensures,
      refl,
    )
