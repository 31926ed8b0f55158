use Rattle.reflect_server.proofs.OpeningLaws.{leave_did, leave_unkept, leave_void}
use Rattle.reflect_server.proofs.opening.leave_one.Goals as goal

pub returns-in-Ok-clause-left : goal.returns-in-Ok-clause-left
returns-in-Ok-clause-left g c = leave_did _ (g.C.Clock.gives c.args.clock.now) c.args.pass.now c.call_kept.new.pass c.args.one c.now.result c.in-Ok.field-0 c.now.ensures c.in-Ok.ensures.call

pub returns-in-Err-WantOfMemory-clause-left : goal.returns-in-Err-WantOfMemory-clause-left
returns-in-Err-WantOfMemory-clause-left g c =
    leave_void _ _ (g.C.Clock.gives c.args.clock.now) c.args.pass.now c.call_kept.new.pass c.args.one c.now.result c.in-Err-WantOfMemory.field-0 c.in-Err-WantOfMemory.field-0-is c.in-Err-WantOfMemory.ensures.call

pub returns-clause-unkept : goal.returns-clause-unkept
returns-clause-unkept g c = leave_unkept _ _ c.args.pass.now c.call_kept.new.pass c.args.one c.now.result c.in-Err-Unkept.field-0 c.in-Err-Unkept.field-0-is c.in-Err-Unkept.ensures.call
