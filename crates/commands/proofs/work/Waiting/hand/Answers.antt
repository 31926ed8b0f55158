use Rattle.commands.proofs.WaitLaws.{handed_on, refused_above, some_left}
use Rattle.commands.proofs.work.Waiting.hand.Goals as goal

pub returns-in-Some-clause-leads : goal.returns-in-Some-clause-leads
returns-in-Some-clause-leads c rest comes = rw c.in-Some.is (handed_on c.args.self c.in-Some.bytes c.take.result rest c.take.ensures.leads comes)

pub returns-in-None-clause-leads : goal.returns-in-None-clause-leads
returns-in-None-clause-leads c rest comes = rw c.in-None.is (refused_above c.args.self rest (rw c.refuse.ensures at comes))

pub returns-in-None-clause-bounded : goal.returns-in-None-clause-bounded
returns-in-None-clause-bounded c = rw c.refuse.ensures tt

pub returns-in-None-clause-fewer : goal.returns-in-None-clause-fewer
returns-in-None-clause-fewer c = rw c.refuse.ensures (some_left c.args.self)
