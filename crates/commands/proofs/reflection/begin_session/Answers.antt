use Rattle.std.proofs.Common.{inr, sym}
use Rattle.commands.specs.Verdict.{OfReflected}
use Rattle.commands.proofs.OpeningLaws.{opened_by_file, reflected_first}
use Rattle.commands.proofs.reflection.begin_session.Goals as goal

pub returns-in-Some-clause-leads : goal.returns-in-Some-clause-leads
returns-in-Some-clause-leads c verdict comes =
    inr (opened_by_file c.args.request.from c.in-Some.from (OfReflected c.args.request c.args.id.0) verdict (sym c.in-Some.ensures.value) comes)

pub returns-in-None-clause-leads : goal.returns-in-None-clause-leads
returns-in-None-clause-leads c verdict comes =
    reflected_first c.args.request c.args.id.0 c.new.result.plain verdict (sym c.in-None.ensures.value) c.new.ensures (c.reflect.ensures.leads verdict comes)
