use Rattle.std.proofs.Common.{inr, sym}
use Rattle.model_value.specs.Plain.{PlainValue}
use Rattle.commands.specs.Verdict.{Coming, OfServed, session_id_of}
use Rattle.commands.proofs.PersistedLaws.{persisted_by_file, persisted_freely}
use Rattle.commands.proofs.reflection.begin.Goals as goal

pub returns-in-Some-clause-leads : goal.returns-in-Some-clause-leads
returns-in-Some-clause-leads c verdict comes =
    let next : PlainValue → Coming = λ v. OfServed c.args.request (session_id_of c.args.request.name c.args.text v) in
    inr (persisted_by_file c.args.request.persisted c.in-Some.persisted next verdict (sym c.in-Some.ensures.value) comes)

pub returns-in-None-clause-leads : goal.returns-in-None-clause-leads
returns-in-None-clause-leads c verdict comes =
    let next : PlainValue → Coming = λ v. OfServed c.args.request (session_id_of c.args.request.name c.args.text v) in
    persisted_freely c.args.request.persisted next verdict (sym c.in-None.ensures.value) (c.found.ensures.leads verdict comes)
