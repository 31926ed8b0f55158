use Rattle.std.proofs.Common.{inr, sym}
use Rattle.model_solved.specs.Founding.{checked_tree}
use Rattle.model_value.specs.Plain.{PlainValue}
use Rattle.commands.specs.Verdict.{Coming, OfTraced, founded}
use Rattle.commands.specs.Work.{plain_source}
use Rattle.commands.proofs.PersistedLaws.{persisted_by_file, persisted_freely}
use Rattle.commands.proofs.tracing.record.Goals as goal

pub returns-in-Some-clause-leads : goal.returns-in-Some-clause-leads
returns-in-Some-clause-leads c verdict comes =
    let read = c.args.read in
    let next : PlainValue → Coming = λ v. OfTraced read.request read.text (plain_source read.source) (founded (checked_tree read.program) v) in
    inr (persisted_by_file read.request.persisted c.in-Some.persisted next verdict (sym c.in-Some.ensures.value) comes)

pub returns-in-None-clause-leads : goal.returns-in-None-clause-leads
returns-in-None-clause-leads c verdict comes =
    let read = c.args.read in
    let next : PlainValue → Coming = λ v. OfTraced read.request read.text (plain_source read.source) (founded (checked_tree read.program) v) in
    persisted_freely read.request.persisted next verdict (sym c.in-None.ensures.value) (c.found.ensures.leads verdict comes)
