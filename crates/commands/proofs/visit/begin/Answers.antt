use Rattle.std.proofs.Common.{sym}
use Rattle.model_solved.specs.Founding.{checked_tree}
use Rattle.model_value.specs.Plain.{PlainValue}
use Rattle.view_script.specs.PlainLine.{plain_lines}
use Rattle.commands.specs.Verdict.{ByVisit, Coming, Only, at_once, founded, visit_to}
use Rattle.commands.proofs.PersistedLaws.{persisted_by_file, persisted_without}
use Rattle.commands.proofs.visit.begin.Goals as goal

pub returns-in-Some-clause-leads : goal.returns-in-Some-clause-leads
returns-in-Some-clause-leads c verdict comes =
    let read = c.args.read in
    let next : PlainValue → Coming = λ v. Only (at_once (ByVisit (visit_to read.request read.text (plain_lines c.args.script) (founded (checked_tree read.program) v)))) in
    persisted_by_file read.request.persisted c.in-Some.persisted next verdict (sym c.in-Some.ensures.value) comes

pub returns-in-None-clause-leads : goal.returns-in-None-clause-leads
returns-in-None-clause-leads c verdict comes =
    let read = c.args.read in
    let next : PlainValue → Coming = λ v. Only (at_once (ByVisit (visit_to read.request read.text (plain_lines c.args.script) (founded (checked_tree read.program) v)))) in
    persisted_without read.request.persisted next verdict (sym c.in-None.ensures.value) (c.visit.ensures.leads verdict comes)
