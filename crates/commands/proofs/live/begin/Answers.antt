use Rattle.std.proofs.Common.{sym}
use Rattle.model_solved.specs.Founding.{checked_tree}
use Rattle.model_value.specs.Plain.{PlainValue}
use Rattle.commands.specs.Verdict.{ByLive, Coming, Only, at_once, founded, live_of}
use Rattle.commands.proofs.PersistedLaws.{persisted_by_file, persisted_without}
use Rattle.commands.proofs.live.begin.Goals as goal

pub returns-in-Some-clause-leads : goal.returns-in-Some-clause-leads
returns-in-Some-clause-leads c verdict comes =
    let read = c.args.read in
    let next : PlainValue → Coming = λ v. Only (at_once (ByLive (live_of read.request read.text (founded (checked_tree read.program) v)))) in
    persisted_by_file read.request.persisted c.in-Some.persisted next verdict (sym c.in-Some.ensures.value) comes

pub returns-in-None-clause-leads : goal.returns-in-None-clause-leads
returns-in-None-clause-leads c verdict comes =
    let read = c.args.read in
    let next : PlainValue → Coming = λ v. Only (at_once (ByLive (live_of read.request read.text (founded (checked_tree read.program) v)))) in
    persisted_without read.request.persisted next verdict (sym c.in-None.ensures.value) (c.take_part.ensures.leads verdict comes)
