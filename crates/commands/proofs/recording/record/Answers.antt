use Rattle.std.proofs.Common.{sym, subst}
use Rattle.model_value.specs.Plain.{PlainValue}
use Rattle.model_value.proofs.Plains.{plain-Nil}
use Rattle.model_solved.specs.Founding.{checked_tree}
use Rattle.commands.specs.Verdict.{Free, OfFounded, founded}
use Rattle.commands.specs.Work.{plain_source}
use Rattle.commands.proofs.PersistedLaws.{recorded_by_file, recorded_without, renamed}
use Rattle.commands.proofs.recording.record.Goals as goal

pub returns-in-Some-clause-leads : goal.returns-in-Some-clause-leads
returns-in-Some-clause-leads c verdict comes =
    let read = c.args.read in
    recorded_by_file read.request c.in-Some.persisted c.take.new.self read.text (checked_tree read.program) (plain_source read.source) verdict (sym c.in-Some.ensures.value) comes

pub returns-in-None-clause-leads : goal.returns-in-None-clause-leads
returns-in-None-clause-leads c verdict comes =
    let read = c.args.read in
    recorded_without read.request c.take.new.self read.text (checked_tree read.program) (plain_source read.source) verdict (sym c.in-None.ensures.value)
    (subst (λ (v : PlainValue). Free (OfFounded (renamed c.take.new.self read.request) read.text (plain_source read.source) (founded (checked_tree read.program) v)) verdict) plain-Nil (c.found.ensures.leads verdict comes))
