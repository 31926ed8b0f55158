use Rattle.std.proofs.Common.{ap}
use Rattle.model_solved.specs.Founding.{checked_tree, founding_of}
use Rattle.model_value.specs.View.{plain}
use Rattle.commands.specs.Verdict.{OfOwn, Only, founded, trace_verdict}
use Rattle.commands.specs.Work.{plain_named}
use Rattle.commands.proofs.PersistedLaws.{founded_so}
use Rattle.commands.proofs.tracing.found.Goals as goal

pub returns-clause-leads : goal.returns-clause-leads
returns-clause-leads c verdict comes =
    let read = c.args.read in
    founded_so (λ founding id. OfOwn (plain_named read.source.named) id (Only (trace_verdict founding id read.source.stored.log.entries read.request.from read.request.to))) read.request.name read.text c.session_id-id.result.0
    (founding_of c.with_persisted.result) (founded (checked_tree read.program) (plain c.args.persisted)) verdict
    (ap founding_of c.with_persisted.ensures) (rw c.bytes.ensures at c.session_id-id.ensures) (c.share_own.ensures.leads verdict comes)
