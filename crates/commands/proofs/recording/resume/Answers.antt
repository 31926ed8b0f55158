use Rattle.std.proofs.Common.{inr, sym, subst, ◌∙◌}
use Rattle.model_solved.specs.Founding.{checked_tree}
use Rattle.world_plain.specs.World.{world_record}
use Rattle.commands.specs.Verdict.{Free, Only, Verdict}
use Rattle.commands.proofs.Agreement.{early_verdict, late_verdict}
use Rattle.commands.proofs.recording.resume.Goals as goal

pub returns-then-request-world-clause-leads : goal.returns-then-request-world-clause-leads
returns-then-request-world-clause-leads c verdict is =
    let early = early_verdict c.args.request (checked_tree c.args.recording.program) c.args.recording.log.entries (world_record c.args.world) c.if-request-world.true in
    inr (is ∙ sym early)

pub returns-clause-leads : goal.returns-clause-leads
returns-clause-leads c verdict comes =
    let late = late_verdict c.args.request (checked_tree c.args.recording.program) c.args.recording.log.entries (world_record c.args.world) c.if-request-world.false in
    subst (λ (last : Verdict). Free (Only last) verdict) (sym late) (c.finish.ensures.leads verdict comes)
