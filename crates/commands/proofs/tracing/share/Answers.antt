use Rattle.commands.proofs.tracing.share.Goals as goal

pub returns-clause-leads : goal.returns-clause-leads
returns-clause-leads c verdict comes = rw c.in-Ok.ensures.ok at (c.answer.ensures.leads verdict comes)
