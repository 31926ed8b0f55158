use Rattle.std.proofs.Common.{◌∙◌}
use Rattle.session_journal.proofs.HeadLaws.{moved}
use Rattle.session_journal.proofs.check.check_of.Goals as goal

pub returns-clause-check : goal.returns-clause-check
returns-clause-check c = c.digest_of.ensures ∙ moved c.args.before.now c.args.front.now c.args.rest.now
