use Rattle.std.proofs.Common.{sym}
use Rattle.session_log.specs.Stored.{plain_stored}
use Rattle.commands.specs.Work.{plain_keeping}
use Rattle.commands.proofs.OpeningLaws.{founded_by_file, founded_first}
use Rattle.commands.proofs.reflection.found_journal.Goals as goal

pub returns-in-Some-clause-leads : goal.returns-in-Some-clause-leads
returns-in-Some-clause-leads c verdict comes =
    founded_by_file c.args.keeping.from c.in-Some.from (plain_keeping c.args.keeping) verdict (sym c.in-Some.ensures.value) comes

pub returns-in-None-clause-leads : goal.returns-in-None-clause-leads
returns-in-None-clause-leads c verdict comes =
    founded_first c.args.keeping.from (plain_stored c.first_stored.result) (plain_keeping c.args.keeping) verdict (sym c.in-None.ensures.value) c.first_stored.ensures (c.found_with.ensures.leads verdict comes)
