use Rattle.resend_table.proofs.Readings.{last_told}
use Rattle.resend_table.proofs.table.Resend.last.Goals as goal

pub returns-clause-bound : goal.returns-clause-bound
returns-clause-bound c = last_told c.args.self.now c.args.view c.stand.result c.stand.ensures
