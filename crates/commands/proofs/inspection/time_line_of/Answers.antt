use Rattle.commands.proofs.InspectLaws.{line_made}
use Rattle.commands.proofs.inspection.time_line_of.Goals as goal

pub returns : goal.returns
returns c = line_made c.args.recording c.args.every c.new-2.result (rw c.in-Ok.ensures.ok at c.new-2.ensures)
