use Rattle.std.proofs.Common.{arith}
use Rattle.view_shell.proofs.lines.snap_frame.Goals as goal

pub returns-in-Ok-clause-fits : goal.returns-in-Ok-clause-fits
returns-in-Ok-clause-fits c = (c.time.ensures.timely, omega (arith, c.in-Ok.ensures.4))
