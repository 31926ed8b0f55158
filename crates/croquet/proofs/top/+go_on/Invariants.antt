use Rattle.commands.specs.Work.{reads_left}
use Rattle.croquet.proofs.top.+go_on.Given as goal

-- how many files are still read at most
abbrev pub decreases-go_on : goal.decreases-go_on
decreases-go_on g l = reads_left l.next
