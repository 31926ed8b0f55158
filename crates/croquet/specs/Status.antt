-- The numbers of the exit statuses.
use Rattle.std.specs.Prelude.{ℕ}
use Rattle.croquet.specs.declared.status.Status.{Status}
use Rattle.croquet.specs.declared.status.Status.TheVariants.{Ok, Usage, Program, Input, ReadFault, WriteFault, NetFault, Refused, WantOfMemory, Ended, Peer}

abbrev pub number_of : Status → ℕ
number_of Ok = 0
number_of Usage = 1
number_of Program = 2
number_of Input = 3
number_of ReadFault = 4
number_of WriteFault = 5
number_of NetFault = 6
number_of Refused = 7
number_of WantOfMemory = 8
number_of Ended = 9
number_of Peer = 10
