use Rattle.std.proofs.Common.{arith}
use Rattle.session_journal.specs.Reading.{read_place}
use Rattle.command_reflect.proofs.keeping.read_kept.Goals as goal

pub going_on-requires : goal.going_on-requires
going_on-requires c =
    c.what_is_read_may_be_opened.ensures c.args.keeping.now.id.0 c.args.bytes.now (λ i. omega (arith, c.type_inv.bytes i)) (read_place c.in_ok-read.read) c.in_ok-read.ensures.read
