use Rattle.std.proofs.Common.{◌≡◌, ◌-◌, Some, length, slice_get, sym}
use Rattle.join_sync.proofs.Orders.{seq_of_last}
use Rattle.join_sync.proofs.frames.last_seq.Goals as goal

pub returns-in-Some : goal.returns-in-Some
returns-in-Some c =
    let here = c.as_slice.ensures in
    let at : slice_get c.args.entries.now (length c.args.entries.now - 1) ≡ Some c.in-Some.entry.now = rw here at (sym c.in-Some.ensures.value) in
    seq_of_last c.args.after c.args.entries.now c.in-Some.entry.now c.requires at
