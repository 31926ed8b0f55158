use Rattle.std.proofs.Common.{◌≤◌, ◌+◌, take}
use Rattle.resend_table.specs.Noted.{HasNoted, spare_of}
use Rattle.reflector_core.proofs.session.resuming.noted.Given as goal

-- the table noted the entries so far, and has room for the rest
abbrev pub invariant-loop-place : goal.invariant-loop-place
invariant-loop-place l = record {
  noted : HasNoted l.table (take l.place l.log.entries);
  room : l.len ≤ spare_of l.table + l.place;
}
