use Rattle.std.proofs.Common.{◌≡◌}
use Rattle.session_lock.specs.History.{Saw}
use Rattle.session_lock.specs.Steps.{HopesAt, Rests}
use Rattle.session_lock.proofs.lock.SharedSession.reach.Given as goal

-- the pass waits still, and has seen more
abbrev pub invariant-loop : goal.invariant-loop
invariant-loop g l = record {
  table : l.seat.table_id ≡ l.initial.seat.table_id;
  rests : Rests l.seat.me;
  hopes : HopesAt l.seat.me.0 l.place;
  same : l.seat.me.0 ≡ record l.initial.seat.me.0 { seen = l.seat.me.0.seen };
  saw : Saw l.initial.seat.me.0.callers l.initial.seat.me.0.seen l.seat.me.0.seen;
}
