use Rattle.std.proofs.Common.{◌≡◌, ◌≤◌, vec_len, vec_capacity}
use Rattle.host_server.specs.Prepares.{IsNew}
use Rattle.host_server.specs.Rows.{AtEach}
use Rattle.host_server.proofs.running.open_all.Given as goal

abbrev pub invariant-loop-made : goal.invariant-loop-made
invariant-loop-made l = record {
  passes : AtEach IsNew l.rooms.items l.leads.items;
  count : vec_len l.rooms ≡ l._made;
  as_many : vec_len l.leads ≡ l._made;
  room_for_rooms : l.fn.count ≤ vec_capacity l.rooms;
  room_for_leads : l.fn.count ≤ vec_capacity l.leads;
}
