use Rattle.std.proofs.Common.{◌≡◌, ◌≤◌, All, vec_len, vec_capacity}
use Rattle.host_server.specs.Rows.{HasGivenRow, IsFreshRow}
use Rattle.host_server.proofs.rooms.split_rows.Given as goal

abbrev pub invariant-loop-made : goal.invariant-loop-made
invariant-loop-made g l = record {
  rows : All (IsFreshRow l.initial.lead) l.rows.items;
  count : vec_len l.rows ≡ l._made;
  lead : HasGivenRow l._made l.initial.lead l.lead;
  room : l.fn.count ≤ vec_capacity l.rows;
}
