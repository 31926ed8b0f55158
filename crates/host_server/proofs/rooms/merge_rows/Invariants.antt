use Rattle.std.proofs.Common.{◌-◌, ◌≤◌, All, vec_len}
use Rattle.host_server.specs.Claiming.{HasKeptClaims}
use Rattle.host_server.specs.Rows.{AtEach, HasKept, IsFreshRow}
use Rattle.host_server.proofs.rooms.merge_rows.Given as goal

abbrev pub invariant-loop-row : goal.invariant-loop-row
invariant-loop-row g l = record {
  within : vec_len l.rows ≤ vec_len l.fn.rows;
  seats : AtEach (HasKept (vec_len l.fn.rows - vec_len l.rows)) l.initial.lead.seats.items l.lead.seats.items;
  claim : HasKeptClaims (vec_len l.fn.rows - vec_len l.rows) l.initial.lead.claim l.lead.claim;
  fresh : All (IsFreshRow l.initial.lead) l.rows.items;
}

abbrev pub decreases-loop-row : goal.decreases-loop-row
decreases-loop-row g l = vec_len l.rows
