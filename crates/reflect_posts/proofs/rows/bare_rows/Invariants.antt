use Rattle.std.proofs.Common.{◌≡◌, ◌≤◌, All, vec_len, vec_capacity}
use Rattle.host_server.specs.Claiming.{HasGivenClaims}
use Rattle.reflect_posts.specs.Prepares.{IsBareRow}
use Rattle.reflect_posts.proofs.rows.bare_rows.Given as goal

abbrev pub invariant-loop-made : goal.invariant-loop-made
invariant-loop-made g l = record {
  rows : All (IsBareRow l.initial.claim) l.rows.items;
  count : vec_len l.rows ≡ l._made;
  claim : HasGivenClaims l._made l.initial.claim l.claim;
  room : l.fn.count ≤ vec_capacity l.rows;
}
