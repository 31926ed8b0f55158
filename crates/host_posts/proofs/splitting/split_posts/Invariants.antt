use Rattle.std.proofs.Common.{◌≡◌, ◌≤◌, All, vec_len, vec_capacity}
use Rattle.host_posts.specs.Passes.{HasGivenPosts, IsPostRow}
use Rattle.host_posts.proofs.splitting.split_posts.Given as goal

abbrev pub invariant-loop-made : goal.invariant-loop-made
invariant-loop-made g l = record {
  rows : All (IsPostRow l.initial.lead) l.rows.items;
  count : vec_len l.rows ≡ l._made;
  lead : HasGivenPosts l._made l.initial.lead l.lead;
  room : l.fn.count ≤ vec_capacity l.rows;
}
