use Rattle.std.proofs.Common.{◌≡◌, ◌≤◌}
use Rattle.run_steps.specs.Outside.{links_tell}
use Rattle.host_server.specs.Claiming.{GathersClaims, InTheEnd}
use Rattle.host_server.specs.Rows.{AtEach, IsOf}
use Rattle.host_posts.specs.Passes.{HaveSpare}
use Rattle.host_posts.specs.Rounds.{PostGoes}
use Rattle.host_posts.specs.Shares.{share_tells}
use Rattle.host_posts.proofs.running.run_post.Given as goal

abbrev pub invariant-loop-turn : goal.invariant-loop-turn
invariant-loop-turn g l = record {
  seats : AtEach IsOf l.host.rooms.now l.post.row.seats.items;
  claim : GathersClaims l.host.host.now.on_demand 0 l.fn.post.row.claim l.post.row.claim;
  spare : HaveSpare l.turn l.post.row.seats.items;
  lent : g.S.Share.lent l.post.share ≡ g.S.Share.lent l.fn.post.share;
  faults : g.S.Share.faults l.post.share ≡ g.S.Share.faults l.fn.post.share;
  goes :
      InTheEnd l.host.host.now.on_demand l.host.host.now.ids.now l.post.row.claim.seen
      (λ ids. PostGoes (g.C.Clock.gives l.host.host.now.clock.now) ids l.host.host.now.on_demand (share_tells g.S.Share) (links_tell g.S.Conn.Link) l.host.rooms.now l.turn l.fn.post l.post);
}
