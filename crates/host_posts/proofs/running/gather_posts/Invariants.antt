use Rattle.std.proofs.Common.{◌≡◌, ◌+◌, ◌-◌, ◌≤◌, All, vec_len, vec_capacity}
use Rattle.run_steps.specs.Outside.{links_tell, net_tells}
use Rattle.host_server.specs.Claiming.{GathersClaims, InTheEnd}
use Rattle.host_server.specs.Rows.{AtEach, IsOf}
use Rattle.host_posts.specs.Rounds.{HasEnded, PostsGo}
use Rattle.host_posts.specs.Shares.{share_tells}
use Rattle.host_posts.proofs.running.gather_posts.Given as goal

abbrev pub invariant-loop-one : goal.invariant-loop-one
invariant-loop-one g l = record {
  within : vec_len l.ended ≤ vec_len l.fn.ended;
  leads : AtEach IsOf l.service.rooms.now l.round.lead.seats.items;
  claim : GathersClaims l.service.host.now.on_demand (vec_len l.fn.ended - vec_len l.ended) l.fn.round.lead.claim l.round.lead.claim;
  shared : g.N.SharedNet.shared l.round.net + vec_len l.fn.ended ≡ g.N.SharedNet.shared l.fn.round.net + vec_len l.ended;
  outcomes : vec_len l.round.outcomes + vec_len l.ended ≡ vec_len l.fn.ended;
  room : vec_len l.fn.ended ≤ vec_capacity l.round.outcomes;
  rest :
      All
      (λ one. HasEnded (g.C.Clock.gives l.service.host.now.clock.now) (g.T.Stop.may l.service.stop.now) l.service.host.now.ids.now l.service.host.now.on_demand
      (net_tells {N = g.row.N.Denot} {L = g.row.N-Conn.Denot} g.N.Net) (share_tells g.N.Part.Share) (links_tell {L = g.row.N-Conn.Denot} g.N.Conn.Link) l.service.rooms.now l.fn.round.net l.fn.round.lead one.post one.end)
      l.ended.items;
  posts :
      InTheEnd l.service.host.now.on_demand l.service.host.now.ids.now l.round.lead.claim.seen
      (λ ids. PostsGo (g.C.Clock.gives l.service.host.now.clock.now) (g.T.Stop.may l.service.stop.now) ids l.service.host.now.on_demand
      (net_tells {N = g.row.N.Denot} {L = g.row.N-Conn.Denot} g.N.Net) (share_tells g.N.Part.Share) (links_tell {L = g.row.N-Conn.Denot} g.N.Conn.Link) l.service.rooms.now (vec_len l.fn.ended - vec_len l.ended) l.fn.round l.round);
}

abbrev pub decreases-loop-one : goal.decreases-loop-one
decreases-loop-one g l = vec_len l.ended
