use Rattle.std.proofs.Common.{◌≡◌, ℕ, ◌+◌, ◌-◌, length, vec_len, ap, ◌∙◌, refl, subst, arith, rules}
use Rattle.std.proofs.lemmas.List.{length_push}
use Rattle.run_steps.specs.Outside.{links_tell, net_tells}
use Rattle.host_server.specs.Claiming.{GathersClaims}
use Rattle.host_posts.specs.Shares.{share_tells}
use Rattle.host_server.proofs.ClaimLaws.{all_before, claim_gathers_more, claim_gathers_none}
use Rattle.host_posts.specs.Rounds.{PostsGo}
use Rattle.host_server.proofs.Around.{merged_of}
use Rattle.host_posts.proofs.RoundLaws.{pop_ended, posts_more, posts_none}
use Rattle.host_posts.proofs.running.gather_posts.Goals as goal

pub loop-one-init : goal.loop-one-init
loop-one-init g c =
    let empty : vec_len c.args.round.outcomes ≡ 0 = search rules in
    let none : vec_len c.args.ended - vec_len c.args.ended ≡ 0 = omega arith in
    record {
      within = omega arith;
      leads = c.requires.leads;
      claim = claim_gathers_none _ (vec_len c.args.ended - vec_len c.args.ended) c.args.round.lead.claim none;
      shared = refl;
      outcomes = omega (arith, empty);
      room = c.requires.room;
      rest = c.requires.ended;
      posts = λ ids all. posts_none _ _ ids _ _ _ _ _ c.args.round (vec_len c.args.ended - vec_len c.args.ended) c.requires.leads c.requires.kept c.requires.begins none;
    }

pub with_post-round-requires-clause-seats : goal.with_post-round-requires-clause-seats
with_post-round-requires-clause-seats g c κs within =
    let tells = net_tells {N = g.row.N.Denot} {L = g.row.N-Conn.Denot} g.N.Net in
    let shares = share_tells {S = g.row.N-Part.Denot} {L = g.row.N-Conn.Denot} g.N.Part.Share in
    let links = links_tell {L = g.row.N-Conn.Denot} g.N.Conn.Link in
    let service = c.args.service.now in
    let popped = pop_ended (g.C.Clock.gives service.host.now.clock.now) (g.T.Stop.may c.args.service.now.stop.now) service.host.now.ids.now service.host.now.on_demand tells shares links service.rooms.now c.args.round.net c.args.round.lead c.loop-one.ended.items c.pop.new.self.items c.in-Some.one c.in-Some.ensures.items c.loop-one.invariant.rest in
    popped.1.ran.seats

pub with_post-round-requires-clause-lead_claims : goal.with_post-round-requires-clause-lead_claims
with_post-round-requires-clause-lead_claims g c κs within = c.loop-one.invariant.claim.claims ∙ c.requires.claims

pub with_post-round-requires-clause-row_claims : goal.with_post-round-requires-clause-row_claims
with_post-round-requires-clause-row_claims g c κs within =
    let tells = net_tells {N = g.row.N.Denot} {L = g.row.N-Conn.Denot} g.N.Net in
    let shares = share_tells {S = g.row.N-Part.Denot} {L = g.row.N-Conn.Denot} g.N.Part.Share in
    let links = links_tell {L = g.row.N-Conn.Denot} g.N.Conn.Link in
    let service = c.args.service.now in
    let popped = pop_ended (g.C.Clock.gives service.host.now.clock.now) (g.T.Stop.may c.args.service.now.stop.now) service.host.now.ids.now service.host.now.on_demand tells shares links service.rooms.now c.args.round.net c.args.round.lead c.loop-one.ended.items c.pop.new.self.items c.in-Some.one c.in-Some.ensures.items c.loop-one.invariant.rest in
    popped.1.ran.claim.claims ∙ (popped.1.new.row.claim.claims ∙ c.requires.claims)

pub with_post-round-requires-clause-shared : goal.with_post-round-requires-clause-shared
with_post-round-requires-clause-shared g c κs within =
    let same = c.loop-one.invariant.shared in
    let enough = c.requires.shared in
    let inside = c.loop-one.invariant.within in
    let one = c.in-Some.ensures.len in
    omega (arith, same, enough, inside, one)

pub with_post-round-requires-clause-lent : goal.with_post-round-requires-clause-lent
with_post-round-requires-clause-lent g c κs within =
    let tells = net_tells {N = g.row.N.Denot} {L = g.row.N-Conn.Denot} g.N.Net in
    let shares = share_tells {S = g.row.N-Part.Denot} {L = g.row.N-Conn.Denot} g.N.Part.Share in
    let links = links_tell {L = g.row.N-Conn.Denot} g.N.Conn.Link in
    let service = c.args.service.now in
    let popped = pop_ended (g.C.Clock.gives service.host.now.clock.now) (g.T.Stop.may c.args.service.now.stop.now) service.host.now.ids.now service.host.now.on_demand tells shares links service.rooms.now c.args.round.net c.args.round.lead c.loop-one.ended.items c.pop.new.self.items c.in-Some.one c.in-Some.ensures.items c.loop-one.invariant.rest in
    popped.1.ran.lent ∙ popped.1.new.share.lent

pub with_post-round-requires-clause-room : goal.with_post-round-requires-clause-room
with_post-round-requires-clause-room g c κs within =
    let outcomes = c.loop-one.invariant.outcomes in
    let room = c.loop-one.invariant.room in
    let one = c.in-Some.ensures.len in
    omega (arith, outcomes, room, one)

pub loop-one-preserved : goal.loop-one-preserved
loop-one-preserved g c =
    let held = c.loop-one.invariant in
    let tells = net_tells {N = g.row.N.Denot} {L = g.row.N-Conn.Denot} g.N.Net in
    let shares = share_tells {S = g.row.N-Part.Denot} {L = g.row.N-Conn.Denot} g.N.Part.Share in
    let links = links_tell {L = g.row.N-Conn.Denot} g.N.Conn.Link in
    let service = c.args.service.now in
    let popped = pop_ended (g.C.Clock.gives service.host.now.clock.now) (g.T.Stop.may c.args.service.now.stop.now) service.host.now.ids.now service.host.now.on_demand tells shares links service.rooms.now c.args.round.net c.args.round.lead c.loop-one.ended.items c.pop.new.self.items c.in-Some.one c.in-Some.ensures.items held.rest in
    let last = c.with_post-round.ensures in
    let now = c.with_post-round.result in
    let within = held.within in
    let one = c.in-Some.ensures.len in
    let shared = held.shared in
    let back = last.shared in
    let outcomes = held.outcomes in
    let room = held.room in
    let same = last.room in
    let longer = ap length last.outcomes ∙ length_push c.loop-one.round.outcomes.items _ in
    let before : vec_len c.loop-one.round.outcomes ≡ length c.loop-one.round.outcomes.items = search rules in
    let after : vec_len now.outcomes ≡ length now.outcomes.items = search rules in
    let count = vec_len c.args.ended - vec_len c.loop-one.ended in
    let more : vec_len c.args.ended - vec_len c.pop.new.self ≡ count + 1 = omega (arith, within, one) in
    record {
      within = omega (arith, within, one);
      leads = merged_of _ c.loop-one.round.lead.seats.items c.in-Some.one.post.row.seats.items now.lead.seats.items held.leads last.merged;
      claim = claim_gathers_more _ count (vec_len c.args.ended - vec_len c.pop.new.self) c.args.round.lead.claim popped.1.start.row.claim c.in-Some.one.post.row.claim c.loop-one.round.lead.claim now.lead.claim
          more popped.1.new.row.claim popped.1.ran.claim held.claim last.claim;
      shared = omega (arith, shared, back, one);
      outcomes = omega (arith, outcomes, longer, before, after, one);
      room = omega (arith, room, same);
      rest = popped.0;
      posts = λ ids all.
          posts_more _ _ ids _ _ _ _ _ c.args.round c.loop-one.round now popped.1.start c.in-Some.one.post c.in-Some.one.end count (vec_len c.args.ended - vec_len c.pop.new.self) more popped.1.new
          (popped.1.ran.runs ids (all_before _ _ c.in-Some.one.post.row.claim.seen now.lead.claim.seen ids last.claim.grows_other all))
          (held.posts ids (all_before _ _ c.loop-one.round.lead.claim.seen now.lead.claim.seen ids last.claim.grows all))
          last.merged last.claim last.net last.outcomes;
    }

pub returns-clause-claim : goal.returns-clause-claim
returns-clause-claim g c =
    let none : vec_len c.loop-one.ended ≡ 0 = search rules in
    let all : vec_len c.args.ended - vec_len c.loop-one.ended ≡ vec_len c.args.ended = omega (arith, none) in
    subst (λ (n : ℕ). GathersClaims c.args.service.now.host.now.on_demand n c.args.round.lead.claim c.loop-one.round.lead.claim) all c.loop-one.invariant.claim

pub returns-clause-shared : goal.returns-clause-shared
returns-clause-shared g c =
    let none : vec_len c.loop-one.ended ≡ 0 = search rules in
    let shared = c.loop-one.invariant.shared in
    omega (arith, none, shared)

pub returns-clause-posts : goal.returns-clause-posts
returns-clause-posts g c = λ ids all.
    let none : vec_len c.loop-one.ended ≡ 0 = search rules in
    let whole : vec_len c.args.ended - vec_len c.loop-one.ended ≡ vec_len c.args.ended = omega (arith, none) in
    let tells = net_tells {N = g.row.N.Denot} {L = g.row.N-Conn.Denot} g.N.Net in
    let shares = share_tells {S = g.row.N-Part.Denot} {L = g.row.N-Conn.Denot} g.N.Part.Share in
    let links = links_tell {L = g.row.N-Conn.Denot} g.N.Conn.Link in
    let service = c.args.service.now in
    subst
    (λ (n : ℕ). PostsGo (g.C.Clock.gives service.host.now.clock.now) (g.T.Stop.may c.args.service.now.stop.now) ids service.host.now.on_demand tells shares links service.rooms.now n c.args.round c.loop-one.round) whole (c.loop-one.invariant.posts ids all)
