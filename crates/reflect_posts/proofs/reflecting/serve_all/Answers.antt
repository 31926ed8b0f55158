use Rattle.std.proofs.Common.{◌≡◌, ◌+◌, ◌*◌, ◌≤◌, List, [], ◌∷◌, ◌++◌, length, vec_len, sym, ap, ◌∙◌, subst, arith, rules}
use Rattle.run_steps.specs.Outside.{links_tell, net_tells}
use Rattle.session_lock.specs.Numbers.{count_of}
use Rattle.session_lock.specs.Passes.{PassState}
use Rattle.id_claims.specs.Passes.{PassState as ClaimState}
use Rattle.host_server.specs.Claiming.{IsBegunClaim}
use Rattle.host_server.specs.Rows.{AtEach, HasGiven, IsOf}
use Rattle.host_server.proofs.RowLaws.{given_of}
use Rattle.host_posts.specs.Posts.{post_numbers}
use Rattle.host_posts.specs.Shares.{share_tells}
use Rattle.host_posts.specs.declared.running.PostRound.{PostRound}
use Rattle.host_posts.proofs.RoundLaws.{ended_all, ready_all}
use Rattle.reflect_posts.proofs.Finals.{all_keep, enough_for, first_whole, served_when, whole_of}
use Rattle.reflect_posts.proofs.Ones.{all_one}
use Rattle.reflect_posts.proofs.reflecting.serve_all.Goals as goal

pub make_posts-posts-requires-clause-lead : goal.make_posts-posts-requires-clause-lead
make_posts-posts-requires-clause-lead g c κs within =
    let seats : c.push_reserved.new.self.items ≡ c.args.lead ∷ [] =
    c.push_reserved.ensures.items ∙ (ap (λ (l : List PassState). l ++ c.new.result ∷ []) c.requires.stock.no_lead ∙ ap (λ (p : PassState). p ∷ []) c.new.ensures) in
    subst (AtEach IsOf c.args.service.now.rooms.now) (sym seats) (whole_of c.args.service.now.rooms.now (c.args.lead ∷ []) c.requires.lead)

pub make_posts-posts-requires-clause-enough : goal.make_posts-posts-requires-clause-enough
make_posts-posts-requires-clause-enough g c κs within =
    let seats : c.push_reserved.new.self.items ≡ c.args.lead ∷ [] =
    c.push_reserved.ensures.items ∙ (ap (λ (l : List PassState). l ++ c.new.result ∷ []) c.requires.stock.no_lead ∙ ap (λ (p : PassState). p ∷ []) c.new.ensures) in
    let number = c.requires.stock.number in
    let few = c.requires.few in
    let rows : vec_len c.args.stock.rows ≤ 64 = omega (arith, number, few) in
    all_one (λ (p : PassState). vec_len c.args.stock.rows * post_numbers ≤ count_of p.spare) c.push_reserved.new.self.items c.args.lead seats
    (enough_for (vec_len c.args.stock.rows) c.args.lead rows (first_whole c.args.service.now.rooms.now c.args.lead c.requires.one c.requires.lead) c.requires.alone)

pub make_posts-posts-requires-clause-shares : goal.make_posts-posts-requires-clause-shares
make_posts-posts-requires-clause-shares g c κs within = sym c.requires.stock.number

pub make_posts-posts-requires-clause-rows : goal.make_posts-posts-requires-clause-rows
make_posts-posts-requires-clause-rows g c κs within = c.requires.stock.rows

pub make_posts-posts-requires-clause-room : goal.make_posts-posts-requires-clause-room
make_posts-posts-requires-clause-room g c κs within =
    let number = c.requires.stock.number in
    let room = c.requires.stock.room_for_posts in
    (c.requires.stock.none_posted, omega (arith, number, room))

pub run_posts-ended-requires-clause-rooms : goal.run_posts-ended-requires-clause-rooms
run_posts-ended-requires-clause-rooms g c κs within = c.requires.rooms

pub run_posts-ended-requires-clause-ready : goal.run_posts-ended-requires-clause-ready
run_posts-ended-requires-clause-ready g c κs within =
    let seats : c.push_reserved.new.self.items ≡ c.args.lead ∷ [] =
    c.push_reserved.ensures.items ∙ (ap (λ (l : List PassState). l ++ c.new.result ∷ []) c.requires.stock.no_lead ∙ ap (λ (p : PassState). p ∷ []) c.new.ensures) in
    let rooms = c.args.service.now.rooms.now in
    let made = c.make_posts-posts.ensures in
    let lead = c.make_posts-posts.new.lead in
    let of : AtEach IsOf rooms c.push_reserved.new.self.items = subst (AtEach IsOf rooms) (sym seats) (whole_of rooms (c.args.lead ∷ []) c.requires.lead) in
    ready_all (net_tells {N = g.row.N.Denot} {L = g.row.N-Conn.Denot} g.N.Net) (share_tells {S = g.row.N-Part.Denot} {L = g.row.N-Conn.Denot} g.N.Part.Share) rooms c.args.service.now.claims.now.claims c.args.net lead
    (given_of rooms (vec_len c.args.stock.rows * post_numbers) c.push_reserved.new.self.items lead.seats.items of made.lead)
    (ap (λ (p : ClaimState). p.claims) made.claim ∙ c.requires.stock.claim.claims) c.make_posts-posts.result.items (made.posts c.args.net c.requires.unused)

pub run_posts-ended-requires-clause-few : goal.run_posts-ended-requires-clause-few
run_posts-ended-requires-clause-few g c κs within =
    let made = c.make_posts-posts.ensures.number in let number = c.requires.stock.number in let few = c.requires.few in omega (arith, made, number, few)

pub run_posts-ended-requires-clause-room : goal.run_posts-ended-requires-clause-room
run_posts-ended-requires-clause-room g c κs within =
    let made = c.make_posts-posts.ensures.number in let number = c.requires.stock.number in let room = c.requires.stock.room_for_ended in omega (arith, made, number, room)

pub run_posts-ended-requires-clause-begins : goal.run_posts-ended-requires-clause-begins
run_posts-ended-requires-clause-begins g c κs within = c.requires.stock.none_ended

pub gather_posts-requires-clause-leads : goal.gather_posts-requires-clause-leads
gather_posts-requires-clause-leads g c κs within =
    let seats : c.push_reserved.new.self.items ≡ c.args.lead ∷ [] =
    c.push_reserved.ensures.items ∙ (ap (λ (l : List PassState). l ++ c.new.result ∷ []) c.requires.stock.no_lead ∙ ap (λ (p : PassState). p ∷ []) c.new.ensures) in
    let rooms = c.args.service.now.rooms.now in
    given_of rooms (vec_len c.args.stock.rows * post_numbers) c.push_reserved.new.self.items c.make_posts-posts.new.lead.seats.items
    (subst (AtEach IsOf rooms) (sym seats) (whole_of rooms (c.args.lead ∷ []) c.requires.lead)) c.make_posts-posts.ensures.lead

pub gather_posts-requires-clause-claims : goal.gather_posts-requires-clause-claims
gather_posts-requires-clause-claims g c κs within = ap (λ (p : ClaimState). p.claims) c.make_posts-posts.ensures.claim ∙ c.requires.stock.claim.claims

pub gather_posts-requires-clause-kept : goal.gather_posts-requires-clause-kept
gather_posts-requires-clause-kept g c κs within =
    let seats : c.push_reserved.new.self.items ≡ c.args.lead ∷ [] =
    c.push_reserved.ensures.items ∙ (ap (λ (l : List PassState). l ++ c.new.result ∷ []) c.requires.stock.no_lead ∙ ap (λ (p : PassState). p ∷ []) c.new.ensures) in
    all_keep (vec_len c.args.stock.rows * post_numbers) c.args.lead c.make_posts-posts.new.lead.seats.items
    (subst (λ (l : List PassState). AtEach (HasGiven (vec_len c.args.stock.rows * post_numbers)) l c.make_posts-posts.new.lead.seats.items) seats c.make_posts-posts.ensures.lead) c.requires.alone

pub gather_posts-requires-clause-ended : goal.gather_posts-requires-clause-ended
gather_posts-requires-clause-ended g c κs within =
    let service = c.args.service.now in
    ended_all (g.C.Clock.gives service.host.now.clock.now) (g.T.Stop.may service.stop.now) service.host.now.ids.now service.host.now.on_demand (net_tells {N = g.row.N.Denot} {L = g.row.N-Conn.Denot} g.N.Net) (share_tells {S = g.row.N-Part.Denot} {L = g.row.N-Conn.Denot} g.N.Part.Share)
    (links_tell {L = g.row.N-Conn.Denot} g.N.Conn.Link) service.rooms.now c.args.net c.make_posts-posts.new.lead c.make_posts-posts.result.items c.run_posts-ended.result.items (c.make_posts-posts.ensures.posts c.args.net c.requires.unused) c.run_posts-ended.ensures.ended

pub gather_posts-requires-clause-shared : goal.gather_posts-requires-clause-shared
gather_posts-requires-clause-shared g c κs within =
    let ran = c.run_posts-ended.ensures.ended.as_long in
    let before : vec_len c.make_posts-posts.result ≡ length c.make_posts-posts.result.items = search rules in
    let after : vec_len c.run_posts-ended.result ≡ length c.run_posts-ended.result.items = search rules in
    let made = c.make_posts-posts.ensures.number in
    let number = c.requires.stock.number in
    let shared = c.requires.shared in
    omega (arith, ran, before, after, made, number, shared)

pub gather_posts-requires-clause-room : goal.gather_posts-requires-clause-room
gather_posts-requires-clause-room g c κs within =
    let ran = c.run_posts-ended.ensures.ended.as_long in
    let before : vec_len c.make_posts-posts.result ≡ length c.make_posts-posts.result.items = search rules in
    let after : vec_len c.run_posts-ended.result ≡ length c.run_posts-ended.result.items = search rules in
    let made = c.make_posts-posts.ensures.number in
    let number = c.requires.stock.number in
    let room = c.requires.stock.room_for_outcomes in
    omega (arith, ran, before, after, made, number, room)

pub gather_posts-requires-clause-begins : goal.gather_posts-requires-clause-begins
gather_posts-requires-clause-begins g c κs within = c.requires.stock.none_told

pub returns-clause-shared : goal.returns-clause-shared
returns-clause-shared g c =
    let ran = c.run_posts-ended.ensures.ended.as_long in
    let before : vec_len c.make_posts-posts.result ≡ length c.make_posts-posts.result.items = search rules in
    let after : vec_len c.run_posts-ended.result ≡ length c.run_posts-ended.result.items = search rules in
    let made = c.make_posts-posts.ensures.number in
    let number = c.requires.stock.number in
    let shared = c.gather_posts.ensures.shared in
    omega (arith, ran, before, after, made, number, shared)

pub returns-clause-served : goal.returns-clause-served
returns-clause-served g c =
    let seats : c.push_reserved.new.self.items ≡ c.args.lead ∷ [] =
    c.push_reserved.ensures.items ∙ (ap (λ (l : List PassState). l ++ c.new.result ∷ []) c.requires.stock.no_lead ∙ ap (λ (p : PassState). p ∷ []) c.new.ensures) in
    let service = c.args.service.now in
    let tells = net_tells {N = g.row.N.Denot} {L = g.row.N-Conn.Denot} g.N.Net in
    let parts = share_tells {S = g.row.N-Part.Denot} {L = g.row.N-Conn.Denot} g.N.Part.Share in
    let links = links_tell {L = g.row.N-Conn.Denot} g.N.Conn.Link in
    let lead = c.make_posts-posts.new.lead in
    let start : PostRound g.row.N.Denot g.row.K.Denot = record { net = c.args.net; lead = lead; outcomes = c.args.stock.outcomes } in
    let ran = c.run_posts-ended.ensures.ended.as_long in
    let before : vec_len c.make_posts-posts.result ≡ length c.make_posts-posts.result.items = search rules in
    let after : vec_len c.run_posts-ended.result ≡ length c.run_posts-ended.result.items = search rules in
    let made = c.make_posts-posts.ensures.number in
    let number = c.requires.stock.number in
    let all : vec_len c.run_posts-ended.result ≡ vec_len c.args.shares = omega (arith, ran, before, after, made, number) in
    served_when (g.C.Clock.gives service.host.now.clock.now) (g.T.Stop.may service.stop.now) service.host.now.ids.now service.host.now.on_demand tells parts links service.rooms.now service.claims.now (vec_len c.args.shares) (vec_len c.args.stock.rows) (vec_len c.run_posts-ended.result)
    c.args.lead start c.gather_posts.result number all
    (subst (λ (l : List PassState). AtEach (HasGiven (vec_len c.args.stock.rows * post_numbers)) l lead.seats.items) seats c.make_posts-posts.ensures.lead)
    (subst (IsBegunClaim (vec_len c.args.shares) service.claims.now) (sym c.make_posts-posts.ensures.claim) c.requires.stock.claim)
    c.gather_posts.ensures.claim c.gather_posts.ensures.posts
