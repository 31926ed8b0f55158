use Rattle.std.proofs.Common.{◌≡◌, ℕ, false, Err, [], ◌∷◌, refl, sym, ◌∙◌, subst, arith}
use Rattle.run_steps.specs.Outside.{links_tell, net_tells}
use Rattle.reflect_server.specs.Keeping.{keeper_tells}
use Rattle.reflect_server.specs.Opening.{gives_later}
use Rattle.reflect_server.proofs.OpeningLaws.{only_opened}
use Rattle.host_server.specs.Rows.{IsWhole}
use Rattle.host_server.specs.declared.rooms.Room.{Room}
use Rattle.host_posts.specs.Shares.{shares_tell}
use Rattle.reflect_posts.specs.Prepares.{HasServed, IsStocked}
use Rattle.reflect_posts.proofs.Finals.{never_unheard, reflected_when, reflects_unshared, whole_again}
use Rattle.reflect_posts.proofs.Ones.{each_one}
use Rattle.reflect_posts.proofs.reflecting.reflect_shared.Goals as goal

pub returns-in-Err-clause-kept : goal.returns-in-Err-clause-kept
returns-in-Err-clause-kept g c = never_unheard c.in-Err.fault c.unheard.result (Err c.unheard.result) c.unheard.ensures refl

pub returns-in-Err-clause-reflects : goal.returns-in-Err-clause-reflects
returns-in-Err-clause-reflects g c =
    let tells = net_tells {N = g.row.N.Denot} {L = g.row.N-Conn.Denot} g.N.Net in
    let parts = shares_tell {N = g.row.N.Denot} {S = g.row.N-Part.Denot} {L = g.row.N-Conn.Denot} g.N.SharedNet.shared g.N.Part.Share in
    let links = links_tell {L = g.row.N-Conn.Denot} g.N.Conn.Link in
    let made = c.args.prepared in
    let gives = gives_later (g.C.Clock.gives c.args.server.now.clock.now) made.since in
    let kept = keeper_tells g.K.Keeper.holds g.K.Keeper.shut g.K.Keeper.faults made.shared.faults made.lead.opening c.close_opened.result in
    let told = c.in-Err.ensures in
    reflects_unshared gives (g.T.Stop.may c.args.server.now.stop.now) c.args.server.now.id made.lead.opening kept tells parts links c.args.server.now.posts c.in-Err.fault c.unheard.result c.args.net c.take_shares.new.net
    c.unheard.ensures told.none_shared told.back told.asked told.cause
    (only_opened gives kept made.lead c.requires.opened.opened c.close_opened.ensures.calls c.close_opened.ensures.keeper)

pub serve_all-round-requires-clause-rooms : goal.serve_all-round-requires-clause-rooms
serve_all-round-requires-clause-rooms g c κs within =
    rw c.from_ref.ensures.value (record { count = refl; some = omega arith; few = omega arith })

pub serve_all-round-requires-clause-one : goal.serve_all-round-requires-clause-one
serve_all-round-requires-clause-one g c κs within = c.from_ref.ensures.len

pub serve_all-round-requires-clause-lead : goal.serve_all-round-requires-clause-lead
serve_all-round-requires-clause-lead g c κs within =
    let room : Room g.row.K.Denot = record { shared = c.args.prepared.shared } in
    rw c.from_ref.ensures.value (each_one IsWhole room c.args.prepared.lead (c.args.prepared.lead ∷ []) refl (c.requires.opened.session, c.requires.opened.numbers))

pub serve_all-round-requires-clause-alone : goal.serve_all-round-requires-clause-alone
serve_all-round-requires-clause-alone g c κs within = c.requires.opened.opened.one

pub serve_all-round-requires-clause-stock : goal.serve_all-round-requires-clause-stock
serve_all-round-requires-clause-stock g c κs within =
    subst (λ (n : ℕ). IsStocked n c.args.prepared.claims c.args.prepared.stock) (sym c.in-Ok.ensures.number) c.requires.stock

pub serve_all-round-requires-clause-few : goal.serve_all-round-requires-clause-few
serve_all-round-requires-clause-few g c κs within =
    let number = c.in-Ok.ensures.number in let few = c.requires.posts in omega (arith, number, few)

pub serve_all-round-requires-clause-unused : goal.serve_all-round-requires-clause-unused
serve_all-round-requires-clause-unused g c κs within = c.in-Ok.ensures.unused

pub serve_all-round-requires-clause-shared : goal.serve_all-round-requires-clause-shared
serve_all-round-requires-clause-shared g c κs within =
    let number = c.in-Ok.ensures.number in let shared = c.in-Ok.ensures.shared in omega (arith, number, shared)

pub close_round-net-requires-clause-claims : goal.close_round-net-requires-clause-claims
close_round-net-requires-clause-claims g c κs within = c.serve_all-round.ensures.served.claim.claims ∙ c.serve_all-round.ensures.served.begun.claims

pub close_round-net-requires-clause-parts : goal.close_round-net-requires-clause-parts
close_round-net-requires-clause-parts g c κs within =
    let parts = c.serve_all-round.ensures.served.claim.parts in
    let given = c.serve_all-round.ensures.served.begun.parts in
    omega (arith, parts, given)

pub close_round-net-requires-clause-lead : goal.close_round-net-requires-clause-lead
close_round-net-requires-clause-lead g c κs within = λ ids closes.
    let tells = net_tells {N = g.row.N.Denot} {L = g.row.N-Conn.Denot} g.N.Net in
    let parts = shares_tell {N = g.row.N.Denot} {S = g.row.N-Part.Denot} {L = g.row.N-Conn.Denot} g.N.SharedNet.shared g.N.Part.Share in
    let links = links_tell {L = g.row.N-Conn.Denot} g.N.Conn.Link in
    let made = c.args.prepared in
    let gives = gives_later (g.C.Clock.gives c.args.server.now.clock.now) made.since in
    let room : Room g.row.K.Denot = record { shared = made.shared } in
    let served = rw c.from_ref.ensures.value at c.serve_all-round.ensures.served in
    whole_again gives (g.T.Stop.may c.args.server.now.stop.now) c.args.server.now.id tells parts links room made.claims _ made.lead c.take_shares.new.net c.serve_all-round.result served
    c.requires.listed ids closes c.requires.opened.session c.requires.opened.numbers

pub returns-clause-kept : goal.returns-clause-kept
returns-clause-kept g c = λ is. absurd (cc (is))

pub returns-clause-reflects : goal.returns-clause-reflects
returns-clause-reflects g c =
    let tells = net_tells {N = g.row.N.Denot} {L = g.row.N-Conn.Denot} g.N.Net in
    let parts = shares_tell {N = g.row.N.Denot} {S = g.row.N-Part.Denot} {L = g.row.N-Conn.Denot} g.N.SharedNet.shared g.N.Part.Share in
    let links = links_tell {L = g.row.N-Conn.Denot} g.N.Conn.Link in
    let made = c.args.prepared in
    let gives = gives_later (g.C.Clock.gives c.args.server.now.clock.now) made.since in
    let may = g.T.Stop.may c.args.server.now.stop.now in
    let id = c.args.server.now.id in
    let room : Room g.row.K.Denot = record { shared = made.shared } in
    let round = c.serve_all-round.result in
    let closed = c.close_round-net.ensures in
    let number = c.in-Ok.ensures.number in
    let served =
    subst (λ (n : ℕ). HasServed gives may (id ∷ []) false tells parts.share links (room ∷ []) made.claims n made.lead c.take_shares.new.net round) number
    (rw c.from_ref.ensures.value at c.serve_all-round.ensures.served) in
    let same = c.serve_all-round.ensures.shared in
    let more = c.in-Ok.ensures.shared in
    let shared : parts.shared round.net ≡ parts.shared c.args.net = omega (arith, same, more, number) in
    rw closed.net
    (reflected_when gives may id tells parts links room made.claims c.args.server.now.posts made.lead c.take_shares.new.net round served c.requires.listed closed.ids.0 closed.ids.1
    g.K.Keeper.holds g.K.Keeper.shut g.K.Keeper.faults c.close_round-net.result.1 c.close_round-net.result.2.session c.args.net c.close_round-net.result.2.posts
    c.requires.opened.opened closed.session closed.keeper c.in-Ok.ensures.none_given c.in-Ok.ensures.asked shared closed.posts)
