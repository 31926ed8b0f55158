use Rattle.std.proofs.Common.{◌≡◌, ◌++◌, [], ap, ◌∙◌, All, vec_len, length, List, Ok, refl, rules, sym, subst}
use Rattle.reflector_core.specs.PlainSession.{PlainSession}
use Rattle.run_steps.specs.Outside.{links_tell, net_tells}
use Rattle.session_lock.specs.Passes.{PassState}
use Rattle.connection.specs.declared.ending.Ended.{Ended}
use Rattle.reflect_server.specs.Opening.{HasOpened, gives_later}
use Rattle.reflect_server.specs.Passes.{IsFresh}
use Rattle.reflect_server.specs.Keeping.{keeper_tells}
use Rattle.reflect_server.specs.Rounds.{ended_of}
use Rattle.reflect_server.specs.declared.reflection.Reflected.{Reflected}
use Rattle.reflect_server.proofs.OpeningLaws.{keeps_of, opened_still}
use Rattle.reflect_server.proofs.PassLaws.{keeps_itself}
use Rattle.reflect_server.proofs.Reflections.{ends_when, fails_when, reflects_of, reflects_when}
use Rattle.reflect_server.proofs.reflecting.serve_all.Goals as goal

pub accept_all-net-requires-clause-lead : goal.accept_all-net-requires-clause-lead
accept_all-net-requires-clause-lead g c κs within =
    let split = c.split_all-passes.ensures.lead in
    keeps_itself c.split_all-passes.new.lead
    (opened_still (gives_later (g.C.Clock.gives c.args.server.now.clock.now) c.args.prepared.since) c.args.prepared.lead.opening c.args.prepared.lead c.split_all-passes.new.lead split c.requires.prepared.opened).one

pub accept_all-net-requires-clause-passes : goal.accept_all-net-requires-clause-passes
accept_all-net-requires-clause-passes g c κs within =
    subst (λ (p : PassState). All (IsFresh p) c.split_all-passes.result.items) (sym c.split_all-passes.ensures.lead) c.split_all-passes.ensures.passes

pub returns : goal.returns
returns g c =
    let gives = g.C.Clock.gives c.args.server.now.clock.now in
    let id = c.args.server.now.id in
    let since = c.args.prepared.since in
    let count = c.args.server.now.connections in
    let first = c.args.prepared.lead in
    let lead = c.split_all-passes.new.lead in
    let begins : lead.opening ≡ first.opening = ap (λ (p : PassState). p.opening) c.split_all-passes.ensures.lead in
    let opened =
    subst (λ (o : PlainSession). HasOpened (gives_later gives since) o lead) (sym begins)
    (opened_still (gives_later gives since) first.opening first lead c.split_all-passes.ensures.lead c.requires.prepared.opened) in
    let closed = c.close_kept-session.ensures in
    let back = c.give_back.ensures in
    let round = c.accept_all-net.result in
    let keeper = c.close_kept-session.result.1 in
    let faults = c.args.prepared.shared.faults in
    let tells = net_tells {N = g.row.N.Denot} {L = g.row.N-Conn.Denot} g.N.Net in
    let links = links_tell {L = g.row.N-Conn.Denot} g.N.Conn.Link in
    let kept = keeper_tells g.K.Keeper.holds g.K.Keeper.shut g.K.Keeper.faults faults lead.opening keeper in
    let keeps = keeps_of g.K.Keeper.holds g.K.Keeper.shut g.K.Keeper.faults faults faults round.lead.opening lead.opening round.lead.seen keeper refl c.accept_all-net.ensures.round.passes.opening closed.keeper in
    let as_long : vec_len round.served ≡ length round.served.items = search rules in
    let ends =
    ends_when (gives_later gives since) id kept tells links count _ round c.give_back.new.net c.close_kept-session.result.0.plain (vec_len c.split_all-passes.result)
    c.split_all-passes.ensures.count opened c.accept_all-net.ensures.round as_long
    (record { over = back.over; counts = back.counts; lent = back.lent; coming = back.coming; asked = back.asked; faults = back.faults })
    (record { play = closed.play; calls = closed.calls; numbers = closed.numbers; sound = closed.sound; events = closed.events })
    keeps (fails_when g.K.Keeper.holds g.K.Keeper.shut g.K.Keeper.faults faults lead.opening round.lead.seen keeper keeps) in
    let reflected : Reflected = record { session = c.close_kept-session.result.0; ends = c.from_vec-ends.result; stopped = round.stopped } in
    record {
      reflects =
          reflects_of g.K.Keeper.holds g.K.Keeper.shut g.K.Keeper.faults keeper gives id since since faults faults lead.opening first.opening tells links [] count c.args.net c.give_back.new.net (Ok reflected) refl refl begins
          (reflects_when (gives_later gives since) id kept tells links count _ round c.give_back.new.net c.close_kept-session.result.0 c.from_vec-ends.result
          (c.from_vec-ends.ensures ∙ (back.ends ∙ ap (λ (l : List Ended). l ++ ended_of round.served.items) c.requires.prepared.rooms.none_ended))
          ends);
    }
