use Rattle.std.proofs.Common.{sym, subst}
use Rattle.session_lock.specs.Passes.{PassState}
use Rattle.session_lock.specs.Keeping.{KeepsPlay}
use Rattle.host_server.specs.Prepares.{IsClosedWith}
use Rattle.host_server.specs.Rows.{IsWhole}
use Rattle.host_server.specs.declared.rooms.Room.{Room}
use Rattle.reflect_posts.proofs.Ones.{each_one, first_of, only_one}
use Rattle.reflect_posts.proofs.reflecting.close_room.Goals as goal

pub close_kept-requires-clause-session : goal.close_kept-requires-clause-session
close_kept-requires-clause-session g c =
    let is = only_one c.args.seats.items c.pop.new.self.items c.in-Some.lead c.in-Some.ensures.items (sym c.requires.as_long) in
    rw c.into_pass.ensures (first_of IsWhole c.args.room c.in-Some.lead c.args.seats.items c.requires is).0

pub close_kept-requires-clause-whole : goal.close_kept-requires-clause-whole
close_kept-requires-clause-whole g c =
    let is = only_one c.args.seats.items c.pop.new.self.items c.in-Some.lead c.in-Some.ensures.items (sym c.requires.as_long) in
    rw c.into_pass.ensures (first_of IsWhole c.args.room c.in-Some.lead c.args.seats.items c.requires is).1

pub returns-clause-session : goal.returns-clause-session
returns-clause-session g c =
    let is = only_one c.args.seats.items c.pop.new.self.items c.in-Some.lead c.in-Some.ensures.items (sym c.requires.as_long) in
    let closed = c.close_kept.ensures in
    each_one (λ (room : Room g.row.K.Denot) (lead : PassState). IsClosedWith lead c.close_kept.result.0) c.args.room c.in-Some.lead c.args.seats.items is
    (subst (λ (p : PassState). IsClosedWith p c.close_kept.result.0) c.into_pass.ensures
    (record { play = closed.play; calls = closed.calls; numbers = closed.numbers; sound = closed.sound; events = closed.events }))

pub returns-clause-keeper : goal.returns-clause-keeper
returns-clause-keeper g c =
    let is = only_one c.args.seats.items c.pop.new.self.items c.in-Some.lead c.in-Some.ensures.items (sym c.requires.as_long) in
    each_one (λ (room : Room g.row.K.Denot) (lead : PassState). KeepsPlay g.K.Keeper.holds g.K.Keeper.shut g.K.Keeper.faults room.shared.faults lead.opening lead.seen c.close_kept.result.1) c.args.room c.in-Some.lead c.args.seats.items is
    (subst (λ (p : PassState). KeepsPlay g.K.Keeper.holds g.K.Keeper.shut g.K.Keeper.faults c.args.room.shared.faults p.opening p.seen c.close_kept.result.1) c.into_pass.ensures c.close_kept.ensures.keeper)
