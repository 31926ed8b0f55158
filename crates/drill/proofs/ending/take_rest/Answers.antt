use Rattle.std.proofs.lemmas.Result.{on_ok_weaker}
use Rattle.drill.proofs.Catching.{at_next, takes_at, takes_last, timely_entry}
use Rattle.drill.proofs.ViewsKept.{kept_entry, kept_first, kept_tick}
use Rattle.drill.proofs.ending.take_rest.Goals as goal

pub loop-place-init : goal.loop-place-init
loop-place-init c =
    (record { catches = c.requires; placed = c.seen-place.ensures.seen; whole = c.log-log.ensures.log; sound = c.horizon-horizon.ensures.sound }, c.horizon-horizon.ensures.value, kept_first c.args.replica.now)

pub take_fine-requires-clause-timely : goal.take_fine-requires-clause-timely
take_fine-requires-clause-timely c =
    timely_entry c.args.session.now.plain c.log-log.result.now.entries c.loop-place.place c.loop-place.replica c.in_ok-entry.entry c.loop-place.invariant.0 c.in_ok-entry.ensures

pub take_fine-requires-clause-fine : goal.take_fine-requires-clause-fine
take_fine-requires-clause-fine c =
    (takes_at c.args.session.now.plain c.log-log.result.now.entries c.loop-place.place c.loop-place.replica c.in_ok-entry.entry c.worlds_stand.ensures c.loop-place.invariant.0 c.in_ok-entry.ensures).fine

pub loop-place-preserved : goal.loop-place-preserved
loop-place-preserved c =
    (at_next c.args.session.now.plain c.log-log.result.now.entries c.loop-place.place c.loop-place.replica c.take_fine.new.replica c.in_ok-entry.entry c.worlds_stand.ensures c.loop-place.invariant.0 c.in_ok-entry.ensures c.in_ok-take_fine.ensures, c.loop-place.invariant.1, kept_entry c.args.replica.now c.loop-place.replica c.take_fine.new.replica c.in_ok-entry.entry c.loop-place.invariant.2 c.in_ok-take_fine.ensures)

pub take_fine-requires-2-clause-fine : goal.take_fine-requires-2-clause-fine
take_fine-requires-2-clause-fine c =
    (takes_last c.args.session.now.plain c.log-log.result.now.entries c.loop-place.place c.len-place-end.result c.horizon-horizon.result c.args.replica.now c.loop-place.replica c.worlds_stand.ensures c.worlds_replay.ensures.replays c.loop-place.invariant.0
    c.horizon-horizon.ensures.value c.len-place-end.ensures.len c.loop-place-test.false c.loop-place.invariant.2.view).0

pub returns-clause-replays : goal.returns-clause-replays
returns-clause-replays c =
    on_ok_weaker c.take_fine-2.result
    ((takes_last c.args.session.now.plain c.log-log.result.now.entries c.loop-place.place c.len-place-end.result c.horizon-horizon.result c.args.replica.now c.loop-place.replica c.worlds_stand.ensures c.worlds_replay.ensures.replays c.loop-place.invariant.0
    c.horizon-horizon.ensures.value c.len-place-end.ensures.len c.loop-place-test.false c.loop-place.invariant.2.view).1 c.take_fine-2.new.replica) c.take_fine-2.ensures

pub returns-clause-kept : goal.returns-clause-kept
returns-clause-kept c =
    on_ok_weaker c.take_fine-2.result (λ took. (kept_tick c.args.replica.now c.loop-place.replica c.take_fine-2.new.replica c.horizon-horizon.result c.loop-place.invariant.2 took).view) c.take_fine-2.ensures

pub returns-clause-base : goal.returns-clause-base
returns-clause-base c =
    on_ok_weaker c.take_fine-2.result (λ took. (kept_tick c.args.replica.now c.loop-place.replica c.take_fine-2.new.replica c.horizon-horizon.result c.loop-place.invariant.2 took).base) c.take_fine-2.ensures
