use Rattle.std.proofs.Common.{ap, sym, ◌∙◌}
use Rattle.replica.specs.View.{ReplicaView}
use Rattle.drill.proofs.JoinsAsked.{asked_as, asks_first, join_counts, join_replied, join_taken}
use Rattle.drill.proofs.worker.Worker.join.Goals as goal

pub opened-opened-requires : goal.opened-opened-requires
opened-opened-requires g c = join_replied _ _ _ _ _ _ _ _ c.in_ok-reply.reply c.replies_fit.ensures.replies c.in_ok-reply.ensures.asked

pub take_sync-requires-clause-awaited : goal.take_sync-requires-clause-awaited
take_sync-requires-clause-awaited g c =
    let asks = asks_first c.args.self.now c.ask.new.self c.join.new.self c.args.how c.join.ensures.joins c.in_ok-reply.ensures.pass in
    (c.args.how, ap (λ (r : ReplicaView). r.plain.awaited) asks.replica)

pub take_sync-requires-clause-fine : goal.take_sync-requires-clause-fine
take_sync-requires-clause-fine g c =
    let asks = asks_first c.args.self.now c.ask.new.self c.join.new.self c.args.how c.join.ensures.joins c.in_ok-reply.ensures.pass in
    let asked = asked_as _ _ _ _ _ _ c.now.result _ _ c.in-Join.want c.args.self.now.replica c.args.how c.in_ok-reply.reply c.in-Join.ensures.frame c.in_ok-reply.ensures.asked in
    join_counts _ _ _ c.args.self.now c.ask.new.self c.args.how c.now.result c.in_ok-reply.reply asks asked c.worlds_stand.ensures c.worlds_replay.ensures.replays c.opened-opened.result.1
    c.in-Some.cursor c.requires.worker c.requires.may c.in_ok-reply.ensures.worker (sym c.in-Some.is ∙ c.opened-opened.ensures.cursor) c.opened-opened.ensures.answer

pub returns-clause-worker : goal.returns-clause-worker
returns-clause-worker g c =
    let asks = asks_first c.args.self.now c.ask.new.self c.join.new.self c.args.how c.join.ensures.joins c.in_ok-reply.ensures.pass in
    let asked = asked_as _ _ _ _ _ _ c.now.result _ _ c.in-Join.want c.args.self.now.replica c.args.how c.in_ok-reply.reply c.in-Join.ensures.frame c.in_ok-reply.ensures.asked in
    (join_taken _ _ _ c.args.self.now c.ask.new.self c.args.how c.now.result c.in_ok-reply.reply asks asked c.worlds_stand.ensures c.worlds_replay.ensures.replays c.opened-opened.result.1 c.take_sync.new.replica
    c.in-Some.cursor c.requires.worker c.requires.may c.in_ok-reply.ensures.worker (sym c.in-Some.is ∙ c.opened-opened.ensures.cursor) c.opened-opened.ensures.answer c.in_ok-take_sync.ensures.fine
    c.in_ok-take_sync.ensures.taken).worker

pub returns-clause-joined : goal.returns-clause-joined
returns-clause-joined g c =
    let asks = asks_first c.args.self.now c.ask.new.self c.join.new.self c.args.how c.join.ensures.joins c.in_ok-reply.ensures.pass in
    let asked = asked_as _ _ _ _ _ _ c.now.result _ _ c.in-Join.want c.args.self.now.replica c.args.how c.in_ok-reply.reply c.in-Join.ensures.frame c.in_ok-reply.ensures.asked in
    (join_taken _ _ _ c.args.self.now c.ask.new.self c.args.how c.now.result c.in_ok-reply.reply asks asked c.worlds_stand.ensures c.worlds_replay.ensures.replays c.opened-opened.result.1 c.take_sync.new.replica
    c.in-Some.cursor c.requires.worker c.requires.may c.in_ok-reply.ensures.worker (sym c.in-Some.is ∙ c.opened-opened.ensures.cursor) c.opened-opened.ensures.answer c.in_ok-take_sync.ensures.fine
    c.in_ok-take_sync.ensures.taken).joined
