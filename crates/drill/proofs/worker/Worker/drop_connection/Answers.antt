use Rattle.std.proofs.Common.{subst}
use Rattle.drill.specs.Turns.{HasJoined, HasSentIt}
use Rattle.drill.proofs.Rejoinings.{joined_none, joined_some}
use Rattle.drill.proofs.Resendings.{resent_none, resent_some}
use Rattle.drill.proofs.worker.Worker.drop_connection.Goals as goal

pub returns-in_default-clause-resent : goal.returns-in_default-clause-resent
returns-in_default-clause-resent g c =
    joined_none _ _ _ c.lose_connection.new.self c.join.new.self c.args.cursor.now c.args.turn c.in_ok-how.ensures.lost.0 _ c.requires.size c.in_ok-how.ensures.lost.1 c.in_ok-next.ensures.source c.in_ok-next.ensures.worker
    (subst (HasJoined _ _ _ _ _ _) c.in_default.is c.in_ok-next.ensures.joined)

pub send-requires-clause-connection : goal.send-requires-clause-connection
send-requires-clause-connection g c =
    (joined_some _ _ _ c.lose_connection.new.self c.join.new.self c.args.cursor.now c.args.turn c.in_ok-how.ensures.lost.0 _ c.requires.size c.in_ok-how.ensures.lost.1 c.in_ok-next.ensures.source c.in_ok-next.ensures.worker
    c.in-Some.next (subst (HasJoined _ _ _ _ _ _) c.in-Some.is c.in_ok-next.ensures.joined)).connection

pub returns-in_default-2-clause-resent : goal.returns-in_default-2-clause-resent
returns-in_default-2-clause-resent g c =
    let back = joined_some _ _ _ c.lose_connection.new.self c.join.new.self c.args.cursor.now c.args.turn c.in_ok-how.ensures.lost.0 _ c.requires.size c.in_ok-how.ensures.lost.1 c.in_ok-next.ensures.source c.in_ok-next.ensures.worker
    c.in-Some.next (subst (HasJoined _ _ _ _ _ _) c.in-Some.is c.in_ok-next.ensures.joined) in
    resent_none _ _ _ c.join.new.self c.send.new.self c.in-Some.next c.args.turn _ c.requires.size back c.in_ok-again.ensures.source c.in_ok-again.ensures.worker
    (subst (HasSentIt _ _ _ _ _ _) c.in_default-2.is c.in_ok-again.ensures.sent)

pub take_fine-requires-clause-timely : goal.take_fine-requires-clause-timely
take_fine-requires-clause-timely g c =
    let back = joined_some _ _ _ c.lose_connection.new.self c.join.new.self c.args.cursor.now c.args.turn c.in_ok-how.ensures.lost.0 _ c.requires.size c.in_ok-how.ensures.lost.1 c.in_ok-next.ensures.source c.in_ok-next.ensures.worker
    c.in-Some.next (subst (HasJoined _ _ _ _ _ _) c.in-Some.is c.in_ok-next.ensures.joined) in
    (resent_some _ _ _ c.join.new.self c.send.new.self c.in-Some.next c.args.turn _ c.requires.size back c.in_ok-again.ensures.source c.in_ok-again.ensures.worker
    c.in-Some-2.again (subst (HasSentIt _ _ _ _ _ _) c.in-Some-2.is c.in_ok-again.ensures.sent)).1

pub take_fine-requires-clause-fine : goal.take_fine-requires-clause-fine
take_fine-requires-clause-fine g c =
    let back = joined_some _ _ _ c.lose_connection.new.self c.join.new.self c.args.cursor.now c.args.turn c.in_ok-how.ensures.lost.0 _ c.requires.size c.in_ok-how.ensures.lost.1 c.in_ok-next.ensures.source c.in_ok-next.ensures.worker
    c.in-Some.next (subst (HasJoined _ _ _ _ _ _) c.in-Some.is c.in_ok-next.ensures.joined) in
    (resent_some _ _ _ c.join.new.self c.send.new.self c.in-Some.next c.args.turn _ c.requires.size back c.in_ok-again.ensures.source c.in_ok-again.ensures.worker
    c.in-Some-2.again (subst (HasSentIt _ _ _ _ _ _) c.in-Some-2.is c.in_ok-again.ensures.sent)).0

pub returns-clause-resent : goal.returns-clause-resent
returns-clause-resent g c =
    let back = joined_some _ _ _ c.lose_connection.new.self c.join.new.self c.args.cursor.now c.args.turn c.in_ok-how.ensures.lost.0 _ c.requires.size c.in_ok-how.ensures.lost.1 c.in_ok-next.ensures.source c.in_ok-next.ensures.worker
    c.in-Some.next (subst (HasJoined _ _ _ _ _ _) c.in-Some.is c.in_ok-next.ensures.joined) in
    (resent_some _ _ _ c.join.new.self c.send.new.self c.in-Some.next c.args.turn _ c.requires.size back c.in_ok-again.ensures.source c.in_ok-again.ensures.worker
    c.in-Some-2.again (subst (HasSentIt _ _ _ _ _ _) c.in-Some-2.is c.in_ok-again.ensures.sent)).2 c.take_fine.new.replica c.in_ok-take_fine.ensures
