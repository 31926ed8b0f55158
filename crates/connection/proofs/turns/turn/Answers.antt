use Rattle.connection.proofs.Callers.{stands_still, still_so}
use Rattle.connection.proofs.Talking.{handed_on, talks_then, then_either}
use Rattle.connection.proofs.turns.turn.Goals as goal

pub returns-in_err-pull-clause-talk : goal.returns-in_err-pull-clause-talk
returns-in_err-pull-clause-talk g c =
    rw (handed_on c.from_residual-in_err-pull.result c.in_err-pull.field-0.0 c.from_residual-in_err-pull.ensures.1)
    (talks_then _ _ _ _ _ _ _ _ (c.in_ok-tick.ensures.talk c.args.quiets _) (c.in_err-pull.ensures.talk c.args.quiets))

pub returns-clause-talk : goal.returns-clause-talk
returns-clause-talk g c = then_either _ _ c.receive.result _ _ _ _ _ _ (talks_then _ _ _ _ _ _ _ _ (c.in_ok-tick.ensures.talk c.args.quiets _) (c.in_ok-pull.ensures.talk c.args.quiets)) c.receive.ensures.talk

pub pull-requires-clause-standing : goal.pull-requires-clause-standing
pull-requires-clause-standing g c = stands_still _ _ c.args.cursor.now c.tick.ensures.grows c.requires.standing

pub returns-clause-standing : goal.returns-clause-standing
returns-clause-standing g c = still_so c.receive.result _ _ c.pull.new.cursor c.receive.ensures.grows c.in_ok-pull.ensures.standing
