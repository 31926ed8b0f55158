use Rattle.session_lock.proofs.Turning.{in_turn}
use Rattle.session_lock.proofs.lock.SharedSession.enter.Goals as goal

pub returns-clause-turn : goal.returns-clause-turn
returns-clause-turn g c =
    in_turn g.K.Keeper.holds g.K.Keeper.writes g.K.Keeper.shut g.K.Keeper.faults g.J.Trusting.first g.J.Trusting.trusted c.args.seat.now.me c.draw-ticket.new.seat.me c.take_turn.new.seat.me c.draw-ticket.result c.requires.rests c.draw-ticket.ensures.drawn c.draw-ticket.ensures.bound c.take_turn.ensures.turn
