use Rattle.std.proofs.Common.{refl}
use Rattle.session_lock.specs.History.{item_of}
use Rattle.session_lock.proofs.KeepingLaws.{was_asked}
use Rattle.session_lock.proofs.held.KeptSession.call.Goals as goal

pub place-place-requires : goal.place-place-requires
place-place-requires g c = record { done = c.requires.done; safe = c.requires.safe; room = c.requires.room }

pub returns-clause-tried : goal.returns-clause-tried
returns-clause-tried g c = λ first opening history pending lost caller keeps.
    c.place-place.ensures.tried first opening history pending lost (item_of caller c.args.request.now c.call-result.result)
    (was_asked g.K.Keeper.holds g.K.Keeper.writes g.K.Keeper.settled g.K.Keeper.shut g.K.Keeper.faults first opening history pending lost c.args.self.now _ c.args.request.now c.call-result.result caller keeps refl c.call-result.ensures.ok c.call-result.ensures.err c.call-result.ensures.sound c.call-result.ensures.cause c.call-result.ensures.pace)
