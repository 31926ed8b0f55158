use Rattle.session_lock.specs.Trusts.{IsTrusted}
use Rattle.session_lock.specs.Keeping.{SomeShut}
use Rattle.session_lock.specs.Passes.{pass_state}
use Rattle.session_lock.proofs.Contracts.{told_call, call_kept, idle_made}
use Rattle.session_lock.proofs.lock.SharedSession.ask.Goals as goal

pub invariant_of-pass : goal.invariant_of-pass
invariant_of-pass g c =
    idle_made (IsTrusted g.T.Trust.allows c.args.self.now.trust c.args.self.now.id) (SomeShut g.K.Keeper.shut) c.pass.inside.seat.me.0 c.args.request.now c.make.result c.make.new.seat.me c.make.ensures.made

pub returns-clause-call : goal.returns-clause-call
returns-clause-call g c =
    told_call (IsTrusted g.T.Trust.allows c.args.self.now.trust c.args.self.now.id) (SomeShut g.K.Keeper.shut) c.make.result c.pass.inside.seat.table_id c.make.new.seat.table_id c.pass.inside.seat.me.0 c.make.new.seat.me c.args.pass.now c.args.request.now c.pass.view_is
    (cc (c.make.ensures.table, c.requires.session, c.pass.view_is)) c.make.ensures.made c.make.ensures.plays.0

pub returns-clause-kept : goal.returns-clause-kept
returns-clause-kept g c =
    call_kept (IsTrusted g.T.Trust.allows c.args.self.now.trust c.args.self.now.id) (SomeShut g.K.Keeper.shut) c.make.result c.args.pass.now (pass_state c.make.new.seat.table_id c.make.new.seat.me.0) c.args.request.now
    (told_call (IsTrusted g.T.Trust.allows c.args.self.now.trust c.args.self.now.id) (SomeShut g.K.Keeper.shut) c.make.result c.pass.inside.seat.table_id c.make.new.seat.table_id c.pass.inside.seat.me.0 c.make.new.seat.me c.args.pass.now c.args.request.now c.pass.view_is
    (cc (c.make.ensures.table, c.requires.session, c.pass.view_is)) c.make.ensures.made c.make.ensures.plays.0)
