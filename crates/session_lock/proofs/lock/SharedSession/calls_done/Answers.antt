use Rattle.session_lock.specs.Trusts.{IsTrusted}
use Rattle.session_lock.proofs.Contracts.{caught, idle_counted}
use Rattle.session_lock.proofs.lock.SharedSession.calls_done.Goals as goal

pub invariant_of-pass : goal.invariant_of-pass
invariant_of-pass g c =
    idle_counted (IsTrusted g.T.Trust.allows c.args.self.now.trust c.args.self.now.id) c.pass.inside.seat.me c.count.new.seat.me c.count.result c.pass.invariant c.count.ensures.counted

pub returns-clause-seen : goal.returns-clause-seen
returns-clause-seen g c =
    caught (IsTrusted g.T.Trust.allows c.args.self.now.trust c.args.self.now.id) c.pass.inside.seat.table_id c.count.new.seat.table_id c.pass.inside.seat.me c.count.new.seat.me c.args.pass.now _ c.pass.view_is
    (cc (c.count.ensures.table, c.requires, c.pass.view_is)) c.count.ensures.counted
