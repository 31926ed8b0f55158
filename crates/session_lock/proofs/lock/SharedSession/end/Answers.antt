use Rattle.std.proofs.Common.{◌∙◌, [], sym, subst, ap}
use Rattle.session_lock.specs.History.{item_of}
use Rattle.session_lock.specs.Trusts.{IsTrusted}
use Rattle.session_lock.specs.Steps.{M, with_rest}
use Rattle.session_lock.specs.Rules.{PlaysWell}
use Rattle.session_lock.proofs.Turning.{may_release}
use Rattle.session_lock.proofs.lock.SharedSession.end.Goals as goal

pub commit-requires-clause-may : goal.commit-requires-clause-may
commit-requires-clause-may g c = c.requires.may.commit

pub release-requires-clause-may : goal.release-requires-clause-may
release-requires-clause-may g c =
    (may_release g.K.Keeper.holds g.K.Keeper.writes g.K.Keeper.shut g.K.Keeper.faults g.J.Trusting.first (IsTrusted g.T.Trust.allows c.args.self.now.trust c.args.self.now.id) g.J.Trusting.trusted c.args.seat.now.me c.commit.new.seat.me (λ caller. item_of caller g.J.Asking.request c.args.made.now) c.requires.may c.commit.ensures.committed).0

pub returns-clause-ended : goal.returns-clause-ended
returns-clause-ended g c =
    let d = c.commit.ensures.committed in
    (d.0, d.1, d.2, c.release.ensures.released ∙ ap (λ (m : M _). (with_rest m.0, [])) d.3, subst (λ (m : M _). PlaysWell g.J.Trusting.trusted c.args.seat.now.me.0.opening m.0.seen) (sym c.release.ensures.released) d.4)
