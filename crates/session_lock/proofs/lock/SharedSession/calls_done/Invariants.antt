use Rattle.session_lock.specs.Trusts.{IsTrusted}
use Rattle.session_lock.proofs.lock.SharedSession.calls_done.Given as goal

-- what the trust allows
abbrev pub ghosts-count : goal.ghosts-count
ghosts-count g a = record { trusted = IsTrusted g.T.Trust.allows a.self.now.trust a.self.now.id; first = 0 }
