use Rattle.session_lock.specs.Trusts.{IsTrusted}
use Rattle.session_lock.proofs.lock.SharedSession.ask.Given as goal

-- what the caller asks
abbrev pub ghosts-make-J-Asking : goal.ghosts-make-J-Asking
ghosts-make-J-Asking g a = record { request = a.request.now }

-- what the trust allows, and how many faults the keeper had at first
abbrev pub ghosts-make-J-Trusting : goal.ghosts-make-J-Trusting
ghosts-make-J-Trusting g a = record { trusted = IsTrusted g.T.Trust.allows a.self.now.trust a.self.now.id; first = a.self.now.faults }
