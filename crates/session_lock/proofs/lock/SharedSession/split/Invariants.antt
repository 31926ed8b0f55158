use Rattle.session_lock.proofs.lock.SharedSession.split.Given as goal

-- how many spare numbers are asked for
abbrev pub ghosts-cut : goal.ghosts-cut
ghosts-cut g a = record { spare = a.spare }
