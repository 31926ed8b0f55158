use Rattle.time_line.proofs.frames.frames_from.Given as goal

abbrev pub ghosts-frames_counted : goal.ghosts-frames_counted
ghosts-frames_counted a = record { name = a.blank.name; parts = a.blank.parts }
