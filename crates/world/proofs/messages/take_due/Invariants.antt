use Rattle.world.proofs.messages.take_due.Given as goal

abbrev pub ghosts-take_due_counted : goal.ghosts-take_due_counted
ghosts-take_due_counted a = record { name = a.blank.name; parts = a.blank.parts }
