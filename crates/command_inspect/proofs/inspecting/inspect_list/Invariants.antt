use Rattle.command_inspect.proofs.inspecting.inspect_list.Given as goal

abbrev pub ghosts-inspect_counted : goal.ghosts-inspect_counted
ghosts-inspect_counted a = record { name = a.blank.name; parts = a.blank.parts }
