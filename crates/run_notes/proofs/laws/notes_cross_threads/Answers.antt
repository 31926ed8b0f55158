use denote.Param.Send.{IsSend, IsSync, sendable}
use Rattle.std.proofs.Crossing.{crosses}
use Rattle.model_solved.specs.contracts.checked.Checked as checked
use Rattle.world.specs.contracts.world.World as world
use Rattle.run_notes.specs.contracts.guest.Guest as guest
use Rattle.run_notes.specs.contracts.watch.WorldWatch as watch
use Rattle.run_notes.proofs.laws.notes_cross_threads.Goals as goal

guest-send : IsSend guest.the_row
guest-send = search (sendable, crosses) depth 60 fits 20000

watch-send : IsSend checked.the_row → IsSync checked.the_row → IsSend world.the_row → IsSend watch.the_row
watch-send send sync worlds = search (sendable, crosses) depth 60 fits 20000

pub returns-clause-guest : goal.returns-clause-guest
returns-clause-guest c = guest-send

pub returns-clause-watch : goal.returns-clause-watch
returns-clause-watch c = watch-send c.checked_crosses_threads.ensures.send c.checked_crosses_threads.ensures.sync c.world_crosses_threads.ensures
