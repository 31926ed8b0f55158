use Rattle.std.proofs.Common.{arith}
use Rattle.std.proofs.lemmas.Bool.Decides.{nat_tests}
use Rattle.world_state.proofs.known.has_room_for_name.Goals as goal

pub returns-in-None : goal.returns-in-None
returns-in-None c = λ object. grind (arith, nat_tests, c.added_weight-added.ensures object, c.in-None.ensures)

pub returns-in-Some : goal.returns-in-Some
returns-in-Some c = λ object. grind (arith, nat_tests, c.added_weight-added.ensures object, c.in-Some.ensures, c.from.ensures)
