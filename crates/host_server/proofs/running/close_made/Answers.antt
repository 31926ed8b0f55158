use Rattle.std.proofs.Common.{List, take, sym, subst}
use Rattle.reflector_core.specs.declared.keeper.NoKeeper.{NoKeeper}
use Rattle.host_server.specs.Rows.{AtEach, IsWhole}
use Rattle.host_server.specs.declared.rooms.Room.{Room}
use Rattle.host_server.proofs.running.close_made.Goals as goal

pub close_all-requires-clause-leads : goal.close_all-requires-clause-leads
close_all-requires-clause-leads c =
    subst (λ (l : List (Room NoKeeper)). AtEach IsWhole l c.truncate-2.new.self.items) (sym c.truncate.ensures.items)
    (subst (AtEach IsWhole (take c.args.made c.args.rooms.items)) (sym c.truncate-2.ensures.items) c.requires.leads)
