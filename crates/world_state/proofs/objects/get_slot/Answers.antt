use Rattle.std.proofs.Common.{sym}
use Rattle.world_plain.specs.Valid.{object_at}
use Rattle.world_state.proofs.Fields.{absent-replies}
use Rattle.world_state.proofs.objects.get_slot.Goals as goal

pub returns-in-None : goal.returns-in-None
returns-in-None c =
    absent-replies c.absent.result (object_at c.args.state.now.objects.objects c.args.object) c.args.slot (sym c.in-None.ensures.value) c.absent.ensures
