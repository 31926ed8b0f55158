use Rattle.std.proofs.Common.{ap, Err}
use Rattle.run_steps.proofs.Kept.{all_kept}
use Rattle.run_steps.proofs.calls.put_file.Goals as goal

pub returns-in-Err-WantOfMemory : goal.returns-in-Err-WantOfMemory
returns-in-Err-WantOfMemory g c = record {
  noted = rw c.in-Err-WantOfMemory.field-0-is at c.in-Err-WantOfMemory.ensures.asked;
  counted = c.in-Err-WantOfMemory.ensures.cause.later;
  wanted = (c.in-Err-WantOfMemory.ensures.want.later, c.in-Err-WantOfMemory.ensures.want.wanted (ap Err c.in-Err-WantOfMemory.field-0-is));
  held = all_kept c.args.name.now _ _ c.in-Err-WantOfMemory.ensures.others (c.in-Err-WantOfMemory.ensures.refused (ap Err c.in-Err-WantOfMemory.field-0-is));
}
