use Rattle.system_plain.proofs.Lines.{served_by}
use Rattle.system_plain.proofs.TypedTurns.{typed_turns_sound}
use Rattle.system_plain.proofs.laws.line_is_served.Goals as goal

pub returns : goal.returns
returns g = record { served = served_by; sound = typed_turns_sound }
