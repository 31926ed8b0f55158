use Rattle.std.proofs.Common.{sym, ◌∙◌}
use Rattle.world_state.proofs.PlainLaws.{plain-Nil, plain-Ref}
use Rattle.world_state.proofs.KnownFits.{known_by-none, known_by-some}
use Rattle.world_state.proofs.known.known_object.Goals as goal

pub returns-in-Some : goal.returns-in-Some
returns-in-Some c = plain-Ref c.in-Some.object ∙ sym (known_by-some c.args.name.now c.in-Some.object c.args.known.now (sym c.in-Some.ensures))

pub returns-in-None : goal.returns-in-None
returns-in-None c = plain-Nil ∙ sym (known_by-none c.args.name.now c.args.known.now (sym c.in-None.ensures))
