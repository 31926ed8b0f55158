use Rattle.world.specs.Worlds.{field_counts, advance}
use Rattle.world.proofs.Moving.{due-none, from-behind}
use Rattle.world.proofs.Advancing.{advance-rests, advance-valid, advance-arrives}
use Rattle.world.proofs.Replays.{advance-id}
use Rattle.world.proofs.Turn.{program-fits}
use Rattle.world.proofs.laws.advance_rests.Goals as goal

pub returns-clause-rests : goal.returns-clause-rests
returns-clause-rests c = λ program t a p v below.
    let valid = advance-valid (field_counts program) program t a (program-fits program p) below v in
    let pending = (advance program t a).world.pending in
    from-behind t pending (due-none t pending valid.messages.order (advance-rests (field_counts program) program t a (program-fits program p) v))

pub returns-clause-arrives : goal.returns-clause-arrives
returns-clause-arrives c = λ program t a p v le. advance-arrives (field_counts program) program t (program-fits program p) a v le

pub returns-clause-valid : goal.returns-clause-valid
returns-clause-valid c = λ program t a p v below. advance-valid (field_counts program) program t a (program-fits program p) below v

pub returns-clause-session : goal.returns-clause-session
returns-clause-session c = λ program t a p. advance-id program (program-fits program p) t a
