use Rattle.std.proofs.Common.{[], ◌∷◌, ap, sym}
use Rattle.connection.specs.Phases.{ending_phase}
use Rattle.connection.proofs.Talking.{talks_from}
use Rattle.connection.proofs.sending.tell_end.Goals as goal

pub returns : goal.returns
returns g c pass = talks_from _ _ _ _ _ _ _ (ap (λ wants. ending_phase (c.args.frame.now ∷ []) c.args.ended wants) (sym c.leave_at-wants.ensures)) (c.tell_last.ensures pass)
