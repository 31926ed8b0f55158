use Rattle.std.proofs.Common.{[], ◌∷◌, ap, sym}
use Rattle.connection.specs.Phases.{Over, ending_phase}
use Rattle.connection.specs.declared.ending.Ended.TheVariants.{Refused, WantOfMemory}
use Rattle.connection.proofs.Talking.{talks_from}
use Rattle.connection.proofs.sending.refuse.Goals as goal

pub returns : goal.returns
returns g c pass = talks_from _ _ _ _ _ _ _ (ap (λ code. ending_phase (c.args.frame.now ∷ []) (Refused code) (Over WantOfMemory)) (sym c.code_in-code.ensures)) (c.tell_last.ensures pass)
