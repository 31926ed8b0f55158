use Rattle.drill.proofs.Drills.{drill_entries, drill_is_sound}
use Rattle.drill.proofs.laws.drills_are_sound.Goals as goal

pub returns : goal.returns
returns g c =
    let gives = g.C.Clock.gives c.args.clock.now in
    record {
      sound = λ size s plays. drill_is_sound gives size s plays;
      entries = λ size s plays. drill_entries gives size s plays;
    }
