use Rattle.std.proofs.Common.{Bool, if◌then◌else◌, ap, ◌∙◌, arith}
use Rattle.std.proofs.lemmas.Bool.{le-ltb}
use Rattle.world.specs.Worlds.{field_counts, scene_with_world, on_due, advance}
use Rattle.world.proofs.Moving.{behind-none}
use Rattle.world.proofs.Advancing.{advance-step}
use Rattle.world.proofs.Turn.{program-fits}
use Rattle.world.proofs.laws.at_rest_stays.Goals as goal

pub returns : goal.returns
returns c = λ program a p v behind.
    let w = a.world in
    advance-step (field_counts program) program w.time a (program-fits program p) v
    ∙ ap (λ d. on_due program w.time (advance program w.time) d a) (behind-none w.time w.pending behind)
    ∙ ap (λ (later : Bool). scene_with_world a (if later then record w { time = w.time; turns = 0 } else w)) (le-ltb w.time w.time (omega arith))
