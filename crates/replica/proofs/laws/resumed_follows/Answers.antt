use Rattle.std.proofs.Common.{sym, ◌∙◌}
use Rattle.world.specs.Worlds.{field_counts}
use Rattle.world.proofs.FirstWorld.{first-valid}
use Rattle.world.proofs.Turn.{program-fits}
use Rattle.world.proofs.Following.{follows-on}
use Rattle.replica.proofs.laws.resumed_follows.Goals as goal

pub returns : goal.returns
returns c = λ founding w log t is valid legal le below follows.
    let fits = program-fits founding.tree is.program in
    follows-on (field_counts founding.tree) founding w log t fits valid (first-valid founding w.id is.persisted fits) legal le below
    (follows ∙ sym (c.worlds_replay.ensures.replays founding w.id log w.time))
