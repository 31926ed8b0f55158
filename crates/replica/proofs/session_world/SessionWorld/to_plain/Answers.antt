use Rattle.std.proofs.Common.{IfOk, subst}
use Rattle.model_solved.specs.Founding.{checked_tree}
use Rattle.world.specs.Worlds.{field_counts}
use Rattle.world_plain.specs.Valid.{Valid}
use Rattle.world_plain.specs.World.{world_record}
use Rattle.replica.specs.SessionWorlds.{CopiesWorld, SessionWorldView}
use Rattle.replica.proofs.OwnWorlds.{copies-seen}
use Rattle.replica.proofs.session_world.SessionWorld.to_plain.Goals as goal

pub returns-clause-copy : goal.returns-clause-copy
returns-clause-copy c =
    subst (λ (w : SessionWorldView). CopiesWorld c.to_plain.result w) c.self.view_is
    (copies-seen c.to_plain.result c.self.inside.id.0 c.self.inside.world c.to_plain.ensures.copy)

pub returns-clause-valid : goal.returns-clause-valid
returns-clause-valid c =
    subst (λ (w : SessionWorldView). IfOk c.to_plain.result (λ plain. Valid (field_counts (checked_tree w.program)) (world_record plain))) c.self.view_is
    c.to_plain.ensures.valid
