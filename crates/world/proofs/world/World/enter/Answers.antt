use Rattle.std.proofs.Common.{◌∙◌, ap, arith}
use Rattle.model_solved.specs.Founding.{checked_tree}
use Rattle.model_tree.specs.Tree.{ProgramTree}
use Rattle.world.specs.Worlds.{Scene}
use Rattle.world.specs.View.{scene}
use Rattle.world.proofs.Replays.{external-time}
use Rattle.world.proofs.Turn.{program-fits}
use Rattle.world.proofs.world.World.enter.Goals as goal

pub returns-in-Ok-clause-arrives : goal.returns-in-Ok-clause-arrives
returns-in-Ok-clause-arrives c =
    let tree : ProgramTree = checked_tree c.deref.result.now in
    ap (λ (s : Scene). s.world.time) c.in-Ok.ensures.entered
    ∙ external-time tree (program-fits tree (rw c.deref.ensures c.self.invariant.program.program)) c.args.entry.now (scene c.self.inside.state)
    (rw c.deref.ensures (c.self.invariant.valid c.if-self.false)) (omega (arith, c.if-entry-self.false))
