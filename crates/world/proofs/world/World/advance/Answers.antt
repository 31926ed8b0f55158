use Rattle.std.proofs.Common.{◌∙◌, ap, arith}
use Rattle.model_solved.specs.Founding.{checked_tree}
use Rattle.model_tree.specs.Tree.{ProgramTree}
use Rattle.world.specs.Worlds.{Scene, field_counts}
use Rattle.world.specs.View.{scene}
use Rattle.world.proofs.Advancing.{advance-arrives}
use Rattle.world.proofs.Turn.{program-fits}
use Rattle.world.proofs.world.World.advance.Goals as goal

pub returns-in-Ok-clause-arrives : goal.returns-in-Ok-clause-arrives
returns-in-Ok-clause-arrives c =
    let tree : ProgramTree = checked_tree c.deref.result.now in
    ap (λ (s : Scene). s.world.time) c.in-Ok.ensures.advanced
    ∙ advance-arrives (field_counts tree) tree c.args.time (program-fits tree (rw c.deref.ensures c.self.invariant.program.program)) (scene c.self.inside.state)
    (rw c.deref.ensures (c.self.invariant.valid c.if-self.false)) (omega (arith, c.if-time-self.false))
