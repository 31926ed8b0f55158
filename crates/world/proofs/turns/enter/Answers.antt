use Rattle.std.proofs.Common.{ap, ◌∙◌}
use Rattle.model_solved.specs.Founding.{checked_tree}
use Rattle.world.specs.Worlds.{Scene}
use Rattle.world.specs.Turns.{heard_of}
use Rattle.world.specs.View.{scene}
use Rattle.world.proofs.TurnLaws.{entered-is}
use Rattle.world.proofs.turns.enter.Goals as goal

pub returns-clause-entered : goal.returns-clause-entered
returns-clause-entered c =
    entered-is (checked_tree c.args.program.now) c.args.entry.now (scene c.args.state.now) (scene c.advance.new.state) (scene c.external.new.state) c.requires.program c.requires.valid c.requires.time c.in_ok-advance.ensures.advanced c.in_ok-external.ensures.entered

pub returns-clause-told : goal.returns-clause-told
returns-clause-told c =
    c.in_ok-heard.ensures ∙ ap (λ (s : Scene). heard_of s.world c.args.entry.now.view c.args.entry.now.what) c.in_ok-advance.ensures.advanced
