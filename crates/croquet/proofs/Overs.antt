-- A command that does not run on is over.
use Rattle.std.proofs.Common.{Option}
use Rattle.run_steps.specs.Outside.{Outside, OutsideTells}
use Rattle.command_words.specs.declared.words.Command.{Command}
use Rattle.commands.specs.Work.{RunsOn}
use Rattle.commands.specs.Verdict.{Comes}
use Rattle.commands.proofs.NetLaws.{never_goes_on}
use Rattle.croquet.specs.declared.top.Turn.{Turn}
use Rattle.croquet.specs.declared.top.Turn.TheVariants as turn
use Rattle.croquet.specs.Calls.{IsOver, Turns}

module _ {F W N L : Type 0} (tells : OutsideTells F W N L) (command : Option Command) (old new : Outside F W N L) where
  pub over_by : (t : Turn) → ¬ RunsOn command → Turns tells t (Comes command) old new → IsOver t
  over_by (turn.Over status) other turns = tt
  over_by (turn.Visits request) other turns = absurd (never_goes_on command other _ turns.comes tt)
  over_by (turn.Lives start) other turns = absurd (never_goes_on command other _ turns.comes tt)
  over_by (turn.Reflects reflection) other turns = absurd (never_goes_on command other _ turns.comes tt)
  over_by (turn.Keeps keeping) other turns = absurd (never_goes_on command other _ turns.comes tt)
  over_by (turn.Hosts hosting) other turns = absurd (never_goes_on command other _ turns.comes tt)
  over_by (turn.Drills request) other turns = absurd (never_goes_on command other _ turns.comes tt)
