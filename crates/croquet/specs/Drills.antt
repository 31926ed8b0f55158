-- What comes of a drill's answer.
use Rattle.std.specs.Prelude.{◌≡◌, ℕ, replicate, Result, Ok, Err}
use Rattle.reflector_core.specs.PlainSession.{PlainSession}
use Rattle.tea_base.specs.declared.want.WantOfMemory.{WantOfMemory}
use Rattle.world_plain.specs.World.{WorldRecord}
use Rattle.world.specs.Worlds.{replay}
use Rattle.snapshot_codec.specs.Spelling.{world_spelling}
use Rattle.drill.specs.declared.report.DrillReport.{DrillReport}
use Rattle.drill.specs.declared.size.Size.{Size}
use Rattle.drill.specs.Drill.{HasDrilled, drill_id}
use Rattle.drill.specs.Ending.{root_total}
use Rattle.command_words.specs.declared.words.DrillRequest.{DrillRequest}
use Rattle.commands.specs.Verdict.{ByWant, Coming, Free, Only, Verdict, at_once, drilled_verdict}

abbrev pub drill_size : DrillRequest → Size
drill_size request = record { seed = request.seed; views = request.views; events = request.events }

-- what comes of a drill whose views have all come to this world: the session is put as it is stored, and the snapshot of the world for each view
abbrev pub agreed_verdict : DrillRequest → PlainSession → WorldRecord → Verdict
agreed_verdict request session w =
    drilled_verdict request session (replicate request.views (world_spelling w)) (root_total w) request.views

-- the views of a drill have all come to the replay of its log to the horizon
pub record IsDrilled (gives : ℕ → Type 0) (request : DrillRequest) (report : DrillReport)
    (verdict : Verdict) : Type 0 where
  pub has : HasDrilled gives (drill_size request) report
  pub is : verdict ≡ agreed_verdict request report.session.plain
      (replay has.founding drill_id report.session.plain.log report.session.plain.horizon).world

-- what comes of the answer
abbrev pub OfDrilled : (ℕ → Type 0) → DrillRequest → Result DrillReport WantOfMemory → Coming
OfDrilled gives request (Ok report) = Free (IsDrilled gives request report)
OfDrilled gives request (Err wanting) = Only (at_once ByWant)
