-- What is told of a drill, and a command that goes on as one.
use Rattle.std.proofs.Common.{All, ◌≡◌, inl, inr, ℕ, ◌+◌, List, [], ◌∷◌, length, map, replicate, None, Result, Ok, Err, IfOk, refl, ap, ◌∙◌}
use Rattle.std.proofs.lemmas.List.Elements.{All-cons, All-nil}
use Rattle.tea_base.specs.declared.want.WantOfMemory.{WantOfMemory}
use Rattle.model_solved.specs.Founding.{Founding}
use Rattle.reflector_core.specs.PlainSession.{PlainSession}
use Rattle.snapshot_codec.specs.Spelling.{world_spelling}
use Rattle.world.specs.Worlds.{replay}
use Rattle.replica.specs.View.{ReplicaView}
use Rattle.drill.specs.declared.report.DrillReport.{DrillReport}
use Rattle.drill.specs.declared.size.Size.{Size}
use Rattle.drill.specs.Reports.{IsWhole}
use Rattle.drill.specs.Drill.{AreReplays, HasDrilled, drill_id}
use Rattle.run_steps.specs.Steps.{Step}
use Rattle.run_steps.specs.Outside.{FilesTell, OutputTells, NetTells, LinksTell, files_side, files_side_tells, outside, outside_tells}
use Rattle.run_steps.proofs.Beside.{all_beside_net}
use Rattle.command_words.specs.declared.words.DrillRequest.{DrillRequest}
use Rattle.command_drill.specs.DrilledSteps.{drilled_steps}
use Rattle.commands.specs.Verdict.{ByDrill, Coming, Only, Verdict, drilled_verdict, fine}
use Rattle.croquet.specs.declared.status.Status.{Status}
use Rattle.croquet.specs.Calls.{OfReport, snapshot_of}
use Rattle.croquet.specs.Drills.{OfDrilled, agreed_verdict, drill_size}
use Rattle.croquet.specs.declared.status.Status.TheVariants as status
use Rattle.croquet.specs.Run.{Silent, RanAsDrill, Reaches}
use Rattle.croquet.proofs.Acts.{DoesAll}
use Rattle.croquet.proofs.Runs.{RanSo, ran_done, ran_leading}
use Rattle.croquet.proofs.VisitRuns.{ran_beside}

-- what a drill puts was put and its line printed, or this was cut
pub ran_drilled
    : {F W : Type 0} (files : FilesTell F) (out : OutputTells W) (request : DrillRequest) (report : DrillReport) (steps : List Step) (f f' : F) (w w' : W) (result : Status)
    → steps ≡ drilled_steps request report.session.plain (map snapshot_of report.replicas) report.total report.agree
    → DoesAll files out steps (Silent status.Ok) f w f' w' result → RanSo files out (OfReport request (Ok report)) f w f' w' result
ran_drilled files out request report steps f f' w w' result same does =
    ran_leading files out (Only (fine steps)) (OfReport request (Ok report)) f f' w w' result (λ verdict is. inr (is ∙ ap fine same)) (ran_done files out steps f f' w w' result does)

-- the replicas of a drill are whole
replays_whole : (s : PlainSession) (founding : Founding) (id : List ℕ) (view : ℕ) (replicas : List ReplicaView) → AreReplays s founding id view replicas → All IsWhole replicas
replays_whole s founding id view [] replays = All-nil IsWhole
replays_whole s founding id view (r ∷ rest) replays = All-cons IsWhole r rest (record { whole = replays.1.whole }) (replays_whole s founding id (view + 1) rest replays.2)

pub drilled_whole : (gives : ℕ → Type 0) (size : Size) (answer : Result DrillReport WantOfMemory) → IfOk answer (λ report. HasDrilled gives size report) → IfOk answer (λ report. All IsWhole report.replicas)
drilled_whole gives size (Ok report) drilled = replays_whole report.session.plain drilled.founding drill_id 1 report.replicas drilled.replicas
drilled_whole gives size (Err want) drilled = tt

-- replicas that have one replay have one snapshot
snapshots_agree
    : (s : PlainSession) (founding : Founding) (id : List ℕ) (view : ℕ) (replicas : List ReplicaView) → AreReplays s founding id view replicas
    → map snapshot_of replicas ≡ replicate (length replicas) (world_spelling (replay founding id s.log s.horizon).world)
snapshots_agree s founding id view [] are = refl
snapshots_agree s founding id view (r ∷ replicas) are =
    ap (λ (bytes : List ℕ). bytes ∷ map snapshot_of replicas) (ap world_spelling are.1.world)
    ∙ ap (λ (all : List (List ℕ)). world_spelling (replay founding id s.log s.horizon).world ∷ all) (snapshots_agree s founding id (view + 1) replicas are.2)

-- so what comes of a report comes of the replay
agreed : (gives : ℕ → Type 0) (request : DrillRequest) (report : DrillReport) (has : HasDrilled gives (drill_size request) report)
    → drilled_verdict request report.session.plain (map snapshot_of report.replicas) report.total report.agree
    ≡ agreed_verdict request report.session.plain (replay has.founding drill_id report.session.plain.log report.session.plain.horizon).world
agreed gives request report has =
    rw (snapshots_agree report.session.plain has.founding drill_id 1 report.replicas has.replicas, has.number, has.total, has.agree) refl

report_leads
    : (gives : ℕ → Type 0) (request : DrillRequest) (answer : Result DrillReport WantOfMemory) → IfOk answer (HasDrilled gives (drill_size request))
    → (verdict : Verdict) → OfReport request answer verdict → OfDrilled gives request answer verdict
report_leads gives request (Ok report) has verdict (inl want) = inl want
report_leads gives request (Ok report) has verdict (inr is) = inr (record { has = has; is = is ∙ agreed gives request report has })
report_leads gives request (Err wanting) has verdict is = is

-- a command that goes on as a drill
pub ran_drilling
    : {F W N L : Type 0} (gives : ℕ → Type 0) (files : FilesTell F) (out : OutputTells W) (net : NetTells N L) (links : LinksTell L) (coming : Coming) (request : DrillRequest) (answer : Result DrillReport WantOfMemory)
    (f mid f' : F) (w next w' : W) (n : N) (result : Status)
    → Reaches (files_side_tells files out) coming (ByDrill request) (files_side f w) (files_side mid next) → IfOk answer (HasDrilled gives (drill_size request))
    → RanSo files out (OfReport request answer) mid next f' w' result
    → RanAsDrill gives (outside_tells files out net links) coming (outside f w n None) (outside f' w' n None) result
ran_drilling gives files out net links coming request answer f mid f' w next w' n result reached has ran = record {
  request = request;
  ready = outside mid next n None;
  reaches = record {
    steps = reached.steps;
    comes = reached.comes;
    acts = all_beside_net net links (files_side_tells files out) n refl refl reached.steps None (files_side f w) (files_side mid next) reached.acts;
  };
  answer = answer;
  drilled = has;
  behind = ran_beside files out net links n (OfDrilled gives request answer) mid f' next w' result
      (ran_leading files out (OfReport request answer) (OfDrilled gives request answer) mid f' next w' result (report_leads gives request answer has) ran);
}
