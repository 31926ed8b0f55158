use Rattle.std.proofs.Common.{ℕ, ◌≡◌, ◌+◌, List, [], ◌∷◌, ◌++◌, Some, suc, slice_get, take, refl, sym, ap, ◌∙◌, subst, arith}
use Rattle.std.proofs.lemmas.List.{take_all}
use Rattle.std.proofs.lemmas.Option.{slice_get_read}
use Rattle.std.specs.Arc.{arc_value}
use Rattle.model_solved.specs.Founding.{founding_of}
use Rattle.system_core.specs.declared.step.ScheduleStep.{ScheduleStep}
use Rattle.system_core.specs.Schedules.{AreInBounds, IsInBounds, plain_system_step, plain_steps}
use Rattle.system_core.proofs.Members.{all-at, map-push}
use Rattle.system_core.proofs.Runs.{HasRun, has-run-next, has-run-none, keeps-all, not-spoilt, take-next}
use Rattle.system_core.proofs.run.Goals as goal

pub loop-step-init : goal.loop-step-init
loop-step-init c =
    let classes = arc_value c.args.program in
    let name = c.args.id.0 in
    subst (HasRun classes name []) (sym c.in_ok-system.ensures) (has-run-none classes name (c.worlds_stand.ensures (founding_of classes) name c.tell_program.ensures))

-- one step more
steps-next : (list : List ScheduleStep) (k : ℕ) (step : ScheduleStep) → slice_get list k ≡ Some step → plain_steps (take (k + 1) list) ≡ plain_steps (take k list) ++ plain_system_step step ∷ []
steps-next list k step at =
    let next : k + 1 ≡ suc k = omega arith in
    rw next (ap plain_steps (take-next list k step at) ∙ map-push plain_system_step (take k list) step)

pub loop-step-preserved : goal.loop-step-preserved
loop-step-preserved c =
    let list = c.as_slice-list.result.now in
    let k = c.loop-step.step-index in
    let at = slice_get_read list _ k c.step-item.result refl c.loop-step-test.true c.step-item.is in
    subst (λ steps. HasRun (arc_value c.args.program) c.args.id.0 steps c.take_step.new.system) (sym (steps-next list k c.step-item.result at))
    (has-run-next (arc_value c.args.program) c.args.id.0 (plain_steps (take k list)) (plain_system_step c.step-item.result) c.loop-step.system c.take_step.new.system c.loop-step.invariant c.in_ok-take_step.ensures)

pub take_step-requires : goal.take_step-requires
take_step-requires c =
    let list = c.as_slice-list.result.now in
    let k = c.loop-step.step-index in
    let at = slice_get_read list _ k c.step-item.result refl c.loop-step-test.true c.step-item.is in
    record {
      bounds = all-at IsInBounds list k c.step-item.result (subst AreInBounds (sym c.as_slice-list.ensures) c.requires) at;
      whole = not-spoilt (arc_value c.args.program) c.args.id.0 (plain_steps (take k list)) c.loop-step.system c.loop-step.invariant;
    }

pub returns : goal.returns
returns c =
    let classes = arc_value c.args.program in
    let name = c.args.id.0 in
    let steps = plain_steps c.args.steps.now in
    let run =
    subst (λ (list : List ScheduleStep). HasRun classes name (plain_steps list) c.loop-step.system) (take_all c.loop-step.step-index c.as_slice-list.result.now c.loop-step-test.false ∙ c.as_slice-list.ensures) c.loop-step.invariant in
    let keeps = keeps-all classes name steps c.loop-step.system run (λ log t. c.worlds_replay.ensures.replays (founding_of classes) name log t) in
    record {
      fold = run.fold;
      schedule_legal_log = keeps.legal;
      schedule_replicas_follow = keeps.follow;
      schedule_equal_snapshots = keeps.equal;
      schedule_kept_is_honest = keeps.honest;
      schedule_events_once = keeps.events;
      schedule_acknowledged = keeps.acknowledged;
      schedule_no_surprise = keeps.calm;
    }
