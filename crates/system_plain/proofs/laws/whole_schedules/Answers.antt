use Rattle.system_plain.proofs.Promises.{no_differs_after}
use Rattle.system_plain.proofs.WholeSchedules.{fault_met, faults_from-push, step_replies_from-push, reply_told, schedule_agrees, schedule_expected}
use Rattle.system_plain.proofs.laws.whole_schedules.Goals as goal

pub returns : goal.returns
returns g c = record {
  no_surprise = schedule_expected;
  no_differs = schedule_agrees;
  next_send = no_differs_after;
  met = fault_met;
  told = reply_told;
  faults = faults_from-push;
  replies = step_replies_from-push;
}
