-- The steps of a schedule, as a plain system takes them.
use Rattle.std.specs.Prelude.{List, map}
use Rattle.std.specs.List.{AllByRecursion}
use Rattle.model_value.specs.Payload.{payload_spelling}
use Rattle.model_value.specs.Plain.{InBounds}
use Rattle.model_value.specs.View.{plain}
use Rattle.system_plain.specs.Steps.{SystemStep}
use Rattle.system_plain.specs.Steps as steps
use Rattle.system_core.specs.declared.step.ScheduleStep.{ScheduleStep}
use Rattle.system_core.specs.declared.step.ScheduleStep.TheVariants.{Found, Publish, Transmit, Take, Tick, Pull, Receive, Cut, Reconnect, Restart, Snap}

-- what is published is the payload that the scope, the event and the value spell
abbrev pub plain_system_step : ScheduleStep → SystemStep
plain_system_step (Found view) = steps.Found view
plain_system_step (Publish view scope event value) =
    steps.Publish view (payload_spelling (record { scope = scope; event = event; value = plain value }))
plain_system_step (Transmit view) = steps.Transmit view
plain_system_step (Take connection now) = steps.Take connection now
plain_system_step (Tick now) = steps.Tick now
plain_system_step (Pull connection) = steps.Pull connection
plain_system_step (Receive view) = steps.Receive view
plain_system_step (Cut connection up down) = steps.Cut connection up down
plain_system_step (Reconnect view how) = steps.Reconnect view how
plain_system_step (Restart view how) = steps.Restart view how
plain_system_step (Snap view) = steps.Snap view

abbrev pub plain_steps : List ScheduleStep → List SystemStep
plain_steps schedule = map plain_system_step schedule

-- what it publishes has a value in bounds
abbrev pub IsInBounds : ScheduleStep → Type 0
IsInBounds (Publish view scope event value) = InBounds (plain value)
IsInBounds other = Unit {0}

abbrev pub AreInBounds : List ScheduleStep → Type 0
AreInBounds schedule = AllByRecursion IsInBounds schedule
