use Rattle.system_plain.proofs.Schedules.{SpellWorlds-push, all_are_schedules, published_by-push, run_schedule-push, traffics_by-push}
use Rattle.system_plain.proofs.laws.schedules_in_parts.Goals as goal

pub returns : goal.returns
returns g c = record { runs = run_schedule-push; publishes = published_by-push; carries = traffics_by-push; spells = SpellWorlds-push; all = all_are_schedules }
