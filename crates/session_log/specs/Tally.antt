-- What is kept of the entries that were read, and that it tells what they are.
use Rattle.std.specs.Prelude.{ℕ, ◌+◌, ◌-◌, ◌≡◌, false, List, unwrap_or, if◌then◌else◌}
use Rattle.std.specs.BTreeMap.{BTreeMap, get}
use Rattle.std.specs.Ordering.{nat_cmp}
use Rattle.tea_base.specs.declared.entry.Entry.{Entry}
use Rattle.tea_base.specs.declared.entry.What.{What}
use Rattle.tea_base.specs.declared.entry.What.TheVariants.{Join, Exit, Event}
use Rattle.tea_base.specs.Readings.{here_count, last_time}
use Rattle.session_log.specs.Legality.{view_state}
use Rattle.session_log.specs.declared.legality.ViewState.{ViewState}
use Rattle.session_log.specs.declared.tally.Tally.{Tally}

-- a view that no entry names
abbrev pub absent : ViewState
absent = record { here = false; number = 0 }

abbrev pub view_state_in : BTreeMap ℕ ViewState → ℕ → ViewState
view_state_in stands view = unwrap_or (get nat_cmp stands view) absent

-- how many views are here after an entry of a view that stood so
abbrev pub here_after : ℕ → ViewState → What → ℕ
here_after count view Join = if view.here then count else count + 1
here_after count view Exit = count - 1
here_after count view (Event number payload) = count

pub record TellsLog (tally : Tally) (log : List Entry) : Type 0 where
  pub time : tally.time ≡ last_time log
  pub views_here : tally.views_here ≡ here_count log
  pub stands : (view : ℕ) → view_state_in tally.stands view ≡ view_state log view

-- both tell the same
pub record TellsTheSame (tally other : Tally) : Type 0 where
  pub time : other.time ≡ tally.time
  pub views_here : other.views_here ≡ tally.views_here
  pub stands : (view : ℕ) → view_state_in other.stands view ≡ view_state_in tally.stands view
