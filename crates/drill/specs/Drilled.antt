-- What each view of a drill has done, by the log and the horizon of its session.
use Rattle.std.specs.Prelude.{if◌then◌else◌, ◌≡◌, ◌≢◌, ◌⊎◌, ◌≤◌, ◌<◌, ℕ, zero, suc, ◌+◌, ◌-◌, ◌*◌, ◌%◌, ◌==◌, pos, List, [], ◌∷◌, ◌++◌, filter, map, codes}
use Rattle.tea_base.specs.declared.entry.Entry.{Entry}
use Rattle.tea_base.specs.declared.entry.What.{What}
use Rattle.tea_base.specs.declared.entry.What.TheVariants.{Join, Exit, Event}
use Rattle.tea_base.specs.Limits.{end_of_time}
use Rattle.model_value.specs.Plain.{int}
use Rattle.model_value.specs.Payload.{payload_spelling}
use Rattle.seeded_random.specs.Draw.{word_of, state_after, number_below}

-- each seed has so many sources, one for each view
abbrev pub sources_per_seed : ℕ
sources_per_seed = 8

-- a view drops its connection and joins once more at each event whose number is a multiple of this
abbrev pub drop_interval : ℕ
drop_interval = 64

-- so many numbers below 100, drawn from this state on
abbrev pub drawn_numbers : ℕ → ℕ → List ℕ
drawn_numbers state zero = []
drawn_numbers state (suc count) = number_below 100 (word_of state) ∷ drawn_numbers (state_after state) count

-- the payload by which a view adds a number
abbrev pub add_payload : ℕ → List ℕ
add_payload number = payload_spelling (record { scope = codes "drill"; event = codes "add"; value = int (pos number) })

-- a view joins once more behind each event at which it dropped its connection
abbrev pub joins_behind : ℕ → List What
joins_behind number = if number % drop_interval == 0 then Join ∷ [] else []

-- what a view does from its event of this number on, until it leaves
abbrev pub own_turns : ℕ → List ℕ → List What
own_turns number [] = Exit ∷ []
own_turns number (drawn ∷ rest) = Event number (add_payload drawn) ∷ joins_behind number ++ own_turns (number + 1) rest

-- all that a view does
abbrev pub own : ℕ → ℕ → ℕ → List What
own seed view events = Join ∷ own_turns 1 (drawn_numbers (seed * sources_per_seed + view - 1) events)

-- the entries of a view
abbrev pub entries_by : ℕ → List Entry → List Entry
entries_by view log = filter (λ entry. entry.view == view) log

-- what a log has of a view, without seq and time
abbrev pub done_by : ℕ → List Entry → List What
done_by view log = map (λ entry. entry.what) (entries_by view log)

-- nothing of it is done, or a first part, and an Exit in place of the rest
abbrev pub IsCutShort : List What → List What → Type 0
IsCutShort whole done = (done ≡ [])
    ⊎ ((part : List What) × (rest : List What) × (part ≢ []) × (rest ≢ []) × (whole ≡ part ++ rest)
    × (done ≡ part ++ Exit ∷ []))

-- a view of the drill
abbrev pub IsOfDrill : ℕ → ℕ → Type 0
IsOfDrill views view = (1 ≤ view) × (view ≤ views)

pub record Drilled (seed views events : ℕ) (log : List Entry) (horizon : ℕ) : Type 0 where
  -- below the end of time each view has done all that it does
  pub whole : horizon < end_of_time → (view : ℕ) → IsOfDrill views view → done_by view log ≡ own seed view events
  -- and at the end of time all of it, or less
  pub cut : end_of_time ≤ horizon → (view : ℕ) → IsOfDrill views view → (done_by view log ≡ own seed view events)
      ⊎ IsCutShort (own seed view events) (done_by view log)
