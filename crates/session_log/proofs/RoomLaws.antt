-- A legal log has at most so many views here, and room for the Exit of each.
use Rattle.std.proofs.Common.{ℕ, ◌+◌, ◌≡◌, ◌≤◌, List, [], ◌∷◌, ◌++◌, length, length-append, append_assoc, sym, arith, subst}
use Rattle.std.proofs.lemmas.List.{append-nil}
use Rattle.tea_base.specs.declared.entry.Entry.{Entry}
use Rattle.tea_base.specs.declared.entry.What.{What}
use Rattle.tea_base.specs.declared.entry.What.TheVariants.{Join, Exit, Event}
use Rattle.tea_base.specs.Readings.{here_count}
use Rattle.tea_base.specs.Legal.{IsLegal, IsLegalAfter, LogAllows}
use Rattle.tea_base.specs.Limits.{most_here, most_entries}
use Rattle.tea_base.proofs.LogLaws.{here_count-push}

pub record HasRoom (log : List Entry) : Type 0 where
  pub here : here_count log ≤ most_here
  pub room : length log + here_count log ≤ most_entries

room_step : (log : List Entry) (seq time view : ℕ) (what : What) → LogAllows log view what → HasRoom log → HasRoom (log ++ record { seq = seq; time = time; view = view; what = what } ∷ [])
room_step log seq time view Join allowed has =
    let entry : Entry = record { seq = seq; time = time; view = view; what = Join } in
    let count = here_count-push log entry in
    let here : here_count (log ++ entry ∷ []) ≤ most_here = grind (arith, count, allowed.0, has.here) in
    record { here = here; room = omega (arith, here, allowed.1, length-append log (entry ∷ [])) }
room_step log seq time view Exit allowed has =
    let entry : Entry = record { seq = seq; time = time; view = view; what = Exit } in
    let count = here_count-push log entry in
    let is_in = allowed.0 in
    let falls : here_count (log ++ entry ∷ []) + 1 ≡ here_count log = grind (arith, count, is_in) in
    record { here = omega (arith, falls, has.here); room = omega (arith, falls, has.room, length-append log (entry ∷ [])) }
room_step log seq time view (Event number payload) allowed has =
    let entry : Entry = record { seq = seq; time = time; view = view; what = Event number payload } in
    let count = here_count-push log entry in
    let same : here_count (log ++ entry ∷ []) ≡ here_count log = omega (arith, count) in
    record { here = omega (arith, same, has.here); room = omega (arith, same, has.here, allowed.4, length-append log (entry ∷ [])) }

room_on : (before rest : List Entry) → HasRoom before → IsLegalAfter before rest → HasRoom (before ++ rest)
room_on before [] has legal = subst HasRoom (sym (append-nil before)) has
room_on before (entry ∷ rest) has legal =
    subst HasRoom (append_assoc before (entry ∷ []) rest)
    (room_on (before ++ entry ∷ []) rest (room_step before entry.seq entry.time entry.view entry.what legal.0.allowed has) legal.1)

pub HasRoom-legal : (log : List Entry) → IsLegal log → HasRoom log
HasRoom-legal log legal = room_on [] log (record { here = omega arith; room = omega arith }) legal
