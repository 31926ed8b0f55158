-- What is put and printed of a drill.
use Rattle.std.specs.Prelude.{ℕ, ℤ, ◌*◌, List, [], ◌∷◌, ◌++◌, length, codes}
use Rattle.std.specs.Fmt.{signed_decimal}
use Rattle.text_lines.specs.Lines.{spell_numbers}
use Rattle.session_log.specs.Stored.{stored_spelling}
use Rattle.reflector_core.specs.PlainSession.{PlainSession}
use Rattle.reflector_core.specs.Stored.{stored_of}
use Rattle.run_steps.specs.Steps.{Step}
use Rattle.command_words.specs.declared.words.DrillRequest.{DrillRequest}
use Rattle.command_outcome.specs.declared.outcome.Put.{Put}
use Rattle.command_outcome.specs.Outcome.{numbered_puts, steps_of}

-- what the total of its views adds to the line of a drill
abbrev pub total_part : ℤ → List ℕ
total_part total = codes " total " ++ signed_decimal total

-- the line of a drill: its size, how many entries its log has, the total of its views, and how many of them agree
abbrev pub drilled_line : DrillRequest → ℕ → ℤ → ℕ → List ℕ
drilled_line request entries total agree =
    spell_numbers (codes "views") (request.views ∷ [])
    ++ spell_numbers (codes " events") (request.views * request.events ∷ [])
    ++ spell_numbers (codes " entries") (entries ∷ [])
    ++ total_part total
    ++ spell_numbers (codes " agree") (agree ∷ [])
    ++ codes "\n"

-- of a drill the session is put as it is stored, and the snapshot of each view, from view 1 on, and its line is printed
abbrev pub drilled_steps : DrillRequest → PlainSession → List (List ℕ) → ℤ → ℕ → List Step
drilled_steps request session snapshots total agree =
    steps_of (record { name = request.log; bytes = stored_spelling (stored_of session) }
    ∷ numbered_puts request.snapshots 1 snapshots) (drilled_line request (length session.log) total agree)
