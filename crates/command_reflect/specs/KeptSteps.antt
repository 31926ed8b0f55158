-- What is put and printed of a journal before its session goes on.
use Rattle.std.specs.Prelude.{◌≡◌, ℕ, ◌-◌, ◌==◌, List, [], ◌∷◌, ◌++◌, length, codes, Bool, Option, if◌then◌else◌}
use Rattle.std.specs.List.{list_all}
use Rattle.text_lines.specs.Lines.{spell_numbers}
use Rattle.session_log.specs.Stored.{PlainStored, plain_stored, stored_spelling}
use Rattle.session_journal.specs.Frames.{Place}
use Rattle.session_journal.specs.Journal.{Goes, read_journal}
use Rattle.run_steps.specs.Steps.{Step}
use Rattle.command_outcome.specs.declared.outcome.Put.{Put}
use Rattle.command_outcome.specs.Outcome.{optional_put, steps_of}
use Rattle.command_reflect.specs.declared.keeping.GoingOn.{GoingOn}
use Rattle.command_reflect.specs.declared.keeping.Keeping.{Keeping}
use Rattle.command_reflect.specs.ReflectedSteps.{log_name}

-- all bytes are 0: a system may leave such where a file was growing
abbrev pub all_zero : List ℕ → Bool
all_zero bytes = list_all (λ byte. byte == 0) bytes

-- the name under which a torn end is put: that of the journal, and `.torn`
abbrev pub torn_name : List ℕ → List ℕ
torn_name journal = journal ++ codes ".torn"

-- a torn end is put aside
abbrev pub torn_puts : List ℕ → List ℕ → List Put
torn_puts journal torn = if all_zero torn then [] else record { name = torn_name journal; bytes = torn } ∷ []

-- and its line says how many bytes it has
abbrev pub torn_line : List ℕ → List ℕ
torn_line torn = if all_zero torn then [] else spell_numbers (codes "torn") (length torn ∷ []) ++ codes "\n"

-- a torn end is put aside, the session is put as it is stored, if there is a name for it, and the torn end is told
abbrev pub going_on_steps : List ℕ → Option (List ℕ) → PlainStored → List ℕ → List Step
going_on_steps journal log stored torn =
    steps_of (torn_puts journal torn ++ optional_put log (stored_spelling stored)) (torn_line torn)

-- where a journal that was read goes on: the session that it tells, the check of its last record, and the bytes after that
abbrev pub kept_place : GoingOn → Place PlainStored
kept_place going = record { state = plain_stored going.stored; check = going.check; rest = going.torn }

-- bytes are read so, and this is put and printed of them
pub record GoesOnFrom (keeping : Keeping) (bytes : List ℕ) (going : GoingOn) : Type 0 where
  pub read : read_journal keeping.id.0 bytes ≡ Goes (kept_place going)
  pub good : going.good ≡ length bytes - length going.torn
  pub steps : steps_of going.outcome.files going.outcome.text
      ≡ going_on_steps keeping.journal (log_name keeping.log) (plain_stored going.stored) going.torn
