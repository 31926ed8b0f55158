-- The lines that a view prints.
use Rattle.std.specs.Prelude.{ℕ, List, [], ◌∷◌, ◌++◌, codes, flat_map}
use Rattle.std.specs.Str.{encode_utf8_all}
use Rattle.hex.specs.Hex.{encode_lower}
use Rattle.sha2.specs.Sha256.{sha256}
use Rattle.text_lines.specs.Lines.{spell_numbers}
use Rattle.model_tokens.specs.Spelling.{spelled_text}
use Rattle.value_text.specs.ValueText.{value_text}
use Rattle.world_plain.specs.Messages.{PlainOutgoing}
use Rattle.world_plain.specs.World.{WorldRecord}
use Rattle.snapshot_codec.specs.Spelling.{world_spelling}
use Rattle.replica_plain.specs.PlainReplica.{PlainReplica}

-- an event that is handled: its time, its scope, its name and its value
abbrev pub event_line : PlainOutgoing → List ℕ
event_line event =
    spell_numbers (codes "event") (event.time ∷ [])
    ++ 32 ∷ (spelled_text event.scope ++ 32 ∷ (spelled_text event.event ++ 32 ∷ (value_text event.value ++ 10 ∷ [])))

abbrev pub events_text : List PlainOutgoing → List ℕ
events_text events = flat_map event_line events

-- a word and numbers
abbrev pub numbers_line : List ℕ → List ℕ → List ℕ
numbers_line word numbers = spell_numbers word numbers ++ 10 ∷ []

-- the time that was waited for
abbrev pub reached_time_line : ℕ → List ℕ
reached_time_line time = numbers_line (codes "time") (time ∷ [])

-- all events are acknowledged, so many
abbrev pub settled_line : ℕ → List ℕ
settled_line count = numbers_line (codes "settled") (count ∷ [])

-- a snapshot of this time is kept
abbrev pub snapped_line : ℕ → List ℕ
snapped_line time = numbers_line (codes "snapped") (time ∷ [])

-- it is refused
abbrev pub snap_refused_line : ℕ → ℕ → List ℕ
snap_refused_line code kept = numbers_line (codes "snap-refused") (code ∷ kept ∷ [])

-- the view has joined again, by this entry, and goes on behind so many entries
abbrev pub rejoined_line : ℕ → ℕ → List ℕ
rejoined_line joined from = numbers_line (codes "rejoined") (joined ∷ from ∷ [])

-- the view voted on this entry, by its event of this number
abbrev pub voted_line : ℕ → ℕ → List ℕ
voted_line at number = numbers_line (codes "voted") (at ∷ number ∷ [])

-- it had so many entries, and so came too late to vote
abbrev pub vote_missed_line : ℕ → List ℕ
vote_missed_line seen = numbers_line (codes "vote-missed") (seen ∷ [])

-- a word of the view's own
abbrev pub mark_line : List ℕ → List ℕ
mark_line word = (codes "mark " ++ encode_utf8_all word) ++ 10 ∷ []

-- a view, its time, how many entries it has seen, and a digest
abbrev pub digested_view_line : PlainReplica WorldRecord PlainOutgoing → List ℕ → List ℕ
digested_view_line r digest =
    spell_numbers (codes "view") (r.view ∷ [])
    ++ (spell_numbers (codes " time") (r.world.time ∷ []) ++ (spell_numbers (codes " seq") (r.seen ∷ [])
    ++ (codes " digest " ++ (encode_lower digest ++ 10 ∷ []))))

-- the last line, with the digest of its snapshot
abbrev pub view_line : PlainReplica WorldRecord PlainOutgoing → List ℕ
view_line r = digested_view_line r (sha256 (world_spelling r.world))
