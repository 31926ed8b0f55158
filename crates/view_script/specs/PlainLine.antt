-- The lines of a script as plain data, and what each script keeps.
use Rattle.std.specs.Prelude.{ℕ, ◌<◌, ◌≤◌, ◌+◌, ◌^◌, nat_le, Bool, List, [], ◌∷◌, map, length}
use Rattle.std.specs.List.{AllByRecursion}
use Rattle.tea_base.specs.Limits.{time_limit, most_payload}
use Rattle.model_value.specs.Plain.{PlainValue, InBounds}
use Rattle.model_value.specs.Payload.{payload_spelling}
use Rattle.model_value.specs.View.{plain}
use Rattle.view_bridge.specs.declared.topic.Handling.{Handling}
use Rattle.view_script.specs.declared.line.ViewLine.{ViewLine}
use Rattle.view_script.specs.declared.line.ViewLine.TheVariants as line

pub data PlainLine : Type 0 where
  -- a scope, an event and a value
  Publish : List ℕ → List ℕ → PlainValue → PlainLine
  -- a scope and an event
  Watch : List ℕ → List ℕ → Handling → PlainLine
  -- a time
  Wait : ℕ → PlainLine
  -- so long from where the view is
  WaitFor : ℕ → PlainLine
  Settle : PlainLine
  Snap : PlainLine
  Cut : PlainLine
  Quit : PlainLine
  -- a word
  Mark : List ℕ → PlainLine
  -- the number of an entry
  Vote : ℕ → PlainLine
  Show : PlainLine

-- a line in memory, with its value as a plain tree
abbrev pub plain_line : ViewLine → PlainLine
plain_line (line.Publish scope event value) = Publish scope event (plain value)
plain_line (line.Watch scope event handling) = Watch scope event handling
plain_line (line.Wait time) = Wait time
plain_line (line.WaitFor span) = WaitFor span
plain_line line.Settle = Settle
plain_line line.Snap = Snap
plain_line line.Cut = Cut
plain_line line.Quit = Quit
plain_line (line.Mark word) = Mark word
plain_line (line.Vote at) = Vote at
plain_line line.Show = Show

abbrev pub plain_lines : List ViewLine → List PlainLine
plain_lines = map plain_line

-- ---- what a script keeps

-- how many bytes the payload of an event has
abbrev pub payload_length : List ℕ → List ℕ → PlainValue → ℕ
payload_length scope event value = length (payload_spelling (record { scope = scope; event = event; value = value }))

-- whether it has no more than an event may carry
abbrev pub payload_fits : List ℕ → List ℕ → PlainValue → Bool
payload_fits scope event value = nat_le (payload_length scope event value) most_payload

-- an event's value is in bounds and its payload not too long, a time is not too late, or a span too long, and an entry's number has 32 bits
abbrev pub LineFits : PlainLine → Type 0
LineFits (Publish scope event value) = InBounds value × (payload_length scope event value ≤ most_payload)
LineFits (Watch scope event handling) = Unit {0}
LineFits (Wait time) = time < time_limit
LineFits (WaitFor span) = span < time_limit
LineFits Settle = Unit {0}
LineFits Snap = Unit {0}
LineFits Cut = Unit {0}
LineFits Quit = Unit {0}
LineFits (Mark word) = Unit {0}
LineFits (Vote at) = at < 2 ^ 32
LineFits Show = Unit {0}

-- a line that publishes counts 1, and any other 0; a vote counts where it is missed too
abbrev pub line_publishes : PlainLine → ℕ
line_publishes (Publish scope event value) = 1
line_publishes (Watch scope event handling) = 0
line_publishes (Wait time) = 0
line_publishes (WaitFor span) = 0
line_publishes Settle = 0
line_publishes Snap = 0
line_publishes Cut = 0
line_publishes Quit = 0
line_publishes (Mark word) = 0
line_publishes (Vote at) = 1
line_publishes Show = 0

-- how many lines publish
abbrev pub publish_count : List PlainLine → ℕ
publish_count [] = 0
publish_count (line ∷ lines) = line_publishes line + publish_count lines

-- the most lines that may publish
abbrev pub most_publishes : ℕ
most_publishes = 1048576

-- what is true of the lines of each script
pub record IsViewScript (lines : List PlainLine) : Type 0 where
  pub fit : AllByRecursion LineFits lines
  pub few : publish_count lines ≤ most_publishes
