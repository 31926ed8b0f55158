-- A system's open connection does what a line does.
use Rattle.std.proofs.Common.{ℕ, ◌≡◌, List, ◌∷◌, Option, Some, None, refl, slice_get, ap, sym, ◌∙◌}
use Rattle.wire_frames.specs.declared.frame.ClientFrame.{ClientFrame}
use Rattle.wire_frames.specs.declared.frame.ServerFrame.{ServerFrame}
use Rattle.reflector_core.specs.declared.request.Request.TheVariants as request
use Rattle.reflector_core.specs.Answer.{answer}
use Rattle.replica_plain.specs.Worlds.{Worlds}
use Rattle.join_sync.specs.declared.cursor.Cursor.{Cursor}
use Rattle.system_plain.specs.ConnectionLine.{Hears, Others, Pulls, after_turn, line_on, open_connection, pulls, with_line}
use Rattle.system_plain.specs.Steps.{Pull, Take, Tick, after_joined, after_step, pull_on, take_on, with_both}
use Rattle.system_plain.specs.System.{Connection, System}
use Rattle.system_plain.proofs.Turns.{set_same}

-- the connection was given and sent these frames, and is open
abbrev IsLineAt : {W O : Type 0} → System W O → ℕ → ℕ → List ClientFrame → Option Cursor → List (Option ClientFrame) → List ServerFrame → Type 0
IsLineAt s number view up cursor given sent = slice_get s.connections number ≡ Some (open_connection view up (line_on s.session cursor given sent))

-- its Take hears the next frame
pub take_is_turn : {W O : Type 0} (m : Worlds W O) (s : System W O) (number view now : ℕ) (cursor : Option Cursor) (given : List (Option ClientFrame)) (frame : ClientFrame) (rest : List ClientFrame) (sent : List ServerFrame) → IsLineAt s number view (frame ∷ rest) cursor given sent
    → after_step m s (Take number now) ≡ with_line s number view rest (after_turn (record { 0 = m.session }) (line_on s.session cursor given sent) (Hears (Some frame) now))
take_is_turn m s number view now cursor given frame rest sent at = ap (λ (found : Option Connection). take_on m s number found now) at

-- a Tick tells it nothing
pub tick_is_turn : {W O : Type 0} (m : Worlds W O) (s : System W O) (number view now : ℕ) (cursor : Option Cursor) (given : List (Option ClientFrame)) (up : List ClientFrame) (sent : List ServerFrame) → IsLineAt s number view up cursor given sent
    → after_step m s (Tick now) ≡ with_line s number view up (after_turn (record { 0 = m.session }) (line_on s.session cursor given sent) (Others (request.Tick now)))
tick_is_turn m s number view now cursor given up sent at =
    ap (λ (connections : List Connection). record s { session = (answer s.session (request.Tick now)).session; connections = connections }) (sym (set_same s.connections number _ at))

pulling_is_turn : {W O : Type 0} (s : System W O) (number view : ℕ) (cursor : Option Cursor) (given : List (Option ClientFrame)) (up : List ClientFrame) (sent : List ServerFrame)
    → with_both s number (after_joined s.session (open_connection view up (line_on s.session cursor given sent)) cursor) ≡ with_line s number view up (pulls (line_on s.session cursor given sent) cursor)
pulling_is_turn s number view None given up sent = refl
pulling_is_turn s number view (Some cursor) given up sent = refl

-- its Pull sends what is new
pub pull_is_turn : {W O : Type 0} (m : Worlds W O) (s : System W O) (number view : ℕ) (cursor : Option Cursor) (given : List (Option ClientFrame)) (up : List ClientFrame) (sent : List ServerFrame) → IsLineAt s number view up cursor given sent
    → after_step m s (Pull number) ≡ with_line s number view up (after_turn (record { 0 = m.session }) (line_on s.session cursor given sent) Pulls)
pull_is_turn m s number view cursor given up sent at = ap (λ (found : Option Connection). pull_on s number found) at ∙ pulling_is_turn s number view cursor given up sent
