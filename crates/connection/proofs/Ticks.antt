-- Each TICK that a line sends is at most the horizon of its session.
use Rattle.std.proofs.Common.{◌≡◌, ℕ, ◌≤◌, Bool, true, false, cond, List, [], ◌∷◌, ◌++◌, Option, Some, None, refl, sym, subst, arith}
use Rattle.tea_base.specs.declared.entry.SessionId.{SessionId}
use Rattle.wire_frames.specs.declared.frame.ClientFrame.{ClientFrame}
use Rattle.wire_frames.specs.declared.frame.ServerFrame.{ServerFrame}
use Rattle.wire_frames.specs.declared.frame.ServerFrame.TheVariants.{Sync, Recv, Tick, Done, Snapped, Refused, Alive}
use Rattle.reflector_core.specs.PlainSession.{PlainSession, IsSoundSession}
use Rattle.reflector_core.specs.Answer.{answer}
use Rattle.join_sync.specs.declared.cursor.Cursor.{Cursor}
use Rattle.system_plain.specs.ConnectionLine.{AreSoundTurns, ConnectionLine, Hears, LineTurn, Others, Pulls, after_turn, after_turns, first_line}
use Rattle.system_plain.proofs.Facts.{TicksWithin as TicksUpTo}
use Rattle.system_plain.proofs.Lines.{LineStands, Stands, hears_stands, line_stands_grow, pulls_stands}
use Rattle.system_plain.proofs.Sessions.{Grows-answer}
use Rattle.connection.specs.TalkServed.{TicksWithin}
use Rattle.connection.proofs.Lines.{IsLine}

-- ---- what a line has sent

stands_if : (over : Bool) (a b : ConnectionLine) → IsSoundSession (cond over a b).session → LineStands a → (over ≡ false → IsSoundSession b.session → LineStands b) → LineStands (cond over a b)
stands_if true a b sound held fell = held
stands_if false a b sound held fell = fell refl sound

stands_on : (id : SessionId) (line : ConnectionLine) (next : LineTurn) → IsSoundSession (after_turn id line next).session → LineStands line → LineStands (after_turn id line next)
stands_on id line (Hears frame now) sound is =
    stands_if line.over _ _ sound is (λ going new. hears_stands id line line.cursor frame now is.sound new (subst (λ (o : Bool). Stands line.session line.cursor o line.given line.sent) going is.stands))
stands_on id line Pulls sound is =
    stands_if line.over _ _ sound is (λ going new. pulls_stands line line.cursor refl going is.sound (subst (λ (o : Bool). Stands line.session line.cursor o line.given line.sent) going is.stands))
stands_on id line (Others asked) sound is =
    record { sound = sound; stands = line_stands_grow line.session (answer line.session asked).session line.cursor line.over line.given line.sent (Grows-answer line.session asked sound) is.stands }

sound_first : (id : SessionId) (line : ConnectionLine) (turns : List LineTurn) → AreSoundTurns id line turns → IsSoundSession line.session
sound_first id line [] are = are
sound_first id line (next ∷ rest) are = are.0

all_stand : (id : SessionId) (line : ConnectionLine) (turns : List LineTurn) → AreSoundTurns id line turns → LineStands line → LineStands (after_turns id line turns)
all_stand id line [] are is = is
all_stand id line (next ∷ rest) are is = all_stand id (after_turn id line next) rest are.1 (stands_on id line next (sound_first id (after_turn id line next) rest are.1) is)

stands_ticks : (s : PlainSession) (cursor : Option Cursor) (over : Bool) (given : List (Option ClientFrame)) (sent : List ServerFrame) → Stands s cursor over given sent → TicksUpTo s.horizon sent
stands_ticks s None false given sent stands = subst (TicksUpTo s.horizon) (sym stands.1) tt
stands_ticks s None true given sent stands = subst (TicksUpTo s.horizon) (sym stands.4) tt
stands_ticks s (Some cursor) over given sent sends = subst (TicksUpTo s.horizon) (sym sends.sent_is) sends.flows.ticks

-- ---- the first of what it has sent

front_within : (horizon : ℕ) (front rest : List ServerFrame) → TicksUpTo horizon (front ++ rest) → TicksWithin horizon front
front_within horizon [] rest ticks = tt
front_within horizon (Tick t ∷ front) rest ticks = (ticks.0, front_within horizon front rest ticks.1)
front_within horizon (Recv entry ∷ front) rest ticks = front_within horizon front rest ticks
front_within horizon (Sync joined last from base ∷ front) rest ticks = front_within horizon front rest ticks
front_within horizon (Done number seq time ∷ front) rest ticks = front_within horizon front rest ticks
front_within horizon (Snapped time ∷ front) rest ticks = front_within horizon front rest ticks
front_within horizon (Refused about code kept more ∷ front) rest ticks = front_within horizon front rest ticks
front_within horizon (Alive ∷ front) rest ticks = front_within horizon front rest ticks

pub line_ticks : (id : SessionId) (s final : PlainSession) (given : List (Option ClientFrame)) (sent : List ServerFrame) → IsSoundSession s → IsLine id (first_line s) final given sent → TicksWithin final.horizon sent
line_ticks id s final given sent sound line =
    let last = after_turns id (first_line s) line.turns in
    let stands = all_stand id (first_line s) line.turns line.sound (record { sound = sound; stands = (refl, refl) }) in
    let all : TicksUpTo last.session.horizon last.sent = stands_ticks last.session last.cursor last.over last.given last.sent stands.stands in
    front_within final.horizon sent line.unsent (subst (TicksUpTo final.horizon) line.sent_is (subst (λ (x : PlainSession). TicksUpTo x.horizon last.sent) line.ends all))

-- ---- a later horizon

pub ticks_later : (before now : ℕ) (frames : List ServerFrame) → before ≤ now → TicksWithin before frames → TicksWithin now frames
ticks_later before now [] le ticks = tt
ticks_later before now (Tick t ∷ rest) le ticks = (omega (arith, le, ticks.0), ticks_later before now rest le ticks.1)
ticks_later before now (Recv entry ∷ rest) le ticks = ticks_later before now rest le ticks
ticks_later before now (Sync joined last from base ∷ rest) le ticks = ticks_later before now rest le ticks
ticks_later before now (Done number seq time ∷ rest) le ticks = ticks_later before now rest le ticks
ticks_later before now (Snapped time ∷ rest) le ticks = ticks_later before now rest le ticks
ticks_later before now (Refused about code kept more ∷ rest) le ticks = ticks_later before now rest le ticks
ticks_later before now (Alive ∷ rest) le ticks = ticks_later before now rest le ticks
