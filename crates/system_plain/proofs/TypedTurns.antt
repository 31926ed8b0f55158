-- Turns whose views are numbers of 32 bits keep a session sound.
use Rattle.std.specs.Str.{bytes_eq}
use Rattle.std.proofs.Common.{ℕ, ◌<◌, ◌^◌, Bool, true, false, cond, List, [], ◌∷◌, Option, Some, None, Ok, Err, sym, subst}
use Rattle.tea_base.specs.declared.entry.SessionId.{SessionId}
use Rattle.wire_frames.specs.declared.frame.ClientFrame.{ClientFrame}
use Rattle.wire_frames.specs.declared.frame.ClientFrame.TheVariants as up
use Rattle.wire_frames.specs.declared.start.Want.{Want}
use Rattle.wire_frames.specs.Frames.{IsTypedClient}
use Rattle.reflector_core.specs.declared.request.Reply.{Reply}
use Rattle.reflector_core.specs.declared.request.Reply.TheVariants as reply
use Rattle.reflector_core.specs.declared.request.Request.{Request}
use Rattle.reflector_core.specs.declared.request.Request.TheVariants as request
use Rattle.reflector_core.specs.Answer.{answer, tick}
use Rattle.reflector_core.specs.PlainSession.{IsSoundSession, PlainSession}
use Rattle.reflector_core.proofs.SoundLaws.{IsBounded, IsSoundSession-answer}
use Rattle.join_sync.specs.declared.cursor.Cursor.{Cursor}
use Rattle.join_sync.specs.declared.early.Early.TheVariants.{OtherSession}
use Rattle.join_sync.specs.Answers.{first_cursor}
use Rattle.join_sync.specs.Requests.{act_on, first_request}
use Rattle.system_plain.specs.ConnectionLine.{AreSoundTurns, AreTypedTurns, ConnectionLine, Hears, IsTypedRequest, IsTypedTurn, LineTurn, Others, Pulls, after_turn, first_line, hears, pulls}
use Rattle.system_plain.specs.Turn.{pull_request}
use Rattle.system_plain.proofs.Turns.{hears_act, hears_first, next_same}

abbrev IsTypedCursor : Option Cursor → Type 0
IsTypedCursor None = Unit {0}
IsTypedCursor (Some cursor) = cursor.view < 2 ^ 32

record IsTypedLine (line : ConnectionLine) : Type 0 where
  pub sound : IsSoundSession line.session
  pub cursor : IsTypedCursor line.cursor

typed_is_bounded : (asked : Request) → IsTypedRequest asked → IsBounded asked
typed_is_bounded (request.Join view now want) typed = typed
typed_is_bounded (request.Send view joined number payload now) typed = typed
typed_is_bounded (request.Tick now) typed = tt
typed_is_bounded (request.Leave view joined now) typed = typed
typed_is_bounded (request.Offer view joined time bytes) typed = typed
typed_is_bounded (request.Pull after limit) typed = tt

joined_typed : (view : ℕ) (answered : Reply) → view < 2 ^ 32 → IsTypedCursor (first_cursor view answered)
joined_typed view (reply.Joined seq time last from base) bound = bound
joined_typed view (reply.Stamped seq time) bound = tt
joined_typed view (reply.Again seq time) bound = tt
joined_typed view (reply.Ticked time) bound = tt
joined_typed view (reply.Left seq time) bound = tt
joined_typed view reply.Kept bound = tt
joined_typed view (reply.Batch entries tick) bound = tt
joined_typed view (reply.Refused why) bound = tt

acted_typed : (line : ConnectionLine) (cursor : Cursor) (frame : ClientFrame) (now : ℕ) → IsSoundSession line.session → cursor.view < 2 ^ 32 → IsTypedLine (hears_act line cursor (Some frame) (act_on cursor frame now))
acted_typed line cursor (up.Send number payload) now sound bound = record { sound = IsSoundSession-answer line.session (request.Send cursor.view cursor.joined number payload now) sound bound; cursor = bound }
acted_typed line cursor (up.Snap time bytes) now sound bound = record { sound = IsSoundSession-answer line.session (request.Offer cursor.view cursor.joined time bytes) sound bound; cursor = bound }
acted_typed line cursor up.Leave now sound bound = record { sound = IsSoundSession-answer line.session (request.Leave cursor.view cursor.joined now) sound bound; cursor = bound }
acted_typed line cursor (up.Join session view want) now sound bound = record { sound = sound; cursor = bound }
acted_typed line cursor up.Alive now sound bound = record { sound = sound; cursor = bound }

join_typed_if : (line : ConnectionLine) (session : SessionId) (view : ℕ) (want : Want) (now : ℕ) (own : Bool) → IsSoundSession line.session → view < 2 ^ 32 → IsTypedLine (hears_first line (up.Join session view want) (cond own (Ok (request.Join view now want)) (Err OtherSession)))
join_typed_if line session view want now true sound bound = record {
  sound = IsSoundSession-answer line.session (request.Join view now want) sound bound;
  cursor = joined_typed view (answer line.session (request.Join view now want)).reply bound;
}
join_typed_if line session view want now false sound bound = record { sound = sound; cursor = tt }

first_typed : (id : SessionId) (line : ConnectionLine) (frame : ClientFrame) (now : ℕ) → IsSoundSession line.session → IsTypedClient frame → IsTypedLine (hears_first line frame (first_request frame id now))
first_typed id line (up.Join session view want) now sound typed = join_typed_if line session view want now (bytes_eq session.0 id.0) sound typed.1
first_typed id line (up.Send number payload) now sound typed = record { sound = sound; cursor = tt }
first_typed id line (up.Snap time bytes) now sound typed = record { sound = sound; cursor = tt }
first_typed id line up.Leave now sound typed = record { sound = sound; cursor = tt }
first_typed id line up.Alive now sound typed = record { sound = sound; cursor = tt }

hears_typed : (id : SessionId) (line : ConnectionLine) (cursor : Option Cursor) (frame : Option ClientFrame) (now : ℕ) → IsSoundSession line.session → IsTypedCursor cursor → IsTypedTurn (Hears frame now) → IsTypedLine (hears id line cursor frame now)
hears_typed id line None None now sound bound typed = record { sound = sound; cursor = tt }
hears_typed id line None (Some frame) now sound bound typed = first_typed id line frame now sound typed
hears_typed id line (Some cursor) None now sound bound typed = record { sound = sound; cursor = bound }
hears_typed id line (Some cursor) (Some frame) now sound bound typed = acted_typed line cursor frame now sound bound

pulls_typed : (line : ConnectionLine) (cursor : Option Cursor) → IsTypedLine line → IsTypedCursor cursor → IsTypedLine (pulls line cursor)
pulls_typed line None is bound = is
pulls_typed line (Some cursor) is bound = record { sound = is.sound; cursor = subst (λ (view : ℕ). view < 2 ^ 32) (sym (next_same cursor (answer line.session (pull_request cursor)).reply).view) bound }

typed_if : (over : Bool) (a b : ConnectionLine) → IsTypedLine a → IsTypedLine b → IsTypedLine (cond over a b)
typed_if true a b held fell = held
typed_if false a b held fell = fell

turn_typed : (id : SessionId) (line : ConnectionLine) (turn : LineTurn) → IsTypedLine line → IsTypedTurn turn → IsTypedLine (after_turn id line turn)
turn_typed id line (Hears frame now) is typed = typed_if line.over _ _ is (hears_typed id line line.cursor frame now is.sound is.cursor typed)
turn_typed id line Pulls is typed = typed_if line.over _ _ is (pulls_typed line line.cursor is is.cursor)
turn_typed id line (Others asked) is typed = record { sound = IsSoundSession-answer line.session asked is.sound (typed_is_bounded asked typed); cursor = is.cursor }

turns_sound : (id : SessionId) (line : ConnectionLine) (turns : List LineTurn) → IsTypedLine line → AreTypedTurns turns → AreSoundTurns id line turns
turns_sound id line [] is typed = is.sound
turns_sound id line (turn ∷ turns) is typed = (is.sound, turns_sound id (after_turn id line turn) turns (turn_typed id line turn is typed.0) typed.1)

pub typed_turns_sound : (id : SessionId) (s : PlainSession) (turns : List LineTurn) → IsSoundSession s → AreTypedTurns turns → AreSoundTurns id (first_line s) turns
typed_turns_sound id s turns sound typed = turns_sound id (first_line s) turns (record { sound = sound; cursor = tt }) typed
