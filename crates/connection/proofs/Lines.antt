-- A caller's talk as the work of a line, between the requests of others.
use Rattle.std.proofs.Common.{◌≡◌, ℕ, nat_lt, Bool, true, false, eqb, if◌then◌else◌, List, [], ◌∷◌, ◌++◌, Option, Some, refl, sym, ap, ◌∙◌, subst, length}
use Rattle.tea_base.specs.declared.entry.SessionId.{SessionId}
use Rattle.wire_frames.specs.declared.frame.ClientFrame.{ClientFrame}
use Rattle.wire_frames.specs.declared.frame.ServerFrame.{ServerFrame}
use Rattle.reflector_core.specs.PlainSession.{PlainSession, IsSoundSession}
use Rattle.reflector_core.specs.Answer.{SessionOutcome, answer}
use Rattle.reflector_core.specs.declared.keeper.CallFault.{CallFault}
use Rattle.reflector_core.specs.declared.keeper.CallFault.TheVariants as fault
use Rattle.reflector_core.specs.declared.request.Reply.{Reply}
use Rattle.reflector_core.specs.declared.request.Reply.TheVariants as reply
use Rattle.reflector_core.specs.declared.request.Request.{Request}
use Rattle.reflector_core.specs.declared.request.Request.TheVariants.{Pull}
use Rattle.session_lock.specs.declared.knowledge.Item.{Item}
use Rattle.session_lock.specs.declared.knowledge.Item.TheVariants.{Did, Void, Unkept}
use Rattle.session_lock.specs.History.{play_from, IsSoundThrough}
use Rattle.join_sync.specs.declared.cursor.Cursor.{Cursor}
use Rattle.join_sync.specs.Batches.{most_pulled, next_cursor, next_frames}
use Rattle.system_plain.specs.ConnectionLine.{AreSoundTurns, ConnectionLine, Hears, LineTurn, Others, Pulls, after_turn, after_turns, hears, pulls}
use Rattle.connection.specs.Exchanges.{Exchange, Answered, Unanswered, exchanges_from}

-- From the line some turns lead to a session. It hears the first of the frames that were given, and sends those that were sent and perhaps more.
pub record IsLine (id : SessionId) (line : ConnectionLine) (final : PlainSession) (given : List (Option ClientFrame)) (sent : List ServerFrame) : Type 0 where
  pub turns : List LineTurn
  pub sound : AreSoundTurns id line turns
  pub ends : (after_turns id line turns).session ≡ final
  pub unheard : List (Option ClientFrame)
  pub given_is : given ≡ (after_turns id line turns).given ++ unheard
  pub unsent : List ServerFrame
  pub sent_is : (after_turns id line turns).sent ≡ sent ++ unsent

pub turn_first : (id : SessionId) (line : ConnectionLine) (turn : LineTurn) (final : PlainSession) (given : List (Option ClientFrame)) (sent : List ServerFrame)
    → IsSoundSession line.session → IsLine id (after_turn id line turn) final given sent → IsLine id line final given sent
turn_first id line turn final given sent sound behind = record {
  turns = turn ∷ behind.turns;
  sound = (sound, behind.sound);
  ends = behind.ends;
  unheard = behind.unheard;
  given_is = behind.given_is;
  unsent = behind.unsent;
  sent_is = behind.sent_is;
}

pub turn_to : (id : SessionId) (line : ConnectionLine) (turn : LineTurn) (next : ConnectionLine) (final : PlainSession) (given : List (Option ClientFrame)) (sent : List ServerFrame)
    → IsSoundSession line.session → after_turn id line turn ≡ next → IsLine id next final given sent → IsLine id line final given sent
turn_to id line turn next final given sent sound is behind =
    turn_first id line turn final given sent sound (subst (λ (l : ConnectionLine). IsLine id l final given sent) (sym is) behind)

-- ---- others between

-- others alone go on
pub others_end : (id : SessionId) (history : List Item) (line : ConnectionLine) (final : PlainSession) (given unheard : List (Option ClientFrame)) (sent unsent : List ServerFrame)
    → IsSoundThrough line.session history → play_from line.session history ≡ final → given ≡ line.given ++ unheard → line.sent ≡ sent ++ unsent → IsLine id line final given sent
others_end id [] line final given unheard sent unsent sound ends given_is sent_is =
    record { turns = []; sound = sound; ends = ends; unheard = unheard; given_is = given_is; unsent = unsent; sent_is = sent_is }
others_end id (Did who request ∷ items) line final given unheard sent unsent sound ends given_is sent_is =
    turn_first id line (Others request) final given sent sound.0 (others_end id items (after_turn id line (Others request)) final given unheard sent unsent sound.1 ends given_is sent_is)
others_end id (Void who ∷ items) line final given unheard sent unsent sound ends given_is sent_is = others_end id items line final given unheard sent unsent sound.1 ends given_is sent_is
others_end id (Unkept who ∷ items) line final given unheard sent unsent sound ends given_is sent_is = others_end id items line final given unheard sent unsent sound.1 ends given_is sent_is

abbrev pub at_session : ConnectionLine → PlainSession → ConnectionLine
at_session line s = record line { session = s }

-- what follows once a session on the way has given the reply to the caller's next request
abbrev pub Replies : SessionId → ConnectionLine → ℕ → PlainSession → Request → Reply → List Exchange → List (Option ClientFrame) → List ServerFrame → Type 0
Replies id line caller final request replied rest given sent =
    (at : PlainSession) (items : List Item) → IsSoundSession at → replied ≡ (answer at request).reply → IsSoundThrough (answer at request).session items
    → play_from (answer at request).session items ≡ final → exchanges_from (answer at request).session caller items ≡ rest → IsLine id (at_session line at) final given sent

same_request : (a b : Request) (r s : Reply) (xs ys : List Exchange) → Answered a r ∷ xs ≡ Answered b s ∷ ys → (a ≡ b) × (r ≡ s) × (xs ≡ ys)
same_request a b r s xs ys is = (cc (is), cc (is), cc (is))

void_no : (own : Bool) (found : CallFault) (xs ys : List Exchange) (a : Request) (r : Reply) (T : Type 0) → (if own then Unanswered found ∷ [] else []) ++ xs ≡ Answered a r ∷ ys → (xs ≡ Answered a r ∷ ys → T) → T
void_no true found xs ys a r T is go = absurd (cc (is))
void_no false found xs ys a r T is go = go is

did_no : (own : Bool) (why : CallFault) (xs ys : List Exchange) (a : Request) (r : Reply) (T : Type 0) → (if own then Answered a r ∷ [] else []) ++ xs ≡ Unanswered why ∷ ys → (xs ≡ Unanswered why ∷ ys → T) → T
did_no true why xs ys a r T is go = absurd (cc (is))
did_no false why xs ys a r T is go = go is

void_either : (own : Bool) (found why : CallFault) (xs ys : List Exchange) (T : Type 0) → (if own then Unanswered found ∷ [] else []) ++ xs ≡ Unanswered why ∷ ys → (xs ≡ ys → T) → (xs ≡ Unanswered why ∷ ys → T) → T
void_either true found why xs ys T is own go = own (cc (is))
void_either false found why xs ys T is own go = go is

reaches_did : (id : SessionId) (own : Bool) (asked : Request) (items : List Item) (line : ConnectionLine) (caller : ℕ) (final : PlainSession) (request : Request) (replied : Reply) (rest : List Exchange) (given : List (Option ClientFrame)) (sent : List ServerFrame)
    → IsSoundSession line.session → IsSoundThrough (answer line.session asked).session items → play_from (answer line.session asked).session items ≡ final
    → (if own then Answered asked (answer line.session asked).reply ∷ [] else []) ++ exchanges_from (answer line.session asked).session caller items ≡ Answered request replied ∷ rest
    → (exchanges_from (answer line.session asked).session caller items ≡ Answered request replied ∷ rest → IsLine id (at_session line (answer line.session asked).session) final given sent)
    → Replies id line caller final request replied rest given sent → IsLine id line final given sent
reaches_did id true asked items line caller final request replied rest given sent sound behind ends is later then_so =
    let parts = same_request asked request (answer line.session asked).reply replied (exchanges_from (answer line.session asked).session caller items) rest is in
    subst (λ (q : Request). replied ≡ (answer line.session q).reply → IsSoundThrough (answer line.session q).session items → play_from (answer line.session q).session items ≡ final
    → exchanges_from (answer line.session q).session caller items ≡ rest → IsLine id line final given sent) (sym parts.0) (then_so line.session items sound) (sym parts.1) behind ends parts.2
reaches_did id false asked items line caller final request replied rest given sent sound behind ends is later then_so =
    turn_first id line (Others asked) final given sent sound (later is)

pub reaches : (id : SessionId) (history : List Item) (line : ConnectionLine) (caller : ℕ) (final : PlainSession) (request : Request) (replied : Reply) (rest : List Exchange) (given : List (Option ClientFrame)) (sent : List ServerFrame)
    → IsSoundThrough line.session history → play_from line.session history ≡ final → exchanges_from line.session caller history ≡ Answered request replied ∷ rest
    → Replies id line caller final request replied rest given sent → IsLine id line final given sent
reaches id [] line caller final request replied rest given sent sound ends is then_so = absurd (cc (is))
reaches id (Did who asked ∷ items) line caller final request replied rest given sent sound ends is then_so =
    reaches_did id (eqb who caller) asked items line caller final request replied rest given sent sound.0 sound.1 ends is
    (λ more. reaches id items (at_session line (answer line.session asked).session) caller final request replied rest given sent sound.1 ends more then_so) then_so
reaches id (Void who ∷ items) line caller final request replied rest given sent sound ends is then_so =
    void_no (eqb who caller) fault.WantOfMemory (exchanges_from line.session caller items) rest request replied (IsLine id line final given sent) is
    (λ more. reaches id items line caller final request replied rest given sent sound.1 ends more then_so)
reaches id (Unkept who ∷ items) line caller final request replied rest given sent sound ends is then_so =
    void_no (eqb who caller) fault.Unkept (exchanges_from line.session caller items) rest request replied (IsLine id line final given sent) is
    (λ more. reaches id items line caller final request replied rest given sent sound.1 ends more then_so)

-- the same where the call has no answer
abbrev pub GoesOn : SessionId → ConnectionLine → ℕ → PlainSession → List Exchange → List (Option ClientFrame) → List ServerFrame → Type 0
GoesOn id line caller final rest given sent =
    (at : PlainSession) (items : List Item) → IsSoundThrough at items → play_from at items ≡ final → exchanges_from at caller items ≡ rest → IsLine id (at_session line at) final given sent

pub misses : (id : SessionId) (why : CallFault) (history : List Item) (line : ConnectionLine) (caller : ℕ) (final : PlainSession) (rest : List Exchange) (given : List (Option ClientFrame)) (sent : List ServerFrame)
    → IsSoundThrough line.session history → play_from line.session history ≡ final → exchanges_from line.session caller history ≡ Unanswered why ∷ rest
    → GoesOn id line caller final rest given sent → IsLine id line final given sent
misses id why [] line caller final rest given sent sound ends is then_so = absurd (cc (is))
misses id why (Did who asked ∷ items) line caller final rest given sent sound ends is then_so =
    did_no (eqb who caller) why (exchanges_from (answer line.session asked).session caller items) rest asked (answer line.session asked).reply (IsLine id line final given sent) is
    (λ more. turn_first id line (Others asked) final given sent sound.0 (misses id why items (at_session line (answer line.session asked).session) caller final rest given sent sound.1 ends more then_so))
misses id why (Void who ∷ items) line caller final rest given sent sound ends is then_so =
    void_either (eqb who caller) fault.WantOfMemory why (exchanges_from line.session caller items) rest (IsLine id line final given sent) is
    (λ behind. then_so line.session items sound.1 ends behind)
    (λ more. misses id why items line caller final rest given sent sound.1 ends more then_so)
misses id why (Unkept who ∷ items) line caller final rest given sent sound ends is then_so =
    void_either (eqb who caller) fault.Unkept why (exchanges_from line.session caller items) rest (IsLine id line final given sent) is
    (λ behind. then_so line.session items sound.1 ends behind)
    (λ more. misses id why items line caller final rest given sent sound.1 ends more then_so)

-- ---- turns of the line itself

pub hears_is : (id : SessionId) (line : ConnectionLine) (cursor : Option Cursor) (frame : Option ClientFrame) (now : ℕ) → line.over ≡ false → line.cursor ≡ cursor
    → after_turn id line (Hears frame now) ≡ hears id line cursor frame now
hears_is id line cursor frame now clear is =
    ap (λ (b : Bool). if b then line else hears id line line.cursor frame now) clear ∙ ap (λ (c : Option Cursor). hears id line c frame now) is

abbrev session_in : SessionOutcome → PlainSession
session_in outcome = outcome.session

pull_either : (b : Bool) (s : PlainSession) (x y : SessionOutcome) → x.session ≡ s → y.session ≡ s → session_in (if b then x else y) ≡ s
pull_either true s x y one other = one
pull_either false s x y one other = other

pub pull_nothing : (s : PlainSession) (after limit : ℕ) → (answer s (Pull after limit)).session ≡ s
pull_nothing s after limit = pull_either (nat_lt (length s.log) after) s _ _ refl refl

-- a line that pulls
pub pulls_is : (id : SessionId) (line : ConnectionLine) (cursor : Cursor) → line.over ≡ false → line.cursor ≡ Some cursor
    → let given = (answer line.session (Pull cursor.after most_pulled)).reply in
    after_turn id line Pulls ≡ record { session = line.session; cursor = Some (next_cursor cursor given); over = false; given = line.given; sent = line.sent ++ next_frames cursor given }
pulls_is id line cursor clear is = ap (λ (b : Bool). if b then line else pulls line line.cursor) clear ∙ ap (pulls line) is
