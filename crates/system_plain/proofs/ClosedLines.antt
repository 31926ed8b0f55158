-- A line that is closed: nothing more is sent on it, and of what was sent the end may be lost.
use Rattle.std.proofs.Common.{ℕ, ◌≡◌, ◌⊎◌, inl, inr, Bool, true, false, List, [], ◌∷◌, ◌++◌, Option, Some, None, refl, sym, ap, ◌∙◌, subst, append_assoc}
use Rattle.tea_base.specs.declared.entry.Entry.{Entry}
use Rattle.tea_base.specs.declared.entry.SessionId.{SessionId}
use Rattle.wire_frames.specs.declared.frame.ClientFrame.{ClientFrame}
use Rattle.wire_frames.specs.declared.frame.ClientFrame.TheVariants as up
use Rattle.wire_frames.specs.declared.frame.ServerFrame.{ServerFrame}
use Rattle.wire_frames.specs.declared.frame.ServerFrame.TheVariants.{Alive, Done, Recv, Refused, Snapped, Sync, Tick}
use Rattle.wire_frames.specs.Served.{AnswersInOrder, Served, Streams, answers_of}
use Rattle.wire_frames.proofs.Streams.{Streams-front}
use Rattle.reflector_core.specs.declared.request.Reply.{Reply}
use Rattle.reflector_core.specs.declared.request.Reply.TheVariants as reply
use Rattle.reflector_core.specs.declared.request.Request.TheVariants as request
use Rattle.reflector_core.specs.Answer.{answer}
use Rattle.reflector_core.specs.PlainSession.{PlainSession}
use Rattle.join_sync.specs.declared.cursor.Cursor.{Cursor}
use Rattle.system_plain.specs.ConnectionLine.{ConnectionLine, hears, line_on, pulls}
use Rattle.system_plain.proofs.Facts.{TicksWithin}
use Rattle.system_plain.proofs.Lines.{LineSends, Stands, answers_of-append, in_order_more, line_stands_grow, sends_grow, sends_with, served_of}
use Rattle.system_plain.proofs.Sessions.{Grows}

abbrev IsRefusal : List ServerFrame → Type 0
IsRefusal sent = (about : ℕ) × (code : ℕ) × (kept : ℕ) × (more : ℕ) × (sent ≡ Refused about code kept more ∷ [])

-- what was sent is nothing, or a refusal, or what a line that joined was sent
abbrev pub ClosedStands : PlainSession → List (Option ClientFrame) → List ServerFrame → Type 0
ClosedStands s given sent = (sent ≡ []) ⊎ (IsRefusal sent ⊎ ((cursor : Cursor) × LineSends s true cursor true given sent))

-- a line as it is, or once it is closed
abbrev pub StandsBy : Bool → PlainSession → Option Cursor → Bool → List (Option ClientFrame) → List ServerFrame → Type 0
StandsBy false s cursor over given sent = Stands s cursor over given sent
StandsBy true s cursor over given sent = ClosedStands s given sent

closed_sends : (s : PlainSession) (cursor : Cursor) (over : Bool) (given : List (Option ClientFrame)) (sent : List ServerFrame) → LineSends s false cursor over given sent → LineSends s true cursor true given sent
closed_sends s cursor over given sent sends =
    sends_with s s false true cursor over true given sent sends sends.within sends.by sends.answers
    (record { streams = sends.flows.streams; ticks = sends.flows.ticks; meets = λ ready. absurd cc }) sends.replies (λ still. absurd cc)

closes : (s : PlainSession) (cursor : Option Cursor) (over : Bool) (given : List (Option ClientFrame)) (sent : List ServerFrame) → Stands s cursor over given sent → ClosedStands s given sent
closes s None false given sent stands = inl stands.1
closes s None true given sent stands = inr (inl stands)
closes s (Some cursor) over given sent stands = inr (inr (cursor, closed_sends s cursor over given sent stands))

-- it closes, if it was not closed
pub stands_closed : (closed : Bool) (s : PlainSession) (cursor : Option Cursor) (over : Bool) (given : List (Option ClientFrame)) (sent : List ServerFrame) → StandsBy closed s cursor over given sent → ClosedStands s given sent
stands_closed true s cursor over given sent stands = stands
stands_closed false s cursor over given sent stands = closes s cursor over given sent stands

pub closed_grow : (s new : PlainSession) (given : List (Option ClientFrame)) (sent : List ServerFrame) → Grows s new → ClosedStands s given sent → ClosedStands new given sent
closed_grow s new given sent grows stands = elim stands [
  | inl none ↦ inl none
  | inr some ↦ elim some [ inl refusal ↦ inr (inl refusal) | inr sends ↦ inr (inr (sends.0, sends_grow s new true sends.0 true given sent grows sends.1)) ]
]

pub stands_by_grow : (closed : Bool) (s new : PlainSession) (cursor : Option Cursor) (over : Bool) (given : List (Option ClientFrame)) (sent : List ServerFrame) → Grows s new → StandsBy closed s cursor over given sent → StandsBy closed new cursor over given sent
stands_by_grow true s new cursor over given sent grows stands = closed_grow s new given sent grows stands
stands_by_grow false s new cursor over given sent grows stands = line_stands_grow s new cursor over given sent grows stands

-- more frames are heard, and nothing is answered
pub closed_more : (s : PlainSession) (given heard : List (Option ClientFrame)) (sent : List ServerFrame) → ClosedStands s given sent → ClosedStands s (given ++ heard) sent
closed_more s given heard sent stands = elim stands [
  | inl none ↦ inl none
  | inr some ↦ elim some [
    | inl refusal ↦ inr (inl refusal)
    | inr held ↦ let sends = held.1 in inr (inr (
      held.0,
      record {
        want = sends.want;
        last = sends.last;
        from = sends.from;
        time = sends.time;
        base = sends.base;
        more = sends.more ++ heard;
        rest = sends.rest;
        session = sends.session;
        given_is = ap (λ (l : List (Option ClientFrame)). l ++ heard) sends.given_is;
        sent_is = sends.sent_is;
        positive = sends.positive;
        within = sends.within;
        by = sends.by;
        answers = sends.answers;
        flows = sends.flows;
        replies = in_order_more s.log held.0.view sends.more heard (answers_of sends.rest) sends.replies;
        whole = λ still. absurd cc;
      },
    ))
  ]
]

-- ---- the end is lost

in_order_front : (log : List Entry) (view : ℕ) (given : List (Option ClientFrame)) (front rest : List ServerFrame) → AnswersInOrder log view given (front ++ rest) → AnswersInOrder log view given front
in_order_front log view given [] rest are = tt
in_order_front log view [] (answer ∷ front) rest are = absurd are
in_order_front log view (frame ∷ given) (answer ∷ front) rest are = elim are [
  | inl answered ↦ inl (answered.0, in_order_front log view given front rest answered.1)
  | inr skipped ↦ inr (skipped.0, in_order_front log view given (answer ∷ front) rest skipped.1)
]

ticks_front : (horizon : ℕ) (front rest : List ServerFrame) → TicksWithin horizon (front ++ rest) → TicksWithin horizon front
ticks_front horizon [] rest ticks = tt
ticks_front horizon (Tick t ∷ front) rest ticks = (ticks.0, ticks_front horizon front rest ticks.1)
ticks_front horizon (Recv entry ∷ front) rest ticks = ticks_front horizon front rest ticks
ticks_front horizon (Sync joined last from base ∷ front) rest ticks = ticks_front horizon front rest ticks
ticks_front horizon (Done number seq time ∷ front) rest ticks = ticks_front horizon front rest ticks
ticks_front horizon (Snapped time ∷ front) rest ticks = ticks_front horizon front rest ticks
ticks_front horizon (Refused about code kept more ∷ front) rest ticks = ticks_front horizon front rest ticks
ticks_front horizon (Alive ∷ front) rest ticks = ticks_front horizon front rest ticks

none_front : (front rest : List ServerFrame) → front ++ rest ≡ [] → front ≡ []
none_front [] rest is = refl
none_front (frame ∷ front) rest is = absurd cc

front_of_refusal : (first : ServerFrame) (front rest : List ServerFrame) → IsRefusal (first ∷ (front ++ rest)) → IsRefusal (first ∷ front)
front_of_refusal first front rest refusal =
    let whole : first ∷ (front ++ rest) ≡ Refused refusal.0 refusal.1 refusal.2 refusal.3 ∷ [] = refusal.4 in
    let same : first ≡ Refused refusal.0 refusal.1 refusal.2 refusal.3 = cc in
    let none : front ++ rest ≡ [] = cc in
    (refusal.0, refusal.1, refusal.2, refusal.3, ap (λ (f : ServerFrame). f ∷ front) same ∙ ap (λ (l : List ServerFrame). Refused refusal.0 refusal.1 refusal.2 refusal.3 ∷ l) (none_front front rest none))

front_of_sends : (s : PlainSession) (cursor : Cursor) (given : List (Option ClientFrame)) (first : ServerFrame) (front rest : List ServerFrame) → LineSends s true cursor true given (first ∷ (front ++ rest)) → LineSends s true cursor true given (first ∷ front)
front_of_sends s cursor given first front rest sends =
    let whole : first ∷ (front ++ rest) ≡ Sync cursor.joined sends.last sends.from sends.base ∷ sends.rest = sends.sent_is in
    let same : first ≡ Sync cursor.joined sends.last sends.from sends.base = cc in
    let left : front ++ rest ≡ sends.rest = cc in
    record {
      want = sends.want;
      last = sends.last;
      from = sends.from;
      time = sends.time;
      base = sends.base;
      more = sends.more;
      rest = front;
      session = sends.session;
      given_is = sends.given_is;
      sent_is = ap (λ (f : ServerFrame). f ∷ front) same;
      positive = sends.positive;
      within = sends.within;
      by = sends.by;
      answers = sends.answers;
      flows = record {
        streams = Streams-front s.log _ front rest (subst (Streams s.log _) (sym left) sends.flows.streams);
        ticks = ticks_front s.horizon front rest (subst (TicksWithin s.horizon) (sym left) sends.flows.ticks);
        meets = λ ready. absurd cc;
      };
      replies = in_order_front s.log cursor.view sends.more (answers_of front) (answers_of rest)
          (subst (AnswersInOrder s.log cursor.view sends.more) (answers_of-append front rest) (subst (λ (l : List ServerFrame). AnswersInOrder s.log cursor.view sends.more (answers_of l)) (sym left) sends.replies));
      whole = λ still. absurd cc;
    }

pub closed_front : (s : PlainSession) (given : List (Option ClientFrame)) (front rest : List ServerFrame) → ClosedStands s given (front ++ rest) → ClosedStands s given front
closed_front s given [] rest stands = inl refl
closed_front s given (first ∷ front) rest stands = elim stands [
  | inl none ↦ absurd cc
  | inr some ↦ elim some [
    | inl refusal ↦ inr (inl (front_of_refusal first front rest refusal))
    | inr sends ↦ inr (inr (sends.0, front_of_sends s sends.0 given first front rest sends.1))
  ]
]

-- ---- what is served

pub closed_is_served : (s : PlainSession) (given : List (Option ClientFrame)) (sent : List ServerFrame) → ClosedStands s given sent → Served s.log given sent
closed_is_served s given sent stands = elim stands [
  | inl none ↦ rw none tt
  | inr some ↦ elim some [
    | inl refusal ↦ rw refusal.4 refl
    | inr held ↦ let sends = held.1 in rw (sends.given_is, sends.sent_is) (sends.time, sends.answers, record { streams = sends.flows.streams; answers = sends.replies })
  ]
]

pub stands_by_is_served : (closed : Bool) (s : PlainSession) (cursor : Option Cursor) (over : Bool) (given : List (Option ClientFrame)) (sent : List ServerFrame) → StandsBy closed s cursor over given sent → Served s.log given sent
stands_by_is_served true s cursor over given sent stands = closed_is_served s given sent stands
stands_by_is_served false s cursor over given sent stands = served_of s cursor over given sent stands

-- ---- a line that was sent more before

abbrev pub prefixed : List ServerFrame → ConnectionLine → ConnectionLine
prefixed front line = record line { sent = front ++ line.sent }

resent : (session : PlainSession) (cursor : Option Cursor) (over : Bool) (given : List (Option ClientFrame)) (front sent more : List ServerFrame)
    → record { session = session; cursor = cursor; over = over; given = given; sent = (front ++ sent) ++ more } ≡ prefixed front (record { session = session; cursor = cursor; over = over; given = given; sent = sent ++ more })
resent session cursor over given front sent more = ap (λ (l : List ServerFrame). record { session = session; cursor = cursor; over = over; given = given; sent = l }) (append_assoc front sent more)

-- what it hears adds the same
pub hears_prefixed : (id : SessionId) (s : PlainSession) (cursor : Option Cursor) (given : List (Option ClientFrame)) (front sent : List ServerFrame) (frame : ClientFrame) (now : ℕ)
    → hears id (line_on s cursor given (front ++ sent)) cursor (Some frame) now ≡ prefixed front (hears id (line_on s cursor given sent) cursor (Some frame) now)
hears_prefixed id s cursor given front sent frame now = resent _ _ _ _ front sent _

pub pulls_prefixed : (s : PlainSession) (cursor : Option Cursor) (given : List (Option ClientFrame)) (front sent : List ServerFrame) → pulls (line_on s cursor given (front ++ sent)) cursor ≡ prefixed front (pulls (line_on s cursor given sent) cursor)
pulls_prefixed s None given front sent = refl
pulls_prefixed s (Some cursor) given front sent = resent _ _ _ _ front sent _

pub pulls_given : (s : PlainSession) (cursor : Option Cursor) (given : List (Option ClientFrame)) (sent : List ServerFrame) → (pulls (line_on s cursor given sent) cursor).given ≡ given
pulls_given s None given sent = refl
pulls_given s (Some cursor) given sent = refl
