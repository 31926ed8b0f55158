-- What a session's log keeps of the events that were answered Stamped.
use Rattle.std.proofs.Common.{ℕ, ◌+◌, ◌≡◌, false, List, [], ◌∷◌, ◌++◌, Option, Some, None, append_assoc, ◌∙◌, ap, sym, refl, filter, ◌==◌, arith}
use Rattle.std.proofs.lemmas.List.{append-nil}
use Rattle.tea_base.specs.declared.entry.Entry.{Entry}
use Rattle.tea_base.specs.declared.entry.What.{What}
use Rattle.tea_base.specs.declared.entry.What.TheVariants as what
use Rattle.tea_base.specs.Readings.{events, view_event, is_event, last_number}
use Rattle.tea_base.proofs.LogLaws.{events-push, TimesRise-legal, sent-events, EachCountsItsEvents-legal}
use Rattle.session_log.specs.LogState.{next_entry}
use Rattle.reflector_core.specs.PlainSession.{PlainSession, IsSoundSession}
use Rattle.reflector_core.specs.Answer.{answer, send_event, join, leave, offer, pull, append_entry, repeats, stamp}
use Rattle.reflector_core.specs.Play.{after_all, replies_from, stamped_events, stamped_event_of, stamped_event, TellsItsEvents}
use Rattle.wire_frames.specs.declared.start.Want.{Want}
use Rattle.reflector_core.specs.declared.request.Request.{Request}
use Rattle.reflector_core.specs.declared.request.Request.TheVariants.{Join, Send, Tick, Leave, Offer, Pull}
use Rattle.reflector_core.specs.declared.request.Reply.{Reply}
use Rattle.reflector_core.specs.declared.request.Reply.TheVariants.{Refused}
use Rattle.reflector_core.specs.declared.request.Refusal.{Refusal}
use Rattle.reflector_core.specs.declared.request.Refusal.TheVariants.{Gap}

-- a Join or an Exit adds no event
events-presence : (s : PlainSession) (time view : ℕ) (what : What) → is_event what ≡ false → events (append_entry s time view what).log ≡ events s.log ++ []
events-presence s time view what none = rw none at (events-push s.log (next_entry s.log time view what))

-- an Event that was sent before is not stamped again
stamped_as-repeats : (s : PlainSession) (view number : ℕ) (payload : List ℕ) (found : Option Entry) (refusal : Refusal) → stamped_event view number payload (repeats s payload found (Refused refusal)) ≡ []
stamped_as-repeats s view number payload None refusal = refl
stamped_as-repeats s view number payload (Some entry) refusal = grind arith

events-send : (s : PlainSession) (view joined number : ℕ) (payload : List ℕ) (now : ℕ) → events (send_event s view joined number payload now).session.log ≡ events s.log ++ stamped_event view number payload (send_event s view joined number payload now).reply
events-send s view joined number payload now =
    let same = append-nil (events s.log) in
    let next = last_number s.log view + 1 in
    let repeated = stamped_as-repeats s view number payload (view_event s.log view number) (Gap next) in
    let appends = events-push s.log (next_entry s.log (stamp s.horizon now) view (what.Event number payload)) in
    grind arith

events-join : (s : PlainSession) (view now : ℕ) (want : Want) → events (join s view now want).session.log ≡ events s.log ++ []
events-join s view now want =
    let same = append-nil (events s.log) in
    let appends = events-presence s (stamp s.horizon now) view what.Join refl in
    grind arith

events-leave : (s : PlainSession) (view joined now : ℕ) → events (leave s view joined now).session.log ≡ events s.log ++ []
events-leave s view joined now =
    let same = append-nil (events s.log) in
    let appends = events-presence s (stamp s.horizon now) view what.Exit refl in
    grind arith

events-offer : (s : PlainSession) (view joined time : ℕ) (snapshot : List ℕ) → events (offer s view joined time snapshot).session.log ≡ events s.log ++ []
events-offer s view joined time snapshot =
    let same = append-nil (events s.log) in
    grind arith

events-pull : (s : PlainSession) (after limit : ℕ) → events (pull s after limit).session.log ≡ events s.log ++ []
events-pull s after limit =
    let same = append-nil (events s.log) in
    grind arith

-- one request
pub events-answer : (s : PlainSession) (request : Request) → events (answer s request).session.log ≡ events s.log ++ stamped_event_of request (answer s request).reply
events-answer s (Join view now want) = events-join s view now want
events-answer s (Send view joined number payload now) = events-send s view joined number payload now
events-answer s (Tick now) = sym (append-nil (events s.log))
events-answer s (Leave view joined now) = events-leave s view joined now
events-answer s (Offer view joined time snapshot) = events-offer s view joined time snapshot
events-answer s (Pull after limit) = events-pull s after limit

-- and many
pub events-after_all : (s : PlainSession) (requests : List Request) → events (after_all s requests).log ≡ events s.log ++ stamped_events requests (replies_from s requests)
events-after_all s [] = sym (append-nil (events s.log))
events-after_all s (request ∷ rest) =
    rw (events-after_all (answer s request).session rest, events-answer s request) (append_assoc (events s.log) (stamped_event_of request (answer s request).reply) (stamped_events rest (replies_from (answer s request).session rest)))

pub TellsItsEvents-all : (opening s : PlainSession) (requests : List Request) (replies : List Reply) → IsSoundSession s → replies ≡ replies_from opening requests → s ≡ after_all opening requests → TellsItsEvents opening.log requests replies s.log
TellsItsEvents-all opening s requests replies sound replied played =
    let told : events s.log ≡ events opening.log ++ stamped_events requests replies = rw (replied, played) (events-after_all opening requests) in
    record {
      legal = sound.legal;
      times = TimesRise-legal s.log sound.legal;
      senders = λ view. sent-events s.log view ∙ ap (filter (λ (entry : Entry). entry.view == view)) told;
      events = told;
      numbers = EachCountsItsEvents-legal s.log sound.legal;
    }
