-- Every answer keeps what is true of a session, where the request's view is a number that a log can have.
use Rattle.std.proofs.Common.{ℕ, ◌+◌, ◌^◌, ◌≡◌, ◌<◌, eqb, false, not, ◌&&◌, ◌||◌, List, [], ◌∷◌, Some, length, nat_le, nat_lt, arith}
use Rattle.std.proofs.lemmas.Bool.Decides.{nat_tests}
use Rattle.tea_base.specs.declared.entry.What.TheVariants as what
use Rattle.tea_base.specs.Readings.{is_here, here_count, last_number, payload_bytes}
use Rattle.tea_base.specs.Limits.{most_here, most_payload, most_bytes, most_snapshot, end_of_time}
use Rattle.reflector_core.specs.PlainSession.{PlainSession, IsSoundSession}
use Rattle.reflector_core.specs.Answer.{answer, send_event, join, leave, offer, append_entry, stamp, is_stale, is_closed}
use Rattle.reflector_core.specs.Play.{first_session, after_all}
use Rattle.wire_frames.specs.declared.start.Want.{Want}
use Rattle.reflector_core.specs.declared.request.Request.{Request}
use Rattle.reflector_core.specs.declared.request.Request.TheVariants.{Join, Send, Tick, Leave, Offer, Pull}
use Rattle.reflector_core.proofs.SessionLaws.{exit_is_sound, event_may_follow, event_is_sound, join_may_follow, join_is_sound, IsSoundSession-later}

leave_keeps : (s : PlainSession) (view joined now : ℕ) → IsSoundSession s → view < 2 ^ 32 → IsSoundSession (leave s view joined now).session
leave_keeps s view joined now sound bound =
    let after : is_stale s.log view joined ≡ false → IsSoundSession (append_entry s (stamp s.horizon now) view what.Exit) = λ h. exit_is_sound s now view sound bound (grind arith) in
    grind arith

join_is_sound_where : (s : PlainSession) (view now : ℕ) → IsSoundSession s → view < 2 ^ 32 → eqb view 0 ≡ false → (not (is_here s.log view) && nat_le most_here (here_count s.log)) ≡ false → is_closed s.log ≡ false → nat_le end_of_time s.horizon ≡ false → IsSoundSession (append_entry s (stamp s.horizon now) view what.Join)
join_is_sound_where s view now sound bound named room unfilled before_end =
    let end : s.horizon < end_of_time = grind (arith, nat_tests) in
    let may = join_may_follow s now view sound bound (grind (arith, nat_tests)) (λ away. grind (arith, nat_tests)) (grind (arith, nat_tests)) end in
    join_is_sound s now view sound may end

join_keeps : (s : PlainSession) (view now : ℕ) (want : Want) → IsSoundSession s → view < 2 ^ 32 → IsSoundSession (join s view now want).session
join_keeps s view now want sound bound =
    let after = join_is_sound_where s view now sound bound in
    grind arith

event_is_sound_where : (s : PlainSession) (view joined number now : ℕ) (payload : List ℕ) → IsSoundSession s → view < 2 ^ 32 → is_stale s.log view joined ≡ false → nat_lt most_payload (length payload) ≡ false → nat_lt number (last_number s.log view + 1) ≡ false → nat_lt (last_number s.log view + 1) number ≡ false → (is_closed s.log || nat_lt most_bytes (payload_bytes s.log + length payload)) ≡ false → nat_le end_of_time s.horizon ≡ false → IsSoundSession (append_entry s (stamp s.horizon now) view (what.Event number payload))
event_is_sound_where s view joined number now payload sound bound fresh short least most unfilled before_end =
    let end : s.horizon < end_of_time = grind (arith, nat_tests) in
    let may = event_may_follow s now view number payload sound bound (grind arith) (grind (arith, nat_tests)) (grind (arith, nat_tests)) (grind (arith, nat_tests)) (grind (arith, nat_tests)) end in
    event_is_sound s now view number payload sound may end

-- what is true before a Send, and of the session with the event where no test refuses it, is true after it
pub send_along : (P : PlainSession → Type 0) (s : PlainSession) (view joined number : ℕ) (payload : List ℕ) (now : ℕ) → P s → (is_stale s.log view joined ≡ false → nat_lt most_payload (length payload) ≡ false → nat_lt number (last_number s.log view + 1) ≡ false → nat_lt (last_number s.log view + 1) number ≡ false → (is_closed s.log || nat_lt most_bytes (payload_bytes s.log + length payload)) ≡ false → nat_le end_of_time s.horizon ≡ false → P (append_entry s (stamp s.horizon now) view (what.Event number payload))) → P (send_event s view joined number payload now).session
send_along P s view joined number payload now holds after = grind arith

send_keeps : (s : PlainSession) (view joined number : ℕ) (payload : List ℕ) (now : ℕ) → IsSoundSession s → view < 2 ^ 32 → IsSoundSession (send_event s view joined number payload now).session
send_keeps s view joined number payload now sound bound =
    send_along IsSoundSession s view joined number payload now sound (event_is_sound_where s view joined number now payload sound bound)

-- the same of an Offer
pub offer_along : (P : PlainSession → Type 0) (s : PlainSession) (view joined time : ℕ) (snapshot : List ℕ) → P s → (nat_lt most_snapshot (length snapshot) ≡ false → nat_lt s.horizon time ≡ false → P (record { log = s.log; horizon = s.horizon; kept = Some (record { time = time; bytes = snapshot }) })) → P (offer s view joined time snapshot).session
offer_along P s view joined time snapshot holds after = grind arith

offer_keeps : (s : PlainSession) (view joined time : ℕ) (snapshot : List ℕ) → IsSoundSession s → IsSoundSession (offer s view joined time snapshot).session
offer_keeps s view joined time snapshot sound =
    offer_along IsSoundSession s view joined time snapshot sound (λ short come. record { legal = sound.legal; latest = sound.latest; here = sound.here; room = sound.room; bounded = sound.bounded; kept = (grind (arith, nat_tests), grind (arith, nat_tests)) })

-- the request's view, if it names one, is below 2^32
abbrev pub IsBounded : Request → Type 0
IsBounded (Join view now want) = view < 2 ^ 32
IsBounded (Send view joined number payload now) = view < 2 ^ 32
IsBounded (Tick now) = Unit {0}
IsBounded (Leave view joined now) = view < 2 ^ 32
IsBounded (Offer view joined time snapshot) = view < 2 ^ 32
IsBounded (Pull after limit) = Unit {0}

pub IsSoundSession-answer : (s : PlainSession) (request : Request) → IsSoundSession s → IsBounded request → IsSoundSession (answer s request).session
IsSoundSession-answer s (Join view now want) sound bound = join_keeps s view now want sound bound
IsSoundSession-answer s (Send view joined number payload now) sound bound = send_keeps s view joined number payload now sound bound
IsSoundSession-answer s (Tick now) sound bound = IsSoundSession-later s _ sound (omega arith) (omega arith)
IsSoundSession-answer s (Leave view joined now) sound bound = leave_keeps s view joined now sound bound
IsSoundSession-answer s (Offer view joined time snapshot) sound bound = offer_keeps s view joined time snapshot sound
IsSoundSession-answer s (Pull after limit) sound bound = grind arith

-- each of them is
abbrev pub AreBounded : List Request → Type 0
AreBounded [] = Unit {0}
AreBounded (request ∷ rest) = IsBounded request × AreBounded rest

pub IsSoundSession-after_all : (s : PlainSession) (requests : List Request) → IsSoundSession s → AreBounded requests → IsSoundSession (after_all s requests)
IsSoundSession-after_all s [] sound bounded = sound
IsSoundSession-after_all s (request ∷ rest) sound bounded = IsSoundSession-after_all (answer s request).session rest (IsSoundSession-answer s request sound bounded.0) bounded.1

pub IsSoundSession-first : IsSoundSession first_session
IsSoundSession-first = record { legal = tt; latest = omega arith; here = omega arith; room = omega arith; bounded = omega arith; kept = tt }
