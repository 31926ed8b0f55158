-- Calls that a session has room for.
use Rattle.std.proofs.Common.{ℕ, Result, Ok, Err, OnOk, ◌≤◌, ◌≡◌, true, List, [], ◌∷◌, arith}
use Rattle.std.proofs.lemmas.List.Sums.{sum_by-cons}
use Rattle.reflector_core.specs.declared.request.Request.{Request}
use Rattle.reflector_core.specs.declared.request.Request.TheVariants.{Join, Send, Tick, Leave, Offer, Pull}
use Rattle.reflector_core.specs.SessionState.{SessionState, IsPreparedFor, entries_used, bytes_used}
use Rattle.resend_table.specs.Noted.{spare_of}
use Rattle.reflector_core.specs.declared.session.Session.TheInside.{Inside}
use Rattle.reflector_core.specs.Kept.{session_state}
use Rattle.reflector_core.specs.Prepared.{Call, WereMade, entries_asked, bytes_asked, is_send_or_leave, AreAnswered, AnswersPrepared}

-- room for what it may use prepares for a Send or a Leave
IsPreparedFor-room : (s : SessionState) (request : Request) → entries_used request ≤ s.ready_entries → bytes_used request ≤ s.ready_bytes → is_send_or_leave request ≡ true → IsPreparedFor s request
IsPreparedFor-room s (Join view now want) entries bytes is = absurd cc
IsPreparedFor-room s (Send view joined number payload now) entries bytes is = (omega arith, bytes)
IsPreparedFor-room s (Tick now) entries bytes is = tt
IsPreparedFor-room s (Leave view joined now) entries bytes is = omega arith
IsPreparedFor-room s (Offer view joined time snapshot) entries bytes is = absurd cc
IsPreparedFor-room s (Pull after limit) entries bytes is = absurd cc

AreAnswered-made : (s : SessionState) (made : List Call) → entries_asked made ≤ s.ready_entries → bytes_asked made ≤ s.ready_bytes → WereMade s made → AreAnswered made
AreAnswered-made s [] entries bytes were = tt
AreAnswered-made s (call ∷ rest) entries bytes were =
    let used = were.0.used in
    let more_entries = sum_by-cons (λ (c : Call). entries_used c.request) call rest in
    let more_bytes = sum_by-cons (λ (c : Call). bytes_used c.request) call rest in (
      λ is. were.0.prepared (IsPreparedFor-room s call.request (omega (arith, entries, more_entries)) (omega (arith, bytes, more_bytes)) is),
      AreAnswered-made call.after rest (omega (arith, entries, more_entries, used.of_entries)) (omega (arith, bytes, more_bytes, used.of_bytes)) were.1,
    )

pub AnswersPrepared-room : (s : SessionState) (calls bytes : ℕ) → calls ≤ s.ready_entries → bytes ≤ s.ready_bytes → AnswersPrepared s calls bytes
AnswersPrepared-room s calls bytes ready_entries ready_bytes = λ made were entries payloads.
    AreAnswered-made s made (omega (arith, ready_entries, entries)) (omega (arith, ready_bytes, payloads)) were

-- where room was made, in the log and in the table
pub answers_on_ok : {T E : Type 0} (result : Result T E) (inside : Inside) (calls bytes : ℕ)
    → OnOk result (calls ≤ inside.log.spare_entries) → OnOk result (calls ≤ spare_of inside.resend) → OnOk result (bytes ≤ inside.log.spare_bytes)
    → OnOk result (AnswersPrepared (session_state inside) calls bytes)
answers_on_ok (Ok done) inside calls bytes entries notes payloads =
    AnswersPrepared-room (session_state inside) calls bytes (omega (arith, entries, notes)) payloads
answers_on_ok (Err fault) inside calls bytes entries notes payloads = tt
