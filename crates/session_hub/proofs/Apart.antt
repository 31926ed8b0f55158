-- A session of a hub is as if it were alone.
use Rattle.std.proofs.Common.{◌≡◌, ℕ, Bool, true, false, cond, if◌then◌else◌, List, [], ◌∷◌, Option, Some, None, refl, sym, ap, ◌∙◌}
use Rattle.std.specs.Prelude.{bytes_eq, unwrap_or, nat_le, ◌&&◌, not, is_some, length}
use Rattle.std.specs.List.{find}
use Rattle.std.specs.Option.{option_map}
use Rattle.std.proofs.lemmas.Bool.{false≢true}
use Rattle.std.proofs.lemmas.Slice.Eq.{bytes_eq-Decides}
use Rattle.reflector_core.specs.Answer.{answer}
use Rattle.reflector_core.specs.PlainSession.{PlainSession}
use Rattle.reflector_core.specs.Play.{after_all, first_session, replies_from}
use Rattle.reflector_core.specs.declared.request.Reply.{Reply as SessionReply}
use Rattle.reflector_core.specs.declared.request.Request.{Request}
use Rattle.session_hub.specs.PlainHub.{HeldSession, HubOutcome, PlainHub, has_answered, hub_answer, is_full, is_of, session_in, session_of, with_hub_reply, with_session, most_sessions}
use Rattle.session_hub.specs.Isolation.{AreCallsFrom, HubCall, IsApart, IsReplyOf, after_reply, hub_after, replies_on, reply_before, reply_on, request_before, requests_on, session_reply}
use Rattle.session_hub.specs.declared.reply.HubReply.{HubReply}
use Rattle.session_hub.specs.declared.reply.HubReply.TheVariants.{Reply, HubFull}

-- ---- the session of an id, once one has changed

same_eq : (id : List ℕ) → bytes_eq id id ≡ true
same_eq id = (bytes_eq-Decides id id).1 refl

own_if : (b : Bool) (id : List ℕ) (held : HeldSession) (rest more : PlainHub) (s : PlainSession) → is_of id held ≡ b → session_of more id ≡ s
    → session_of (if b then record { id = held.id; session = s } ∷ rest else held ∷ more) id ≡ s
own_if true id held rest more s is next = rw is refl
own_if false id held rest more s is next = rw is next

own : (hub : PlainHub) (id : List ℕ) (s : PlainSession) → session_of (with_session hub id s) id ≡ s
own [] id s = rw (same_eq id) refl
own (held ∷ rest) id s = own_if (is_of id held) id held rest (with_session rest id s) s refl (own rest id s)

other_than : (id other : List ℕ) (held : HeldSession) → is_of other held ≡ true → bytes_eq other id ≡ false → is_of id held ≡ false
other_than id other held is unlike = ap (λ (x : List ℕ). bytes_eq x id) ((bytes_eq-Decides held.id other).0 is) ∙ unlike

else_if : (b c : Bool) (id other : List ℕ) (held : HeldSession) (rest more : PlainHub) (s : PlainSession) → is_of other held ≡ b → is_of id held ≡ c → bytes_eq other id ≡ false
    → session_of more id ≡ session_of rest id → session_of (if b then record { id = held.id; session = s } ∷ rest else held ∷ more) id ≡ session_of (held ∷ rest) id
else_if true true id other held rest more s is has unlike next = absurd (false≢true (sym (other_than id other held is unlike) ∙ has))
else_if true false id other held rest more s is has unlike next = rw has refl
else_if false true id other held rest more s is has unlike next = rw has refl
else_if false false id other held rest more s is has unlike next = rw has next

others : (hub : PlainHub) (id other : List ℕ) (s : PlainSession) → bytes_eq other id ≡ false → session_of (with_session hub other s) id ≡ session_of hub id
others [] id other s unlike = rw unlike refl
others (held ∷ rest) id other s unlike =
    else_if (is_of other held) (is_of id held) id other held rest (with_session rest other s) s refl refl unlike (others rest id other s unlike)

-- ---- a call

-- what a hub has after an answer, by whether it is full
abbrev answered_by : Bool → PlainHub → List ℕ → Request → HubOutcome
answered_by full hub id request = if full then with_hub_reply hub (HubFull (length hub)) else has_answered hub id (answer (session_of hub id) request)

-- what is so of the session of an id after a call
record Goes (id : List ℕ) (hub : PlainHub) (call : HubCall) (said : Option SessionReply) (next : PlainHub) : Type 0 where
  rest : (more : List Request) → after_all (session_of next id) more ≡ after_all (session_of hub id) (request_before said call more)
  replies : (more : List Request) → reply_before said (replies_from (session_of next id) more) ≡ replies_from (session_of hub id) (request_before said call more)

stays : (id : List ℕ) (hub : PlainHub) (call : HubCall) (next : PlainHub) → session_of next id ≡ session_of hub id → Goes id hub call None next
stays id hub call next is = record {
  rest = λ more. ap (λ (s : PlainSession). after_all s more) is;
  replies = λ more. ap (λ (s : PlainSession). replies_from s more) is;
}

moves : (id : List ℕ) (hub : PlainHub) (call : HubCall) (next : PlainHub) → session_of next id ≡ (answer (session_of hub id) call.request).session
    → Goes id hub call (Some (answer (session_of hub id) call.request).reply) next
moves id hub call next is = record {
  rest = λ more. ap (λ (s : PlainSession). after_all s more) is;
  replies = λ more. ap (λ (s : PlainSession). (answer (session_of hub id) call.request).reply ∷ replies_from s more) is;
}

-- of its own id
own_call : (full : Bool) (id : List ℕ) (hub : PlainHub) (call : HubCall) (reply : HubReply) → call.id ≡ id → reply ≡ (answered_by full hub call.id call.request).reply
    → Goes id hub call (session_reply (Some reply)) (answered_by full hub call.id call.request).hub
own_call true id hub call reply same is = rw is (stays id hub call hub refl)
own_call false id hub call reply same is =
    let next = with_session hub call.id (answer (session_of hub call.id) call.request).session in
    rw (is, ap (λ (x : List ℕ). session_of hub x) same)
    (moves id hub call (with_session hub call.id (answer (session_of hub id) call.request).session) (rw same (own hub id (answer (session_of hub id) call.request).session)))

-- of another id
other_call : (full : Bool) (id : List ℕ) (hub : PlainHub) (call : HubCall) → bytes_eq call.id id ≡ false → Goes id hub call None (answered_by full hub call.id call.request).hub
other_call true id hub call unlike = stays id hub call hub refl
other_call false id hub call unlike = stays id hub call _ (others hub id call.id (answer (session_of hub call.id) call.request).session unlike)

asked : (b : Bool) (id : List ℕ) (hub : PlainHub) (call : HubCall) (reply : HubReply) → bytes_eq call.id id ≡ b → reply ≡ (hub_answer hub call.id call.request).reply
    → Goes id hub call (if b then session_reply (Some reply) else None) (hub_answer hub call.id call.request).hub
asked true id hub call reply same is = own_call (is_full hub call.id) id hub call reply ((bytes_eq-Decides call.id id).0 same) is
asked false id hub call reply unlike is = other_call (is_full hub call.id) id hub call unlike

wanted : (b : Bool) (id : List ℕ) (hub : PlainHub) (call : HubCall) → Goes id hub call (if b then session_reply None else None) hub
wanted true id hub call = stays id hub call hub refl
wanted false id hub call = stays id hub call hub refl

goes : (id : List ℕ) (hub : PlainHub) (call : HubCall) (reply : Option HubReply) → IsReplyOf hub call reply
    → Goes id hub call (if bytes_eq call.id id then session_reply reply else None) (after_reply hub call reply)
goes id hub call None is = wanted (bytes_eq call.id id) id hub call
goes id hub call (Some reply) is = asked (bytes_eq call.id id) id hub call reply refl is

-- ---- calls

record ApartFrom (id : List ℕ) (hub : PlainHub) (calls : List HubCall) : Type 0 where
  replies : replies_on id calls ≡ replies_from (session_of hub id) (requests_on id calls)
  session : session_of (hub_after hub calls) id ≡ after_all (session_of hub id) (requests_on id calls)

apart_from : (id : List ℕ) (hub : PlainHub) (calls : List HubCall) → AreCallsFrom hub calls → ApartFrom id hub calls
apart_from id hub [] are = record { replies = refl; session = refl }
apart_from id hub (call ∷ rest) are =
    let next = after_reply hub call call.reply in
    let more = apart_from id next rest are.1 in
    let here = goes id hub call call.reply are.0 in
    record {
      replies = ap (reply_before (reply_on id call)) more.replies ∙ here.replies (requests_on id rest);
      session = more.session ∙ here.rest (requests_on id rest);
    }

pub apart : (id : List ℕ) (calls : List HubCall) → AreCallsFrom [] calls → IsApart id calls
apart id calls are = let from = apart_from id [] calls are in record { replies = from.replies; session = from.session }
