-- A session of a hub is as if it were alone.
use Rattle.std.specs.Prelude.{ℕ, ◌≡◌, bytes_eq, if◌then◌else◌, List, [], ◌∷◌, Option, Some, None}
use Rattle.reflector_core.specs.Play.{after_all, first_session, replies_from}
use Rattle.reflector_core.specs.declared.request.Reply.{Reply as SessionReply}
use Rattle.reflector_core.specs.declared.request.Request.{Request}
use Rattle.session_hub.specs.PlainHub.{PlainHub, hub_answer, session_of}
use Rattle.session_hub.specs.declared.reply.HubReply.{HubReply}
use Rattle.session_hub.specs.declared.reply.HubReply.TheVariants.{Reply, HubFull}

-- a call of a hub: the session that was asked, what for, and the reply; none where memory was wanted
pub record HubCall : Type 0 where
  pub id : List ℕ
  pub request : Request
  pub reply : Option HubReply

-- where memory was wanted nothing changes
abbrev pub after_reply : PlainHub → HubCall → Option HubReply → PlainHub
after_reply hub call None = hub
after_reply hub call (Some reply) = (hub_answer hub call.id call.request).hub

abbrev pub IsReplyOf : PlainHub → HubCall → Option HubReply → Type 0
IsReplyOf hub call None = Unit {0}
IsReplyOf hub call (Some reply) = reply ≡ (hub_answer hub call.id call.request).reply

-- these calls were made, one after the other, of a hub that had these sessions
abbrev pub AreCallsFrom : PlainHub → List HubCall → Type 0
AreCallsFrom hub [] = Unit {0}
AreCallsFrom hub (call ∷ rest) = IsReplyOf hub call call.reply × AreCallsFrom (after_reply hub call call.reply) rest

-- what it has after them
abbrev pub hub_after : PlainHub → List HubCall → PlainHub
hub_after hub [] = hub
hub_after hub (call ∷ rest) = hub_after (after_reply hub call call.reply) rest

-- what a session replied, if it was asked
abbrev pub session_reply : Option HubReply → Option SessionReply
session_reply None = None
session_reply (Some (Reply reply)) = Some reply
session_reply (Some (HubFull sessions)) = None

abbrev pub reply_on : List ℕ → HubCall → Option SessionReply
reply_on id call = if bytes_eq call.id id then session_reply call.reply else None

abbrev pub request_before : Option SessionReply → HubCall → List Request → List Request
request_before None call rest = rest
request_before (Some reply) call rest = call.request ∷ rest

abbrev pub reply_before : Option SessionReply → List SessionReply → List SessionReply
reply_before None rest = rest
reply_before (Some reply) rest = reply ∷ rest

-- the requests of the calls on this id that were answered neither that the hub is full nor by want of memory, and their replies
abbrev pub requests_on : List ℕ → List HubCall → List Request
requests_on id [] = []
requests_on id (call ∷ rest) = request_before (reply_on id call) call (requests_on id rest)

abbrev pub replies_on : List ℕ → List HubCall → List SessionReply
replies_on id [] = []
replies_on id (call ∷ rest) = reply_before (reply_on id call) (replies_on id rest)

-- They are the replies that the session gives alone, whatever calls on others come between, and the session is as after them.
pub record IsApart (id : List ℕ) (calls : List HubCall) : Type 0 where
  pub replies : replies_on id calls ≡ replies_from first_session (requests_on id calls)
  pub session : session_of (hub_after [] calls) id ≡ after_all first_session (requests_on id calls)
