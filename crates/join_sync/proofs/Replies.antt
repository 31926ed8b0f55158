-- Which replies requests get, and which requests frames make.
use Rattle.std.proofs.Common.{ℕ, ◌≡◌, ◌+◌, Bool, true, false, if◌then◌else◌, List, Option, Some, None, refl, sym, ap, subst, arith}
use Rattle.std.specs.Str.{bytes_eq}
use Rattle.tea_base.specs.declared.entry.Entry.{Entry}
use Rattle.tea_base.specs.Readings.{event_payload, last_number, view_event}
use Rattle.reflector_core.specs.PlainSession.{PlainSession}
use Rattle.reflector_core.specs.Answer.{SessionOutcome, answer, with_reply, join, leave, offer, pull, repeats, send_event}
use Rattle.reflector_core.specs.declared.request.Refusal.{Refusal}
use Rattle.reflector_core.specs.declared.request.Refusal.TheVariants.{Differs, Gap}
use Rattle.reflector_core.specs.declared.request.Reply.{Reply}
use Rattle.reflector_core.specs.declared.request.Reply.TheVariants.{Again, Refused}
use Rattle.reflector_core.specs.declared.request.Request.{Request}
use Rattle.reflector_core.specs.declared.request.Request.TheVariants as request
use Rattle.wire_frames.specs.declared.frame.ClientFrame.{ClientFrame}
use Rattle.wire_frames.specs.declared.frame.ClientFrame.TheVariants.{Join, Send, Snap, Leave, Alive}
use Rattle.wire_frames.specs.declared.start.Want.{Want}
use Rattle.wire_frames.specs.Spelling.{client_tag}
use Rattle.join_sync.specs.Answers.{IsJoinReply, IsLeaveReply, IsOfferReply, IsPullReply, IsReplyTo, IsSendReply, answer_frame}
use Rattle.join_sync.specs.Refusals.{refused_frame}
use Rattle.join_sync.specs.Requests.{IsOfFrame, act_on}
use Rattle.join_sync.specs.declared.act.Act.TheVariants.{Call}
use Rattle.join_sync.specs.declared.cursor.Cursor.{Cursor}

-- ---- replies

repeat_if : (same : Bool) (seq time : ℕ) → IsSendReply (if same then Again seq time else Refused (Differs seq))
repeat_if true seq time = tt
repeat_if false seq time = tt

repeat_is : (s : PlainSession) (payload : List ℕ) (found : Option Entry) (next : ℕ) → IsSendReply (repeats s payload found (Refused (Gap next)))
repeat_is s payload None next = tt
repeat_is s payload (Some entry) next = repeat_if (bytes_eq (event_payload entry.what) payload) entry.seq entry.time

join_is : (s : PlainSession) (view now : ℕ) (want : Want) → IsJoinReply (join s view now want).reply
join_is s view now want = grind arith

send_is : (s : PlainSession) (view joined number : ℕ) (payload : List ℕ) (now : ℕ) → IsSendReply (send_event s view joined number payload now).reply
send_is s view joined number payload now =
    let repeated = repeat_is s payload (view_event s.log view number) (last_number s.log view + 1) in
    grind arith

leave_is : (s : PlainSession) (view joined now : ℕ) → IsLeaveReply (leave s view joined now).reply
leave_is s view joined now = grind arith

offer_is : (s : PlainSession) (view joined time : ℕ) (bytes : List ℕ) → IsOfferReply (offer s view joined time bytes).reply
offer_is s view joined time bytes = grind arith

pull_is : (s : PlainSession) (after limit : ℕ) → IsPullReply (pull s after limit).reply
pull_is s after limit = grind arith

pub reply_fits : (s : PlainSession) (asked : Request) → IsReplyTo asked (answer s asked).reply
reply_fits s (request.Join view now want) = join_is s view now want
reply_fits s (request.Send view joined number payload now) = send_is s view joined number payload now
reply_fits s (request.Tick now) = tt
reply_fits s (request.Leave view joined now) = leave_is s view joined now
reply_fits s (request.Offer view joined time bytes) = offer_is s view joined time bytes
reply_fits s (request.Pull after limit) = pull_is s after limit

-- ---- the requests of frames

pub request_fits : (cursor : Cursor) (frame : ClientFrame) (now : ℕ) (asked : Request) → act_on cursor frame now ≡ Call asked → IsOfFrame asked
request_fits cursor (Join session view want) now asked is = absurd cc
request_fits cursor (Send number payload) now asked is =
    let same : request.Send cursor.view cursor.joined number payload now ≡ asked = cc in subst IsOfFrame same tt
request_fits cursor (Snap time bytes) now asked is =
    let same : request.Offer cursor.view cursor.joined time bytes ≡ asked = cc in subst IsOfFrame same tt
request_fits cursor Leave now asked is =
    let same : request.Leave cursor.view cursor.joined now ≡ asked = cc in subst IsOfFrame same tt
request_fits cursor Alive now asked is = absurd cc

-- what is said of a request whose frame has this tag
abbrev NamesFrame : ℕ → Refusal → Request → Type 0
NamesFrame tag refusal asked = answer_frame asked (Refused refusal) ≡ Some (refused_frame tag refusal)

pub refusal_names : (cursor : Cursor) (frame : ClientFrame) (now : ℕ) (asked : Request) (refusal : Refusal) → act_on cursor frame now ≡ Call asked → NamesFrame (client_tag frame) refusal asked
refusal_names cursor (Join session view want) now asked refusal is = absurd cc
refusal_names cursor (Send number payload) now asked refusal is =
    let same : request.Send cursor.view cursor.joined number payload now ≡ asked = cc in subst (NamesFrame 2 refusal) same refl
refusal_names cursor (Snap time bytes) now asked refusal is =
    let same : request.Offer cursor.view cursor.joined time bytes ≡ asked = cc in subst (NamesFrame 3 refusal) same refl
refusal_names cursor Leave now asked refusal is =
    let same : request.Leave cursor.view cursor.joined now ≡ asked = cc in subst (NamesFrame 4 refusal) same refl
refusal_names cursor Alive now asked refusal is = absurd cc

-- ---- what a call told

pub told_fits : (s new : PlainSession) (asked : Request) (given : Reply) → with_reply new given ≡ answer s asked → IsReplyTo asked given
told_fits s new asked given told = subst (IsReplyTo asked) (sym (ap (λ (o : SessionOutcome). o.reply) told)) (reply_fits s asked)
