-- A worker sends the one event that is to be given, and is answered.
use Rattle.std.proofs.Common.{◌≡◌, ℕ, ◌+◌, ◌-◌, Bool, true, false, cond, List, [], ◌∷◌, ◌++◌, drop, Option, refl, sym, ap, ◌∙◌, subst, arith}
use Rattle.wire_frames.specs.declared.frame.ClientFrame.{ClientFrame}
use Rattle.wire_frames.specs.declared.frame.ClientFrame.TheVariants.{Send}
use Rattle.wire_frames.specs.declared.frame.ServerFrame.{ServerFrame}
use Rattle.reflector_core.specs.declared.request.Reply.{Reply}
use Rattle.reflector_core.specs.declared.request.Reply.TheVariants as reply
use Rattle.join_sync.specs.Answers.{IsReplyTo, IsSendReply, answer_frame, send_answer}
use Rattle.join_sync.specs.Requests.{act_on}
use Rattle.join_sync.specs.declared.act.Act.TheVariants.{Call}
use Rattle.join_sync.specs.declared.cursor.Cursor.{Cursor}
use Rattle.reflector_core.specs.declared.request.Refusal.{Refusal}
use Rattle.reflector_core.specs.declared.request.Request.{Request}
use Rattle.reflector_core.specs.declared.request.Request.TheVariants as request
use Rattle.session_lock.specs.Passes.{SharedState}
use Rattle.drill.specs.declared.trust.TrustReplay.{TrustReplay}
use Rattle.drill.specs.declared.worker.Worker.{Worker}
use Rattle.drill.specs.Workers.{HasAsked}
use Rattle.replica_plain.specs.PlainReplica.{PlainReplica}
use Rattle.replica_plain.specs.Calls as calls
use Rattle.replica_plain.specs.Calls.{sends_after, unsent}
use Rattle.replica.specs.View.{ReplicaView, with_plain}
use Rattle.drill.specs.Turns.{HasSentIt, HasUnsent}
use Rattle.drill.specs.ViewCalls.{done_of}

left_unsent : {W O : Type 0} (r : PlainReplica W O) (outbox : List (List ℕ)) (synced : Bool) (given : ℕ) (payload : List ℕ) → outbox ≡ payload ∷ [] → given ≡ r.acknowledged → synced ≡ true
    → cond synced (sends_after given (drop (given - r.acknowledged) outbox)) [] ≡ Send (r.acknowledged + 1) payload ∷ []
left_unsent r outbox false given payload is same going = absurd cc
left_unsent r outbox true given payload is same going =
    let none : given - r.acknowledged ≡ 0 = omega (arith, same) in
    rw (none, is, same) refl

-- there is one, and it is this
pub one_unsent : (r : ReplicaView) → (has : HasUnsent r) → unsent r.plain ≡ Send (r.plain.acknowledged + 1) has.payload ∷ []
one_unsent r has = left_unsent r.plain r.plain.outbox r.plain.synced r.plain.given has.payload has.outbox has.given has.synced

-- what is answered, where the Send was not refused
pub answered_done : (number : ℕ) (given : Reply) → IsSendReply given → ((refusal : _) → given ≡ reply.Refused refusal → ⊥) → send_answer number given ≡ done_of number given
answered_done number (reply.Stamped seq time) fits never = refl
answered_done number (reply.Again seq time) fits never = refl
answered_done number (reply.Refused refusal) fits never = absurd (never refusal refl)
answered_done number (reply.Joined seq time last from base) fits never = absurd fits
answered_done number (reply.Ticked time) fits never = absurd fits
answered_done number (reply.Left seq time) fits never = absurd fits
answered_done number reply.Kept fits never = absurd fits
answered_done number (reply.Batch entries tick) fits never = absurd fits

-- ---- what is asked

pub only_one : {A : Type 0} (xs : List A) (x y : A) → xs ++ x ∷ [] ≡ y ∷ [] → x ≡ y
only_one [] x y is = cc
only_one (first ∷ []) x y is = absurd cc
only_one (first ∷ second ∷ rest) x y is = absurd cc

-- the frame is the one that is unsent
pub the_frame : (r : ReplicaView) (front : List ClientFrame) (frame : ClientFrame) (frames : List ClientFrame) → (has : HasUnsent r) → frames ≡ unsent r.plain → frames ≡ front ++ frame ∷ []
    → frame ≡ Send (r.plain.acknowledged + 1) has.payload
the_frame r front frame frames has told last = only_one front frame (Send (r.plain.acknowledged + 1) has.payload) (sym last ∙ told ∙ one_unsent r has)

module _ (gives : ℕ → Type 0) (views : ℕ) (shared : SharedState TrustReplay) (w new : Worker) (cursor : Cursor) (now : ℕ) (frame : ClientFrame) (asked_for : Request) (given : Reply) (has : HasUnsent w.replica)
    (connection : cursor.view ≡ w.view) (frame_is : frame ≡ Send (w.replica.plain.acknowledged + 1) has.payload) (acts : act_on cursor frame now ≡ Call asked_for) where
  the_request : asked_for ≡ request.Send w.view cursor.joined (w.replica.plain.acknowledged + 1) has.payload now
  the_request =
      let same : act_on cursor (Send (w.replica.plain.acknowledged + 1) has.payload) now ≡ Call asked_for = subst (λ (frame : ClientFrame). act_on cursor frame now ≡ Call asked_for) frame_is acts in
      let sent : asked_for ≡ request.Send cursor.view cursor.joined (w.replica.plain.acknowledged + 1) has.payload now = cc same in
      sent ∙ ap (λ (view : ℕ). request.Send view cursor.joined (w.replica.plain.acknowledged + 1) has.payload now) connection

  pub has_sent_it : (done : Option ServerFrame) → HasAsked gives views shared w.view w.pass new.pass asked_for given → done ≡ done_of (w.replica.plain.acknowledged + 1) given
      → new.replica ≡ with_plain w.replica (calls.gives w.replica.plain) → HasSentIt gives views shared w new cursor done
  has_sent_it done asked answered replica = record {
    now = now;
    reply = given;
    unsent = has;
    asked = subst (λ (asked_for : Request). HasAsked gives views shared w.view w.pass new.pass asked_for given) the_request asked;
    answered = answered;
    replica = replica;
  }

  -- the Done that answers, where it was not refused
  pub has_done : (done : Option ServerFrame) → done ≡ answer_frame asked_for given → IsReplyTo asked_for given → ((refusal : Refusal) → given ≡ reply.Refused refusal → ⊥) → done ≡ done_of (w.replica.plain.acknowledged + 1) given
  has_done done told fits never =
      told ∙ ap (λ (asked_for : Request). answer_frame asked_for given) the_request
      ∙ answered_done (w.replica.plain.acknowledged + 1) given (subst (λ (asked_for : Request). IsReplyTo asked_for given) the_request fits) never
