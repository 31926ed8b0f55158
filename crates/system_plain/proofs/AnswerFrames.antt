-- What is true of each frame that may answer is true of the frames of an answer.
use Rattle.std.proofs.Common.{ℕ, ◌≡◌, List, [], ◌∷◌, refl, sym, subst}
use Rattle.wire_frames.specs.declared.frame.ServerFrame.{ServerFrame}
use Rattle.wire_frames.specs.declared.frame.ServerFrame.TheVariants.{Refused, Snapped}
use Rattle.wire_frames.specs.declared.tags.TheConstants.{SNAP_TAG, LEAVE_TAG}
use Rattle.reflector_core.specs.declared.request.Refusal.{Refusal}
use Rattle.reflector_core.specs.declared.request.Refusal.TheVariants as refusal
use Rattle.reflector_core.specs.declared.request.Reply.{Reply}
use Rattle.reflector_core.specs.declared.request.Reply.TheVariants as reply
use Rattle.join_sync.specs.Answers.{leave_answer, snap_answer}
use Rattle.join_sync.specs.Refusals.{refused_frame}
use Rattle.system_plain.specs.Steps.{answer_frames}

pub refused_form : (about : ℕ) (why : Refusal) → (code : ℕ) × (kept : ℕ) × (more : ℕ) × (refused_frame about why ≡ Refused about code kept more)
refused_form about (refusal.Stale current) = (1, current, 0, refl)
refused_form about (refusal.TooLong len) = (2, len, 0, refl)
refused_form about (refusal.Differs seq) = (3, seq, 0, refl)
refused_form about (refusal.Gap expected) = (4, expected, 0, refl)
refused_form about (refusal.LogFull entries bytes) = (5, entries, bytes, refl)
refused_form about (refusal.TimeEnd horizon) = (6, horizon, 0, refl)
refused_form about (refusal.ViewsFull here) = (7, here, 0, refl)
refused_form about refusal.BadView = (8, 0, 0, refl)
refused_form about (refusal.Ahead horizon) = (9, horizon, 0, refl)
refused_form about (refusal.Older kept) = (10, kept, 0, refl)
refused_form about (refusal.NoSuchSeq len) = (11, len, 0, refl)

pub of_refusal : (P : List ServerFrame → Type 0) → ((about code kept more : ℕ) → P (Refused about code kept more ∷ [])) → (about : ℕ) (why : Refusal) → P (refused_frame about why ∷ [])
of_refusal P refused about why =
    let form = refused_form about why in
    subst (λ (frame : ServerFrame). P (frame ∷ [])) (sym form.3) (refused about form.0 form.1 form.2)

pub of_snap_answer
    : (P : List ServerFrame → Type 0) → P [] → ((time : ℕ) → P (Snapped time ∷ [])) → ((about code kept more : ℕ) → P (Refused about code kept more ∷ []))
    → (time : ℕ) (answered : Reply) → P (answer_frames (snap_answer time answered))
of_snap_answer P none snapped refused time (reply.Refused why) = of_refusal P refused SNAP_TAG why
of_snap_answer P none snapped refused time reply.Kept = snapped time
of_snap_answer P none snapped refused time (reply.Stamped seq at) = none
of_snap_answer P none snapped refused time (reply.Again seq at) = none
of_snap_answer P none snapped refused time (reply.Left seq at) = none
of_snap_answer P none snapped refused time (reply.Joined seq at last from base) = none
of_snap_answer P none snapped refused time (reply.Ticked at) = none
of_snap_answer P none snapped refused time (reply.Batch entries tick) = none

pub of_leave_answer : (P : List ServerFrame → Type 0) → P [] → ((about code kept more : ℕ) → P (Refused about code kept more ∷ [])) → (answered : Reply) → P (answer_frames (leave_answer answered))
of_leave_answer P none refused (reply.Refused why) = of_refusal P refused LEAVE_TAG why
of_leave_answer P none refused reply.Kept = none
of_leave_answer P none refused (reply.Stamped seq time) = none
of_leave_answer P none refused (reply.Again seq time) = none
of_leave_answer P none refused (reply.Left seq time) = none
of_leave_answer P none refused (reply.Joined seq time last from base) = none
of_leave_answer P none refused (reply.Ticked time) = none
of_leave_answer P none refused (reply.Batch entries tick) = none
