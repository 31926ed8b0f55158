-- A worker offers the snapshot of its world.
use Rattle.std.proofs.Common.{◌≡◌, ◌≤◌, ℕ, true, List, Some, length, sym, ap, ◌∙◌, subst}
use Rattle.std.specs.Arc.{arc_value}
use Rattle.tea_base.specs.Limits.{most_snapshot}
use Rattle.world_plain.specs.World.{WorldRecord}
use Rattle.snapshot_codec.specs.Answer.{IsSnapshot}
use Rattle.snapshot_codec.proofs.Sizes.{IsSmall-valid, world_spelling-le}
use Rattle.reflector_core.specs.PlainSession.{PlainSession}
use Rattle.reflector_core.specs.declared.request.Request.TheVariants.{Offer}
use Rattle.reflector_core.specs.declared.request.Reply.{Reply}
use Rattle.session_lock.specs.History.{IsSoundThrough}
use Rattle.session_lock.specs.Passes.{PassState, Replied, SharedState}
use Rattle.join_sync.specs.declared.cursor.Cursor.{Cursor}
use Rattle.model_solved.specs.Founding.{founding_of}
use Rattle.world.specs.Worlds.{replay}
use Rattle.replica.specs.RealWorlds.{is_at_rest}
use Rattle.replica.specs.View.{ReplicaView, worlds_of}
use Rattle.drill.specs.declared.size.Size.{Size}
use Rattle.drill.specs.declared.trust.TrustReplay.{TrustReplay}
use Rattle.drill.specs.declared.worker.Worker.{Worker}
use Rattle.drill.specs.Trust.{AllowsReplay}
use Rattle.drill.specs.Turns.{HasOffered}
use Rattle.drill.specs.Workers.{HasAsked, IsTrustedReplay, IsWorker}
use Rattle.drill.specs.Working.{ReplicaWorks}
use Rattle.drill.proofs.Asks.{has_asked}

-- the snapshot of a replica that follows the log, and is at rest, is that of the replay to its time
pub may_offer
    : (shared : SharedState TrustReplay) (s : PlainSession) (r : ReplicaView) (cursor : Cursor) (time : ℕ) (bytes : List ℕ) → r.program ≡ arc_value shared.trust.program → r.id ≡ shared.id.0
    → ReplicaWorks s r cursor → r.plain.world ≡ (replay (founding_of r.program) r.id s.log r.plain.world.time).world → is_at_rest r.plain.world ≡ true → (worlds_of r).unsnap bytes ≡ Some r.plain.world
    → time ≡ r.plain.world.time → AllowsReplay (founding_of (arc_value shared.trust.program)) shared.id.0 s.log s.horizon time bytes
may_offer shared s r cursor time bytes program id works same rests read is =
    rw (sym program, sym id, is)
    (record {
      within = works.within;
      replays = read ∙ ap (λ (w : WorldRecord). Some w) same;
      timed = ap (λ (w : WorldRecord). w.time) (sym same);
      rests = subst (λ (w : WorldRecord). is_at_rest w ≡ true) same rests;
    })

-- a session may keep a snapshot of any world
snapshot_small : (counts id bytes : List ℕ) (w : WorldRecord) → IsSnapshot counts id bytes w → length bytes ≤ most_snapshot
snapshot_small counts id bytes w is =
    subst (λ (bytes : List ℕ). length bytes ≤ most_snapshot) (sym is.spelled) (world_spelling-le w is.world.id is.world.kinds (IsSmall-valid w (counts, is.valid)))

pub has_offered
    : (gives : ℕ → Type 0) (size : Size) (shared : SharedState TrustReplay) (w : Worker) (after : PassState) (cursor : Cursor) (time : ℕ) (bytes : List ℕ) (reply : Reply) (counts id : List ℕ)
    → time ≡ w.replica.plain.world.time → IsWorker gives size shared w → IsSnapshot counts id bytes w.replica.plain.world
    → Replied (IsTrustedReplay shared) w.pass after (Offer w.view cursor.joined time bytes) reply → IsSoundThrough w.pass.opening after.seen
    → HasOffered gives size.views shared w (record w { pass = after }) cursor
has_offered gives size shared w after cursor time bytes reply counts id is worker snapshot replied sound = record {
  bytes = bytes;
  reply = reply;
  small = snapshot_small counts id bytes w.replica.plain.world snapshot;
  asked = subst (λ (time : ℕ). HasAsked gives size.views shared w.view w.pass after (Offer w.view cursor.joined time bytes) reply) is
      (has_asked gives size shared w after (Offer w.view cursor.joined time bytes) reply worker replied sound);
}
