use Rattle.std.proofs.Common.{◌≡◌, ◌≢◌, ℕ, List, Some, ap, sym, subst, ◌∙◌}
use Rattle.model_solved.specs.Founding.{checked_tree}
use Rattle.world_plain.specs.Messages.{PlainOutgoing}
use Rattle.world_plain.specs.World.{WorldRecord}
use Rattle.world.specs.Worlds.{field_counts}
use Rattle.snapshot_codec.specs.Answer.{snapshot_world}
use Rattle.replica_plain.specs.Taking.{Taken, synced_with}
use Rattle.replica.specs.SessionWorlds.{SessionWorldView}
use Rattle.replica.specs.View.{ReplicaView}
use Rattle.replica.proofs.Bases.{own-time, other-time}
use Rattle.replica.proofs.replica.Replica.begin_with.Goals as goal

-- what is spelled, in the words of the replica
spelled : (r s : ReplicaView) (bytes other : List ℕ) (world : WorldRecord) → r ≡ s → bytes ≡ other → snapshot_world (field_counts (checked_tree r.program)) r.id bytes ≡ Some world → snapshot_world (field_counts (checked_tree s.program)) s.id other ≡ Some world
spelled r s bytes other world same e found =
    subst (λ (b : List ℕ). snapshot_world (field_counts (checked_tree s.program)) s.id b ≡ Some world) e (subst (λ (v : ReplicaView). snapshot_world (field_counts (checked_tree v.program)) v.id bytes ≡ Some world) same found)

pub returns-then-time-base-clause-taken : goal.returns-then-time-base-clause-taken
returns-then-time-base-clause-taken c =
    let found = rw c.in-Some.is at c.in_ok-world.ensures in
    let read = spelled _ _ c.bytes.result.now c.args.base.now.bytes c.in-Some.world.world c.self.view_is c.bytes.ensures found.0 in
    let timed : c.in-Some.world.world.time ≢ c.args.base.now.time = λ e. c.if-time-base.true (c.time.ensures.time ∙ e) in
    let e = other-time c.args.self.now c.args.from c.args.base.now.time c.in-Some.world.world _ read timed in
    (ap (λ (t : Taken WorldRecord PlainOutgoing). t.fault) e, sym (ap (λ (t : Taken WorldRecord PlainOutgoing). t.replica) e))

pub returns-clause-taken : goal.returns-clause-taken
returns-clause-taken c =
    let found = rw c.in-Some.is at c.in_ok-world.ensures in
    let read = spelled _ _ c.bytes.result.now c.args.base.now.bytes c.in-Some.world.world c.self.view_is c.bytes.ensures found.0 in
    let timed : c.in-Some.world.world.time ≡ c.args.base.now.time = sym c.time.ensures.time ∙ c.if-time-base.false in
    let e = own-time c.args.self.now c.args.from c.args.base.now.time c.in-Some.world.world _ read timed in (
      ap (λ (t : Taken WorldRecord PlainOutgoing). t.fault) e,
      ap (λ (v : ReplicaView). v.plain) c.start.ensures
          ∙ ap (λ (w : SessionWorldView). synced_with c.args.self.now.plain c.in-Some.world.world w.out c.args.from (Some c.args.base.now.time)) found.1
          ∙ sym (ap (λ (t : Taken WorldRecord PlainOutgoing). t.replica) e),
    )
