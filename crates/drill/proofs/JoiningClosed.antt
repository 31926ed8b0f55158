-- A replica joins by a closed log.
use Rattle.std.proofs.Common.{◌≡◌, ℕ, cond, List, None, refl, sym, ap, ◌∙◌, subst, nat_lt, arith}
use Rattle.tea_base.specs.declared.entry.Entry.{Entry}
use Rattle.tea_base.specs.Readings.{last_number}
use Rattle.tea_base.proofs.LogLaws.{TimesRise-legal}
use Rattle.wire_frames.specs.declared.frame.ServerFrame.TheVariants.{Sync}
use Rattle.wire_frames.proofs.Times.{none_until}
use Rattle.reflector_core.specs.PlainSession.{PlainSession, IsSoundSession}
use Rattle.replica_plain.specs.declared.how.How.TheVariants.{Whole}
use Rattle.replica_plain.specs.Worlds.{Worlds, AreWorlds}
use Rattle.replica_plain.specs.PlainReplica.{PlainReplica, published_count}
use Rattle.replica_plain.specs.Taking.{taken, out_of_order, begins_anew}
use Rattle.replica_plain.specs.Calls.{joining}
use Rattle.replica_plain.proofs.SyncSteps.{sync_begins}
use Rattle.replica.specs.View.{ReplicaView, with_plain, worlds_of}
use Rattle.drill.specs.Ending.{Catches, IsCountedBy, IsOfView}
use Rattle.drill.specs.Taking.{HasTaken, IsFine, after_frame}
use Rattle.drill.proofs.ViewsKept.{either}

-- it awaits the Sync
abbrev pub joined_closed : ReplicaView → ReplicaView
joined_closed r = with_plain r (joining r.plain Whole)

joins_view : {W O : Type 0} (m : Worlds W O) (r : PlainReplica W O) (last : ℕ) → (taken m (joining r Whole) (Sync 0 last 0 None)).replica.view ≡ r.view
joins_view m r last =
    let joins = joining r Whole in
    let less = out_of_order joins r.acknowledged last in
    let begins = begins_anew m joins 0 in
    either (λ new. new.view ≡ r.view) (nat_lt (published_count r) last) (out_of_order joins (published_count r) last) (cond (nat_lt last r.acknowledged) less begins) refl
    (either (λ new. new.view ≡ r.view) (nat_lt last r.acknowledged) less begins refl refl)

pub record JoinsClosed (s : PlainSession) (r : ReplicaView) (last : ℕ) : Type 0 where
  pub fine : IsFine (joined_closed r) (Sync 0 last 0 None)
  pub catches : Catches s (after_frame (joined_closed r) (Sync 0 last 0 None))

-- `last` is what the log tells of the view that the join named
pub joins_closed : (s : PlainSession) (r : ReplicaView) (log : List Entry) (view last : ℕ) → AreWorlds (worlds_of r) → IsSoundSession s → IsCountedBy s r → log ≡ s.log → view ≡ r.plain.view → last ≡ last_number log view → JoinsClosed s r last
joins_closed s r log view last laws sound counted of_session of_view told =
    let is : last ≡ last_number s.log r.plain.view = told ∙ ap (λ entries. last_number entries view) of_session ∙ ap (last_number s.log) of_view in
    let joins = joining r.plain Whole in
    let begins = sync_begins (worlds_of r) laws s.log joins Whole 0 last 0 0 None sound.legal refl refl (omega (arith, counted.least)) (omega (arith, counted.most)) tt tt in
    record {
      fine = record { none = begins.fine };
      catches = record {
        program = counted.program;
        follows = begins.stands.follows;
        synced = begins.stands.synced;
        within = omega (arith, begins.stands.ahead 0 (omega arith) (none_until 0 0 s.log (TimesRise-legal s.log sound.legal) (omega arith)));
      };
    }

-- what calls that joined and took it tell
pub catches_new : (s : PlainSession) (r joined new : ReplicaView) (last : ℕ) → JoinsClosed s r last → joined ≡ joined_closed r → HasTaken joined (Sync 0 last 0 None) new → Catches s new
catches_new s r joined new last joins is took = subst (Catches s) (sym (rw is at took.is)) joins.catches

pub kept_new : (r joined new : ReplicaView) (last : ℕ) → joined ≡ joined_closed r → HasTaken joined (Sync 0 last 0 None) new → IsOfView r new
kept_new r joined new last is took =
    subst (IsOfView r) (sym (rw is at took.is)) (record { program = refl; id = refl; view = joins_view (worlds_of r) r.plain last })

pub fine_joined : (s : PlainSession) (r joined : ReplicaView) (last : ℕ) → JoinsClosed s r last → joined ≡ joined_closed r → IsFine joined (Sync 0 last 0 None)
fine_joined s r joined last joins is = subst (λ joined. IsFine joined (Sync 0 last 0 None)) (sym is) joins.fine
