-- A Sync begins the reading of a log.
use Rattle.std.proofs.Common.{ℕ, ◌≡◌, ◌≤◌, ◌<◌, Bool, true, false, cond, eqb, List, [], ◌∷◌, ◌++◌, Option, Some, None, sym, nat_lt, refl, arith, subst}
use Rattle.std.proofs.lemmas.Bool.Decides.{nat_tests}
use Rattle.tea_base.specs.declared.entry.Entry.{Entry}
use Rattle.tea_base.specs.Legal.{IsLegal}
use Rattle.tea_base.specs.Readings.{count_until}
use Rattle.tea_base.proofs.LogLaws.{TimesRise-legal}
use Rattle.wire_frames.specs.declared.start.Base.{Base}
use Rattle.wire_frames.specs.declared.frame.ClientFrame.{ClientFrame}
use Rattle.wire_frames.specs.declared.frame.ServerFrame.{ServerFrame}
use Rattle.wire_frames.specs.declared.frame.ServerFrame.TheVariants.{Sync}
use Rattle.wire_frames.specs.Served.{BeginsFor}
use Rattle.replica_plain.specs.declared.how.How.{How}
use Rattle.replica_plain.specs.declared.how.How.TheVariants.{Fresh, Whole, Resume}
use Rattle.replica_plain.specs.Worlds.{Worlds, AreWorlds, IsHonest}
use Rattle.replica_plain.specs.PlainReplica.{PlainReplica, published_count}
use Rattle.replica_plain.specs.Taking.{Taken, taken, takes, take_sync, begins_anew, begins_with, begins_with_world, synced_with}
use Rattle.replica_plain.specs.Calls.{join_want}
use Rattle.replica_plain.specs.Following.{FollowsLog, AreReadCalls, IsHonestBase, IsServedTo, MayJoin, ReplicaCall, ToTake, after_calls, frames_of_calls}
use Rattle.wire_frames.proofs.Times.{none_until}
use Rattle.wire_frames.proofs.Streams.{Streams-front}
use Rattle.replica_plain.proofs.WorldSteps.{first_follows}
use Rattle.replica_plain.proofs.FrameSteps.{StandsAt, behind_calls}

-- a replica with the first world follows each log, if it has seen none of its entries
pub first_world_follows : {W O : Type 0} (m : Worlds W O) (log : List Entry) (r : PlainReplica W O) → AreWorlds m → IsLegal log → r.world ≡ m.first → r.seen ≡ 0 → r.broken ≡ false → FollowsLog m log r
first_world_follows m log r laws legal world seen whole =
    let none : count_until log 0 ≡ 0 = none_until 0 0 log (TimesRise-legal log legal) (omega arith) in
    record {
      whole = whole;
      valid = rw world laws.first_valid;
      follows = rw world (first_follows m laws log legal);
      counted = rw (world, seen, laws.first_time) (sym none);
    }

-- the Sync of a join at a time is taken, and the reading begins behind so many entries
pub record SyncBegins {W O : Type 0} (m : Worlds W O) (log : List Entry) (from time : ℕ) (taken : Taken W O) : Type 0 where
  pub stands : StandsAt m log (record { seen = from; least = time }) taken.replica
  pub fine : taken.fault ≡ None

begins_at : {W O : Type 0} (m : Worlds W O) (log : List Entry) (from time : ℕ) (r : PlainReplica W O) → FollowsLog m log r → r.synced ≡ true → from ≡ r.seen → m.time r.world ≤ time → SyncBegins m log from time (takes r)
begins_at m log from time r follows synced counted before =
    record { stands = record { follows = follows; placed = counted; ahead = λ t le same. omega arith; synced = synced }; fine = refl }

begins_first : {W O : Type 0} (m : Worlds W O) → AreWorlds m → (log : List Entry) (from time : ℕ) (r : PlainReplica W O) → IsLegal log → from ≡ 0 → SyncBegins m log from time (begins_anew m r from)
begins_first m laws log from time r legal zero_is =
    let none : eqb from 0 ≡ true = grind (arith, nat_tests) in
    let begun = synced_with r m.first m.first_out 0 None in
    rw none (begins_at m log from time begun (first_world_follows m log begun laws legal refl refl refl) refl zero_is (omega (arith, laws.first_time)))

begins_based : {W O : Type 0} (m : Worlds W O) → AreWorlds m → (log : List Entry) (from time : ℕ) (r : PlainReplica W O) (base : Base) → IsHonest m log base.time base.bytes → base.time < time → from ≡ count_until log base.time
    → SyncBegins m log from time (begins_with_world m r from base.time (m.unsnap base.bytes))
begins_based m laws log from time r base honest before counted =
    let timed = honest.timed in
    let same : eqb (m.time honest.world) base.time ≡ true = grind (arith, nat_tests) in
    rw (honest.spelled, same)
    (begins_at m log from time (synced_with r honest.world [] from (Some base.time)) (record { whole = refl; valid = laws.unsnap_valid base.bytes honest.world honest.spelled; follows = honest.follows; counted = rw timed counted }) refl refl (omega arith))

sync_world_begins : {W O : Type 0} (m : Worlds W O) → AreWorlds m → (log : List Entry) (from time : ℕ) (r : PlainReplica W O) (how : How) (base : Option Base) → IsLegal log → BeginsFor log (join_want m r how) time from base → IsHonestBase m log base → MayJoin m log r how
    → SyncBegins m log from time (begins_with m r how from base)
sync_world_begins m laws log from time r Fresh None legal from_is honest may = begins_first m laws log from time r legal from_is
sync_world_begins m laws log from time r Whole None legal from_is honest may = begins_first m laws log from time r legal from_is
sync_world_begins m laws log from time r Resume None legal from_is honest may =
    let seen : from ≡ r.seen = omega (arith, from_is.1, may.counted) in
    let same : eqb from r.seen ≡ true = grind (arith, nat_tests) in
    rw same (begins_at m log from time (record r { given = r.acknowledged; awaited = None; synced = true }) (record { whole = may.whole; valid = may.valid; follows = may.follows; counted = may.counted }) refl seen (omega (arith, from_is.0)))
sync_world_begins m laws log from time r Fresh (Some base) legal from_is honest may = begins_based m laws log from time r base honest from_is.0 from_is.1
sync_world_begins m laws log from time r Whole (Some base) legal from_is honest may = absurd from_is
sync_world_begins m laws log from time r Resume (Some base) legal from_is honest may = absurd from_is

within_begins_if : {W O : Type 0} (m : Worlds W O) (log : List Entry) (from time : ℕ) (above below : Bool) (more less taken : Taken W O) → above ≡ false → below ≡ false → SyncBegins m log from time taken → SyncBegins m log from time (cond above more (cond below less taken))
within_begins_if m log from time true below more less taken not_above not_below begins = absurd cc
within_begins_if m log from time false true more less taken not_above not_below begins = absurd cc
within_begins_if m log from time false false more less taken not_above not_below begins = begins

-- the Sync that answers the replica's own JOIN is taken
pub sync_begins : {W O : Type 0} (m : Worlds W O) → AreWorlds m → (log : List Entry) (r : PlainReplica W O) (how : How) (joined last from time : ℕ) (base : Option Base) → IsLegal log → r.awaited ≡ Some how
    → BeginsFor log (join_want m r how) time from base → r.acknowledged ≤ last → last ≤ published_count r → IsHonestBase m log base → MayJoin m log r how → SyncBegins m log from time (taken m r (Sync joined last from base))
sync_begins m laws log r how joined last from time base legal awaited from_is least most honest may =
    subst (λ awaits. SyncBegins m log from time (take_sync m r awaits last from base)) (sym awaited)
    (within_begins_if m log from time (nat_lt (published_count r) last) (nat_lt last r.acknowledged) _ _ (begins_with m r how from base) (grind (arith, nat_tests)) (grind (arith, nat_tests))
    (sync_world_begins m laws log from time r how base legal from_is honest may))

-- the first part of what it was served, from the Sync on, is read, whatever else it is asked between
pub served_is_taken : {W O : Type 0} (m : Worlds W O) (log : List Entry) (r : PlainReplica W O) (how : How) (given : List (Option ClientFrame)) (joined last from : ℕ) (base : Option Base) (calls : List ReplicaCall) (rest : List ServerFrame)
    → AreWorlds m → IsLegal log → IsServedTo m log r how given joined last from base (frames_of_calls calls ++ rest)
    → FollowsLog m log (after_calls m r (ToTake (Sync joined last from base) ∷ calls)) × AreReadCalls m r (ToTake (Sync joined last from base) ∷ calls)
served_is_taken m log r how given joined last from base calls rest laws legal served =
    let time = served.served.0 in
    let began = sync_begins m laws log r how joined last from time base legal served.awaited served.served.1.begins served.least served.most served.honest served.may in
    let more = behind_calls m laws log (record { seen = from; least = time }) (taken m r (Sync joined last from base)).replica calls legal began.stands (Streams-front log _ (frames_of_calls calls) rest served.served.2.streams) in
    (more.0.follows, (began.fine, more.1))
