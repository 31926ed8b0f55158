-- A replica that follows a log takes what comes next.
use Rattle.std.proofs.Common.{ℕ, ◌+◌, ◌≡◌, ◌≤◌, ◌<◌, Bool, true, false, cond, eqb, List, [], ◌∷◌, Some, None, slice_get, sym, nat_le, nat_lt, refl, arith, subst}
use Rattle.std.proofs.lemmas.Bool.Decides.{nat_tests}
use Rattle.tea_base.specs.declared.entry.Entry.{Entry}
use Rattle.tea_base.specs.Legal.{IsLegal}
use Rattle.tea_base.specs.Limits.{time_limit}
use Rattle.tea_base.specs.Readings.{count_until}
use Rattle.tea_base.proofs.LogLaws.{TimesRise-legal}
use Rattle.wire_frames.specs.declared.frame.ServerFrame.{ServerFrame}
use Rattle.wire_frames.specs.declared.frame.ServerFrame.TheVariants.{Sync, Recv, Tick, Done, Snapped, Refused, Alive}
use Rattle.wire_frames.specs.declared.tags.TheConstants.{JOIN_TAG, SNAP_TAG}
use Rattle.wire_frames.specs.Served.{Place, place_after, place_after_all, ComesAt, Streams}
use Rattle.replica_plain.specs.declared.fault.ReplicaFault.{ReplicaFault}
use Rattle.replica_plain.specs.declared.fault.ReplicaFault.TheVariants as cause
use Rattle.replica_plain.specs.Worlds.{Worlds, AreWorlds}
use Rattle.replica_plain.specs.PlainReplica.{PlainReplica}
use Rattle.replica_plain.specs.Taking.{Taken, taken, takes, faults, moves_to, take_done, take_tick, when_synced, acknowledges}
use Rattle.replica_plain.specs.Calls.{publishes, gives, takes_out}
use Rattle.replica_plain.specs.Following.{FollowsLog, IsReadFrame, AreReadCalls, ReplicaCall, ToTake, ToPublish, ToGive, ToTakeOut, after_calls, frames_of_calls}
use Rattle.wire_frames.proofs.Times.{MayFollow-at, seq_at, later_than_counted, counted_is_early, count_until-at}
use Rattle.replica_plain.proofs.WorldSteps.{external_follows, advance_follows}

-- where a replica stands in the reading of a log: what it has seen, and that no tick that may come is behind its time
pub record StandsAt {W O : Type 0} (m : Worlds W O) (log : List Entry) (place : Place) (r : PlainReplica W O) : Type 0 where
  pub follows : FollowsLog m log r
  pub placed : place.seen ≡ r.seen
  pub ahead : (t : ℕ) → place.least ≤ t → count_until log t ≡ place.seen → m.time r.world ≤ t
  pub synced : r.synced ≡ true

-- a frame was taken: the replica stands behind it
pub record StandsBehind {W O : Type 0} (m : Worlds W O) (log : List Entry) (place : Place) (frame : ServerFrame) (taken : Taken W O) : Type 0 where
  pub stands : StandsAt m log (place_after place frame) taken.replica
  pub read : IsReadFrame frame taken.fault

pub behind_entry : {W O : Type 0} (m : Worlds W O) → AreWorlds m → (log : List Entry) (place : Place) (r : PlainReplica W O) (entry : Entry) → IsLegal log → StandsAt m log place r → ComesAt log place (Recv entry)
    → StandsBehind m log place (Recv entry) (taken m r (Recv entry))
behind_entry m laws log place r entry legal stands comes =
    let own = stands.follows in
    let rise = TimesRise-legal log legal in
    let at : slice_get log r.seen ≡ Some entry = rw stands.placed at comes in
    let may = MayFollow-at log r.seen entry legal at in
    let later : m.time r.world < entry.time = later_than_counted 0 (m.time r.world) log r.seen entry rise at (omega (arith, own.counted)) in
    let seq : eqb entry.seq (r.seen + 1) ≡ true = grind (arith, nat_tests, seq_at log r.seen entry legal at) in
    let forward : nat_le entry.time (m.time r.world) ≡ false = grind (arith, nat_tests) in
    let timed = laws.external_time r.world entry own.valid (omega arith) in
    rw (stands.synced, own.whole, seq, forward) (record {
      stands = record {
        follows = record {
          whole = refl;
          valid = laws.external_valid r.world entry own.valid later may.time_bound;
          follows = external_follows m laws log r.world r.seen entry legal own.valid own.follows (sym own.counted) at later;
          counted = rw timed (sym (count_until-at 0 log r.seen entry rise at));
        };
        placed = omega (arith, stands.placed);
        ahead = λ t le same. omega (arith, timed, stands.placed, counted_is_early 0 t log r.seen entry rise at (omega (arith, stands.placed)));
        synced = refl;
      };
      read = refl;
    })

pub behind_tick : {W O : Type 0} (m : Worlds W O) → AreWorlds m → (log : List Entry) (place : Place) (r : PlainReplica W O) (t : ℕ) → IsLegal log → StandsAt m log place r → ComesAt log place (Tick t)
    → StandsBehind m log place (Tick t) (taken m r (Tick t))
behind_tick m laws log place r t legal stands comes =
    let own = stands.follows in
    let le = stands.ahead t comes.0 comes.2 in
    let forward : nat_lt t (m.time r.world) ≡ false = grind (arith, nat_tests) in
    let timed = laws.advance_time r.world t own.valid le in
    let same : count_until log t ≡ r.seen = omega (arith, comes.2, stands.placed) in
    rw (stands.synced, own.whole, forward) (record {
      stands = record {
        follows = record {
          whole = refl;
          valid = laws.advance_valid r.world t own.valid le comes.1;
          follows = advance_follows m laws log r.world t legal comes.1 own.valid own.follows le (omega (arith, own.counted));
          counted = rw timed (sym same);
        };
        placed = stands.placed;
        ahead = λ u after counted. omega (arith, timed);
        synced = refl;
      };
      read = refl;
    })

-- the replicas have one world, and have seen as much
pub record SameWorld {W O : Type 0} (r other : PlainReplica W O) : Type 0 where
  pub world : other.world ≡ r.world
  pub seen : other.seen ≡ r.seen
  pub broken : other.broken ≡ r.broken
  pub synced : other.synced ≡ r.synced

pub same_stands : {W O : Type 0} (m : Worlds W O) (log : List Entry) (place : Place) (r other : PlainReplica W O) → SameWorld r other → StandsAt m log place r → StandsAt m log place other
same_stands m log place r other same stands =
    let own = stands.follows in
    record {
      follows = record { whole = rw same.broken own.whole; valid = rw same.world own.valid; follows = rw same.world own.follows; counted = rw (same.world, same.seen) own.counted };
      placed = rw same.seen stands.placed;
      ahead = rw same.world stands.ahead;
      synced = rw same.synced stands.synced;
    }

done_stands_if : {W O : Type 0} (m : Worlds W O) (log : List Entry) (place : Place) (r : PlainReplica W O) (rest : List (List ℕ)) (fits : Bool) (fault : ReplicaFault) → StandsAt m log place r → StandsAt m log place (cond fits (takes (acknowledges r rest)) (faults r fault)).replica
done_stands_if m log place r rest true fault stands = same_stands m log place r (acknowledges r rest) (record { world = refl; seen = refl; broken = refl; synced = refl }) stands
done_stands_if m log place r rest false fault stands = stands

done_stands : {W O : Type 0} (m : Worlds W O) (log : List Entry) (place : Place) (r : PlainReplica W O) (outbox : List (List ℕ)) (number : ℕ) → StandsAt m log place r → StandsAt m log place (take_done r outbox number).replica
done_stands m log place r [] number stands = stands
done_stands m log place r (payload ∷ rest) number stands = done_stands_if m log place r rest (eqb number (r.acknowledged + 1)) (cause.OutOfOrder (r.acknowledged + 1) number) stands

refused_stands_if : {W O : Type 0} (m : Worlds W O) (log : List Entry) (place : Place) (r other : PlainReplica W O) (of_snap of_join : Bool) (fault : ReplicaFault) → SameWorld r other → StandsAt m log place r
    → StandsAt m log place (cond of_snap (takes r) (cond of_join (faults other fault) (faults r fault))).replica
refused_stands_if m log place r other true of_join fault same stands = stands
refused_stands_if m log place r other false true fault same stands = same_stands m log place r other same stands
refused_stands_if m log place r other false false fault same stands = stands

when_synced_if : {W O : Type 0} (synced : Bool) (taken other : Taken W O) → synced ≡ true → cond synced taken other ≡ taken
when_synced_if true taken other is = refl
when_synced_if false taken other is = absurd cc

pub when_synced_is : {W O : Type 0} (r : PlainReplica W O) (taken : Taken W O) → r.synced ≡ true → when_synced r taken ≡ taken
when_synced_is r taken is = when_synced_if r.synced taken (faults r cause.Unasked) is

pub behind_frame : {W O : Type 0} (m : Worlds W O) → AreWorlds m → (log : List Entry) (place : Place) (r : PlainReplica W O) (frame : ServerFrame) → IsLegal log → StandsAt m log place r → ComesAt log place frame → StandsBehind m log place frame (taken m r frame)
behind_frame m laws log place r (Sync joined last from base) legal stands comes = absurd comes
behind_frame m laws log place r (Recv entry) legal stands comes = behind_entry m laws log place r entry legal stands comes
behind_frame m laws log place r (Tick t) legal stands comes = behind_tick m laws log place r t legal stands comes
behind_frame m laws log place r (Done number seq time) legal stands comes =
    subst (StandsBehind m log place (Done number seq time)) (sym (when_synced_is r (take_done r r.outbox number) stands.synced)) (record { stands = done_stands m log place r r.outbox number stands; read = tt })
behind_frame m laws log place r (Snapped time) legal stands comes =
    subst (StandsBehind m log place (Snapped time)) (sym (when_synced_is r (takes r) stands.synced)) (record { stands = stands; read = tt })
behind_frame m laws log place r (Refused about code kept more) legal stands comes =
    record {
      stands = refused_stands_if m log place r _ (eqb about SNAP_TAG) (eqb about JOIN_TAG) (cause.Refused about code kept) (record { world = refl; seen = refl; broken = refl; synced = refl }) stands;
      read = tt;
    }
behind_frame m laws log place r Alive legal stands comes = record { stands = stands; read = tt }

-- a call that takes no frame leaves it where it stands
others_stand : {W O : Type 0} (m : Worlds W O) (log : List Entry) (place : Place) (r : PlainReplica W O) → StandsAt m log place r
    → ((payload : List ℕ) → StandsAt m log place (publishes r payload)) × (StandsAt m log place (gives r) × StandsAt m log place (takes_out r))
others_stand m log place r stands = (
  λ payload. same_stands m log place r (publishes r payload) (record { world = refl; seen = refl; broken = refl; synced = refl }) stands,
  (
    same_stands m log place r (gives r) (record { world = refl; seen = refl; broken = refl; synced = refl }) stands,
    same_stands m log place r (takes_out r) (record { world = refl; seen = refl; broken = refl; synced = refl }) stands,
  ),
)

-- and so the calls after it
pub behind_calls : {W O : Type 0} (m : Worlds W O) → AreWorlds m → (log : List Entry) (place : Place) (r : PlainReplica W O) (calls : List ReplicaCall) → IsLegal log → StandsAt m log place r → Streams log place (frames_of_calls calls)
    → StandsAt m log (place_after_all place (frames_of_calls calls)) (after_calls m r calls) × AreReadCalls m r calls
behind_calls m laws log place r [] legal stands streams = (stands, tt)
behind_calls m laws log place r (ToTake frame ∷ rest) legal stands streams =
    let one = behind_frame m laws log place r frame legal stands streams.0 in
    let more = behind_calls m laws log (place_after place frame) (taken m r frame).replica rest legal one.stands streams.1 in
    (more.0, (one.read, more.1))
behind_calls m laws log place r (ToPublish payload ∷ rest) legal stands streams =
    let more = behind_calls m laws log place (publishes r payload) rest legal ((others_stand m log place r stands).0 payload) streams in
    (more.0, (tt, more.1))
behind_calls m laws log place r (ToGive ∷ rest) legal stands streams =
    let more = behind_calls m laws log place (gives r) rest legal (others_stand m log place r stands).1.0 streams in
    (more.0, (tt, more.1))
behind_calls m laws log place r (ToTakeOut ∷ rest) legal stands streams =
    let more = behind_calls m laws log place (takes_out r) rest legal (others_stand m log place r stands).1.1 streams in
    (more.0, (tt, more.1))

-- ---- a tick

tick_rests_if : {W O : Type 0} (m : Worlds W O) → AreWorlds m → (r : PlainReplica W O) (t : ℕ) (broken back : Bool) (one other : ReplicaFault) → m.valid r.world ≡ true → t < time_limit → (back ≡ false → m.time r.world ≤ t)
    → (cond broken (faults r one) (cond back (faults r other) (takes (moves_to r (m.advance r.world t) (m.advance_out r.world t r.out) r.seen)))).fault ≡ None
    → m.at_rest (cond broken (faults r one) (cond back (faults r other) (takes (moves_to r (m.advance r.world t) (m.advance_out r.world t r.out) r.seen)))).replica.world ≡ true
tick_rests_if m laws r t true back one other valid below le none = absurd cc
tick_rests_if m laws r t false true one other valid below le none = absurd cc
tick_rests_if m laws r t false false one other valid below le none = laws.advance_rests r.world t valid (le refl) below

-- a replica that took a tick is at rest
pub tick_rests : {W O : Type 0} (m : Worlds W O) → AreWorlds m → (r : PlainReplica W O) (t : ℕ) → m.valid r.world ≡ true → t < time_limit → r.synced ≡ true → (taken m r (Tick t)).fault ≡ None → m.at_rest (taken m r (Tick t)).replica.world ≡ true
tick_rests {W = W} {O = O} m laws r t valid below synced =
    subst (λ (taken : Taken W O). taken.fault ≡ None → m.at_rest taken.replica.world ≡ true) (sym (when_synced_is r (take_tick m r t) synced))
    (tick_rests_if m laws r t r.broken (nat_lt t (m.time r.world)) cause.Broken (cause.Back (m.time r.world)) valid below (λ is. grind (arith, nat_tests)))
