-- A replica takes the rest of a closed log, and its horizon.
use Rattle.std.proofs.Common.{◌≡◌, ◌≤◌, ◌<◌, ◌+◌, ℕ, Bool, true, false, cond, List, [], ◌∷◌, None, Some, length, slice_get, nat_le, nat_lt, refl, sym, ap, ◌∙◌, subst, arith}
use Rattle.std.proofs.lemmas.Bool.Decides.{nat_tests}
use Rattle.tea_base.specs.declared.entry.Entry.{Entry}
use Rattle.tea_base.specs.Limits.{time_limit}
use Rattle.tea_base.specs.Readings.{count_until}
use Rattle.tea_base.proofs.LogLaws.{TimesRise-legal}
use Rattle.wire_frames.specs.declared.frame.ServerFrame.TheVariants.{Recv, Tick}
use Rattle.wire_frames.proofs.Times.{all_until, count_until-at, count_until-cons, early_as_last, later_than_counted}
use Rattle.reflector_core.specs.PlainSession.{PlainSession, IsSoundSession}
use Rattle.model_solved.specs.Founding.{CheckedView, Founding, founding_of, IsFounding}
use Rattle.world.specs.Worlds.{replay}
use Rattle.replica_plain.specs.Worlds.{Worlds, AreWorlds, replay_world}
use Rattle.replica_plain.specs.PlainReplica.{PlainReplica}
use Rattle.replica_plain.specs.Taking.{Taken, taken, takes, faults, moves_to, take_tick}
use Rattle.replica_plain.specs.Following.{FollowsLog}
use Rattle.replica_plain.specs.declared.fault.ReplicaFault.{ReplicaFault}
use Rattle.replica_plain.specs.declared.fault.ReplicaFault.TheVariants as cause
use Rattle.replica_plain.proofs.FrameSteps.{StandsAt, behind_entry, behind_tick, tick_rests, when_synced_is}
use Rattle.replica_plain.proofs.WorldSteps.{rest_is_replay}
use Rattle.replica.specs.RealWorlds.{worlds}
use Rattle.replica.specs.View.{ReplicaView, with_plain, worlds_of}
use Rattle.drill.specs.Ending.{Catches, HasReplay, IsOfView}
use Rattle.drill.specs.Taking.{HasTaken, IsFine}

-- it stands at its own place
stands_here : {W O : Type 0} (m : Worlds W O) (s : PlainSession) (r : PlainReplica W O) → FollowsLog m s.log r → r.synced ≡ true → StandsAt m s.log (record { seen = r.seen; least = m.time r.world }) r
stands_here m s r follows synced = record { follows = follows; placed = refl; ahead = λ t le counted. le; synced = synced }

at_most_one : (b : Bool) → cond b 1 0 ≤ 1
at_most_one true = omega arith
at_most_one false = omega arith

pub count_until-few : (log : List Entry) (t : ℕ) → count_until log t ≤ length log
count_until-few [] t = omega arith
count_until-few (entry ∷ rest) t =
    let few = count_until-few rest t in
    let first = count_until-cons entry rest t in
    let one = at_most_one (nat_le entry.time t) in
    omega arith

-- ---- an entry

pub record TakesEntry (s : PlainSession) (r : ReplicaView) (entry : Entry) : Type 0 where
  pub fine : IsFine r (Recv entry)
  pub catches : Catches s (with_plain r (taken (worlds_of r) r.plain (Recv entry)).replica)
  pub seen : (taken (worlds_of r) r.plain (Recv entry)).replica.seen ≡ r.plain.seen + 1

pub takes_entry : (s : PlainSession) (r : ReplicaView) (entry : Entry) → AreWorlds (worlds_of r) → IsSoundSession s → Catches s r → slice_get s.log r.plain.seen ≡ Some entry → entry.time ≤ s.horizon → TakesEntry s r entry
takes_entry s r entry laws sound catches at early =
    let m = worlds_of r in
    let rise = TimesRise-legal s.log sound.legal in
    let own = catches.follows in
    let behind = behind_entry m laws s.log (record { seen = r.plain.seen; least = m.time r.plain.world }) r.plain entry sound.legal (stands_here m s r.plain own catches.synced) at in
    let counted = count_until-at 0 s.log r.plain.seen entry rise at in
    let before : count_until s.log (m.time r.plain.world) ≤ r.plain.seen = omega (arith, own.counted) in
    let later = later_than_counted 0 (m.time r.plain.world) s.log r.plain.seen entry rise at before in
    record {
      fine = record { none = behind.read };
      catches = record {
        program = catches.program;
        follows = behind.stands.follows;
        synced = behind.stands.synced;
        within = omega (arith, early, behind.stands.ahead entry.time (omega (arith, later)) counted);
      };
      seen = sym behind.stands.placed;
    }

-- ---- the horizon

time_if : {W O : Type 0} (m : Worlds W O) → AreWorlds m → (r : PlainReplica W O) (t : ℕ) (broken back : Bool) (one other : ReplicaFault) → m.valid r.world ≡ true → (back ≡ false → m.time r.world ≤ t)
    → (cond broken (faults r one) (cond back (faults r other) (takes (moves_to r (m.advance r.world t) (m.advance_out r.world t r.out) r.seen)))).fault ≡ None
    → m.time (cond broken (faults r one) (cond back (faults r other) (takes (moves_to r (m.advance r.world t) (m.advance_out r.world t r.out) r.seen)))).replica.world ≡ t
time_if m laws r t true back one other valid le none = absurd cc
time_if m laws r t false true one other valid le none = absurd cc
time_if m laws r t false false one other valid le none = laws.advance_time r.world t valid (le refl)

pub tick_time : {W O : Type 0} (m : Worlds W O) → AreWorlds m → (r : PlainReplica W O) (t : ℕ) → m.valid r.world ≡ true → r.synced ≡ true → (taken m r (Tick t)).fault ≡ None → m.time (taken m r (Tick t)).replica.world ≡ t
tick_time {W = W} {O = O} m laws r t valid synced =
    subst (λ (taken : Taken W O). taken.fault ≡ None → m.time taken.replica.world ≡ t) (sym (when_synced_is r (take_tick m r t) synced))
    (time_if m laws r t r.broken (nat_lt t (m.time r.world)) cause.Broken (cause.Back (m.time r.world)) valid (λ is. grind (arith, nat_tests)))

pub record TakesHorizon (s : PlainSession) (r : ReplicaView) : Type 0 where
  pub fine : IsFine r (Tick s.horizon)
  pub replays : HasReplay s (founding_of r.program) r.id (with_plain r (taken (worlds_of r) r.plain (Tick s.horizon)).replica)

pub takes_horizon
    : (s : PlainSession) (r : ReplicaView) → AreWorlds (worlds_of r) → (replay (founding_of r.program) r.id s.log s.horizon).world ≡ replay_world (worlds_of r) s.log s.horizon
    → IsSoundSession s → Catches s r → r.plain.seen ≡ length s.log → TakesHorizon s r
takes_horizon s r laws same sound catches all =
    let m = worlds_of r in
    let rise = TimesRise-legal s.log sound.legal in
    let counted : count_until s.log s.horizon ≡ r.plain.seen = all_until 0 s.horizon s.log rise sound.latest ∙ sym all in
    let below : s.horizon < time_limit = omega (arith, sound.bounded) in
    let behind = behind_tick m laws s.log (record { seen = r.plain.seen; least = m.time r.plain.world }) r.plain s.horizon sound.legal (stands_here m s r.plain catches.follows catches.synced)
    (catches.within, below, counted) in
    let after = (taken m r.plain (Tick s.horizon)).replica in
    let timed : m.time after.world ≡ s.horizon = tick_time m laws r.plain s.horizon catches.follows.valid catches.synced behind.read in
    let rests = tick_rests m laws r.plain s.horizon catches.follows.valid below catches.synced behind.read in
    record {
      fine = record { none = behind.read };
      replays = record {
        program = refl;
        session = refl;
        whole = behind.stands.follows.whole;
        synced = behind.stands.synced;
        seen = sym behind.stands.placed ∙ all;
        world = rest_is_replay m laws s.log after.world behind.stands.follows.valid behind.stands.follows.follows rests ∙ ap (λ t. replay_world m s.log t) timed ∙ sym same;
      };
    }

-- ---- the rest of the log

-- a replica that catches up, at this place of the log
pub record AtPlace (s : PlainSession) (entries : List Entry) (place : ℕ) (r : ReplicaView) : Type 0 where
  pub catches : Catches s r
  pub placed : place ≡ r.plain.seen
  pub whole : entries ≡ s.log
  pub sound : IsSoundSession s

abbrev pub WorldsStand : Type 0
WorldsStand = (founding : Founding) (id : List ℕ) → IsFounding founding → AreWorlds (worlds founding id)

abbrev pub ReplaysFold : Type 0
ReplaysFold = (founding : Founding) (id : List ℕ) (log : List Entry) (t : ℕ) → (replay founding id log t).world ≡ replay_world (worlds founding id) log t

entry_at_place : (s : PlainSession) (entries : List Entry) (place : ℕ) (r : ReplicaView) (entry : Entry) → AtPlace s entries place r → slice_get entries place ≡ Some entry → slice_get s.log r.plain.seen ≡ Some entry
entry_at_place s entries place r entry at is = subst (λ (log : List Entry). slice_get log r.plain.seen ≡ Some entry) at.whole (subst (λ (k : ℕ). slice_get entries k ≡ Some entry) at.placed is)

pub early_entry : (s : PlainSession) (entries : List Entry) (place : ℕ) (r : ReplicaView) (entry : Entry) → AtPlace s entries place r → slice_get entries place ≡ Some entry → entry.time ≤ s.horizon
early_entry s entries place r entry at is =
    omega (arith, at.sound.latest, early_as_last 0 s.log r.plain.seen entry (TimesRise-legal s.log at.sound.legal) (entry_at_place s entries place r entry at is))

pub timely_entry : (s : PlainSession) (entries : List Entry) (place : ℕ) (r : ReplicaView) (entry : Entry) → AtPlace s entries place r → slice_get entries place ≡ Some entry → entry.time < time_limit
timely_entry s entries place r entry at is =
    let early = early_entry s entries place r entry at is in
    omega (arith, at.sound.bounded)

pub takes_at : (s : PlainSession) (entries : List Entry) (place : ℕ) (r : ReplicaView) (entry : Entry) → WorldsStand → AtPlace s entries place r → slice_get entries place ≡ Some entry → TakesEntry s r entry
takes_at s entries place r entry stand at is =
    takes_entry s r entry (stand (founding_of r.program) r.id at.catches.program) at.sound at.catches (entry_at_place s entries place r entry at is) (early_entry s entries place r entry at is)

pub at_next
    : (s : PlainSession) (entries : List Entry) (place : ℕ) (r new : ReplicaView) (entry : Entry) → WorldsStand → AtPlace s entries place r → slice_get entries place ≡ Some entry
    → HasTaken r (Recv entry) new → AtPlace s entries (place + 1) new
at_next s entries place r new entry stand at is same =
    let takes = takes_at s entries place r entry stand at is in
    subst (AtPlace s entries (place + 1)) (sym same.is)
    (record { catches = takes.catches; placed = ap (λ (k : ℕ). k + 1) at.placed ∙ sym takes.seen; whole = at.whole; sound = at.sound })

has_replay : (s : PlainSession) (r new : ReplicaView) → TakesHorizon s r → HasTaken r (Tick s.horizon) new → HasReplay s (founding_of r.program) r.id new
has_replay s r new takes same = subst (HasReplay s (founding_of r.program) r.id) (sym same.is) takes.replays

-- it is of the program and the session of the one that it was
of_old : (s : PlainSession) (old r new : ReplicaView) → IsOfView old r → HasReplay s (founding_of r.program) r.id new → HasReplay s (founding_of old.program) old.id new
of_old s old r new kept replays =
    subst (λ (p : CheckedView). HasReplay s (founding_of p) old.id new) kept.program (subst (λ (i : List ℕ). HasReplay s (founding_of r.program) i new) kept.id replays)

-- all entries are taken, and then the horizon
takes_behind
    : (s : PlainSession) (entries : List Entry) (place : ℕ) (r : ReplicaView) → WorldsStand → ReplaysFold → AtPlace s entries place r → place ≡ length entries → TakesHorizon s r
takes_behind s entries place r stand same at all =
    takes_horizon s r (stand (founding_of r.program) r.id at.catches.program) (same (founding_of r.program) r.id s.log s.horizon) at.sound at.catches (sym at.placed ∙ all ∙ ap (λ (log : List Entry). length log) at.whole)

few_seen : (s : PlainSession) (entries : List Entry) (place : ℕ) (r : ReplicaView) → AtPlace s entries place r → place ≤ length entries
few_seen s entries place r at =
    let few = count_until-few s.log r.plain.world.time in
    let same = ap (λ (log : List Entry). length log) at.whole in
    omega (arith, at.placed, at.catches.follows.counted)

pub takes_last
    : (s : PlainSession) (entries : List Entry) (place end horizon : ℕ) (old r : ReplicaView) → WorldsStand → ReplaysFold → AtPlace s entries place r → horizon ≡ s.horizon → end ≡ length entries → end ≤ place → IsOfView old r
    → IsFine r (Tick horizon) × ((new : ReplicaView) → HasTaken r (Tick horizon) new → HasReplay s (founding_of old.program) old.id new)
takes_last s entries place end horizon old r stand same at is counted behind kept =
    let few = few_seen s entries place r at in
    let takes = takes_behind s entries place r stand same at (omega arith) in
    subst (λ (t : ℕ). IsFine r (Tick t) × ((new : ReplicaView) → HasTaken r (Tick t) new → HasReplay s (founding_of old.program) old.id new)) (sym is)
    (takes.fine, λ new took. of_old s old r new kept (has_replay s r new takes took))
