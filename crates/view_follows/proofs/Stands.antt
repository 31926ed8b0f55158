-- How a view stands to a log in each phase.
use Rattle.std.proofs.Common.{◌≡◌, ◌≤◌, ◌+◌, ◌-◌, drop, if◌then◌else◌, ℕ, Bool, true, false, List, [], ◌∷◌, ◌++◌, map, Option, Some, refl, sym, ap, subst, arith, ◌∙◌}
use Rattle.std.specs.Prelude.{nat_lt}
use Rattle.std.specs.List.{AllByRecursion}
use Rattle.std.proofs.lemmas.Bool.Decides.{nat_tests}
use Rattle.tea_base.specs.declared.entry.Entry.{Entry}
use Rattle.tea_base.specs.Legal.{IsLegal}
use Rattle.wire_frames.specs.Served.{Place, Served, Streams}
use Rattle.wire_frames.specs.declared.frame.ClientFrame.{ClientFrame}
use Rattle.wire_frames.specs.declared.frame.ClientFrame.TheVariants as client
use Rattle.wire_frames.specs.declared.frame.ServerFrame.{ServerFrame}
use Rattle.wire_frames.specs.declared.frame.ServerFrame.TheVariants.{Tick}
use Rattle.world_plain.specs.Messages.{PlainOutgoing}
use Rattle.world_plain.specs.World.{WorldRecord}
use Rattle.replica_plain.specs.declared.how.How.{How}
use Rattle.replica_plain.specs.Worlds.{AreWorlds, Worlds, replay_world}
use Rattle.replica_plain.specs.PlainReplica.{PlainReplica, new_replica}
use Rattle.replica_plain.specs.Calls.{gives, join_frame, publishes, sends_after, snap_frame, takes_out, unsent}
use Rattle.replica_plain.specs.Taking.{taken}
use Rattle.replica_plain.specs.Following.{FollowsLog}
use Rattle.replica_plain.proofs.FrameSteps.{SameWorld, StandsAt, same_stands}
use Rattle.replica_plain.proofs.WorldSteps.{advance_follows}
use Rattle.view_shell.specs.declared.ending.ViewEnd.{ViewEnd}
use Rattle.view_shell.specs.declared.ending.ViewEnd.TheVariants as ending
use Rattle.view_shell.specs.Phases.{Phase, Aim, Task, ToJoin, ToReach, ToSettle, ToCatchUp, ToSnap, ToSee, Receives, Begins, TellsText, Leaves, Connecting, Sending, Receiving, Printing, Leaving, PrintingLast, Returning, Over, rested}
use Rattle.view_shell.specs.ViewText.{view_line}
use Rattle.view_shell.proofs.Keeping.{taken_keeps}
use Rattle.view_follows.specs.Links.{BeginsHonestly}

abbrev pub RealWorlds : Type 0
RealWorlds = Worlds WorldRecord PlainOutgoing

abbrev pub RealReplica : Type 0
RealReplica = PlainReplica WorldRecord PlainOutgoing

-- a SNAP is of this replica, which follows the log
abbrev pub IsOwnFrame : RealWorlds → List Entry → RealWorlds → RealReplica → ClientFrame → Type 0
IsOwnFrame m log own r (client.Snap time bytes) = (own ≡ m) × FollowsLog m log r × (time ≡ m.time r.world) × (bytes ≡ m.snapshot r.world)
IsOwnFrame m log own r frame = Unit {0}

abbrev pub AreOwnFrames : RealWorlds → List Entry → RealWorlds → RealReplica → List ClientFrame → Type 0
AreOwnFrames m log own r frames = AllByRecursion (IsOwnFrame m log own r) frames

-- of this view, in these worlds
module _ (m : RealWorlds) (log : List Entry) (view : ℕ) where
  -- a view that follows the log
  pub record KnowsLog (own : RealWorlds) (r : RealReplica) : Type 0 where
    pub same : own ≡ m
    pub its : r.view ≡ view
    pub follows : FollowsLog m log r

  -- it awaits a Sync on a link that is served so
  pub record AwaitsSync (how : How) (own : RealWorlds) (r : RealReplica) (heard : List (Option ServerFrame)) : Type 0 where
    pub same : own ≡ m
    pub its : r.view ≡ view
    pub follows : FollowsLog m log r
    pub awaited : r.awaited ≡ Some how
    pub given : List (Option ClientFrame)
    pub frames : List ServerFrame
    pub told : map Some frames ≡ heard
    pub served : Served log (Some (join_frame m r how) ∷ given) frames
    pub honest : BeginsHonestly m log frames

  -- it took its Sync, and the rest of the link comes from the place where it stands
  pub record ReadsLog (own : RealWorlds) (r : RealReplica) (heard : List (Option ServerFrame)) : Type 0 where
    pub same : own ≡ m
    pub its : r.view ≡ view
    pub place : Place
    pub frames : List ServerFrame
    pub told : map Some frames ≡ heard
    pub stands : StandsAt m log place r
    pub streams : Streams log place frames

  -- its world is the replay of the log to its time
  pub record HasReplay (r : RealReplica) : Type 0 where
    pub its : r.view ≡ view
    pub follows : FollowsLog m log r
    pub replayed : r.world ≡ replay_world m log (m.time r.world)

  pub record TellsReplay (line : List ℕ) : Type 0 where
    pub replica : RealReplica
    pub has : HasReplay replica
    pub told : line ≡ view_line replica

  abbrev pub StandsFor : Aim → RealWorlds → RealReplica → List (Option ServerFrame) → Type 0
  StandsFor (ToJoin how) own r heard = AwaitsSync how own r heard
  StandsFor (ToReach time) own r heard = ReadsLog own r heard
  StandsFor ToSettle own r heard = ReadsLog own r heard
  StandsFor ToCatchUp own r heard = ReadsLog own r heard
  StandsFor ToSnap own r heard = ReadsLog own r heard
  StandsFor (ToSee at) own r heard = ReadsLog own r heard

  abbrev pub StandsTo : Task → RealWorlds → RealReplica → List (Option ServerFrame) → Type 0
  StandsTo (Receives aim) own r heard = StandsFor aim own r heard
  StandsTo Begins own r heard = ReadsLog own r heard
  StandsTo (TellsText text) own r heard = ReadsLog own r heard
  StandsTo Leaves own r heard = HasReplay r

  -- no run is done but by its last line
  abbrev pub IsNotDone : ViewEnd → Type 0
  IsNotDone ending.Done = ⊥
  IsNotDone end = Unit {0}

  -- in a phase, where this is still to be heard on the link
  abbrev pub StandsIn : Phase → List (Option ServerFrame) → Type 0
  StandsIn (Connecting v how) heard = KnowsLog v.worlds v.replica
  StandsIn (Sending v frame frames task) heard = StandsTo task v.worlds v.replica heard × AreOwnFrames m log v.worlds v.replica (frame ∷ frames)
  StandsIn (Receiving v aim) heard = StandsFor aim v.worlds v.replica heard
  StandsIn (Printing v text) heard = ReadsLog v.worlds v.replica heard
  StandsIn (Leaving v text) heard = HasReplay v.replica
  StandsIn (PrintingLast line) heard = TellsReplay line
  StandsIn (Returning v how) heard = KnowsLog v.worlds v.replica
  StandsIn (Over end) heard = IsNotDone end

-- ---- what changes nothing of it

module _ (m : RealWorlds) (log : List Entry) (view : ℕ) where
  same_reads : (own : RealWorlds) (r other : RealReplica) (heard : List (Option ServerFrame)) → SameWorld r other → other.view ≡ r.view → ReadsLog m log view own r heard → ReadsLog m log view own other heard
  same_reads own r other heard same kept reads = record {
    same = reads.same;
    its = kept ∙ reads.its;
    place = reads.place;
    frames = reads.frames;
    told = reads.told;
    stands = same_stands m log reads.place r other same reads.stands;
    streams = reads.streams;
  }

  pub reads_published : (own : RealWorlds) (r : RealReplica) (heard : List (Option ServerFrame)) (payload : List ℕ) → ReadsLog m log view own r heard → ReadsLog m log view own (publishes r payload) heard
  reads_published own r heard payload reads = same_reads own r (publishes r payload) heard (record { world = refl; seen = refl; broken = refl; synced = refl }) refl reads

  pub reads_given : (own : RealWorlds) (r : RealReplica) (heard : List (Option ServerFrame)) → ReadsLog m log view own r heard → ReadsLog m log view own (gives r) heard
  reads_given own r heard reads = same_reads own r (gives r) heard (record { world = refl; seen = refl; broken = refl; synced = refl }) refl reads

  pub reads_told : (own : RealWorlds) (r : RealReplica) (heard : List (Option ServerFrame)) → ReadsLog m log view own r heard → ReadsLog m log view own (takes_out r) heard
  reads_told own r heard reads = same_reads own r (takes_out r) heard (record { world = refl; seen = refl; broken = refl; synced = refl }) refl reads

  pub knows_read : (own : RealWorlds) (r : RealReplica) (heard : List (Option ServerFrame)) → ReadsLog m log view own r heard → KnowsLog m log view own r
  knows_read own r heard reads = record { same = reads.same; its = reads.its; follows = reads.stands.follows }

  -- ---- frames

  own_sends : (own : RealWorlds) (r : RealReplica) (number : ℕ) (payloads : List (List ℕ)) → AreOwnFrames m log own r (sends_after number payloads)
  own_sends own r number [] = tt
  own_sends own r number (payload ∷ rest) = (tt, own_sends own r (number + 1) rest)

  own_if : (own : RealWorlds) (r : RealReplica) (test : Bool) (frames : List ClientFrame) → AreOwnFrames m log own r frames → AreOwnFrames m log own r (if test then frames else [])
  own_if own r true frames are = are
  own_if own r false frames are = tt

  pub own_unsent : (own : RealWorlds) (r other : RealReplica) → AreOwnFrames m log own r (unsent other)
  own_unsent own r other = own_if own r other.synced _ (own_sends own r other.given (drop (other.given - other.acknowledged) other.outbox))

  pub own_behind : (own : RealWorlds) (r : RealReplica) (test : Bool) (frames : List ClientFrame) → AreOwnFrames m log own r frames → AreOwnFrames m log own r ((if test then client.Alive ∷ [] else []) ++ frames)
  own_behind own r true frames are = (tt, are)
  own_behind own r false frames are = are

  pub own_snap : (own : RealWorlds) (r : RealReplica) (heard : List (Option ServerFrame)) → ReadsLog m log view own r heard → IsOwnFrame m log own r (snap_frame own r)
  own_snap own r heard reads = (reads.same, reads.stands.follows, ap (λ (w : RealWorlds). w.time r.world) reads.same, ap (λ (w : RealWorlds). w.snapshot r.world) reads.same)

  -- ---- rest

  pub same_replay : (r other : RealReplica) → SameWorld r other → other.view ≡ r.view → HasReplay m log view r → HasReplay m log view other
  same_replay r other same kept has =
      let own = has.follows in
      record {
        its = kept ∙ has.its;
        follows = record { whole = rw same.broken own.whole; valid = rw same.world own.valid; follows = rw same.world own.follows; counted = rw (same.world, same.seen) own.counted };
        replayed = rw same.world has.replayed;
      }

  pub tick_replays : AreWorlds m → IsLegal log → (r : RealReplica) → r.synced ≡ true → FollowsLog m log r → r.view ≡ view → HasReplay m log view (taken m r (Tick (m.time r.world))).replica
  tick_replays laws legal r synced own its =
      let t = m.time r.world in
      let forward : nat_lt t t ≡ false = grind (arith, nat_tests) in
      let stays : t ≤ t = omega arith in
      let below = laws.valid_time r.world own.valid in
      let timed = laws.advance_time r.world t own.valid stays in
      rw (synced, own.whole, forward) (record {
        its = its;
        follows = record {
          whole = refl;
          valid = laws.advance_valid r.world t own.valid stays below;
          follows = advance_follows m laws log r.world t legal below own.valid own.follows stays refl;
          counted = rw timed own.counted;
        };
        replayed = rw timed own.follows;
      })

  -- a tick of its own time makes its world the replay to that time
  pub rested_replays : AreWorlds m → IsLegal log → (own : RealWorlds) (r : RealReplica) (heard : List (Option ServerFrame)) → ReadsLog m log view own r heard → HasReplay m log view (takes_out (rested own r))
  rested_replays laws legal own r heard reads =
      let has = tick_replays laws legal r reads.stands.synced reads.stands.follows reads.its in
      subst (λ (w : RealWorlds). HasReplay m log view (takes_out (rested w r))) (sym reads.same)
      (same_replay (rested m r) (takes_out (rested m r)) (record { world = refl; seen = refl; broken = refl; synced = refl }) refl has)

  -- so does its place in the log
  tick_stands : AreWorlds m → IsLegal log → (place : Place) (r : RealReplica) → StandsAt m log place r → StandsAt m log place (taken m r (Tick (m.time r.world))).replica
  tick_stands laws legal place r stands =
      let own = stands.follows in
      let t = m.time r.world in
      let forward : nat_lt t t ≡ false = grind (arith, nat_tests) in
      let stays : t ≤ t = omega arith in
      let below = laws.valid_time r.world own.valid in
      let timed = laws.advance_time r.world t own.valid stays in
      rw (stands.synced, own.whole, forward) (record {
        follows = record {
          whole = refl;
          valid = laws.advance_valid r.world t own.valid stays below;
          follows = advance_follows m laws log r.world t legal below own.valid own.follows stays refl;
          counted = rw timed own.counted;
        };
        placed = stands.placed;
        ahead = rw timed stands.ahead;
        synced = refl;
      })

  pub rest_stands : AreWorlds m → IsLegal log → (place : Place) (r : RealReplica) → StandsAt m log place r → StandsAt m log place (rested m r)
  rest_stands = tick_stands

  -- a tick of its own time leaves it where it stands
  pub reads_rested : AreWorlds m → IsLegal log → (own : RealWorlds) (r : RealReplica) (heard : List (Option ServerFrame)) → ReadsLog m log view own r heard → ReadsLog m log view own (rested own r) heard
  reads_rested laws legal own r heard reads =
      subst (λ (w : RealWorlds). ReadsLog m log view own (rested w r) heard) (sym reads.same)
      (record {
        same = reads.same;
        its = (taken_keeps m r (Tick (m.time r.world))).view ∙ reads.its;
        place = reads.place;
        frames = reads.frames;
        told = reads.told;
        stands = rest_stands laws legal reads.place r reads.stands;
        streams = reads.streams;
      })

-- the last line tells a view, a world and how many entries were seen
pub line_of : (m : RealWorlds) (r : RealReplica) (view seen : ℕ) (w : WorldRecord) → r.view ≡ view → r.seen ≡ seen → r.world ≡ w → view_line r ≡ view_line (record (new_replica m view) { world = w; seen = seen })
line_of m r view seen w its counted same =
    ap (λ (n : ℕ). view_line (record r { view = n })) its ∙ ap (λ (n : ℕ). view_line (record r { view = view; seen = n })) counted ∙ ap (λ (v : WorldRecord). view_line (record r { view = view; seen = seen; world = v })) same
