-- What contracts see of a view while it runs.
use Rattle.std.specs.Prelude.{◌≡◌, ◌⊎◌, ◌≤◌, ◌<◌, ℕ, ◌+◌, true, drop, length, List, []}
use Rattle.std.specs.Arc.{arc_value}
use Rattle.model_solved.specs.Founding.{Founding, checked_tree}
use Rattle.replica_plain.specs.declared.how.How.TheVariants.{Fresh}
use Rattle.replica_plain.specs.PlainReplica.{new_replica, published_count}
use Rattle.replica.specs.RealWorlds.{worlds}
use Rattle.replica_plain.specs.Taking.{MayWant, taken}
use Rattle.wire_frames.specs.declared.frame.ServerFrame.TheVariants.{Tick}
use Rattle.replica.specs.View.{ReplicaView, worlds_of}
use Rattle.view_script.specs.PlainLine.{PlainLine, publish_count, most_publishes}
use Rattle.view_shell.specs.declared.lines.Departure.{Departure}
use Rattle.view_shell.specs.declared.lines.Departure.TheVariants as departure
use Rattle.view_shell.specs.declared.watcher.Watcher.{Watcher}
use Rattle.tea_io.specs.Links.{most_quiets}
use Rattle.view_shell.specs.Phases.{Viewer, Phase, Connecting, most_receives}

-- the view, with what is left of its script
abbrev pub viewer : List ℕ → Watcher → List PlainLine → Viewer
viewer address w lines =
    record {
      worlds = worlds_of w.replica;
      tree = checked_tree w.replica.program;
      address = address;
      replica = w.replica.plain;
      topics = w.topics;
      lines = lines;
      receives = w.receives;
      quiets = w.quiets;
    }

-- a view that has done nothing yet
abbrev pub first_viewer : Founding → List ℕ → ℕ → List ℕ → List PlainLine → Viewer
first_viewer founding id view address lines =
    let m = worlds founding id in
    record {
      worlds = m;
      tree = founding.tree;
      address = address;
      replica = new_replica m view;
      topics = [];
      lines = lines;
      receives = 0;
      quiets = 0;
    }

-- it connects, and joins for the first time
abbrev pub first_phase : Founding → List ℕ → ℕ → List ℕ → List PlainLine → Phase
first_phase founding id view address lines = Connecting (first_viewer founding id view address lines) Fresh

-- the events that were published and those that its script has yet to publish are no more than a view may publish
abbrev pub HasRoomFor : Watcher → List PlainLine → Type 0
HasRoomFor w lines = w.published + publish_count lines ≤ most_publishes

-- it knows its own number, how many events it published, and of which program and which session its replica is
pub record KnowsItself (w : Watcher) : Type 0 where
  pub view : w.view ≡ w.replica.plain.view
  pub published : w.published ≡ published_count w.replica.plain
  pub program : arc_value w.program ≡ w.replica.program
  pub session : w.id.0 ≡ w.replica.id

-- it may hear its link: it is not due to say that it is alive, and the link was not quiet too often
pub record IsReady (w : Watcher) : Type 0 where
  pub knows : KnowsItself w
  pub receives : w.receives < most_receives
  pub quiets : w.quiets < most_quiets

-- it has heard its link once more
pub record HasHeard (w : Watcher) : Type 0 where
  pub knows : KnowsItself w
  pub receives : w.receives ≤ most_receives
  pub quiets : w.quiets < most_quiets

-- a view that goes on on another link has room for the events that are left
abbrev pub HasRoomBehind : Departure → Watcher → List PlainLine → Type 0
HasRoomBehind (departure.Again how count) w lines = (count ≤ length lines) × HasRoomFor w (drop count lines)
HasRoomBehind departure.Done w lines = Unit {0}

-- a tick of its own time may want memory: memory broke the replica before, or the tick has no other fault
abbrev pub RestMayWant : ReplicaView → Type 0
RestMayWant r = (r.plain.broken ≡ true) ⊎ MayWant (taken (worlds_of r) r.plain (Tick r.plain.world.time)).fault
