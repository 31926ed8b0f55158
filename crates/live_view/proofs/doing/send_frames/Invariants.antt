use Rattle.std.proofs.Common.{◌≡◌, drop}
use Rattle.view_shell.specs.Phases.{Viewer, Task, send_all}
use Rattle.view_shell.specs.Viewers.{IsReady}
use Rattle.live_view.specs.Doing.{Leads}
use Rattle.live_view.proofs.doing.send_frames.Given as goal

-- the frames so far were sent
abbrev pub invariant-loop-frame : goal.invariant-loop-frame
invariant-loop-frame l = record {
  kept : l.watcher ≡ record l.fn.watcher { receives = l.watcher.receives };
  ready : IsReady l.fn.watcher → IsReady l.watcher;
  talk : (v : Viewer) (task : Task) → v.receives ≡ l.fn.watcher.receives
      → Leads l.fn.out l.out (send_all v l.frames task) (send_all (record v { receives = l.watcher.receives }) (drop l.frame-index l.frames) task);
}
