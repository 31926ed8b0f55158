use Rattle.std.proofs.Common.{◌≡◌, drop}
use Rattle.std.specs.List.{AllByRecursion}
use Rattle.run_steps.specs.Outside.{links_tell}
use Rattle.view_shell.specs.Phases.{IsReadAsWorld, Viewer, Task, send_all}
use Rattle.view_shell.specs.Viewers.{IsReady}
use Rattle.view_shell.specs.ViewRun.{Goes, LinkActs}
use Rattle.view_shell.proofs.sending.send_all.Given as goal

-- the frames so far were sent
abbrev pub invariant-loop-frame : goal.invariant-loop-frame
invariant-loop-frame g l = record {
  kept : l.watcher ≡ record l.fn.watcher { receives = l.watcher.receives };
  ready : IsReady l.fn.watcher → IsReady l.watcher;
  talk : (v : Viewer) (task : Task) → v.receives ≡ l.fn.watcher.receives → AllByRecursion (IsReadAsWorld v) l.frames
      → Goes (LinkActs (links_tell g.L.Link))
      (send_all v l.frames task) (send_all (record v { receives = l.watcher.receives }) (drop l.frame-index l.frames) task) l.fn.link l.link;
}
