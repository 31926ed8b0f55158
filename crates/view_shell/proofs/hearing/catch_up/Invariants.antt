use Rattle.std.proofs.Common.{◌≡◌, ℕ, List}
use Rattle.run_steps.specs.Outside.{links_tell}
use Rattle.view_script.specs.PlainLine.{PlainLine}
use Rattle.view_shell.specs.Phases.{ToCatchUp, receive}
use Rattle.view_shell.specs.Viewers.{IsReady, viewer}
use Rattle.view_shell.specs.ViewRun.{Goes, LinkActs}
use Rattle.view_shell.proofs.hearing.catch_up.Given as goal

-- what was heard so far leads from where it began to where it is
abbrev pub invariant-loop : goal.invariant-loop
invariant-loop g l = record {
  kept : l.watcher ≡ record l.fn.watcher { replica = l.watcher.replica; receives = l.watcher.receives; quiets = l.watcher.quiets };
  ready : IsReady l.watcher;
  talk : (address : List ℕ) (lines : List PlainLine) → Goes (LinkActs (links_tell g.L.Link)) (receive (viewer address l.fn.watcher lines) ToCatchUp) (receive (viewer address l.watcher lines) ToCatchUp) l.fn.link l.link;
}
