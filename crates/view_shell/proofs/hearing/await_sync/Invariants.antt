use Rattle.std.proofs.Common.{◌≡◌, ℕ, List}
use Rattle.run_steps.specs.Outside.{links_tell}
use Rattle.view_script.specs.PlainLine.{PlainLine}
use Rattle.replica_plain.specs.declared.how.How.{How}
use Rattle.view_shell.specs.Phases.{Receiving, ToJoin}
use Rattle.view_shell.specs.Viewers.{IsReady, viewer}
use Rattle.view_shell.specs.ViewRun.{Goes, LinkActs}
use Rattle.view_shell.proofs.hearing.await_sync.Given as goal

-- what was heard so far leads from where it began to where it is
abbrev pub invariant-loop : goal.invariant-loop
invariant-loop g l = record {
  kept : l.watcher ≡ record l.fn.watcher { replica = l.watcher.replica; receives = l.watcher.receives; quiets = l.watcher.quiets };
  ready : IsReady l.watcher;
  talk : (address : List ℕ) (lines : List PlainLine) (how : How) → Goes (LinkActs (links_tell g.L.Link)) (Receiving (viewer address l.fn.watcher lines) (ToJoin how)) (Receiving (viewer address l.watcher lines) (ToJoin how)) l.fn.link l.link;
}
