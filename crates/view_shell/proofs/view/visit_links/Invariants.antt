use Rattle.std.proofs.Common.{◌≤◌, None, drop, length}
use Rattle.std.specs.List.{AllByRecursion}
use Rattle.replica_plain.specs.declared.how.How.TheVariants.{Fresh}
use Rattle.run_steps.specs.Outside.{Acts, net_side, net_side_tells, links_tell, net_tells, output_tells}
use Rattle.view_script.specs.PlainLine.{LineFits, plain_lines}
use Rattle.view_shell.specs.Phases.{Connecting}
use Rattle.view_shell.specs.Viewers.{HasRoomFor, KnowsItself, viewer}
use Rattle.view_shell.specs.ViewRun.{Goes}
use Rattle.view_shell.proofs.view.visit_links.Given as goal

-- the links so far were given back, and so many lines of the script were done
abbrev pub invariant-loop : goal.invariant-loop
invariant-loop g l = record {
  knows : KnowsItself l.watcher;
  within : l.next ≤ length l.lines;
  fit : AllByRecursion LineFits (plain_lines (drop l.next l.lines));
  room : HasRoomFor l.watcher (plain_lines (drop l.next l.lines));
  talk : Goes (Acts (net_side_tells (output_tells g.W.Sink) (net_tells g.N.Net)
      (links_tell g.N.Conn.Link)))
      (Connecting (viewer l.visit.address l.fn.watcher (plain_lines l.visit.script)) Fresh)
      (Connecting (viewer l.visit.address l.watcher (plain_lines (drop l.next l.lines))) l.how)
      (net_side l.fn.out l.fn.net None) (net_side l.out l.net None);
}
