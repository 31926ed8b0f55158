use Rattle.std.proofs.Common.{ℕ, List, drop}
use Rattle.std.specs.List.{AllByRecursion}
use Rattle.run_steps.specs.Outside.{Acts, links_tell, output_tells, link_side, link_side_tells}
use Rattle.view_script.specs.PlainLine.{LineFits, plain_lines}
use Rattle.view_shell.specs.Phases.{run}
use Rattle.view_shell.specs.Viewers.{HasRoomFor, IsReady, viewer}
use Rattle.view_shell.specs.ViewRun.{Goes}
use Rattle.view_shell.proofs.lines.run_lines.Given as goal

-- the lines so far were done
abbrev pub invariant-loop-place : goal.invariant-loop-place
invariant-loop-place g l = record {
  ready : IsReady l.watcher;
  fit : AllByRecursion LineFits (plain_lines (drop l.place l.lines));
  room : HasRoomFor l.watcher (plain_lines (drop l.place l.lines));
  talk : (address : List ℕ) → Goes (Acts (link_side_tells (output_tells g.W.Sink) (links_tell g.L.Link)))
      (run (viewer address l.fn.watcher (plain_lines l.lines)) (plain_lines l.lines))
      (run (viewer address l.watcher (plain_lines (drop l.place l.lines))) (plain_lines (drop l.place l.lines)))
      (link_side l.fn.out l.fn.link) (link_side l.out l.link);
}
