use Rattle.std.proofs.Common.{◌≡◌, ℕ, ◌+◌, ◌≤◌, List, drop}
use Rattle.std.specs.List.{AllByRecursion}
use Rattle.view_script.specs.PlainLine.{LineFits, plain_lines, publish_count}
use Rattle.view_shell.specs.Viewers.{HasRoomFor, IsReady, viewer}
use Rattle.live_view.specs.Live.{lines_from}
use Rattle.live_view.specs.Doing.{after}
use Rattle.live_view.proofs.script.do_lines.Given as goal

-- the lines so far were done
abbrev pub invariant-loop-index : goal.invariant-loop-index
invariant-loop-index l = record {
  ready : IsReady l.watcher;
  fit : AllByRecursion LineFits (plain_lines (drop l.index l.lines));
  room : HasRoomFor l.watcher (plain_lines (drop l.index l.lines));
  count : l.watcher.published + publish_count (plain_lines (drop l.index l.lines)) ≤ l.fn.watcher.published + publish_count (plain_lines l.lines);
  told : (address : List ℕ) → after l.fn.out (lines_from l.closed (plain_lines l.lines) (viewer address l.fn.watcher (plain_lines l.lines)))
      ≡ after l.out (lines_from l.closed (plain_lines (drop l.index l.lines)) (viewer address l.watcher (plain_lines (drop l.index l.lines))));
}
