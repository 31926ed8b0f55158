use Rattle.std.proofs.Common.{◌≡◌, ◌≤◌, ◌+◌, drop}
use Rattle.view_script.specs.PlainLine.{plain_lines, publish_count}
use Rattle.view_script.proofs.reading.publish_count.Given as goal

-- the lines so far that publish, and those that are left
abbrev pub invariant-loop-line : goal.invariant-loop-line
invariant-loop-line l = record {
  told : l.count + publish_count (plain_lines (drop l.line-index l.lines)) ≡ publish_count (plain_lines l.lines);
  few : l.count ≤ l.line-index;
}
