use Rattle.std.proofs.Common.{◌≡◌, drop, map}
use Rattle.std.specs.List.{AllByRecursion}
use Rattle.std.specs.Str.Lines.{lines}
use Rattle.view_script.specs.PlainLine.{plain_lines, LineFits}
use Rattle.view_script.specs.ViewScript.{lines_of, then_lines}
use Rattle.view_script.proofs.reading.read_lines.Given as goal

-- the lines so far, and those of the texts that are left
abbrev pub invariant-loop-text : goal.invariant-loop-text
invariant-loop-text l = record {
  told : then_lines (plain_lines l.lines.items) (lines_of (map (λ text. text.now) (drop l.text-index l.text-items))) ≡ lines_of (lines l.script);
  fit : AllByRecursion LineFits (plain_lines l.lines.items);
}
