-- What was read of a line, and what it says.
use Rattle.std.specs.List.{AllByRecursion}
use Rattle.view_script.specs.PlainLine.{LineFits, plain_lines}
use Rattle.live_view.specs.declared.reading.Said.{Said}
use Rattle.live_view.specs.declared.reading.Said.TheVariants as said
use Rattle.live_view.specs.Lines.{LineRead, NoLine, Lines, Holds}

abbrev pub says : Said → LineRead
says said.Nothing = NoLine
says (said.Lines lines) = Lines (plain_lines lines.items)
says (said.Holds holds) = Holds holds

-- its lines are those of a script
abbrev pub AreFit : Said → Type 0
AreFit (said.Lines lines) = AllByRecursion LineFits (plain_lines lines.items)
AreFit what = Unit {0}
