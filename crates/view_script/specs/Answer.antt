-- What reading a script answers, beside what the bytes spell.
use Rattle.std.specs.Prelude.{◌≡◌, List, Option, Some, None, Result, Ok, Err}
use Rattle.view_script.specs.PlainLine.{PlainLine, plain_lines}
use Rattle.view_script.specs.declared.fault.ScriptFault.{ScriptFault}
use Rattle.view_script.specs.declared.fault.ScriptFault.TheVariants.{Bad, WantOfMemory}
use Rattle.view_script.specs.declared.line.ViewLine.{ViewLine}

-- the lines that were read; want of memory says nothing
abbrev pub ReadsScript : Result (List ViewLine) ScriptFault → Option (List PlainLine) → Type 0
ReadsScript (Ok script) read = read ≡ Some (plain_lines script)
ReadsScript (Err Bad) read = read ≡ None
ReadsScript (Err WantOfMemory) read = Unit {0}
