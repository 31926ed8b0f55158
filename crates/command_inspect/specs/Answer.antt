-- What reading queries answers.
use Rattle.std.specs.Prelude.{◌≡◌, List, Option, Some, None, Result, Ok, Err}
use Rattle.command_inspect.specs.declared.fault.QueriesFault.{QueriesFault}
use Rattle.command_inspect.specs.declared.fault.QueriesFault.TheVariants.{Bad, WantOfMemory}
use Rattle.command_inspect.specs.declared.query.Query.{Query}

-- the queries that were read; where it ran out of memory nothing is said
abbrev pub ReadsQueries : Result (List Query) QueriesFault → Option (List Query) → Type 0
ReadsQueries (Ok queries) read = read ≡ Some queries
ReadsQueries (Err Bad) read = read ≡ None
ReadsQueries (Err WantOfMemory) read = Unit {0}
