use Rattle.std.proofs.Common.{◌≡◌, drop, None}
use Rattle.std.specs.Option.{option_copied}
use Rattle.store_io.specs.MemStores.{newest}
use Rattle.store_io.proofs.mem_stores.find.Given as goal

-- what was found, and then the files to come, is what all files give
abbrev pub invariant-loop-file : goal.invariant-loop-file
invariant-loop-file l = newest (option_copied l.found) (drop l.file-index l.files) l.name ≡ newest None l.files l.name
