-- The bytes of a log. All numbers are big-endian.
use Rattle.std.specs.Prelude.{ℕ, List, ◌++◌, codes}
use Rattle.std.specs.Int.{to_be_bytes, w32, w64}
use Rattle.tea_base.specs.declared.entry.Entry.{Entry}
use Rattle.byte_fields.specs.Fields.{list_of}
use Rattle.entry_fields.specs.Spelling.{what_spelling}

-- the seq is left out: it is the entry's place in the log
unfoldable pub log_entry_spelling : Entry → List ℕ
log_entry_spelling entry =
    to_be_bytes w64 entry.time ++ to_be_bytes w32 entry.view ++ what_spelling entry.what

-- a mark, how many entries there are, and the entries
abbrev pub log_spelling : List Entry → List ℕ
log_spelling log = codes "TEALOG01" ++ list_of log_entry_spelling log
