-- What files in memory hold, what their calls answer, and what the calls leave.
use Rattle.std.specs.Prelude.{◌≡◌, ℕ, List, [], ◌∷◌, ◌++◌, length, nat_le, Option, Some, None}
use Rattle.std.specs.Prelude.{Result, Ok, Err, ◌⊎◌, if◌then◌else◌}
use Rattle.std.specs.Str.{bytes_eq}
use Rattle.tea_io.specs.declared.files.FileCall.{FileCall}
use Rattle.tea_io.specs.declared.files.FileFault.{FileFault}
use Rattle.tea_io.specs.declared.files.FileFault.TheVariants.{Failed, TooLarge, WantOfMemory}
use Rattle.tea_io.specs.declared.mem_files.NamedBlob.{NamedBlob}
use Rattle.tea_io.specs.Told.{count_up}
use Rattle.tea_io.specs.Files.{Content, Absent, Present}
use Rattle.tea_io.specs.Calls.{fails_at}

-- files in memory: what is held, of two files of one name the first; the calls so far; which
-- calls fail by their numbers, and the number of the next; how many failed, and how many were out of memory
pub record MemFilesState : Type 0 where
  pub held : List NamedBlob
  pub asked : List FileCall
  pub failing : List ℕ
  pub next_call : ℕ
  pub faults : ℕ
  pub wants : ℕ

-- the bytes of the first file of this name
abbrev pub bytes_of : List NamedBlob → List ℕ → Option (List ℕ)
bytes_of [] name = None
bytes_of (file ∷ files) name =
    if bytes_eq file.name name then Some file.bytes else bytes_of files name

-- nothing is left untold
abbrev pub content_of_bytes : Option (List ℕ) → Content
content_of_bytes None = Absent
content_of_bytes (Some bytes) = Present bytes

-- what stands under a name
abbrev pub content_of : MemFilesState → List ℕ → Content
content_of files name = content_of_bytes (bytes_of files.held name)

-- a file of this name in front of the others
abbrev pub with_file : List ℕ → List ℕ → List NamedBlob → List NamedBlob
with_file name bytes files = record { name = name; bytes = bytes } ∷ files

-- bytes are given up to the limit
abbrev pub within_limit : Option (List ℕ) → ℕ → Result (List ℕ) FileFault
within_limit None limit = Err Failed
within_limit (Some bytes) limit =
    if nat_le (length bytes) limit then Ok bytes else Err (TooLarge (length bytes))

-- what a read answers
abbrev pub read_answer : MemFilesState → List ℕ → ℕ → Result (List ℕ) FileFault
read_answer files name limit =
    if fails_at files.failing files.next_call then Err Failed
    else within_limit (bytes_of files.held name) limit

-- what a write answers, and a look
abbrev pub write_answer : MemFilesState → Result (Unit {0}) FileFault
write_answer files = if fails_at files.failing files.next_call then Err Failed else Ok tt

-- want of memory may come in place of any other answer
abbrev pub IsAnswer : {T : Type 0} → Result T FileFault → Result T FileFault → Type 0
IsAnswer answer result = (result ≡ answer) ⊎ (result ≡ Err WantOfMemory)

-- a call more was made
abbrev pub files_with_call : MemFilesState → FileCall → MemFilesState
files_with_call files call =
    record files { asked = files.asked ++ call ∷ []; next_call = count_up files.next_call }

-- a call more was made, and failed
abbrev pub files_with_failure : MemFilesState → FileCall → MemFilesState
files_with_failure files call = record (files_with_call files call) { faults = count_up files.faults }

-- what a call leaves, where `held` is held after it if it is answered by Ok
abbrev pub files_after
    : {T : Type 0} → Result T FileFault → MemFilesState → FileCall → List NamedBlob
    → MemFilesState
files_after (Ok value) files call held = record (files_with_call files call) { held = held }
files_after (Err Failed) files call held = files_with_failure files call
files_after (Err (TooLarge len)) files call held = files_with_call files call
files_after (Err WantOfMemory) files call held = record files { wants = count_up files.wants }

-- the same, before it is counted that a call was out of memory
abbrev pub files_tried
    : {T : Type 0} → Result T FileFault → MemFilesState → FileCall → List NamedBlob
    → MemFilesState
files_tried (Ok value) files call held = record (files_with_call files call) { held = held }
files_tried (Err Failed) files call held = files_with_failure files call
files_tried (Err (TooLarge len)) files call held = files_with_call files call
files_tried (Err WantOfMemory) files call held = files

-- it is counted where a call was out of memory
abbrev pub files_counting : FileFault → MemFilesState → MemFilesState
files_counting WantOfMemory files = record files { wants = count_up files.wants }
files_counting fault files = files
