-- What stores in memory hold, and what their calls answer and leave.
use Rattle.std.specs.Prelude.{ℕ, Bool, true, false, ◌==◌, ◌||◌, nat_le, List, [], ◌∷◌, ◌++◌, length, Option, Some, None, Result, Ok, Err, if◌then◌else◌}
use Rattle.std.specs.Str.{bytes_eq}
use Rattle.tea_io.specs.Told.{count_up}
use Rattle.tea_io.specs.Calls.{fails_at}
use Rattle.tea_io.specs.Files.{Content, Untold}
use Rattle.tea_io.specs.MemFiles.{content_of_bytes}
use Rattle.tea_io.specs.declared.mem_files.NamedBlob.{NamedBlob}
use Rattle.store_io.specs.declared.store.StoreFault.{StoreFault}
use Rattle.store_io.specs.declared.store.StoreFault.TheVariants.{Failed, WantOfMemory}
use Rattle.store_io.specs.declared.stores.Opened.{Opened}
use Rattle.store_io.specs.declared.stores.Opened.TheVariants as opened
use Rattle.store_io.specs.MemStore.{MemStoreState, store_of}

-- the files, of two of one name the later; the name of the store that is out; which calls fail by their numbers; which
-- calls of the next store that is opened fail, and how much of a failing call is done; the number of the next call, and
-- how many were not done
pub record MemStoresState : Type 0 where
  pub held : List NamedBlob
  pub out : Option (List ℕ)
  pub failing : List ℕ
  pub failing_opened : List ℕ
  pub torn : ℕ
  pub next_call : ℕ
  pub faults : ℕ

-- the bytes of the last file of this name, or what was found before
abbrev pub newest : Option (List ℕ) → List NamedBlob → List ℕ → Option (List ℕ)
newest found [] name = found
newest found (file ∷ files) name = newest (if bytes_eq file.name name then Some file.bytes else found) files name

-- whether this is the name of the store that is out
abbrev pub is_name : Option (List ℕ) → List ℕ → Bool
is_name None name = false
is_name (Some out) name = bytes_eq out name

-- whether the store of this name is out
abbrev pub is_out : MemStoresState → List ℕ → Bool
is_out stores name = is_name stores.out name

-- what a name holds
abbrev pub content : Option (List ℕ) → List NamedBlob → List ℕ → Content
content out held name = if is_name out name then Untold else content_of_bytes (newest None held name)

abbrev pub content_of : MemStoresState → List ℕ → Content
content_of stores name = content stores.out stores.held name

-- a file more
abbrev pub with_file : List ℕ → List ℕ → MemStoresState → MemStoresState
with_file name bytes stores = record stores { held = stores.held ++ record { name = name; bytes = bytes } ∷ [] }

-- a call more was made
abbrev pub stores_called : MemStoresState → MemStoresState
stores_called stores = record stores { next_call = count_up stores.next_call }

-- a call more was not done, of which the count does not know yet
abbrev pub counting : {T : Type 0} → Result T StoreFault → MemStoresState → MemStoresState
counting (Ok value) stores = stores
counting (Err fault) stores = record stores { faults = count_up stores.faults }

-- what a founding answers, but for want of memory
abbrev pub found_answer : MemStoresState → Result (Unit {0}) StoreFault
found_answer stores = if fails_at stores.failing stores.next_call then Err Failed else Ok tt

-- what a founding leaves, before its fault is counted: one that fails may have put the file
abbrev pub found_tried : {T : Type 0} → Result T StoreFault → List ℕ → List ℕ → MemStoresState → MemStoresState
found_tried (Ok value) name bytes stores = stores_called (with_file name bytes stores)
found_tried (Err Failed) name bytes stores =
    stores_called (if stores.torn == 0 then stores else with_file name bytes stores)
found_tried (Err WantOfMemory) name bytes stores = stores

-- a store is out
abbrev pub is_some_out : Option (List ℕ) → Bool
is_some_out None = false
is_some_out (Some out) = true

-- for how many files there has to be room
abbrev pub count_out : Option (List ℕ) → ℕ
count_out None = 0
count_out (Some out) = 1

-- a copy of what was found for the store and one for its reader, up to the limit
abbrev pub copies_within : Option (List ℕ) → ℕ → Opened (List ℕ)
copies_within None limit = opened.Absent
copies_within (Some bytes) limit =
    if nat_le (length bytes) limit then opened.There bytes bytes else opened.TooLarge (length bytes)

-- the same with a store in place of the first
abbrev pub as_store : List ℕ → ℕ → Opened (List ℕ) → Opened MemStoreState
as_store failing torn opened.Absent = opened.Absent
as_store failing torn (opened.There held bytes) = opened.There (store_of held failing torn) bytes
as_store failing torn (opened.TooLarge len) = opened.TooLarge len

-- what an opening answers, but for want of memory: it fails while a store is out
abbrev pub open_answer : MemStoresState → List ℕ → ℕ → Result (Opened MemStoreState) StoreFault
open_answer stores name limit =
    if fails_at stores.failing stores.next_call || is_some_out stores.out then Err Failed
    else Ok (as_store stores.failing_opened stores.torn (copies_within (newest None stores.held name) limit))

-- what a name that was opened leaves: its store is out, and has the numbers of the calls that fail
abbrev pub handed_out : {S : Type 0} → Opened S → List ℕ → MemStoresState → MemStoresState
handed_out opened.Absent name stores = stores
handed_out (opened.There store bytes) name stores = record stores { out = Some name; failing_opened = [] }
handed_out (opened.TooLarge len) name stores = stores

-- what an opening leaves, before its fault is counted
abbrev pub open_tried : {S : Type 0} → Result (Opened S) StoreFault → List ℕ → MemStoresState → MemStoresState
open_tried (Ok opened) name stores = handed_out opened name (stores_called stores)
open_tried (Err Failed) name stores = stores_called stores
open_tried (Err WantOfMemory) name stores = stores

-- what a store that came back leaves
abbrev pub after_back : List ℕ → List ℕ → MemStoresState → MemStoresState
after_back name bytes stores = record (with_file name bytes stores) { out = None }
