-- How the journal of a session is opened, and founded before that.
use Rattle.std.specs.Prelude.{◌≡◌, ◌⊎◌, ℕ, ◌-◌, ⊤, Bool, true, List, length, Option, Some, None, option_map, Result, Ok, Err}
use Rattle.store_io.specs.declared.store.StoreFault.{StoreFault}
use Rattle.store_io.specs.declared.store.StoreFault.TheVariants as store_fault
use Rattle.store_io.specs.declared.stores.Opened.{Opened}
use Rattle.store_io.specs.declared.stores.Opened.TheVariants as opened
use Rattle.store_io.specs.Stores.{TellsOnly}
use Rattle.session_log.specs.declared.stored.Stored.{Stored}
use Rattle.session_log.specs.Stored.{PlainStored, plain_stored}
use Rattle.session_journal.specs.Frames.{Place}
use Rattle.session_journal.specs.Founding.{founding_spelling}
use Rattle.session_journal.specs.Journal.{AreBytes, Goes, most_journal, read_journal}
use Rattle.journal_store.specs.declared.opening.OpeningFault.{OpeningFault}
use Rattle.journal_store.specs.declared.opening.OpeningFault.TheVariants as opening_fault
use Rattle.journal_store.specs.Stores.{FoundsFile, OpensFile, StoresTell}

-- what a journal is founded with, if that is known
abbrev pub plain_opening : Option Stored → Option PlainStored
plain_opening opening = option_map plain_stored opening

-- the journal of a session is put under a name, where it is known with what it is founded; for its bytes memory may be wanted
abbrev pub FoundsFirst : {T S : Type 0} → StoresTell T S → List ℕ → List ℕ → Option PlainStored → Result ⊤ StoreFault
    → T → T → Type 0
FoundsFirst stores id name None result old new = (result ≡ Ok tt) × (new ≡ old)
FoundsFirst stores id name (Some stored) result old new =
    ((result ≡ Err store_fault.WantOfMemory) × (new ≡ old))
    ⊎ FoundsFile stores name (founding_spelling id stored) result old new

-- what is answered where a store was opened, or not
abbrev pub opening_answer : {A : Type 0} → Result A StoreFault → Result A OpeningFault
opening_answer (Ok opened) = Ok opened
opening_answer (Err store_fault.Failed) = Err opening_fault.Unopened
opening_answer (Err store_fault.WantOfMemory) = Err opening_fault.WantOfMemory

-- once the journal was founded, or not, it is opened, or not
abbrev pub OpensThen : {T S : Type 0} → StoresTell T S → List ℕ → Result ⊤ StoreFault → Result (Opened S) OpeningFault
    → T → T → Type 0
OpensThen {S = S} stores name (Ok founded) answer old new =
    (result : Result (Opened S) StoreFault) × OpensFile stores name most_journal result old new
    × (answer ≡ opening_answer result)
OpensThen stores name (Err store_fault.Failed) answer old new = (answer ≡ Err opening_fault.Unfounded) × (new ≡ old)
OpensThen stores name (Err store_fault.WantOfMemory) answer old new =
    (answer ≡ Err opening_fault.WantOfMemory) × (new ≡ old)

-- the journal of this name is opened, and founded before that
pub record OpensJournal {T S : Type 0} (stores : StoresTell T S) (id name : List ℕ) (opening : Option PlainStored)
    (answer : Result (Opened S) OpeningFault) (old new : T) : Type 0 where
  pub founded : Result ⊤ StoreFault
  pub mid : T
  pub founds : FoundsFirst stores id name opening founded old mid
  pub opens : OpensThen stores name founded answer mid new

-- the store of a name is out, where one was opened
abbrev pub HasOut : {S : Type 0} → Bool → Result (Opened S) OpeningFault → Type 0
HasOut out (Ok (opened.There store bytes)) = out ≡ true
HasOut out answer = ⊤

-- what a store holds was read so, and so many of its bytes are the journal
pub record WasRead (told : Option (List ℕ)) (id : List ℕ) (place : Place PlainStored) (good : ℕ) : Type 0 where
  pub bytes : List ℕ
  pub tells : TellsOnly told bytes
  pub are : AreBytes bytes
  pub read : read_journal id bytes ≡ Goes place
  pub count : good ≡ length bytes - length place.rest
