-- What stores tell, and what the calls of a run do to them.
use Rattle.std.specs.Prelude.{◌≡◌, ◌≢◌, ◌⊎◌, ℕ, ⊤, List, Option, Result, OnOk, OnErr, IfOk}
use Rattle.tea_io.specs.Files.{Content, Holds}
use Rattle.store_io.specs.declared.store.Store.{Ghosts as OfStore}
use Rattle.store_io.specs.declared.store.StoreFault.{StoreFault}
use Rattle.store_io.specs.declared.stores.Stores.{Ghosts as OfStores}
use Rattle.store_io.specs.declared.stores.Opened.{Opened}
use Rattle.store_io.specs.Store.{StoreCause}
use Rattle.store_io.specs.Stores.{IsBack, IsOpened, content_after}

-- what a name holds, and how often a call was not done; of a store that was opened its bytes, how many of them are safe, and how often a call of
-- its own was not done
pub record StoresTell (T S : Type 0) : Type 0 where
  pub held : T → List ℕ → Content
  pub faults : T → ℕ
  pub told : S → Option (List ℕ)
  pub safe : S → ℕ
  pub store_faults : S → ℕ

abbrev pub stores_tell : {T S : Type 0} → OfStores T S → OfStore S → StoresTell T S
stores_tell t s = record { held = t.held; faults = t.faults; told = s.bytes; safe = s.safe; store_faults = s.faults }

-- all other names keep what they hold
abbrev pub KeepsOthers : (List ℕ → Content) → (List ℕ → Content) → List ℕ → Type 0
KeepsOthers old new name = (other : List ℕ) → other ≢ name → new other ≡ old other

-- bytes are put under a name, whole or not at all; where that is not done, they may be put
pub record FoundsFile {T S : Type 0} (stores : StoresTell T S) (name bytes : List ℕ) (result : Result ⊤ StoreFault)
    (old new : T) : Type 0 where
  pub ok : OnOk result (Holds (stores.held old name) (stores.held new name) bytes)
  pub err : OnErr result ((stores.held new name ≡ stores.held old name)
      ⊎ Holds (stores.held old name) (stores.held new name) bytes)
  pub others : KeepsOthers (stores.held old) (stores.held new) name
  pub cause : StoreCause (stores.faults old) (stores.faults new) result

-- the store of a name is opened
pub record OpensFile {T S : Type 0} (stores : StoresTell T S) (name : List ℕ) (limit : ℕ)
    (result : Result (Opened S) StoreFault) (old new : T) : Type 0 where
  pub given : IfOk result (IsOpened stores.told stores.safe (stores.held old name) limit)
  pub held : IfOk result (λ opened. stores.held new name ≡ content_after (stores.held old name) opened)
  pub err : OnErr result (stores.held new name ≡ stores.held old name)
  pub others : KeepsOthers (stores.held old) (stores.held new) name
  pub cause : StoreCause (stores.faults old) (stores.faults new) result

-- a store is given back: its name holds what it told
pub record TakesStore {T S : Type 0} (stores : StoresTell T S) (name : List ℕ) (store : S) (old new : T) : Type 0 where
  pub back : IsBack (stores.told store) (stores.held new name)
  pub others : KeepsOthers (stores.held old) (stores.held new) name
  pub faults : stores.faults new ≡ stores.faults old
