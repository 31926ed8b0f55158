-- What is opened under a name, and what comes back.
use Rattle.std.specs.Prelude.{◌≡◌, ℕ, ◌≤◌, ◌<◌, ⊤, Bool, true, List, length, Option, Some, None}
use Rattle.tea_io.specs.Files.{Content, Untold, Absent, Present, MayBe, MayBeLong}
use Rattle.store_io.specs.declared.stores.Opened.{Opened}
use Rattle.store_io.specs.declared.stores.Opened.TheVariants as opened
use Rattle.store_io.specs.Store.{IsWithin}

-- there may be no file
abbrev pub MayBeAbsent : Content → Type 0
MayBeAbsent Untold = ⊤
MayBeAbsent Absent = ⊤
MayBeAbsent (Present held) = ⊥

-- where a store tells its bytes, they are these
abbrev pub TellsOnly : Option (List ℕ) → List ℕ → Type 0
TellsOnly None bytes = ⊤
TellsOnly (Some told) bytes = told ≡ bytes

-- what was found under a name is what it holds, up to the limit; no more of a store is safe than there is
abbrev pub IsOpened : {S : Type 0} → (S → Option (List ℕ)) → (S → ℕ) → Content → ℕ → Opened S → Type 0
IsOpened told safe content limit opened.Absent = MayBeAbsent content
IsOpened told safe content limit (opened.There store bytes) =
    MayBe content bytes × ((length bytes ≤ limit) × (TellsOnly (told store) bytes × IsWithin (told store) (safe store)))
IsOpened told safe content limit (opened.TooLarge len) = MayBeLong content len × (limit < len)

-- what a name holds after it was opened: while its store is out, nobody else tells
abbrev pub content_after : {S : Type 0} → Content → Opened S → Content
content_after content opened.Absent = content
content_after content (opened.There store bytes) = Untold
content_after content (opened.TooLarge len) = content

-- whether its store is out then
abbrev pub out_after : {S : Type 0} → Bool → Opened S → Bool
out_after out opened.Absent = out
out_after out (opened.There store bytes) = true
out_after out (opened.TooLarge len) = out

-- a name holds what the store told that came back
abbrev pub IsBack : Option (List ℕ) → Content → Type 0
IsBack None content = ⊤
IsBack (Some told) content = MayBe content told
