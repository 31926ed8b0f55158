-- Reading fields from the front of bytes: the value and the bytes after it, or nothing.
use Rattle.std.specs.Prelude.{◌≡◌, ◌<◌, ◌^◌, ℕ, zero, suc, List, [], ◌∷◌, ◌++◌, length, take, drop, Bool, Option, Some, None, Result, Ok, Err, nat_lt, ◌==◌, if◌then◌else◌}
use Rattle.std.specs.Int.{Width, w32, byte_len, from_be_bytes, to_be_bytes}
use Rattle.std.specs.List.{flat_map}
use Rattle.std.specs.Option.{option_and_then}
use Rattle.std.specs.Str.{bytes_eq, chars, encode_utf8_all, is_utf8}

-- a reader of values
abbrev pub Decoder : Type 0 → Type 0
Decoder A = List ℕ → Option (A × List ℕ)

-- one step, and the next one where there is a value
infixl 10 ◌>>=◌
abbrev pub ◌>>=◌ : {A B : Type 0} → Option A → (A → Option B) → Option B
found >>= next = option_and_then next found

-- ---- fields

abbrev pub byte_at : Decoder ℕ
byte_at [] = None
byte_at (byte ∷ rest) = Some (byte, rest)

-- so many bytes
abbrev pub bytes_at : ℕ → Decoder (List ℕ)
bytes_at count bytes =
    if nat_lt (length bytes) count then None else Some (take count bytes, drop count bytes)

-- a number of a fixed width, its highest byte first
abbrev pub number_at : Width → Decoder ℕ
number_at width bytes = bytes_at (byte_len width) bytes >>= λ x. Some (from_be_bytes width x.0, x.1)

-- ---- readers from readers

-- one, and behind it another
abbrev pub paired_at : {A B : Type 0} → Decoder A → Decoder B → Decoder (A × B)
paired_at first second bytes = first bytes >>= λ x. second x.1 >>= λ y. Some ((x.0, y.0), y.1)

-- a field that says how the rest is read, as a length, a count or a tag does
abbrev pub headed_at : {H A : Type 0} → Decoder H → (H → Decoder A) → Decoder A
headed_at first next bytes = first bytes >>= λ x. next x.0 x.1

-- the bytes after a mark that they begin with
abbrev pub mark_at : List ℕ → List ℕ → Option (List ℕ)
mark_at mark bytes =
    bytes_at (length mark) bytes >>= λ x. if bytes_eq x.0 mark then Some x.1 else None

-- behind a mark that is always the same
abbrev pub marked_at : {A : Type 0} → List ℕ → Decoder A → Decoder A
marked_at mark read bytes = mark_at mark bytes >>= read

-- the value made of what is read
abbrev pub made_at : {A B : Type 0} → (A → B) → Decoder A → Decoder B
made_at make read bytes = read bytes >>= λ x. Some (make x.0, x.1)

-- only what passes a test
abbrev pub tested_at : {A : Type 0} → (A → Bool) → Decoder A → Decoder A
tested_at test read bytes = read bytes >>= λ x. if test x.0 then Some x else None

-- a value that takes no bytes
abbrev pub nothing_at : {A : Type 0} → A → Decoder A
nothing_at value bytes = Some (value, bytes)

-- no value
abbrev pub never_at : {A : Type 0} → Decoder A
never_at bytes = None

-- ---- fields with a length

-- how many bytes there are is a number of 32 bits
abbrev pub FitsBlob : List ℕ → Type 0
FitsBlob bytes = length bytes < 2 ^ 32

-- a length, and so many bytes
abbrev pub blob : List ℕ → List ℕ
blob bytes = to_be_bytes w32 (length bytes) ++ bytes

abbrev pub blob_at : Decoder (List ℕ)
blob_at = headed_at (number_at w32) bytes_at

-- characters as UTF-8, behind how many bytes that has
abbrev pub text_field : List ℕ → List ℕ
text_field characters = blob (encode_utf8_all characters)

-- the characters of a length and so many bytes of UTF-8
abbrev pub text_at : Decoder (List ℕ)
text_at = made_at chars (tested_at is_utf8 blob_at)

-- a count, and so many items
abbrev pub list_of : {A : Type 0} → (A → List ℕ) → List A → List ℕ
list_of spell items = to_be_bytes w32 (length items) ++ flat_map spell items

-- so many items behind those that were read, each read by all before it
unfoldable pub items_at : {A : Type 0} → (List A → Decoder A) → List A → ℕ → Decoder (List A)
items_at read before zero bytes = Some (before, bytes)
items_at read before (suc count) bytes =
    read before bytes >>= λ x. items_at read (before ++ x.0 ∷ []) count x.1

abbrev pub list_at : {A : Type 0} → (List A → Decoder A) → Decoder (List A)
list_at read = headed_at (number_at w32) (items_at read [])

-- ---- what a function answers

-- all of the bytes, and no others
abbrev pub whole : {A : Type 0} → Decoder A → List ℕ → Option A
whole read bytes = read bytes >>= λ x. if length x.1 == 0 then Some x.0 else None

-- What a function returned, seen by view, is what was read. The fault bad says that nothing was read,
-- and another one, as want of memory, says nothing.
abbrev pub Decodes : {E X Y : Type 0} → E → (X → Y) → Result X E → Option Y → Type 0
Decodes bad view (Ok x) read = read ≡ Some (view x)
Decodes bad view (Err fault) read = fault ≡ bad → read ≡ None
