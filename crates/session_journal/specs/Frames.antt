-- Bodies one after the other, each with its length before it and a check after it, read from the front as long as they go.
use Rattle.std.specs.Prelude.{◌≡◌, ℕ, zero, suc, ◌<◌, List, [], ◌∷◌, ◌++◌, length, Bool, true, not, ◌==◌, Option, Some, None}
use Rattle.byte_fields.specs.Fields.{Decoder, ◌>>=◌, blob, blob_at, headed_at, tested_at, marked_at, nothing_at, FitsBlob}

-- the check of a body, by the check before it; nothing is asked of it
abbrev pub Check : Type 0
Check = List ℕ → List ℕ → List ℕ

-- ---- spelling

abbrev pub frame_spelling : Check → List ℕ → List ℕ → List ℕ
frame_spelling check before body = blob body ++ check before body

-- each check follows the one before it
abbrev pub frames_spelling : Check → List ℕ → List (List ℕ) → List ℕ
frames_spelling check before [] = []
frames_spelling check before (body ∷ rest) =
    frame_spelling check before body ++ frames_spelling check (check before body) rest

-- the check after some bodies
abbrev pub last_check : Check → List ℕ → List (List ℕ) → List ℕ
last_check check before [] = before
last_check check before (body ∷ rest) = last_check check (check before body) rest

abbrev pub has_bytes : List ℕ → Bool
has_bytes bytes = not (length bytes == 0)

-- a body has a byte at least, and its length fits
abbrev pub FitsBody : List ℕ → Type 0
FitsBody body = FitsBlob body × (has_bytes body ≡ true)

-- ---- reading

-- the first body, where its length is not 0, it is whole and its check is right
unfoldable pub frame_at : Check → List ℕ → Decoder (List ℕ)
frame_at check before =
    headed_at (tested_at has_bytes blob_at) (λ body. marked_at (check before body) (nothing_at body))

-- what a body makes of a state; nothing where it may not come then
abbrev pub Step : Type 0 → Type 0
Step S = S → List ℕ → Option S

-- where a reader is: what it knows, the check before, and the bytes to come
pub record Place (S : Type 0) : Type 0 where
  pub state : S
  pub check : List ℕ
  pub rest : List ℕ

abbrev pub next_place : {S : Type 0} → Check → Step S → Place S → Option (Place S)
next_place check step at =
    frame_at check at.check at.rest >>= λ x. step at.state x.0 >>= λ state.
    Some (record { state = state; check = check at.check x.0; rest = x.1 })

abbrev pub found_or : {A B : Type 0} → B → (A → B) → Option A → B
found_or other make None = other
found_or other make (Some x) = make x

-- on from a place, over at most so many bodies
unfoldable pub read_on : {S : Type 0} → Check → Step S → ℕ → Place S → Place S
read_on check step zero at = at
read_on check step (suc room) at = found_or at (read_on check step room) (next_place check step at)

-- ---- what the laws speak of

-- the bodies may come one after the other, and lead from one state to another
abbrev pub IsTaken : {S : Type 0} → Step S → S → List (List ℕ) → S → Type 0
IsTaken step from [] to = from ≡ to
IsTaken {S} step from (body ∷ rest) to =
    FitsBody body × ((next : S) × (step from body ≡ Some next) × IsTaken step next rest to)

-- bytes that are too few for the first of some bodies, and none where there is no body
abbrev pub IsTorn : Check → List ℕ → List ℕ → List (List ℕ) → Type 0
IsTorn check before torn [] = torn ≡ []
IsTorn check before torn (body ∷ rest) = length torn < length (frame_spelling check before body)
