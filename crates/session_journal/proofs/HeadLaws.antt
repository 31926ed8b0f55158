-- A head and a payload are the field of a body, and its check that of both.
use Rattle.std.proofs.Common.{◌≡◌, ℕ, ◌+◌, ◌≤◌, List, drop, take, [], ◌∷◌, ◌++◌, length, sym, ap, ◌∙◌, append_assoc, append-nil, arith}
use Rattle.std.specs.Int.{to_be_bytes, w32}
use Rattle.std.proofs.lemmas.List.{length-append}
use Rattle.byte_fields.specs.Fields.{blob}
use Rattle.tea_base.specs.declared.entry.What.{What}
use Rattle.tea_base.specs.declared.entry.What.TheVariants.{Join, Exit, Event}
use Rattle.session_journal.specs.declared.change.Change.{Change}
use Rattle.session_journal.specs.declared.change.Change.TheVariants.{Came, Reached, Kept}
use Rattle.session_journal.specs.Changes.{change_spelling}
use Rattle.session_journal.specs.Heads.{payload_of, record_len}
use Rattle.session_journal.specs.Journal.{record_check, records_spelling}
use Rattle.sha2.specs.Sha256.{sha256}
use Rattle.std.proofs.lemmas.List.{drop-append-le}

came_len : (time view : ℕ) (what : What) → length (change_spelling (Came time view what)) ≤ length (payload_of (Came time view what)) + 22
came_len time view Join = omega arith
came_len time view Exit = omega arith
came_len time view (Event number payload) = omega (arith, length-append (to_be_bytes w32 number) (blob payload))

-- a body has at most 22 bytes beside its payload
pub body_len : (c : Change) → length (change_spelling c) ≤ length (payload_of c) + 22
body_len (Came time view what) = came_len time view what
body_len (Reached time) = omega arith
body_len (Kept time bytes) = omega arith

-- a check may be taken in pieces
pub moved : (before front rest : List ℕ) → record_check (before ++ front) rest ≡ record_check before (front ++ rest)
unfolding record_check
moved before front rest = ap (λ (message : List ℕ). take 8 (sha256 message)) (append_assoc before front rest)

-- how many bytes a record has
pub record_long : (head payload : List ℕ) (c : Change) → head ++ payload ≡ blob (change_spelling c) → length head + (length payload + 8) ≡ record_len c
record_long head payload c e =
    let both : length head + length payload ≡ length (blob (change_spelling c)) = sym (length-append head payload) ∙ ap length e in
    omega (arith, both, length-append (to_be_bytes w32 (length (change_spelling c))) (change_spelling c))

-- a head without its length, and a payload, are a body
pub body_is : (head payload : List ℕ) (c : Change) → 4 ≤ length head → head ++ payload ≡ blob (change_spelling c) → drop 4 head ++ payload ≡ change_spelling c
body_is head payload c long e = sym (drop-append-le 4 head payload long) ∙ ap (drop 4) e

-- the three pieces are a record
pub record_is : (head payload check before : List ℕ) (c : Change) → head ++ payload ≡ blob (change_spelling c) → check ≡ record_check before (change_spelling c)
    → head ++ (payload ++ check) ≡ records_spelling before (c ∷ [])
record_is head payload check before c e is =
    sym (append_assoc head payload check) ∙ ap (λ (xs : List ℕ). xs ++ check) e ∙ ap (λ (xs : List ℕ). blob (change_spelling c) ++ xs) is
    ∙ sym (append-nil (blob (change_spelling c) ++ record_check before (change_spelling c)))
