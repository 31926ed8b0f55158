-- Texts that are written piece by piece.
use Rattle.std.proofs.Common.{◌≡◌, ℕ, List, [], Option, Some, None, refl, ap, sym}
use Rattle.std.proofs.Common.{append-nil, Result, Ok, Err, OnErr}
use Rattle.tea_io.specs.Told.{with_more}
use Rattle.tea_io.specs.Sink.{HasWritten, GrowsWithin}

pub with_more_nil : (told : Option (List ℕ)) → told ≡ with_more told []
with_more_nil None = refl
with_more_nil (Some xs) = ap Some (sym (append-nil xs))

-- before the first piece, all is left
pub HasWritten-start : (old : Option (List ℕ)) (text : List ℕ) → HasWritten old old text text
HasWritten-start old text = record { front = []; whole = refl; written = with_more_nil old }

-- nothing was written
pub GrowsWithin-nothing : (told : Option (List ℕ)) (text : List ℕ) → GrowsWithin told told text
GrowsWithin-nothing told text = (text, HasWritten-start told text)

-- a fact holds where a result is an error
pub on_err : {T E P : Type 0} (result : Result T E) → P → OnErr result P
on_err (Ok value) fact = tt
on_err (Err error) fact = fact
