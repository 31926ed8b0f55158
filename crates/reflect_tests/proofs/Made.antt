-- What was made is what the call gave.
use Rattle.std.proofs.Common.{◌≡◌, Option, Some, None, Result, Ok, Err, IfOk, subst}
use Rattle.std.specs.Result.{result_ok}
use Rattle.std.proofs.lemmas.Option.{none-some}

pub made_so : {A E : Type 0} (P : A → Type 0) (r : Result A E) (x : A) → result_ok r ≡ Some x → IfOk r P → P x
made_so P (Ok y) x is so = let same : y ≡ x = cc in subst P same so
made_so P (Err fault) x is so = absurd (none-some x is)
