-- Each payload of the drill is short.
use Rattle.std.proofs.Common.{◌≡◌, ℕ, ◌<◌, ◌≤◌, length, codes, length-append, refl, arith}
use Rattle.std.specs.Prelude.{encode_utf8_all}
use Rattle.drill.specs.Drilled.{add_payload}
use Rattle.drill.specs.Asking.{most_short}

-- the texts are ASCII
scope_length : length (encode_utf8_all (codes "drill")) ≡ 5
unfolding lib.Utf8.encode
scope_length = refl

event_length : length (encode_utf8_all (codes "add")) ≡ 3
unfolding lib.Utf8.encode
event_length = refl

pub short_payload : (number : ℕ) → number < 100 → length (add_payload number) ≤ most_short
short_payload number below = grind (arith, length-append, scope_length, event_length)
