-- The requests of a script name views of 32 bits, so the session that they leave is sound, and its log tells its events.
use Rattle.std.proofs.Common.{◌≡◌, ℕ, ◌<◌, ◌^◌, Bool, true, false, List, [], ◌∷◌, Option, Some, None, refl, subst, arith, codes}
use Rattle.std.proofs.lemmas.Bool.Decides.{nat_tests}
use Rattle.std.proofs.lemmas.Option.{same_Some}
use Rattle.std.specs.Option.{option_map}
use Rattle.std.specs.Prelude.{nat_le, ◌&&◌, if◌then◌else◌, option_and_then}
use Rattle.std.specs.Str.{bytes_eq, is_utf8}
use Rattle.std.specs.Str.Lines.{lines}
use Rattle.text_lines.specs.Lines.{LineWord, in_range, is_skipped, spelled_by, time_of_word, words_of}
use Rattle.wire_frames.specs.declared.start.Want.{Want}
use Rattle.reflector_core.specs.declared.request.Request.{Request}
use Rattle.reflector_core.specs.declared.request.Request.TheVariants.{Join, Send, Tick, Leave, Offer, Pull}
use Rattle.reflector_core.specs.PlainSession.{PlainSession, IsSoundSession}
use Rattle.reflector_core.specs.Play.{TellsItsEvents, after_all, replies_from}
use Rattle.reflector_core.proofs.PlayLaws.{TellsItsEvents-all}
use Rattle.reflector_core.proofs.SoundLaws.{AreBounded, IsBounded, IsSoundSession-after_all}
use Rattle.command_stamp.specs.Script.{hex_of, join_of, join_with, large_of, leave_of, leave_with, offer_of, offer_with, pull_of, pull_with, request_of, requests_of, script_of, send_of, send_with, small_of, tick_of, want_of}

-- ---- numbers of 32 bits

abbrev AreSmall : Option ℕ → Type 0
AreSmall found = (n : ℕ) → found ≡ Some n → n < 2 ^ 32

small_if : (m n : ℕ) (b : Bool) → (nat_le 0 m && nat_le m 4294967295) ≡ b → (if b then Some m else None) ≡ Some n → n < 2 ^ 32
small_if m n true within is = let same : m ≡ n = same_Some m n is in grind (arith, nat_tests)
small_if m n false within is = absurd cc

small_found : (found : Option ℕ) (n : ℕ) → option_and_then (in_range 0 4294967295) found ≡ Some n → n < 2 ^ 32
small_found None n is = absurd cc
small_found (Some m) n is = small_if m n (nat_le 0 m && nat_le m 4294967295) refl is

small : (word : LineWord) → AreSmall (small_of word)
small word n is = small_found (spelled_by word) n is

-- ---- a request of each kind

-- a request that was read is bounded
abbrev AreRequests : Option Request → Type 0
AreRequests found = (request : Request) → found ≡ Some request → IsBounded request

none_read : AreRequests None
none_read request is = absurd cc

one_read : (request : Request) → IsBounded request → AreRequests (Some request)
one_read request bound other is = subst IsBounded (same_Some request other is) bound

join_with-bounded : (view now : Option ℕ) (want : Option Want) → AreSmall view → AreRequests (join_with view now want)
join_with-bounded None now want small = none_read
join_with-bounded (Some view) None want small = none_read
join_with-bounded (Some view) (Some now) None small = none_read
join_with-bounded (Some view) (Some now) (Some want) small = one_read (Join view now want) (small view refl)

join_of-bounded : (words : List LineWord) → AreRequests (join_of words)
join_of-bounded [] = none_read
join_of-bounded (view ∷ []) = none_read
join_of-bounded (view ∷ now ∷ want) = join_with-bounded (small_of view) (large_of now) (want_of want) (small view)

send_with-bounded : (view joined number now : Option ℕ) (payload : Option (List ℕ)) → AreSmall view → AreRequests (send_with view joined number now payload)
send_with-bounded None joined number now payload small = none_read
send_with-bounded (Some view) None number now payload small = none_read
send_with-bounded (Some view) (Some joined) None now payload small = none_read
send_with-bounded (Some view) (Some joined) (Some number) None payload small = none_read
send_with-bounded (Some view) (Some joined) (Some number) (Some now) None small = none_read
send_with-bounded (Some view) (Some joined) (Some number) (Some now) (Some payload) small = one_read (Send view joined number payload now) (small view refl)

send_of-bounded : (words : List LineWord) → AreRequests (send_of words)
send_of-bounded [] = none_read
send_of-bounded (a ∷ []) = none_read
send_of-bounded (a ∷ b ∷ []) = none_read
send_of-bounded (a ∷ b ∷ c ∷ []) = none_read
send_of-bounded (a ∷ b ∷ c ∷ d ∷ []) = none_read
send_of-bounded (view ∷ joined ∷ number ∷ now ∷ payload ∷ []) =
    send_with-bounded (small_of view) (small_of joined) (small_of number) (large_of now) (hex_of payload) (small view)
send_of-bounded (a ∷ b ∷ c ∷ d ∷ e ∷ f ∷ more) = none_read

tick_with-bounded : (now : Option ℕ) → AreRequests (option_map Tick now)
tick_with-bounded None = none_read
tick_with-bounded (Some now) = one_read (Tick now) tt

tick_of-bounded : (words : List LineWord) → AreRequests (tick_of words)
tick_of-bounded [] = none_read
tick_of-bounded (now ∷ []) = tick_with-bounded (large_of now)
tick_of-bounded (a ∷ b ∷ more) = none_read

leave_with-bounded : (view joined now : Option ℕ) → AreSmall view → AreRequests (leave_with view joined now)
leave_with-bounded None joined now small = none_read
leave_with-bounded (Some view) None now small = none_read
leave_with-bounded (Some view) (Some joined) None small = none_read
leave_with-bounded (Some view) (Some joined) (Some now) small = one_read (Leave view joined now) (small view refl)

leave_of-bounded : (words : List LineWord) → AreRequests (leave_of words)
leave_of-bounded [] = none_read
leave_of-bounded (a ∷ []) = none_read
leave_of-bounded (a ∷ b ∷ []) = none_read
leave_of-bounded (view ∷ joined ∷ now ∷ []) = leave_with-bounded (small_of view) (small_of joined) (large_of now) (small view)
leave_of-bounded (a ∷ b ∷ c ∷ d ∷ more) = none_read

offer_with-bounded : (view joined time : Option ℕ) (snapshot : Option (List ℕ)) → AreSmall view → AreRequests (offer_with view joined time snapshot)
offer_with-bounded None joined time snapshot small = none_read
offer_with-bounded (Some view) None time snapshot small = none_read
offer_with-bounded (Some view) (Some joined) None snapshot small = none_read
offer_with-bounded (Some view) (Some joined) (Some time) None small = none_read
offer_with-bounded (Some view) (Some joined) (Some time) (Some snapshot) small = one_read (Offer view joined time snapshot) (small view refl)

offer_of-bounded : (words : List LineWord) → AreRequests (offer_of words)
offer_of-bounded [] = none_read
offer_of-bounded (a ∷ []) = none_read
offer_of-bounded (a ∷ b ∷ []) = none_read
offer_of-bounded (a ∷ b ∷ c ∷ []) = none_read
offer_of-bounded (view ∷ joined ∷ time ∷ snapshot ∷ []) = offer_with-bounded (small_of view) (small_of joined) (time_of_word time) (hex_of snapshot) (small view)
offer_of-bounded (a ∷ b ∷ c ∷ d ∷ e ∷ more) = none_read

pull_with-bounded : (after limit : Option ℕ) → AreRequests (pull_with after limit)
pull_with-bounded None limit = none_read
pull_with-bounded (Some after) None = none_read
pull_with-bounded (Some after) (Some limit) = one_read (Pull after limit) tt

pull_of-bounded : (words : List LineWord) → AreRequests (pull_of words)
pull_of-bounded [] = none_read
pull_of-bounded (a ∷ []) = none_read
pull_of-bounded (after ∷ limit ∷ []) = pull_with-bounded (small_of after) (small_of limit)
pull_of-bounded (a ∷ b ∷ c ∷ more) = none_read

-- ---- lines

read_if : (b : Bool) (one other : Option Request) → AreRequests one → AreRequests other → AreRequests (if b then one else other)
read_if true one other bounded others = bounded
read_if false one other bounded others = others

request_of-bounded : (words : List LineWord) → AreRequests (request_of words)
request_of-bounded [] = none_read
request_of-bounded (name ∷ fields) =
    read_if (bytes_eq name (codes "join")) _ _ (join_of-bounded fields)
    (read_if (bytes_eq name (codes "send")) _ _ (send_of-bounded fields)
    (read_if (bytes_eq name (codes "tick")) _ _ (tick_of-bounded fields)
    (read_if (bytes_eq name (codes "leave")) _ _ (leave_of-bounded fields)
    (read_if (bytes_eq name (codes "offer")) _ _ (offer_of-bounded fields)
    (read_if (bytes_eq name (codes "pull")) _ _ (pull_of-bounded fields) none_read)))))

-- requests that were read are bounded
abbrev AreScripts : Option (List Request) → Type 0
AreScripts found = (requests : List Request) → found ≡ Some requests → AreBounded requests

line-bounded : (b : Bool) (found : Option Request) (more : Option (List Request)) → AreRequests found → AreScripts more
    → AreScripts (if b then more else option_and_then (λ request. option_map (λ rest. request ∷ rest) more) found)
line-bounded true found more bounded others requests is = others requests is
line-bounded false None more bounded others requests is = absurd cc
line-bounded false (Some request) None bounded others requests is = absurd cc
line-bounded false (Some request) (Some rest) bounded others requests is =
    subst AreBounded (same_Some (request ∷ rest) requests is) (bounded request refl, others rest refl)

lines-bounded : (texts : List (List ℕ)) → AreScripts (requests_of texts)
lines-bounded [] requests is = subst AreBounded (same_Some [] requests is) tt
lines-bounded (line ∷ more) requests is =
    line-bounded (is_skipped line) (request_of (words_of line)) (requests_of more) (request_of-bounded (words_of line)) (lines-bounded more) requests is

script-bounded : (b : Bool) (found : Option (List Request)) → AreScripts found → AreScripts (if b then found else None)
script-bounded true found bounded requests is = bounded requests is
script-bounded false found bounded requests is = absurd cc

pub events_told : (bytes : List ℕ) (requests : List Request) (opening : PlainSession) → script_of bytes ≡ Some requests → IsSoundSession opening
    → TellsItsEvents opening.log requests (replies_from opening requests) (after_all opening requests).log
events_told bytes requests opening is sound =
    let bounded = script-bounded (is_utf8 bytes) (requests_of (lines bytes)) (lines-bounded (lines bytes)) requests is in
    TellsItsEvents-all opening (after_all opening requests) requests (replies_from opening requests)
    (IsSoundSession-after_all opening requests sound bounded) refl refl
