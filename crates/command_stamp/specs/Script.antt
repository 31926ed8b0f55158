-- The grammar of a session script, over plain lists: lines, words and numbers. Texts are seen as their UTF-8.
use Rattle.std.specs.Prelude.{ℕ, if◌then◌else◌, List, [], ◌∷◌, Option, Some, None, option_and_then, codes}
use Rattle.std.specs.Option.{option_map}
use Rattle.std.specs.Result.{result_ok}
use Rattle.std.specs.Str.{bytes_eq, is_utf8}
use Rattle.std.specs.Str.Lines.{lines}
use Rattle.hex.specs.Hex.{decode_of}
use Rattle.text_lines.specs.Lines.{LineWord, is_empty, is_skipped, words_of, number_of_word, time_of_word}
use Rattle.wire_frames.specs.declared.start.Want.{Want}
use Rattle.wire_frames.specs.declared.start.Want.TheVariants.{Fresh, Whole, After}
use Rattle.reflector_core.specs.declared.request.Request.{Request}
use Rattle.reflector_core.specs.declared.request.Request.TheVariants.{Join, Send, Tick, Leave, Offer, Pull}

-- a number of 32 bits, and one of 64 bits
abbrev pub small_of : LineWord → Option ℕ
small_of word = number_of_word 0 4294967295 word

abbrev pub large_of : LineWord → Option ℕ
large_of word = number_of_word 0 18446744073709551615 word

-- an even number of hexadecimal digits of either case, at least two; `-` is no bytes
abbrev pub hex_of : LineWord → Option (List ℕ)
hex_of word =
    if bytes_eq word (codes "-") then Some []
    else if is_empty word then None
    else result_ok (decode_of word)

abbrev pub plain_want_of : LineWord → Option Want
plain_want_of word =
    if bytes_eq word (codes "fresh") then Some Fresh
    else if bytes_eq word (codes "whole") then Some Whole
    else None

abbrev pub want_after_of : LineWord → LineWord → Option Want
want_after_of word time = if bytes_eq word (codes "after") then option_map After (time_of_word time) else None

-- `[fresh | whole | after T]`, fresh where left out
abbrev pub want_of : List LineWord → Option Want
want_of [] = Some Fresh
want_of (word ∷ []) = plain_want_of word
want_of (word ∷ time ∷ []) = want_after_of word time
want_of words = None

abbrev pub join_with : Option ℕ → Option ℕ → Option Want → Option Request
join_with (Some view) (Some now) (Some want) = Some (Join view now want)
join_with view now want = None

-- `VIEW NOW [fresh | whole | after T]`
abbrev pub join_of : List LineWord → Option Request
join_of (view ∷ now ∷ want) = join_with (small_of view) (large_of now) (want_of want)
join_of words = None

abbrev pub send_with : Option ℕ → Option ℕ → Option ℕ → Option ℕ → Option (List ℕ) → Option Request
send_with (Some view) (Some joined) (Some number) (Some now) (Some payload) = Some (Send view joined number payload now)
send_with view joined number now payload = None

-- `VIEW JOINED NUMBER NOW HEX`
abbrev pub send_of : List LineWord → Option Request
send_of (view ∷ joined ∷ number ∷ now ∷ payload ∷ []) =
    send_with (small_of view) (small_of joined) (small_of number) (large_of now) (hex_of payload)
send_of words = None

-- `NOW`
abbrev pub tick_of : List LineWord → Option Request
tick_of (now ∷ []) = option_map Tick (large_of now)
tick_of words = None

abbrev pub leave_with : Option ℕ → Option ℕ → Option ℕ → Option Request
leave_with (Some view) (Some joined) (Some now) = Some (Leave view joined now)
leave_with view joined now = None

-- `VIEW JOINED NOW`
abbrev pub leave_of : List LineWord → Option Request
leave_of (view ∷ joined ∷ now ∷ []) = leave_with (small_of view) (small_of joined) (large_of now)
leave_of words = None

abbrev pub offer_with : Option ℕ → Option ℕ → Option ℕ → Option (List ℕ) → Option Request
offer_with (Some view) (Some joined) (Some time) (Some snapshot) = Some (Offer view joined time snapshot)
offer_with view joined time snapshot = None

-- `VIEW JOINED TIME HEX`
abbrev pub offer_of : List LineWord → Option Request
offer_of (view ∷ joined ∷ time ∷ snapshot ∷ []) =
    offer_with (small_of view) (small_of joined) (time_of_word time) (hex_of snapshot)
offer_of words = None

abbrev pub pull_with : Option ℕ → Option ℕ → Option Request
pull_with (Some after) (Some limit) = Some (Pull after limit)
pull_with after limit = None

-- `AFTER LIMIT`
abbrev pub pull_of : List LineWord → Option Request
pull_of (after ∷ limit ∷ []) = pull_with (small_of after) (small_of limit)
pull_of words = None

-- the request of a line's words: one row for each kind of line
abbrev pub request_of : List LineWord → Option Request
request_of [] = None
request_of (name ∷ fields) =
    if bytes_eq name (codes "join") then join_of fields
    else if bytes_eq name (codes "send") then send_of fields
    else if bytes_eq name (codes "tick") then tick_of fields
    else if bytes_eq name (codes "leave") then leave_of fields
    else if bytes_eq name (codes "offer") then offer_of fields
    else if bytes_eq name (codes "pull") then pull_of fields
    else None

-- the requests of these lines, where each that is not skipped is one
abbrev pub requests_of : List (List ℕ) → Option (List Request)
requests_of [] = Some []
requests_of (line ∷ more) =
    if is_skipped line then requests_of more
    else option_and_then (λ request. option_map (λ rest. request ∷ rest) (requests_of more))
    (request_of (words_of line))

-- the requests of a script: UTF-8, in lines
abbrev pub script_of : List ℕ → Option (List Request)
script_of bytes = if is_utf8 bytes then requests_of (lines bytes) else None
