-- Which events of a log are votes.
use Rattle.std.specs.Prelude.{ℕ, ℤ, pos, negsuc, nat_le, nat_lt, Bool, ◌&&◌, bytes_eq, if◌then◌else◌, List, Option, Some, None, codes, encode_utf8_all}
use Rattle.std.specs.List.{filter_map}
use Rattle.std.specs.Option.{option_map}
use Rattle.std.specs.Result.{result_ok}
use Rattle.hex.specs.Hex.{encode_lower, decode_sized}
use Rattle.tea_base.specs.declared.entry.Entry.{Entry}
use Rattle.tea_base.specs.declared.entry.What.{What}
use Rattle.tea_base.specs.declared.entry.What.TheVariants.{Join, Exit, Event}
use Rattle.model_value.specs.Payload.{PlainPayload, whole_payload}
use Rattle.model_value.specs.Plain.{PlainValue, int, text, list, PlainValues, no_items, item}
use Rattle.command_votes.specs.declared.reading.Named.{Named}
use Rattle.vote_book.specs.VoteBook.{Ballot, ballot, book_after}

-- ---- what a value names

abbrev pub if_spelled : List ℕ → Option (List ℕ) → Option (List ℕ)
if_spelled digits None = None
if_spelled digits (Some digest) = if bytes_eq (encode_lower digest) digits then Some digest else None

-- the digest, of 32 bytes, whose hexadecimal digits in lower case these are
abbrev pub digest_of : List ℕ → Option (List ℕ)
digest_of digits = if_spelled digits (result_ok (decode_sized digits 32))

-- the number of an entry before this one
abbrev pub entry_before : ℕ → ℤ → Option ℕ
entry_before seq (pos number) = if nat_le 1 number && nat_lt number seq then Some number else None
entry_before seq (negsuc number) = None

abbrev pub if_named : Option ℕ → Option (List ℕ) → Option Named
if_named (Some at) (Some digest) = Some (record { at = at; digest = digest })
if_named at digest = None

abbrev pub named_by_pair : ℕ → PlainValue → PlainValue → Option Named
named_by_pair seq (int number) (text digits) = if_named (entry_before seq number) (digest_of (encode_utf8_all digits))
named_by_pair seq number digits = None

abbrev pub named_by_items : ℕ → PlainValues → Option Named
named_by_items seq (item number (item digits no_items)) = named_by_pair seq number digits
named_by_items seq items = None

-- a list of an entry's number, which is before this one, and the text of a digest's digits
abbrev pub named_by : ℕ → PlainValue → Option Named
named_by seq (list items) = named_by_items seq items
named_by seq value = None

-- ---- votes

-- the scope is `#vote`, and the event `digest`
abbrev pub is_of_votes : PlainPayload → Bool
is_of_votes payload =
    bytes_eq (encode_utf8_all payload.scope) (codes "#vote")
    && bytes_eq (encode_utf8_all payload.event) (codes "digest")

-- what an event of votes names
abbrev pub named_by_event : ℕ → PlainPayload → Option Named
named_by_event seq payload = if is_of_votes payload then named_by seq payload.value else None

abbrev pub named_in : ℕ → Option PlainPayload → Option Named
named_in seq None = None
named_in seq (Some payload) = named_by_event seq payload

abbrev pub vote_in : ℕ → ℕ → What → Option Ballot
vote_in seq view Join = None
vote_in seq view Exit = None
vote_in seq view (Event number payload) =
    option_map (λ named. ballot seq view named.at named.digest) (named_in seq (whole_payload payload))

-- an entry as a vote, if it is one
abbrev pub vote_of : Entry → Option Ballot
vote_of entry = vote_in entry.seq entry.view entry.what

-- the votes of a log, in order
abbrev pub votes_of : List Entry → List Ballot
votes_of = filter_map vote_of

-- the votes that count after an entry, which may be a vote
abbrev pub votes_after : List Ballot → Option Ballot → List Ballot
votes_after votes None = votes
votes_after votes (Some vote) = book_after votes vote
