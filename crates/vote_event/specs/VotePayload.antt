-- What an event carries that is a vote.
use Rattle.std.specs.Prelude.{ℕ, pos, List, codes}
use Rattle.hex.specs.Hex.{encode_lower}
use Rattle.model_value.specs.Payload.{PlainPayload}
use Rattle.model_value.specs.Plain.{PlainValue, int, text, list, no_items, item}
use Rattle.model_value.specs.View.{plain}
use Rattle.vote_event.specs.declared.event.VoteEvent.{VoteEvent}

-- a list of the entry's number and the digest's hexadecimal digits in lower case
abbrev pub vote_value : ℕ → List ℕ → PlainValue
vote_value at digest = list (item (int (pos at)) (item (text (encode_lower digest)) no_items))

-- the scope `#vote`, the event `digest`, and that list
abbrev pub vote_payload : ℕ → List ℕ → PlainPayload
vote_payload at digest = record { scope = codes "#vote"; event = codes "digest"; value = vote_value at digest }

-- what an event in memory carries
abbrev pub payload_of : VoteEvent → PlainPayload
payload_of vote = record { scope = vote.scope; event = vote.event; value = plain vote.value }
