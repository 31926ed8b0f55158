-- The one form of a vote.
use Rattle.std.specs.Prelude.{ℕ, ◌≡◌, ◌<◌, ◌≤◌, List, length}
use Rattle.hex.specs.Hex.{IsBytes}
use Rattle.tea_base.specs.declared.entry.Entry.{Entry}
use Rattle.tea_base.specs.declared.entry.What.{What}
use Rattle.tea_base.specs.declared.entry.What.TheVariants.{Join, Exit, Event}
use Rattle.model_value.specs.Payload.{payload_spelling}
use Rattle.vote_book.specs.VoteBook.{Ballot}
use Rattle.vote_event.specs.VotePayload.{vote_payload}

-- an Event with this payload
abbrev pub IsEventWith : List ℕ → What → Type 0
IsEventWith bytes Join = ⊥
IsEventWith bytes Exit = ⊥
IsEventWith bytes (Event number payload) = payload ≡ bytes

-- its payload is bytes
abbrev pub HasBytes : What → Type 0
HasBytes Join = Unit {0}
HasBytes Exit = Unit {0}
HasBytes (Event number payload) = IsBytes payload

-- an entry is this vote: on an entry before it, with a digest of 32 bytes
pub record IsVote (entry : Entry) (vote : Ballot) : Type 0 where
  pub seq : vote.entry ≡ entry.seq
  pub view : vote.view ≡ entry.view
  pub from_one : 1 ≤ vote.at
  pub before : vote.at < entry.seq
  pub wide : length vote.digest ≡ 32
  pub bytes : IsBytes vote.digest
  pub spelled : IsEventWith (payload_spelling (vote_payload vote.at vote.digest)) entry.what
