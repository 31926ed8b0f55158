-- Which session a link goes to: that of its first frame.
use Rattle.std.specs.Prelude.{◌≡◌, ℕ, ◌==◌, if◌then◌else◌, List, [], ◌∷◌, position, unwrap_or, Option, Some, None}
use Rattle.std.specs.Int.{w32}
use Rattle.byte_fields.specs.Fields.{Decoder, ◌>>=◌, byte_at, made_at, number_at, paired_at, whole}
use Rattle.tea_base.specs.declared.entry.SessionId.{SessionId}
use Rattle.id_claims.specs.Ids.{is_id}
use Rattle.tea_io.specs.declared.link.Heard.{Heard}
use Rattle.tea_io.specs.declared.link.Heard.TheVariants.{Frame}
use Rattle.wire_frames.specs.Reading.{client_at, session_at, want_at}
use Rattle.wire_frames.specs.declared.frame.ClientFrame.{ClientFrame}
use Rattle.wire_frames.specs.declared.frame.ClientFrame.TheVariants.{Join}
use Rattle.wire_frames.specs.declared.tags.TheConstants.{JOIN_TAG}

-- the session that the bytes after the tag of a JOIN name
unfoldable pub named_at : Decoder SessionId
named_at = made_at (λ p. p.0) (paired_at session_at (paired_at (number_at w32) want_at))

-- and those of a frame, by its tag
abbrev pub named_of_tag : ℕ → List ℕ → Option SessionId
named_of_tag tag bytes = if tag == JOIN_TAG then whole named_at bytes else None

abbrev pub named_in : List ℕ → Option SessionId
named_in bytes = byte_at bytes >>= λ x. named_of_tag x.0 x.1

-- the session that a frame names, if it is a JOIN
abbrev pub named_by : Option ClientFrame → Option SessionId
named_by (Some (Join session view want)) = Some session
named_by other = None

-- these bytes are a JOIN of the session with this id
abbrev pub IsJoinOf : List ℕ → SessionId → Type 0
IsJoinOf bytes id = named_by (whole client_at bytes) ≡ Some id

-- the place of an id among these, and the first place where it is not among them
abbrev pub place_of : List SessionId → Option SessionId → ℕ
place_of ids None = 0
place_of ids (Some id) = unwrap_or (position (is_id id) ids) 0

-- the place of the session that these bytes go to
abbrev pub goes_to : List SessionId → List ℕ → ℕ
goes_to ids bytes = place_of ids (named_by (whole client_at bytes))

-- the first frame among what was heard
abbrev pub first_frame : List Heard → Option (List ℕ)
first_frame [] = None
first_frame (Frame bytes ∷ rest) = Some bytes
first_frame (other ∷ rest) = first_frame rest

-- the first frame is a JOIN of the session with this id
abbrev pub BeginsWithJoin : List Heard → SessionId → Type 0
BeginsWithJoin heard id = (bytes : List ℕ) × (first_frame heard ≡ Some bytes) × IsJoinOf bytes id
