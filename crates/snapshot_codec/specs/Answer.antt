-- Which bytes are a snapshot of a session, and what is answered to bytes.
use Rattle.std.specs.Prelude.{◌≡◌, ◌≢◌, ◌≤◌, ◌<◌, ◌^◌, ℕ, true, List, length, take, Option, Some, None, Result, Ok, Err, ◌&&◌, bytes_eq, if◌then◌else◌}
use Rattle.std.specs.List.{AllByRecursion}
use Rattle.std.specs.Str.{all_scalars}
use Rattle.byte_fields.specs.Fields.{◌>>=◌}
use Rattle.world_plain.specs.Messages.{PlainMessage}
use Rattle.model_value.specs.Spelling.{IsValue}
use Rattle.world_plain.specs.Valid.{Valid}
use Rattle.world_plain.specs.ValidTest.{is_valid}
use Rattle.world_plain.specs.World.{ObjectRecord, WorldRecord, world_record}
use Rattle.tea_base.specs.declared.entry.SessionId.{SessionId}
use Rattle.world_plain.specs.declared.message.Subscription.{Subscription}
use Rattle.world_plain.specs.declared.world.Known.{Known}
use Rattle.world_plain.specs.declared.world.PlainWorld.{PlainWorld}
use Rattle.snapshot_codec.specs.Reading.{world_in}
use Rattle.snapshot_codec.specs.Spelling.{world_spelling}
use Rattle.snapshot_codec.specs.declared.fault.SnapFault.{SnapFault}
use Rattle.snapshot_codec.specs.declared.fault.SnapFault.TheVariants.{OtherSession, Bad, WantOfMemory}

-- ---- a record that a world can stand for: its numbers are of their types, and its texts of Unicode scalar values

abbrev pub IsScalarText : List ℕ → Type 0
IsScalarText characters = all_scalars characters ≡ true

abbrev pub IsObject : ObjectRecord → Type 0
IsObject o = (o.id < 2 ^ 32) × (o.class < 2 ^ 16) × AllByRecursion IsValue o.fields

abbrev pub IsKnown : Known → Type 0
IsKnown k = IsScalarText k.name × (k.object < 2 ^ 32)

abbrev pub IsSubscription : Subscription → Type 0
IsSubscription s = IsScalarText s.scope × IsScalarText s.event × (s.object < 2 ^ 32) × IsScalarText s.method

abbrev pub IsMessage : PlainMessage → Type 0
IsMessage m = (m.time < 2 ^ 64) × (m.number < 2 ^ 64) × (m.object < 2 ^ 32) × IsScalarText m.method
    × AllByRecursion IsValue m.args

pub record IsWorld (w : WorldRecord) : Type 0 where
  pub id : length w.id ≡ 32
  pub time : w.time < 2 ^ 64
  pub next_object : w.next_object < 2 ^ 32
  pub next_number : w.next_number < 2 ^ 64
  pub random : w.random < 2 ^ 64
  pub turns : w.turns < 2 ^ 32
  pub kinds : length w.faults ≡ 14
  pub faults : AllByRecursion (λ n. n < 2 ^ 64) w.faults
  pub views : AllByRecursion (λ n. n < 2 ^ 32) w.views
  pub objects : AllByRecursion IsObject w.objects
  pub known : AllByRecursion IsKnown w.known
  pub subscriptions : AllByRecursion IsSubscription w.subscriptions
  pub pending : AllByRecursion IsMessage w.pending
  pub saved : IsValue w.saved

-- ---- snapshots

-- the bytes spell this world, which is valid for a program with so many fields in each class, and of the session of this id
pub record IsSnapshot (counts id bytes : List ℕ) (w : WorldRecord) : Type 0 where
  pub world : IsWorld w
  pub valid : Valid counts w
  pub session : w.id ≡ id
  pub spelled : bytes ≡ world_spelling w

-- the world that bytes spell, if it is valid and of the session of this id
abbrev pub snapshot_world : List ℕ → List ℕ → List ℕ → Option WorldRecord
snapshot_world counts id bytes =
    world_in counts bytes >>= λ w. if is_valid counts w && bytes_eq w.id id then Some w else None

-- there are 32 bytes or more, and the first 32 are another id
abbrev pub IsOfOther : List ℕ → List ℕ → Type 0
IsOfOther id bytes = (32 ≤ length bytes) × (take 32 bytes ≢ id)

-- bytes that are enough for an id begin with this one
abbrev pub HasId : List ℕ → List ℕ → Type 0
HasId id bytes = 32 ≤ length bytes → take 32 bytes ≡ id

-- the other id with which bytes begin, if they do
abbrev pub TellsOther : Option SessionId → List ℕ → List ℕ → Type 0
TellsOther (Some found) id bytes = IsOfOther id bytes × (found.0 ≡ take 32 bytes)
TellsOther None id bytes = HasId id bytes

-- what is answered: each row says of another session or not, so the rows tell when each comes
abbrev pub Unsnaps : Result PlainWorld SnapFault → List ℕ → List ℕ → List ℕ → Type 0
Unsnaps (Ok world) counts id bytes = ¬ IsOfOther id bytes × IsSnapshot counts id bytes (world_record world)
Unsnaps (Err (OtherSession found)) counts id bytes = IsOfOther id bytes × (found.0 ≡ take 32 bytes)
Unsnaps (Err Bad) counts id bytes = ¬ IsOfOther id bytes × ((w : WorldRecord) → ¬ IsSnapshot counts id bytes w)
Unsnaps (Err WantOfMemory) counts id bytes = ¬ IsOfOther id bytes

-- what is answered to the snapshot of a world: that world, unless memory runs out
abbrev pub ReadsWorld : Result PlainWorld SnapFault → WorldRecord → Type 0
ReadsWorld (Ok read) w = world_record read ≡ w
ReadsWorld (Err WantOfMemory) w = Unit {0}
ReadsWorld (Err fault) w = ⊥
