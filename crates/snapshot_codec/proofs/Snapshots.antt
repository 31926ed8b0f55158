-- What bytes are a snapshot is what is read of them, where that is valid.
use Rattle.std.proofs.Common.{◌≡◌, ℕ, ◌≤◌, Bool, true, false, ◌&&◌, if◌then◌else◌, List, ◌++◌, length, take, Option, Some, None, Result, Ok, Err, refl, sym, ap, ◌∙◌, length-append, arith}
use Rattle.std.specs.Prelude.{bytes_eq}
use Rattle.std.proofs.lemmas.Bool.{and_parts}
use Rattle.std.proofs.lemmas.Slice.Eq.{bytes_eq-Decides}
use Rattle.std.proofs.lemmas.List.{take_at}
use Rattle.std.proofs.lemmas.Option.{none-some, same_Some}
use Rattle.byte_fields.specs.Fields.{◌>>=◌, Decodes}
use Rattle.byte_fields.proofs.Codecs.{IsBytes}
use Rattle.world_plain.specs.Valid.{Valid}
use Rattle.world_plain.specs.ValidTest.{is_valid}
use Rattle.world_plain.specs.World.{WorldRecord, world_record}
use Rattle.world_plain.specs.declared.world.PlainWorld.{PlainWorld}
use Rattle.world_plain.proofs.ValidTests.{Valid-Decides}
use Rattle.snapshot_codec.specs.declared.fault.SnapFault.{SnapFault}
use Rattle.snapshot_codec.specs.declared.fault.SnapFault.TheVariants.{OtherSession, Bad, WantOfMemory}
use Rattle.snapshot_codec.specs.Answer.{HasId, IsOfOther, IsSnapshot, IsWorld, Unsnaps, snapshot_world}
use Rattle.snapshot_codec.specs.Reading.{world_in}
use Rattle.snapshot_codec.specs.Spelling.{world_spelling}
use Rattle.snapshot_codec.proofs.WorldCodec.{begins_with_id, world-takes, world-again}
use Rattle.snapshot_codec.proofs.Fitting.{is_world, world-fits}

pub not_other : (id bytes : List ℕ) → HasId id bytes → ¬ IsOfOther id bytes
not_other id bytes has other = other.1 (has other.0)

session-is : (id bytes : List ℕ) (w : WorldRecord) → length w.id ≡ 32 → bytes ≡ world_spelling w → HasId id bytes → w.id ≡ id
session-is id bytes w long spelled has =
    let front = begins_with_id w in
    let is : bytes ≡ w.id ++ front.0 = spelled ∙ front.1 in
    let enough : 32 ≤ length bytes = rw is (omega (arith, length-append w.id front.0, long)) in
    sym (take_at w.id front.0 32 long) ∙ sym (ap (take 32) is) ∙ has enough

pub is_snapshot : (counts id bytes : List ℕ) (w : WorldRecord) → IsBytes bytes → HasId id bytes → world_in counts bytes ≡ Some w → Valid counts w → IsSnapshot counts id bytes w
is_snapshot counts id bytes w fits has read valid =
    let taken = world-takes counts bytes w fits read in
    let world = is_world counts w taken.1 in
    record { world = world; valid = valid; session = session-is id bytes w world.id taken.0 has; spelled = taken.0 }

snapshot-read : (counts id bytes : List ℕ) (w : WorldRecord) → IsSnapshot counts id bytes w → world_in counts bytes ≡ Some w
snapshot-read counts id bytes w is = ap (world_in counts) is.spelled ∙ world-again counts w (world-fits counts w is.world is.valid)

-- one world has a spelling
pub one_world : (counts id bytes : List ℕ) (w v : WorldRecord) → world_in counts bytes ≡ Some w → IsSnapshot counts id bytes v → w ≡ v
one_world counts id bytes w v read is = same_Some w v (sym read ∙ snapshot-read counts id bytes v is)

pub none_invalid : (counts id bytes : List ℕ) (w v : WorldRecord) → world_in counts bytes ≡ Some w → ¬ Valid counts w → ¬ IsSnapshot counts id bytes v
none_invalid counts id bytes w v read invalid is = invalid (rw (one_world counts id bytes w v read is) (is.valid))

pub none_unread : (counts id bytes : List ℕ) (v : WorldRecord) → world_in counts bytes ≡ None → ¬ IsSnapshot counts id bytes v
none_unread counts id bytes v read is = none-some v (sym read ∙ snapshot-read counts id bytes v is)

-- bytes that begin with another id are no snapshot of the session
pub none_other : (counts id bytes : List ℕ) (v : WorldRecord) → IsOfOther id bytes → ¬ IsSnapshot counts id bytes v
none_other counts id bytes v other is =
    let front = begins_with_id v in
    other.1 (ap (take 32) (is.spelled ∙ front.1) ∙ take_at v.id front.0 32 is.world.id ∙ is.session)

-- ---- the world that bytes spell

pub snapshot-is : (counts id bytes : List ℕ) (w : WorldRecord) → IsSnapshot counts id bytes w → snapshot_world counts id bytes ≡ Some w
snapshot-is counts id bytes w is =
    let valid : is_valid counts w ≡ true = (Valid-Decides counts w).1 is.valid in
    let session : bytes_eq w.id id ≡ true = (bytes_eq-Decides w.id id).1 is.session in
    ap (λ (found : Option WorldRecord). found >>= λ v. if is_valid counts v && bytes_eq v.id id then Some v else None) (snapshot-read counts id bytes w is) ∙ rw (valid, session) refl

none-unless : (counts id : List ℕ) (w : WorldRecord) (test : Bool) → (is_valid counts w && bytes_eq w.id id) ≡ test → (Valid counts w → w.id ≡ id → ⊥) → (if test then Some w else None) ≡ None
none-unless counts id w true e never =
    let parts = and_parts (is_valid counts w) (bytes_eq w.id id) e in
    absurd (never ((Valid-Decides counts w).0 parts.0) ((bytes_eq-Decides w.id id).0 parts.1))
none-unless counts id w false e never = refl

none-found : (counts id bytes : List ℕ) (found : Option WorldRecord) → IsBytes bytes → world_in counts bytes ≡ found → ((w : WorldRecord) → ¬ IsSnapshot counts id bytes w)
    → (found >>= λ w. if is_valid counts w && bytes_eq w.id id then Some w else None) ≡ None
none-found counts id bytes None fits read never = refl
none-found counts id bytes (Some w) fits read never =
    let taken = world-takes counts bytes w fits read in
    none-unless counts id w (is_valid counts w && bytes_eq w.id id) refl
    (λ valid session. never w (record { world = is_world counts w taken.1; valid = valid; session = session; spelled = taken.0 }))

-- bytes that are no snapshot of the session spell none
pub none-spelled : (counts id bytes : List ℕ) → IsBytes bytes → ((w : WorldRecord) → ¬ IsSnapshot counts id bytes w) → snapshot_world counts id bytes ≡ None
none-spelled counts id bytes fits never = none-found counts id bytes (world_in counts bytes) fits refl never

pub gives-snapshot : (result : Result PlainWorld SnapFault) (counts id bytes : List ℕ) → IsBytes bytes → Unsnaps result counts id bytes → Decodes Bad world_record result (snapshot_world counts id bytes)
gives-snapshot (Ok world) counts id bytes fits answer = snapshot-is counts id bytes (world_record world) answer.1
gives-snapshot (Err (OtherSession found)) counts id bytes fits answer = λ e. absurd cc
gives-snapshot (Err Bad) counts id bytes fits answer = λ _. none-spelled counts id bytes fits answer.1
gives-snapshot (Err WantOfMemory) counts id bytes fits answer = λ e. absurd cc

-- the spelling of a valid world is a snapshot of it
pub snapshot-again : (counts : List ℕ) (w : WorldRecord) → IsWorld w → Valid counts w → snapshot_world counts w.id (world_spelling w) ≡ Some w
snapshot-again counts w is valid = snapshot-is counts w.id (world_spelling w) w (record { world = is; valid = valid; session = refl; spelled = refl })
