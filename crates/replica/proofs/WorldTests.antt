-- Which worlds are valid ones of a session, and what bytes spell.
use Rattle.std.proofs.Common.{◌≡◌, ℕ, Bool, true, false, ◌&&◌, if◌then◌else◌, List, Option, Some, None, refl, subst}
use Rattle.std.specs.Prelude.{bytes_eq}
use Rattle.std.proofs.lemmas.Bool.{and_parts}
use Rattle.std.proofs.lemmas.Option.{none-some, same_Some}
use Rattle.std.proofs.lemmas.Slice.Eq.{bytes_eq-Decides}
use Rattle.byte_fields.specs.Fields.{◌>>=◌}
use Rattle.model_solved.specs.Founding.{Founding}
use Rattle.world_plain.specs.Valid.{Valid}
use Rattle.world_plain.specs.ValidTest.{is_valid}
use Rattle.world_plain.specs.World.{WorldRecord}
use Rattle.world_plain.proofs.ValidTests.{Valid-Decides}
use Rattle.world.specs.Worlds.{field_counts}
use Rattle.snapshot_codec.specs.Reading.{world_in}
use Rattle.replica.specs.RealWorlds.{worlds}

-- a valid world of the session
pub record IsOwn (founding : Founding) (id : List ℕ) (w : WorldRecord) : Type 0 where
  pub valid : Valid (field_counts founding.tree) w
  pub session : w.id ≡ id

pub own-passes : (founding : Founding) (id : List ℕ) (w : WorldRecord) → Valid (field_counts founding.tree) w → w.id ≡ id → (worlds founding id).valid w ≡ true
own-passes founding id w valid session =
    let tested : is_valid (field_counts founding.tree) w ≡ true = (Valid-Decides (field_counts founding.tree) w).1 valid in
    let same : bytes_eq w.id id ≡ true = (bytes_eq-Decides w.id id).1 session in
    rw (tested, same) refl

pub passes-own : (founding : Founding) (id : List ℕ) (w : WorldRecord) → (worlds founding id).valid w ≡ true → IsOwn founding id w
passes-own founding id w passes =
    let parts = and_parts (is_valid (field_counts founding.tree) w) (bytes_eq w.id id) passes in
    record { valid = (Valid-Decides (field_counts founding.tree) w).0 parts.0; session = (bytes_eq-Decides w.id id).0 parts.1 }

-- ---- what bytes spell

passed-if : (counts id : List ℕ) (w v : WorldRecord) (test : Bool) → (is_valid counts w && bytes_eq w.id id) ≡ test → (if test then Some w else None) ≡ Some v → (is_valid counts v && bytes_eq v.id id) ≡ true
passed-if counts id w v true e found = subst (λ (u : WorldRecord). (is_valid counts u && bytes_eq u.id id) ≡ true) (same_Some w v found) e
passed-if counts id w v false e found = absurd (none-some v found)

passed-found : (counts id : List ℕ) (read : Option WorldRecord) (v : WorldRecord) → (read >>= λ w. if is_valid counts w && bytes_eq w.id id then Some w else None) ≡ Some v → (is_valid counts v && bytes_eq v.id id) ≡ true
passed-found counts id None v found = absurd (none-some v found)
passed-found counts id (Some w) v found = passed-if counts id w v (is_valid counts w && bytes_eq w.id id) refl found

-- what is spelled is a valid world of the session
pub spelled-passes : (founding : Founding) (id bytes : List ℕ) (w : WorldRecord) → (worlds founding id).unsnap bytes ≡ Some w → (worlds founding id).valid w ≡ true
spelled-passes founding id bytes w found = passed-found (field_counts founding.tree) id (world_in (field_counts founding.tree) bytes) w found
