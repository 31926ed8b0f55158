-- Which session a frame names, by its fields.
use Rattle.std.proofs.Common.{◌≡◌, ℕ, ◌<◌, ◌==◌, Bool, true, false, if◌then◌else◌, List, [], ◌∷◌, length, Option, Some, None, refl, sym, ap, ◌∙◌}
use Rattle.std.specs.Prelude.{position, unwrap_or}
use Rattle.std.specs.Int.{w32}
use Rattle.std.proofs.lemmas.List.Quantifiers.{position-Some}
use Rattle.byte_fields.specs.Fields.{◌>>=◌, number_at, paired_at, whole}
use Rattle.tea_base.specs.declared.entry.SessionId.{SessionId}
use Rattle.wire_frames.specs.Reading.{client_at, join_at, send_at, session_at, snap_at, time_at, want_at}
use Rattle.byte_fields.specs.Fields.{blob_at, nothing_at, never_at}
use Rattle.wire_frames.specs.declared.frame.ClientFrame.{ClientFrame}
use Rattle.wire_frames.specs.declared.frame.ClientFrame.TheVariants as client
use Rattle.wire_frames.specs.declared.start.Want.{Want}
use Rattle.id_claims.specs.Ids.{is_id}
use Rattle.host_server.specs.Routing.{goes_to, named_at, named_by, named_in, place_of}

-- ---- frames

-- all of the bytes were read
abbrev if_whole : {A : Type 0} → A × List ℕ → Option A
if_whole x = if length x.1 == 0 then Some x.0 else None

abbrev with_made : {A B : Type 0} → (A → B) → A × List ℕ → Option (B × List ℕ)
with_made make x = Some (make x.0, x.1)

other_if : (b : Bool) (frame : ClientFrame) → named_by (Some frame) ≡ None → named_by (if b then Some frame else None) ≡ None
other_if true frame none = none
other_if false frame none = refl

-- a frame that is no JOIN names nobody
other_frame : {A : Type 0} (make : A → ClientFrame) (found : Option (A × List ℕ)) → ((a : A) → named_by (Some (make a)) ≡ None)
    → named_by ((found >>= with_made make) >>= if_whole) ≡ None
other_frame make None none = refl
other_frame make (Some x) none = other_if (length x.1 == 0) (make x.0) (none x.0)

join_if : (b : Bool) (session : SessionId) (view : ℕ) (want : Want) → named_by (if b then Some (client.Join session view want) else None) ≡ (if b then Some session else None)
join_if true session view want = refl
join_if false session view want = refl

join_frame : (found : Option ((SessionId × (ℕ × Want)) × List ℕ))
    → named_by ((found >>= with_made (λ p. client.Join p.0 p.1.0 p.1.1)) >>= if_whole) ≡ ((found >>= with_made (λ p. p.0)) >>= if_whole)
join_frame None = refl
join_frame (Some x) = join_if (length x.1 == 0) x.0.0 x.0.1.0 x.0.1.1

joined : (bytes : List ℕ) → named_by (whole join_at bytes) ≡ whole named_at bytes
unfolding join_at named_at
joined bytes = join_frame (paired_at session_at (paired_at (number_at w32) want_at) bytes)

sent : (bytes : List ℕ) → named_by (whole send_at bytes) ≡ None
unfolding send_at
sent bytes = other_frame (λ p. client.Send p.0 p.1) (paired_at (number_at w32) blob_at bytes) (λ a. refl)

snapped : (bytes : List ℕ) → named_by (whole snap_at bytes) ≡ None
unfolding snap_at
snapped bytes = other_frame (λ p. client.Snap p.0 p.1) (paired_at time_at blob_at bytes) (λ a. refl)

by_tag : (a b c d e : Bool) (bytes : List ℕ)
    → named_by ((if a then join_at bytes else if b then send_at bytes else if c then snap_at bytes else if d then nothing_at client.Leave bytes else if e then nothing_at client.Alive bytes else never_at bytes)
    >>= if_whole)
    ≡ (if a then whole named_at bytes else None)
by_tag true b c d e bytes = joined bytes
by_tag false true c d e bytes = sent bytes
by_tag false false true d e bytes = snapped bytes
by_tag false false false true e bytes = other_if (length bytes == 0) client.Leave refl
by_tag false false false false true bytes = other_if (length bytes == 0) client.Alive refl
by_tag false false false false false bytes = refl

pub named_is : (bytes : List ℕ) → named_by (whole client_at bytes) ≡ named_in bytes
unfolding client_at
named_is [] = refl
named_is (tag ∷ rest) = by_tag (tag == 1) (tag == 2) (tag == 3) (tag == 4) (tag == 5) rest

-- ---- places

within_found : (ids : List SessionId) (id : SessionId) (found : Option ℕ) → position (is_id id) ids ≡ found → 0 < length ids → unwrap_or found 0 < length ids
within_found ids id None is some = some
within_found ids id (Some place) is some = (position-Some (is_id id) ids place id is).0

pub within_ids : (ids : List SessionId) (named : Option SessionId) → 0 < length ids → place_of ids named < length ids
within_ids ids None some = some
within_ids ids (Some id) some = within_found ids id (position (is_id id) ids) refl some

-- where a frame that names this one goes
pub goes_named : (ids : List SessionId) (bytes : List ℕ) (named : Option SessionId) → named ≡ named_in bytes → place_of ids named ≡ goes_to ids bytes
goes_named ids bytes named is = ap (place_of ids) (is ∙ sym (named_is bytes))

pub within_named : (ids : List SessionId) (bytes : List ℕ) → 0 < length ids → goes_to ids bytes < length ids
within_named ids bytes some = within_ids ids (named_by (whole client_at bytes)) some
