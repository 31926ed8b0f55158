-- A system whose session, one connection or one replica changes.
use Rattle.std.proofs.Common.{ℕ, ◌+◌, ◌≡◌, ◌≢◌, ◌<◌, ◌⊎◌, inl, inr, List, [], ◌∷◌, ◌++◌, Option, Some, None, length, length-append, set, slice_get, refl, arith, sym, ◌∙◌, subst}
use Rattle.std.proofs.lemmas.Option.{slice_get_within}
use Rattle.std.proofs.lemmas.List.{length-set}
use Rattle.reflector_core.specs.PlainSession.{IsSoundSession, PlainSession}
use Rattle.replica_plain.specs.declared.how.How.{How}
use Rattle.replica_plain.specs.declared.how.How.TheVariants.{Fresh, Resume, Whole}
use Rattle.replica_plain.specs.Calls.{join_frame, joining}
use Rattle.replica_plain.specs.Following.{IsHonestBase}
use Rattle.replica_plain.specs.PlainReplica.{PlainReplica}
use Rattle.replica_plain.specs.Worlds.{Worlds}
use Rattle.system_plain.specs.Steps.{connect, found}
use Rattle.system_plain.specs.System.{Client, Connection, System, close, close_on, closing, connecting, view_client, with_client}
use Rattle.system_plain.proofs.Facts.{NewestStands, SnapsHonest, WorldStands, WorldsStand}
use Rattle.system_plain.proofs.FactsGrow.{joined_grows, lives_grow, snaps_grow}
use Rattle.system_plain.proofs.Lookups.{client_of-push, client_of-with, client_view, get_push, get_set}
use Rattle.system_plain.proofs.Sessions.{Grows}

-- the session goes on, and a connection changes
pub connection_changes : {W O : Type 0} (m : Worlds W O) (s : System W O) (new : PlainSession) (number : ℕ) (c changed : Connection)
    → WorldsStand m s → slice_get s.connections number ≡ Some c → Grows s.session new → IsSoundSession new → IsHonestBase m new.log new.kept → SnapsHonest m new changed.up
    → ((view : ℕ) (client : Client W O) → view_client s.clients view ≡ Some client → client.newest ≡ number → NewestStands m s.session client.replica c → NewestStands m new client.replica changed)
    → WorldsStand m (record { session = new; clients = s.clients; connections = set s.connections number changed })
connection_changes {W = W} {O = O} m s new number c changed fine at grows sound kept snaps keeps = record {
  sound = sound;
  kept = kept;
  snaps = λ k found at_k. elim (get_set s.connections number k changed found at_k) [
    | inl hit ↦ subst (λ (x : Connection). SnapsHonest m new x.up) (sym hit.1) snaps
    | inr miss ↦ snaps_grow m s.session new found.up grows (fine.snaps k found miss.1)
  ];
  lives = λ view client is. lives_grow m s.session new client.replica grows (fine.lives view client is);
  connected = λ view client is. let n = fine.connected view client is in omega (arith, length-set s.connections number changed);
  joined = λ view client found is at_k. elim (get_set s.connections number client.newest changed found at_k) [
    | inl hit ↦ subst (NewestStands m new client.replica) (sym hit.1) (keeps view client is hit.0 (fine.joined view client c is (subst (λ k. slice_get s.connections k ≡ Some c) (sym hit.0) at)))
    | inr miss ↦ joined_grows m s.session new client.replica found grows (fine.lives view client is) (fine.joined view client found is miss.1)
  ];
}

-- two views have two newest connections
pub newest_apart : {W O : Type 0} (m : Worlds W O) (s : System W O) (view other : ℕ) (client found : Client W O) (c : Connection) → WorldsStand m s → view_client s.clients view ≡ Some client → view_client s.clients other ≡ Some found → slice_get s.connections client.newest ≡ Some c → found.newest ≡ client.newest → other ≡ view
newest_apart m s view other client found c fine is is_other at same =
    let mine = (fine.joined view client c is at).owned in
    let theirs = (fine.joined other found c is_other (subst (λ k. slice_get s.connections k ≡ Some c) (sym same) at)).owned in
    sym (client_view s.clients other found is_other) ∙ sym theirs ∙ mine ∙ client_view s.clients view client is

-- a replica changes, with its newest connection
pub replica_changes : {W O : Type 0} (m : Worlds W O) (s : System W O) (view : ℕ) (client : Client W O) (c : Connection) (replica : PlainReplica W O) (connections : List Connection)
    → WorldsStand m s → view_client s.clients view ≡ Some client → slice_get s.connections client.newest ≡ Some c → replica.view ≡ client.replica.view → WorldStands m s.session replica → length connections ≡ length s.connections
    → ((k : ℕ) (found : Connection) → slice_get connections k ≡ Some found → ((k ≢ client.newest) × (slice_get s.connections k ≡ Some found)) ⊎ ((k ≡ client.newest) × SnapsHonest m s.session found.up × NewestStands m s.session replica found))
    → WorldsStand m (record { session = s.session; clients = with_client s.clients (record { replica = replica; newest = client.newest }); connections = connections })
replica_changes {W = W} {O = O} m s view client c replica connections fine is at same_view lives same_length changes = record {
  sound = fine.sound;
  kept = fine.kept;
  snaps = λ k found at_k. elim (changes k found at_k) [ inl miss ↦ fine.snaps k found miss.1 | inr hit ↦ hit.1 ];
  lives = λ other found is_found. elim (client_of-with s.clients (record { replica = replica; newest = client.newest }) found other is_found) [
    | inl hit ↦ subst (λ (x : Client W O). WorldStands m s.session x.replica) (sym hit.1) lives
    | inr miss ↦ fine.lives other found miss.1
  ];
  connected = λ other found is_found. elim (client_of-with s.clients (record { replica = replica; newest = client.newest }) found other is_found) [
    | inl hit ↦ subst (λ (x : Client W O). x.newest < length connections) (sym hit.1) (let n = fine.connected view client is in omega (arith, same_length))
    | inr miss ↦ let n = fine.connected other found miss.1 in omega (arith, same_length)
  ];
  joined = λ other found held is_found at_k. elim (client_of-with s.clients (record { replica = replica; newest = client.newest }) found other is_found) [
    | inl hit ↦ subst (λ (x : Client W O). NewestStands m s.session x.replica held) (sym hit.1)
        (elim (changes client.newest held (subst (λ (x : Client W O). slice_get connections x.newest ≡ Some held) hit.1 at_k)) [ inl far ↦ absurd (far.0 refl) | inr near ↦ near.2 ])
    | inr miss ↦ elim (changes found.newest held at_k) [
      | inl far ↦ fine.joined other found held miss.1 far.1
      | inr near ↦ absurd (miss.0 (newest_apart m s view other client found c fine is miss.1 at near.0 ∙ sym (client_view s.clients view client is) ∙ sym same_view))
    ]
  ];
}

-- a connection that was just made
pub joined_anew : {W O : Type 0} (m : Worlds W O) (s : PlainSession) (r : PlainReplica W O) (how : How) → NewestStands m s (joining r how) (connecting r.view (join_frame m r how))
joined_anew m s r Fresh = record { owned = refl; opens = λ n o. record { nothing = refl; waiting = refl; asks = (_, refl, refl, refl, refl) }; waits = λ w c o. refl; begun = λ synced. absurd cc }
joined_anew m s r Whole = record { owned = refl; opens = λ n o. record { nothing = refl; waiting = refl; asks = (_, refl, refl, refl, refl) }; waits = λ w c o. refl; begun = λ synced. absurd cc }
joined_anew m s r Resume = record { owned = refl; opens = λ n o. record { nothing = refl; waiting = refl; asks = (_, refl, refl, refl, refl) }; waits = λ w c o. refl; begun = λ synced. absurd cc }

pub length-close_on : (connections : List Connection) (number : ℕ) (found : Option Connection) → length (close_on connections number found) ≡ length connections
length-close_on connections number None = refl
length-close_on connections number (Some c) = length-set connections number (closing c)

-- what is found after a connection was closed: that one, closed, or another as it was
pub get_close_on : (connections : List Connection) (number k : ℕ) (c : Option Connection) (found : Connection) → slice_get connections number ≡ c → slice_get (close_on connections number c) k ≡ Some found
    → ((k ≡ number) × (closed : Connection) × (slice_get connections number ≡ Some closed) × (found ≡ closing closed)) ⊎ (slice_get connections k ≡ Some found)
get_close_on connections number k None found is at = inr at
get_close_on connections number k (Some c) found is at = elim (get_set connections number k (closing c) found at) [ inl hit ↦ inl (hit.0, c, is, hit.1) | inr miss ↦ inr miss.1 ]

-- a replica joins by a new connection, in place of the one that it had
pub joins_anew : {W O : Type 0} (m : Worlds W O) (s : System W O) (view : ℕ) (client : Client W O) (replica : PlainReplica W O) (how : How) → WorldsStand m s → view_client s.clients view ≡ Some client → replica.view ≡ client.replica.view → WorldStands m s.session (joining replica how) → WorldsStand m (connect m s client.newest replica how)
joins_anew {W = W} {O = O} m s view client replica how fine is same_view lives =
    let new : Client W O = record { replica = joining replica how; newest = length s.connections } in
    let added = connecting replica.view (join_frame m replica how) in
    let before = close s.connections client.newest in
    let same_length : length before ≡ length s.connections = length-close_on s.connections client.newest (slice_get s.connections client.newest) in
    let whole : length (before ++ added ∷ []) ≡ length s.connections + 1 = omega (arith, length-append before (added ∷ []), same_length) in
    let apart : (other : ℕ) (found : Client W O) → other ≢ replica.view → view_client s.clients other ≡ Some found → (held : Connection) → slice_get before found.newest ≡ Some held → slice_get s.connections found.newest ≡ Some held
    = λ other found far is_other held at_k. elim (get_close_on s.connections client.newest found.newest (slice_get s.connections client.newest) held refl at_k) [
      | inl hit ↦ absurd (far (newest_apart m s view other client found hit.1 fine is is_other hit.2 hit.0 ∙ sym (client_view s.clients view client is) ∙ sym same_view))
      | inr miss ↦ miss
    ] in
    record {
      sound = fine.sound;
      kept = fine.kept;
      snaps = λ k found at_k. elim (get_push before k added found at_k) [
        | inl old ↦ elim (get_close_on s.connections client.newest k (slice_get s.connections client.newest) found refl old) [
          | inl hit ↦ subst (λ (x : Connection). SnapsHonest m s.session x.up) (sym hit.3) (fine.snaps client.newest hit.1 hit.2)
          | inr miss ↦ fine.snaps k found miss
        ]
        | inr last ↦ subst (λ (x : Connection). SnapsHonest m s.session x.up) (sym last.1) tt
      ];
      lives = λ other found is_found. elim (client_of-with s.clients new found other is_found) [
        | inl hit ↦ subst (λ (x : Client W O). WorldStands m s.session x.replica) (sym hit.1) lives
        | inr miss ↦ fine.lives other found miss.1
      ];
      connected = λ other found is_found. elim (client_of-with s.clients new found other is_found) [
        | inl hit ↦ subst (λ (x : Client W O). x.newest < length (before ++ added ∷ [])) (sym hit.1) (omega arith)
        | inr miss ↦ let n = fine.connected other found miss.1 in omega arith
      ];
      joined = λ other found held is_found at_k. elim (client_of-with s.clients new found other is_found) [
        | inl hit ↦ subst (λ (x : Client W O). NewestStands m s.session x.replica held) (sym hit.1)
            (elim (get_push before (length s.connections) added held (subst (λ (x : Client W O). slice_get (before ++ added ∷ []) x.newest ≡ Some held) hit.1 at_k)) [
              | inl old ↦ let n = slice_get_within before (length s.connections) held old in absurd (omega arith)
              | inr last ↦ subst (NewestStands m s.session new.replica) (sym last.1) (joined_anew m s.session replica how)
            ])
        | inr miss ↦ elim (get_push before found.newest added held at_k) [
          | inl old ↦ fine.joined other found held miss.1 (apart other found miss.0 miss.1 held old)
          | inr last ↦ let n = fine.connected other found miss.1 in absurd (omega (arith, last.0))
        ]
      ];
    }

-- a new replica with its first connection
pub founds : {W O : Type 0} (m : Worlds W O) (s : System W O) (replica : PlainReplica W O) (how : How) → WorldsStand m s → WorldStands m s.session (joining replica how)
    → WorldsStand m (record { session = s.session; clients = s.clients ++ record { replica = joining replica how; newest = length s.connections } ∷ []; connections = s.connections ++ connecting replica.view (join_frame m replica how) ∷ [] })
founds {W = W} {O = O} m s replica how fine lives =
    let new : Client W O = record { replica = joining replica how; newest = length s.connections } in
    let added = connecting replica.view (join_frame m replica how) in
    let whole : length (s.connections ++ added ∷ []) ≡ length s.connections + 1 = omega (arith, length-append s.connections (added ∷ [])) in
    record {
      sound = fine.sound;
      kept = fine.kept;
      snaps = λ k found at_k. elim (get_push s.connections k added found at_k) [
        | inl old ↦ fine.snaps k found old
        | inr last ↦ subst (λ (x : Connection). SnapsHonest m s.session x.up) (sym last.1) tt
      ];
      lives = λ other found is_found. elim (client_of-push s.clients new found other is_found) [
        | inl old ↦ fine.lives other found old
        | inr hit ↦ subst (λ (x : Client W O). WorldStands m s.session x.replica) (sym hit.1) lives
      ];
      connected = λ other found is_found. elim (client_of-push s.clients new found other is_found) [
        | inl old ↦ let n = fine.connected other found old in omega arith
        | inr hit ↦ subst (λ (x : Client W O). x.newest < length (s.connections ++ added ∷ [])) (sym hit.1) (omega arith)
      ];
      joined = λ other found held is_found at_k. elim (client_of-push s.clients new found other is_found) [
        | inl old ↦ elim (get_push s.connections found.newest added held at_k) [
          | inl there ↦ fine.joined other found held old there
          | inr last ↦ let n = fine.connected other found old in absurd (omega (arith, last.0))
        ]
        | inr hit ↦ subst (λ (x : Client W O). NewestStands m s.session x.replica held) (sym hit.1)
            (elim (get_push s.connections (length s.connections) added held (subst (λ (x : Client W O). slice_get (s.connections ++ added ∷ []) x.newest ≡ Some held) hit.1 at_k)) [
              | inl there ↦ let n = slice_get_within s.connections (length s.connections) held there in absurd (omega arith)
              | inr last ↦ subst (NewestStands m s.session new.replica) (sym last.1) (joined_anew m s.session replica how)
            ])
      ];
    }
