-- Worlds of one program and session: what they do, what is true of them, and which of them follow a log.
use Rattle.std.specs.Prelude.{ℕ, ◌≡◌, ◌≤◌, ◌<◌, nat_le, Bool, true, List, [], ◌∷◌, Option, Some, filter}
use Rattle.tea_base.specs.declared.entry.Entry.{Entry}
use Rattle.tea_base.specs.Limits.{time_limit}

-- The worlds W of one program and session, and what their models publish, O. `first_out`, `external_out` and `advance_out` say what
-- was published behind what was published before.
pub record Worlds (W O : Type 0) : Type 0 where
  pub session : List ℕ
  pub first : W
  pub first_out : List O
  pub external : W → Entry → W
  pub external_out : W → Entry → List O → List O
  pub advance : W → ℕ → W
  pub advance_out : W → ℕ → List O → List O
  pub time : W → ℕ
  pub valid : W → Bool
  pub at_rest : W → Bool
  pub snapshot : W → List ℕ
  pub unsnap : List ℕ → Option W

-- what is true of them, for valid worlds and for times below 2^53
pub record AreWorlds {W O : Type 0} (m : Worlds W O) : Type 0 where
  pub first_time : m.time m.first ≡ 0
  pub first_valid : m.valid m.first ≡ true
  pub valid_time : (w : W) → m.valid w ≡ true → m.time w < time_limit
  pub external_time : (w : W) (entry : Entry) → m.valid w ≡ true → m.time w ≤ entry.time
      → m.time (m.external w entry) ≡ entry.time
  pub external_valid : (w : W) (entry : Entry) → m.valid w ≡ true → m.time w < entry.time → entry.time < time_limit
      → m.valid (m.external w entry) ≡ true
  pub external_after : (w : W) (s : ℕ) (entry : Entry) → m.valid w ≡ true → m.time w ≤ s → s ≤ entry.time
      → s < time_limit → m.external (m.advance w s) entry ≡ m.external w entry
  pub advance_time : (w : W) (t : ℕ) → m.valid w ≡ true → m.time w ≤ t → m.time (m.advance w t) ≡ t
  pub advance_valid : (w : W) (t : ℕ) → m.valid w ≡ true → m.time w ≤ t → t < time_limit
      → m.valid (m.advance w t) ≡ true
  pub advance_again : (w : W) (s t : ℕ) → m.valid w ≡ true → m.time w ≤ s → s ≤ t → s < time_limit
      → m.advance (m.advance w s) t ≡ m.advance w t
  pub advance_rests : (w : W) (t : ℕ) → m.valid w ≡ true → m.time w ≤ t → t < time_limit
      → m.at_rest (m.advance w t) ≡ true
  pub at_rest_stays : (w : W) → m.valid w ≡ true → m.at_rest w ≡ true → m.advance w (m.time w) ≡ w
  pub unsnap_valid : (bytes : List ℕ) (w : W) → m.unsnap bytes ≡ Some w → m.valid w ≡ true

-- the entries with a time of at most this
abbrev pub entries_until : ℕ → List Entry → List Entry
entries_until t log = filter (λ entry. nat_le entry.time t) log

-- the world after these entries
abbrev pub externals : {W O : Type 0} → Worlds W O → W → List Entry → W
externals m w [] = w
externals m w (entry ∷ rest) = externals m (m.external w entry) rest

-- the world of a log at a time
abbrev pub replay_world : {W O : Type 0} → Worlds W O → List Entry → ℕ → W
replay_world m log t = m.advance (externals m m.first (entries_until t log)) t

-- what is due at the world's own time makes it the replay to that time
abbrev pub WorldFollows : {W O : Type 0} → Worlds W O → List Entry → W → Type 0
WorldFollows m log w = m.advance w (m.time w) ≡ replay_world m log (m.time w)

-- the bytes spell a world of this time that follows the log
pub record IsHonest {W O : Type 0} (m : Worlds W O) (log : List Entry) (time : ℕ) (bytes : List ℕ) : Type 0 where
  pub world : W
  pub spelled : m.unsnap bytes ≡ Some world
  pub timed : m.time world ≡ time
  pub follows : WorldFollows m log world
