-- What a part of a method keeps of a world.
use Rattle.std.specs.Prelude.{◌≡◌, ℕ, ◌+◌, ◌≤◌, List, [], ◌∷◌, ◌++◌, nat_le, if◌then◌else◌, ⊤}
use Rattle.world_plain.specs.Messages.{PlainMessage, PlainOutgoing}
use Rattle.world_plain.specs.World.{WorldRecord}
use Rattle.world_plain.specs.Valid.{Valid, most_turns}
use Rattle.world_state.specs.Running.{Running, Outcome, Gives, Faults}

-- how many messages are due by a time
abbrev pub count_due : ℕ → List PlainMessage → ℕ
count_due time [] = 0
count_due time (m ∷ ms) = (if nat_le m.time time then 1 else 0) + count_due time ms

-- how many are due at the world's own time
abbrev pub now_due : WorldRecord → ℕ
now_due w = count_due w.time w.pending

-- what stays of what runs, from the first to the second
pub record Kept (r s : Running) : Type 0 where
  pub id : s.world.id ≡ r.world.id
  pub time : s.world.time ≡ r.world.time
  pub turns : s.world.turns ≡ r.world.turns
  pub faults : s.world.faults ≡ r.world.faults
  pub views : s.world.views ≡ r.world.views
  -- what was published stays, and more may stand behind it
  pub published : (more : List PlainOutgoing) × (s.published ≡ r.published ++ more)
  pub fuel : s.fuel ≤ r.fuel
  -- ids and numbers are not used again
  pub next_object : r.world.next_object ≤ s.world.next_object
  pub next_number : r.world.next_number ≤ s.world.next_number
  -- no message is added to an instant at which too many ran
  pub calm : r.world.turns ≡ most_turns → now_due s.world ≤ now_due r.world

-- what is given is of no concern
abbrev pub Anything : {A : Type 0} → A → Type 0
Anything _ = ⊤

-- what stays from r to the end of an outcome; and if H, then the world is valid there, and what is given is as P says
abbrev pub CarriesIf : {A : Type 0} → Type 0 → List ℕ → (A → Type 0) → Running → Outcome A → Type 0
CarriesIf H counts P r (Gives a s) = Kept r s × (H → Valid counts s.world × P a)
CarriesIf H counts P r (Faults f s) = Kept r s × (H → Valid counts s.world)

-- of an outcome behind a valid world, whether it gives or faults
abbrev pub Carries : {A : Type 0} → List ℕ → (A → Type 0) → Running → Outcome A → Type 0
Carries counts P r = CarriesIf (Valid counts r.world) counts P r
