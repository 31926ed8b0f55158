-- What runs, and how a part of a program ends.
use Rattle.std.specs.Prelude.{ℕ, ◌-◌, Bool, nat_eq, nat_le, if◌then◌else◌, List, Option, Some, None}
use Rattle.model_value.specs.Plain.{PlainValue, bool, weight, is_in_bounds}
use Rattle.world_plain.specs.Messages.{PlainOutgoing}
use Rattle.world_plain.specs.World.{WorldRecord}
use Rattle.world_state.specs.declared.fault.Fault.{Fault}
use Rattle.world_state.specs.declared.fault.Fault.TheVariants.{BadKind, Fuel, Size}

-- what runs: the fuel left, the world, and what was published
pub record Running : Type 0 where
  pub fuel : ℕ
  pub world : WorldRecord
  pub published : List PlainOutgoing

abbrev pub with_world : Running → WorldRecord → Running
with_world r w = record r { world = w }

-- how a part ends: it gives something, or it faults, and what was done until then stays
pub data Outcome (A : Type 0) : Type 0 where
  Gives : A → Running → Outcome A
  Faults : Fault → Running → Outcome A

abbrev pub and_then : {A B : Type 0} → Outcome A → (A → Running → Outcome B) → Outcome B
and_then (Gives a r) next = next a r
and_then (Faults f r) next = Faults f r

-- entering a statement or an expression takes a step of fuel
abbrev pub spend_step : {A : Type 0} → Running → (Running → Outcome A) → Outcome A
spend_step r next = if nat_eq r.fuel 0 then Faults Fuel r else next (record r { fuel = r.fuel - 1 })

-- so many steps are taken, or none where fewer are left
abbrev pub spend : {A : Type 0} → ℕ → Running → (Running → Outcome A) → Outcome A
spend steps r next = if nat_le steps r.fuel then next (record r { fuel = r.fuel - steps }) else Faults Fuel r

-- ---- limits

-- the most statements and expressions that are open at a time
abbrev pub most_open : ℕ
most_open = 512

-- the steps of a message
abbrev pub most_fuel : ℕ
most_fuel = 100000

-- ---- values

-- a value that is made, if it is in bounds
abbrev pub give_in_bounds : PlainValue → Running → Outcome PlainValue
give_in_bounds v r = if is_in_bounds v then Gives v r else Faults Size r

-- the same of one that takes steps by its weight
abbrev pub give_by_weight : PlainValue → Running → Outcome PlainValue
give_by_weight v r = if is_in_bounds v then spend (weight v) r (Gives v) else Faults Size r

-- a value or a fault, of what changes nothing
pub data PureOutcome : Type 0 where
  value : PlainValue → PureOutcome
  fails : Fault → PureOutcome

abbrev pub give_pure : PureOutcome → Running → Outcome PlainValue
give_pure (value v) r = Gives v r
give_pure (fails f) r = Faults f r

-- ---- tests

abbrev pub truth : PlainValue → Option Bool
truth (bool b) = Some b
truth _ = None

abbrev pub decide : {A : Type 0} → Option Bool → (Bool → Running → Outcome A) → Running → Outcome A
decide (Some b) next r = next b r
decide None next r = Faults BadKind r

-- ---- methods

-- how a method of an object starts: by the object, the method's name and its arguments
abbrev pub Start : Type 0
Start = ℕ → List ℕ → List PlainValue → Running → Outcome PlainValue
