-- What went over the connections of a system.
use Rattle.std.specs.Prelude.{ℕ, ◌==◌, if◌then◌else◌, List, [], ◌∷◌, ◌++◌, slice_get, Option, Some, None}
use Rattle.wire_frames.specs.declared.frame.ClientFrame.{ClientFrame}
use Rattle.wire_frames.specs.declared.frame.ServerFrame.{ServerFrame}
use Rattle.replica_plain.specs.Worlds.{Worlds}
use Rattle.system_plain.specs.System.{System, Client, Connection, first_system, view_client}
use Rattle.system_plain.specs.Steps.{SystemStep, Take, Receive, after_step}

-- given: the frames of a connection that the reflector took. received: those that its replica took. Both in order.
pub record Traffic : Type 0 where
  pub given : List (Option ClientFrame)
  pub received : List ServerFrame

-- of each connection, by its number
abbrev pub Traffics : Type 0
Traffics = ℕ → Traffic

abbrev pub no_traffic : Traffics
no_traffic number = record { given = []; received = [] }

-- ---- a Take

abbrev pub with_given : Traffics → ℕ → ClientFrame → Traffics
with_given traffics number frame =
    λ other. if other == number then record {
      given = (traffics other).given ++ Some frame ∷ [];
      received = (traffics other).received;
    } else traffics other

-- the next frame, if there is one
abbrev pub given_next : Traffics → ℕ → List ClientFrame → Traffics
given_next traffics number [] = traffics
given_next traffics number (frame ∷ rest) = with_given traffics number frame

abbrev pub given_on : Traffics → ℕ → Option Connection → Traffics
given_on traffics number None = traffics
given_on traffics number (Some c) = if c.over then traffics else given_next traffics number c.up

-- ---- a Receive

abbrev pub with_received : Traffics → ℕ → ServerFrame → Traffics
with_received traffics number frame =
    λ other. if other == number then record {
      given = (traffics other).given;
      received = (traffics other).received ++ frame ∷ [];
    } else traffics other

abbrev pub received_next : Traffics → ℕ → List ServerFrame → Traffics
received_next traffics number [] = traffics
received_next traffics number (frame ∷ rest) = with_received traffics number frame

abbrev pub received_on : Traffics → ℕ → Option Connection → Traffics
received_on traffics number None = traffics
received_on traffics number (Some c) = received_next traffics number c.down

abbrev pub received_by : {W O : Type 0} → System W O → Traffics → Option (Client W O) → Traffics
received_by s traffics None = traffics
received_by s traffics (Some client) = received_on traffics client.newest (slice_get s.connections client.newest)

-- ---- a schedule

abbrev pub traffics_after : {W O : Type 0} → System W O → Traffics → SystemStep → Traffics
traffics_after s traffics (Take number now) = given_on traffics number (slice_get s.connections number)
traffics_after s traffics (Receive view) = received_by s traffics (view_client s.clients view)
traffics_after s traffics other = traffics

abbrev pub traffics_by : {W O : Type 0} → Worlds W O → System W O → Traffics → List SystemStep → Traffics
traffics_by m s traffics [] = traffics
traffics_by m s traffics (step ∷ steps) = traffics_by m (after_step m s step) (traffics_after s traffics step) steps

-- after a schedule from the first system on
abbrev pub traffics_in : {W O : Type 0} → Worlds W O → List SystemStep → Traffics
traffics_in m steps = traffics_by m first_system no_traffic steps
