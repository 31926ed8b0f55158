-- What is known of what the words ask for.
use Rattle.std.specs.Prelude.{⊤, ◌≤◌, ◌<◌, ℕ, length, encode_utf8_all, Option, Some}
use Rattle.tea_base.specs.Limits.{time_limit}
use Rattle.run_steps.specs.Limits.{most_connections, most_drill_events, most_drill_views}
use Rattle.command_words.specs.declared.words.ReplayRequest.{ReplayRequest}
use Rattle.command_words.specs.declared.words.InspectRequest.{InspectRequest}
use Rattle.command_words.specs.declared.words.TraceRequest.{TraceRequest}
use Rattle.command_words.specs.declared.words.JoinRequest.{JoinRequest}
use Rattle.command_words.specs.declared.words.LiveRequest.{LiveRequest}
use Rattle.command_words.specs.declared.words.ReflectRequest.{ReflectRequest}
use Rattle.command_words.specs.declared.words.ServingSpan.{ServingSpan}
use Rattle.command_words.specs.declared.words.ServingSpan.TheVariants as serving_span
use Rattle.command_words.specs.declared.words.HostRequest.{HostRequest}
use Rattle.command_words.specs.declared.words.DrillRequest.{DrillRequest}
use Rattle.command_words.specs.declared.words.Command.{Command}
use Rattle.command_words.specs.declared.words.Command.TheVariants.{Stamp, Check, Replay, Inspect, Trace, Votes, Hub, Join, Live, Reflect, Host, Drill}
use Rattle.command_words.specs.CommandWords.{most_name}

-- the words ask for a command that uses a net: join, reflect or host
abbrev pub UsesNet : Option Command → Type 0
UsesNet (Some (Join request)) = ⊤
UsesNet (Some (Live request)) = ⊤
UsesNet (Some (Reflect request)) = ⊤
UsesNet (Some (Host request)) = ⊤
UsesNet command = ⊥

-- a replay has a name of at most so many bytes, and a time below the limit of times
abbrev pub IsBounded : ReplayRequest → Type 0
IsBounded request = (length (encode_utf8_all request.name) ≤ most_name) × (request.time < time_limit)

-- an inspect has a name of at most so many bytes too, and keeps a world after one entry or more
abbrev pub IsBoundedInspect : InspectRequest → Type 0
IsBoundedInspect request = (length (encode_utf8_all request.name) ≤ most_name) × (1 ≤ request.every)

-- a trace has a name of at most so many bytes too, and its stretch ends below the limit of times
abbrev pub IsBoundedTrace : TraceRequest → Type 0
IsBoundedTrace request = (length (encode_utf8_all request.name) ≤ most_name) × (request.to < time_limit)

-- a join has a name of at most so many bytes too, and a view from 1
abbrev pub IsBoundedJoin : JoinRequest → Type 0
IsBoundedJoin request = (length (encode_utf8_all request.name) ≤ most_name) × (1 ≤ request.view)

-- and so has one whose lines come to the run
abbrev pub IsBoundedLive : LiveRequest → Type 0
IsBoundedLive request = (length (encode_utf8_all request.name) ≤ most_name) × (1 ≤ request.view)

-- from 1 to the most links
abbrev pub AreConnections : ℕ → Type 0
AreConnections count = (1 ≤ count) × (count ≤ most_connections)

-- so many links are accepted, or there are so many posts
abbrev pub IsBoundedSpan : ServingSpan → Type 0
IsBoundedSpan (serving_span.Connections count) = AreConnections count
IsBoundedSpan (serving_span.Posts links until) = AreConnections links

-- a reflect has a name of at most so many bytes too, and serves so long
abbrev pub IsBoundedReflect : ReflectRequest → Type 0
IsBoundedReflect request = (length (encode_utf8_all request.name) ≤ most_name) × IsBoundedSpan request.span

-- a host serves so long
abbrev pub IsBoundedHost : HostRequest → Type 0
IsBoundedHost request = IsBoundedSpan request.span

-- from 1 to the most views
abbrev pub AreViews : ℕ → Type 0
AreViews count = (1 ≤ count) × (count ≤ most_drill_views)

-- a drill has so many views, of so many events each at most
abbrev pub IsBoundedDrill : DrillRequest → Type 0
IsBoundedDrill request = AreViews request.views × (request.events ≤ most_drill_events)

abbrev pub IsWithinBounds : Command → Type 0
IsWithinBounds (Stamp script from log) = ⊤
IsWithinBounds (Check program) = ⊤
IsWithinBounds (Replay request) = IsBounded request
IsWithinBounds (Inspect request) = IsBoundedInspect request
IsWithinBounds (Trace request) = IsBoundedTrace request
IsWithinBounds (Votes log) = ⊤
IsWithinBounds (Hub script logs) = ⊤
IsWithinBounds (Join request) = IsBoundedJoin request
IsWithinBounds (Live request) = IsBoundedLive request
IsWithinBounds (Reflect request) = IsBoundedReflect request
IsWithinBounds (Host request) = IsBoundedHost request
IsWithinBounds (Drill request) = IsBoundedDrill request
