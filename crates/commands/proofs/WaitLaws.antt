-- What a command that waits for a file comes to.
use Rattle.std.proofs.Common.{◌≡◌, ◌<◌, ℕ, List, Some, None, inr, refl, arith, sym, subst}
use Rattle.run_steps.specs.Steps.{Loads}
use Rattle.command_outcome.specs.declared.outcome.CommandRefusal.TheVariants as refusal
use Rattle.commands.specs.declared.work.Next.{Next}
use Rattle.commands.specs.declared.work.Waiting.{Waiting}
use Rattle.commands.specs.declared.work.Waiting.TheVariants as waiting
use Rattle.commands.specs.declared.stamp.StampWait.TheVariants as stamp_wait
use Rattle.commands.specs.declared.recording.ReplayWait.TheVariants as replay_wait
use Rattle.commands.specs.declared.inspection.InspectWait.TheVariants as inspect_wait
use Rattle.commands.specs.declared.tracing.TraceWait.TheVariants as trace_wait
use Rattle.commands.specs.declared.visit.JoinWait.TheVariants as join_wait
use Rattle.commands.specs.declared.live.LiveWait.TheVariants as live_wait
use Rattle.commands.specs.declared.reflection.ReflectWait.TheVariants as reflect_wait
use Rattle.commands.specs.declared.hosting.HostWait.TheVariants as host_wait
use Rattle.commands.specs.Verdict.{ByRefusal, Free, Verdict, before, at_once}
use Rattle.commands.specs.Work.{ComesNext, Leads, Remains, ask_of, files_left, input_of, next_of}

-- where the file is above its limit, it is refused
pub above_limit : (wait : Waiting) → Remains wait (before (Loads (ask_of wait) None) (at_once (ByRefusal (refusal.Input (input_of wait)))))
above_limit wait = (None, (_, refl, inr refl))

pub refused_above : (wait : Waiting) (rest : Verdict) → rest ≡ at_once (ByRefusal (refusal.Input (input_of wait))) → Remains wait (before (Loads (ask_of wait) None) rest)
refused_above wait rest comes = subst (λ (v : Verdict). Remains wait (before (Loads (ask_of wait) None) v)) (sym comes) (above_limit wait)

-- some file is left where one is waited for
pub some_left : (wait : Waiting) → 0 < files_left wait
some_left (waiting.Stamp (stamp_wait.Script script from log)) = omega arith
some_left (waiting.Stamp (stamp_wait.Log wait)) = omega arith
some_left (waiting.Check program) = omega arith
some_left (waiting.Replay (replay_wait.Program request)) = omega arith
some_left (waiting.Replay (replay_wait.Log wait)) = omega arith
some_left (waiting.Replay (replay_wait.Value wait)) = omega arith
some_left (waiting.Replay (replay_wait.Snapshot wait)) = omega arith
some_left (waiting.Inspect (inspect_wait.Program request)) = omega arith
some_left (waiting.Inspect (inspect_wait.Log wait)) = omega arith
some_left (waiting.Inspect (inspect_wait.Value wait)) = omega arith
some_left (waiting.Inspect (inspect_wait.Queries wait)) = omega arith
some_left (waiting.Trace (trace_wait.Program request)) = omega arith
some_left (waiting.Trace (trace_wait.Log wait)) = omega arith
some_left (waiting.Trace (trace_wait.Value wait)) = omega arith
some_left (waiting.Votes log) = omega arith
some_left (waiting.Hub script logs) = omega arith
some_left (waiting.Join (join_wait.Program request)) = omega arith
some_left (waiting.Join (join_wait.Script wait)) = omega arith
some_left (waiting.Join (join_wait.Value wait)) = omega arith
some_left (waiting.Live (live_wait.Program request)) = omega arith
some_left (waiting.Live (live_wait.Value wait)) = omega arith
some_left (waiting.Reflect (reflect_wait.Program request)) = omega arith
some_left (waiting.Reflect (reflect_wait.Value wait)) = omega arith
some_left (waiting.Reflect (reflect_wait.Log wait)) = omega arith
some_left (waiting.Reflect (reflect_wait.Founding wait)) = omega arith
some_left (waiting.Host (host_wait.Config request)) = omega arith
some_left (waiting.Host (host_wait.Program wait)) = omega arith

-- where its bytes were handed over, it goes on
pub handed_on : (wait : Waiting) (bytes : List ℕ) (step : Next) (rest : Verdict) → Leads step (Free (next_of wait bytes)) → ComesNext step rest → Remains wait (before (Loads (ask_of wait) (Some bytes)) rest)
handed_on wait bytes step rest leads comes = (Some bytes, (rest, refl, leads rest comes))
