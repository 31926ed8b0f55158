-- What a sink in memory holds, and what its calls leave.
use Rattle.std.specs.Prelude.{ℕ, List, ◌++◌, Result, Ok, Err}
use Rattle.tea_io.specs.declared.sink.SinkFault.{SinkFault}
use Rattle.tea_io.specs.declared.sink.SinkFault.TheVariants.{Failed, WantOfMemory}
use Rattle.tea_io.specs.Told.{count_up}

pub record MemSinkState : Type 0 where
  pub written : List ℕ
  pub failing : List ℕ
  pub next_call : ℕ
  pub faults : ℕ
  pub wants : ℕ

-- what a write leaves: a call that fails or wants memory writes nothing, and is counted
abbrev pub sink_after : {T : Type 0} → Result T SinkFault → MemSinkState → List ℕ → MemSinkState
sink_after (Ok value) sink piece =
    record sink { written = sink.written ++ piece; next_call = count_up sink.next_call }
sink_after (Err Failed) sink piece =
    record sink { next_call = count_up sink.next_call; faults = count_up sink.faults }
sink_after (Err WantOfMemory) sink piece = record sink { wants = count_up sink.wants }
