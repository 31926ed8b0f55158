use Rattle.std.proofs.Common.{◌≡◌, ◌+◌, ◌++◌, drop}
use Rattle.replica_plain.specs.Calls.{sends_after}
use Rattle.replica.proofs.sending.sends.Given as goal

-- the frames so far and those of what is left are those of all
abbrev pub invariant-loop-payload : goal.invariant-loop-payload
invariant-loop-payload l = record {
  told : l.frames ++ sends_after l.number (drop l.payload-index l.payloads) ≡ sends_after l.given l.payloads;
  number : l.number ≡ l.given + l.payload-index;
}
