use Rattle.std.proofs.Common.{◌≡◌, ◌≢◌, ℕ, ◌<◌, Some, slice_get}
use Rattle.wire_frames.specs.Codes.{code_number}
use Rattle.wire_frames.specs.declared.code.RefusalCode.{RefusalCode}
use Rattle.wire_frames.specs.declared.code.TheConstants.{ALL}
use Rattle.wire_frames.proofs.code.RefusalCode.of.Given as goal

-- no code so far has the number
abbrev pub invariant-loop-code : goal.invariant-loop-code
invariant-loop-code l = (k : ℕ) (code : RefusalCode) → k < l.code-index → slice_get ALL k ≡ Some code → code_number code ≢ l.number
