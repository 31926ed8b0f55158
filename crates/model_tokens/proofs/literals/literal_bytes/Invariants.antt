use Rattle.std.proofs.Common.{◌≡◌, length}
use Rattle.model_tokens.specs.Reader.{literal_at}
use Rattle.model_tokens.proofs.LiteralLaws.{with_bytes}
use Rattle.model_tokens.proofs.literals.literal_bytes.Given as goal

abbrev pub invariant-loop-byte : goal.invariant-loop-byte
invariant-loop-byte l = with_bytes l.bytes.items (literal_at 0 l.rest) ≡ literal_at 0 l.text

abbrev pub decreases-loop-byte : goal.decreases-loop-byte
decreases-loop-byte l = length l.rest
