use Rattle.std.proofs.Common.{◌≡◌, ◌==◌, drop}
use Rattle.std.specs.List.{list_all}
use Rattle.command_reflect.proofs.keeping.all_zero.Given as goal

-- it depends on the bytes that are left
abbrev pub invariant-loop-byte : goal.invariant-loop-byte
invariant-loop-byte l = list_all (λ byte. byte == 0) l.bytes ≡ list_all (λ byte. byte == 0) (drop l.byte-index l.bytes)
