use Rattle.std.proofs.Common.{◌≡◌, drop}
use Rattle.std.specs.Prelude.{find, bytes_eq}
use Rattle.model_solved.specs.Builtins.{builtin_spelling}
use Rattle.model_check.proofs.builtin.first_named.Given as goal

abbrev pub invariant-loop-builtin : goal.invariant-loop-builtin
invariant-loop-builtin l = find (λ b. bytes_eq l.name (builtin_spelling b)) (drop l.builtin-index l.builtins) ≡ find (λ b. bytes_eq l.name (builtin_spelling b)) l.builtins
