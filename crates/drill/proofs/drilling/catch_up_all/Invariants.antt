use Rattle.std.specs.List.{AllZip}
use Rattle.drill.specs.Drilling.{ComesToEnd}
use Rattle.drill.proofs.drilling.catch_up_all.Given as goal

-- those so far have come to the end
abbrev pub invariant-loop-one : goal.invariant-loop-one
invariant-loop-one l = AllZip (ComesToEnd l.session.plain) l.yielded l.replicas
