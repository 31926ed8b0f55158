use Rattle.std.proofs.Common.{◌≡◌, replicate}
use Rattle.model_value.specs.Plain.{nil}
use Rattle.model_value.specs.View.{plain_values}
use Rattle.model_value.proofs.value.nils.Given as goal

abbrev pub invariant-loop-index : goal.invariant-loop-index
invariant-loop-index l = plain_values l.values ≡ replicate l._index nil
