use Rattle.std.proofs.Common.{◌≡◌, map, pos, take}
use Rattle.model_value.specs.Plain.{int}
use Rattle.model_value.specs.View.{plain_values}
use Rattle.model_eval.proofs.events.views.Given as goal

abbrev pub invariant-loop-view : goal.invariant-loop-view
invariant-loop-view l = plain_values l.values ≡ map (λ view. int (pos view)) (take l.view-index l.views)
