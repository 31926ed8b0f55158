use Rattle.std.proofs.Common.{◌≡◌, drop}
use Rattle.model_value.specs.View.{plains}
use Rattle.saved_value.specs.Saving.{one_has_ref}
use Rattle.saved_value.proofs.refs.+holds_ref.Given as goal

abbrev pub invariant-one_holds_ref-loop-item : goal.invariant-one_holds_ref-loop-item
invariant-one_holds_ref-loop-item l = one_has_ref (plains (drop l.item-index l.items)) ≡ one_has_ref (plains l.items)
