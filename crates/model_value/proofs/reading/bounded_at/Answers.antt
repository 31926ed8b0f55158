use Rattle.std.proofs.Common.{refl, arith}
use Rattle.model_value.specs.Plain.{InBounds, most_weight, most_depth, weight}
use Rattle.model_value.specs.Reading.{value_at}
use Rattle.model_value.specs.View.{plain}
use Rattle.model_value.proofs.ValueCodec.{value_codec, is_in_bounds-InBounds}
use Rattle.model_value.proofs.Weighing.{weighed-parts}
use Rattle.model_value.proofs.reading.bounded_at.Goals as goal

pub returns : goal.returns
returns c =
    let v = plain c.in_ok-value.value in
    let parts = weighed-parts weight most_weight c.in_ok-value._left (value_at most_depth c.args.bytes.now) v c.in_ok-value.rest.now c.in_ok-value.ensures in
    let nests = (value_codec most_depth).takes c.args.bytes.now v c.in_ok-value.rest.now (λ i. omega (arith, c.type_inv.bytes i)) parts.0 in
    let fits : InBounds v = (omega (arith, parts.1), nests.1.0) in
    rw (parts.0, is_in_bounds-InBounds v fits) refl
