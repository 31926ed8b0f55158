use Rattle.std.proofs.Common.{◌≡◌, map, ◌++◌, ◌∷◌, []}
use Rattle.std.proofs.lemmas.Result.{err_from_is_err_and}
use Rattle.std.proofs.lemmas.List.{map_push}
use Rattle.byte_fields.proofs.Loops.{goes_on, ends, is_done}
use Rattle.model_value.specs.Reading.{bounded_at}
use Rattle.model_value.specs.View.{plain}
use Rattle.snapshot_codec.proofs.parts.values_at.Goals as goal

pub returns-in_err-value : goal.returns-in_err-value
returns-in_err-value c =
    let p = err_from_is_err_and c.from_residual.result c.from_residual.ensures.1 in
    rw (p.1, p.2) (λ bad. ends (λ _. bounded_at) (map plain c.loop.values) c.args.count c.loop.counter c.loop.rest.now _ c.loop-test.true (c.in_err-value.ensures bad) c.loop.invariant)

pub loop-preserved : goal.loop-preserved
loop-preserved c =
    let e : map plain c.push.new.self ≡ map plain c.loop.values ++ plain c.in_ok-value.value ∷ [] = rw c.in_ok-push.ensures.ok (map_push _ c.loop.values c.in_ok-value.value) in
    rw e (goes_on (λ _. bounded_at) (map plain c.loop.values) c.args.count c.loop.counter c.loop.rest.now (plain c.in_ok-value.value) c.in_ok-value.after.now _ c.loop-test.true c.in_ok-value.ensures c.loop.invariant)

pub returns : goal.returns
returns c = is_done (λ _. bounded_at) (map plain c.loop.values) c.args.count c.loop.counter c.loop.rest.now _ c.loop-test.false c.loop.invariant
