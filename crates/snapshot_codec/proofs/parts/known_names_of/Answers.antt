use Rattle.std.proofs.lemmas.Result.{err_from_is_err_and}
use Rattle.byte_fields.proofs.Loops.{goes_on, ends, is_done}
use Rattle.snapshot_codec.specs.Reading.{known_at}
use Rattle.snapshot_codec.proofs.parts.known_names_of.Goals as goal

pub returns-in_err-name : goal.returns-in_err-name
returns-in_err-name c =
    let p = err_from_is_err_and c.from_residual.result c.from_residual.ensures.1 in
    rw (p.1, p.2) (λ bad. ends (λ _. known_at) c.loop.names c.args.count c.loop.counter c.loop.rest.now _ c.loop-test.true (c.in_err-name.ensures bad) c.loop.invariant)

pub loop-preserved : goal.loop-preserved
loop-preserved c = rw c.in_ok-push.ensures.ok (goes_on (λ _. known_at) c.loop.names c.args.count c.loop.counter c.loop.rest.now c.in_ok-name.name c.in_ok-name.after.now _ c.loop-test.true c.in_ok-name.ensures c.loop.invariant)

pub returns : goal.returns
returns c = is_done (λ _. known_at) c.loop.names c.args.count c.loop.counter c.loop.rest.now _ c.loop-test.false c.loop.invariant
