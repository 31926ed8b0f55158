use Rattle.std.proofs.Common.{sym}
use Rattle.std.proofs.lemmas.Result.{err_from_is_err_and}
use Rattle.std.specs.Int.{w32}
use Rattle.byte_fields.specs.Fields.{number_at}
use Rattle.byte_fields.proofs.Loops.{goes_on, ends, is_done}
use Rattle.snapshot_codec.proofs.parts.views_of.Goals as goal

pub returns-in_err-view : goal.returns-in_err-view
returns-in_err-view c =
    let none = sym (rw c.in_err-view.ensures.ok_part at c.u32_at.ensures) in
    let fault = err_from_is_err_and c.from_residual.result c.from_residual.ensures.1 in
    rw fault.1 (λ _. ends (λ _. number_at w32) c.loop.views c.args.count c.loop.counter c.loop.rest.now _ c.loop-test.true none c.loop.invariant)

pub loop-preserved : goal.loop-preserved
loop-preserved c =
    let some = sym (rw c.in_ok-view.ensures.ok_part at c.u32_at.ensures) in
    rw c.in_ok-push.ensures.ok (goes_on (λ _. number_at w32) c.loop.views c.args.count c.loop.counter c.loop.rest.now c.in_ok-view.view c.in_ok-view.after.now _ c.loop-test.true some c.loop.invariant)

pub returns : goal.returns
returns c = is_done (λ _. number_at w32) c.loop.views c.args.count c.loop.counter c.loop.rest.now _ c.loop-test.false c.loop.invariant
