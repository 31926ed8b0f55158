use Rattle.std.proofs.Common.{◌≡◌, ◌<◌, [], drop, length, arith}
use Rattle.std.proofs.lemmas.List.{drop_all}
use Rattle.std.proofs.lemmas.Result.{err_from_is_err_and}
use Rattle.croquet.proofs.Acts.{put_next, unput, printed_well, printed_failed, printed_wanting}
use Rattle.croquet.proofs.giving.give.Goals as goal

pub returns-in_err-put_or_tell : goal.returns-in_err-put_or_tell
returns-in_err-put_or_tell g c =
    let within : c.loop-put.put-index < length c.as_slice-put-items.result.now = omega arith in
    let handed = err_from_is_err_and c.from_residual.result c.from_residual.ensures.1 in
    rw (handed.1, handed.2)
    (rw (← c.as_slice-put-items.ensures)
    (unput _ _ c.as_slice-put-items.result.now c.args.outcome.now.text c.loop-put.put-index c.put-item.result within c.put-item.is _ _ _ _ _ c.loop-put.invariant c.put_or_tell.new.files c.put_or_tell.new.out c.in_err-put_or_tell.field-0.0
    c.in_err-put_or_tell.ensures.told))

pub loop-put-preserved : goal.loop-put-preserved
loop-put-preserved g c =
    let within : c.loop-put.put-index < length c.as_slice-put-items.result.now = omega arith in
    put_next _ _ c.as_slice-put-items.result.now c.args.outcome.now.text c.loop-put.put-index c.put-item.result within c.put-item.is _ _ _ _ _ c.loop-put.invariant c.put_or_tell.new.files c.put_or_tell.new.out
    c.in_ok-put_or_tell.ensures.quiet c.in_ok-put_or_tell.ensures.put

pub returns-in-Ok : goal.returns-in-Ok
returns-in-Ok g c =
    let done : drop c.loop-put.put-index c.as_slice-put-items.result.now ≡ [] = drop_all _ _ c.loop-put-test.false in
    rw (← c.as_slice-put-items.ensures)
    (printed_well _ _ _ c.args.outcome.now.text done _ _ _ _ _ c.loop-put.invariant c.print_text.new.out (rw c.bytes.ensures at c.in-Ok.ensures))

pub returns-in-Err-Failed : goal.returns-in-Err-Failed
returns-in-Err-Failed g c =
    let done : drop c.loop-put.put-index c.as_slice-put-items.result.now ≡ [] = drop_all _ _ c.loop-put-test.false in
    rw (← c.as_slice-put-items.ensures)
    (printed_failed _ _ _ c.args.outcome.now.text done _ _ _ _ _ c.loop-put.invariant c.print_text.new.out
    (rw (c.in-Err-Failed.field-0-is, c.bytes.ensures) at c.in-Err-Failed.ensures))

pub returns-in-Err-WantOfMemory : goal.returns-in-Err-WantOfMemory
returns-in-Err-WantOfMemory g c =
    let done : drop c.loop-put.put-index c.as_slice-put-items.result.now ≡ [] = drop_all _ _ c.loop-put-test.false in
    rw (← c.as_slice-put-items.ensures)
    (printed_wanting _ _ _ c.args.outcome.now.text done _ _ _ _ _ c.loop-put.invariant c.print_text.new.out
    c.tell_want_of_memory.new.out c.tell_want_of_memory.result
    (rw (c.in-Err-WantOfMemory.field-0-is, c.bytes.ensures) at c.in-Err-WantOfMemory.ensures)
    c.tell_want_of_memory.ensures)
