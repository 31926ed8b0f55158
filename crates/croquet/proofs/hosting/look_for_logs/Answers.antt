use Rattle.std.proofs.Common.{◌<◌, length, ap, arith}
use Rattle.std.proofs.lemmas.List.{drop_all}
use Rattle.std.proofs.lemmas.Result.{err_from_is_err_and}
use Rattle.command_host.specs.Hosting.{log_names}
use Rattle.commands.specs.Verdict.{look_steps}
use Rattle.croquet.proofs.Acts.{all_done, look_next, unlooked}
use Rattle.croquet.proofs.hosting.look_for_logs.Goals as goal

pub returns-in_err-look_or_tell : goal.returns-in_err-look_or_tell
returns-in_err-look_or_tell g c =
    let within : c.loop-place.place-index < length c.args.logs.now = omega arith in
    let handed = err_from_is_err_and c.from_residual.result c.from_residual.ensures.1 in
    rw (handed.1, handed.2)
    (unlooked _ _ c.args.logs.now c.loop-place.place-index c.place-item.result within c.place-item.is _ _ _ _ _ c.loop-place.invariant c.look_or_tell.new.files c.look_or_tell.new.out c.in_err-look_or_tell.field-0.0 c.in_err-look_or_tell.ensures.told)

pub loop-place-preserved : goal.loop-place-preserved
loop-place-preserved g c =
    let within : c.loop-place.place-index < length c.args.logs.now = omega arith in
    look_next _ _ c.args.logs.now c.loop-place.place-index c.place-item.result within c.place-item.is _ _ _ _ _ c.loop-place.invariant c.look_or_tell.new.files c.look_or_tell.new.out c.in_ok-look_or_tell.ensures.quiet c.in_ok-look_or_tell.ensures.looked

pub returns : goal.returns
returns g c =
    all_done _ _ _ _ _ _ _ _ (ap (λ places. look_steps (log_names places)) (drop_all _ _ c.loop-place-test.false)) c.loop-place.invariant
