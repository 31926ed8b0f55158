use Rattle.std.proofs.lemmas.Result.{err_from_is_err_and}
use Rattle.command_host.specs.Hosting.{log_names}
use Rattle.croquet.proofs.PostRuns.{puts_on, puts_short}
use Rattle.croquet.proofs.hosting.put_hosted.Goals as goal

pub returns-in_err-put_sessions : goal.returns-in_err-put_sessions
returns-in_err-put_sessions g c =
    let handed = err_from_is_err_and c.from_residual.result c.from_residual.ensures.1 in
    rw (handed.1, handed.2)
    (puts_short _ _ (log_names c.args.places.logs) c.args.places.prefix c.args.ids.now c.args.sessions.now c.args.files.now c.put_sessions.new.files c.args.out.now c.put_sessions.new.out c.in_err-put_sessions.field-0.0
    (rw (c.from-logs.ensures.0, c.into_vec.ensures) at c.in_err-put_sessions.ensures))

pub returns : goal.returns
returns g c =
    puts_on _ _ c.args.places.logs c.args.places.prefix c.args.ids.now c.args.sessions.now c.args.files.now c.put_sessions.new.files c.put_made.new.files c.args.out.now c.put_sessions.new.out c.put_made.new.out c.len.result c.len.ensures c.put_made.result
    (rw (c.from-logs.ensures.0, c.into_vec.ensures) at c.in_ok-put_sessions.ensures) c.put_made.ensures
