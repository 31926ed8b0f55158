use Rattle.std.proofs.Common.{◌<◌, drop, length, ◌∙◌, arith}
use Rattle.std.proofs.lemmas.List.{drop_all}
use Rattle.std.proofs.lemmas.Result.{err_from_is_err_and}
use Rattle.command_host.specs.Hosting.{log_names}
use Rattle.croquet.proofs.Acts.{all_done, no_places, no_sessions, none_left, session_next, session_unput}
use Rattle.croquet.proofs.hosting.put_sessions.Goals as goal

pub returns-in_default : goal.returns-in_default
returns-in_default g c =
    all_done _ _ _ _ _ _ _ _ (no_places c.loop-session.logs.items (drop c.loop-session.session-index c.args.sessions.now) (none_left c.loop-session.logs.items (c.in_default.ensures.items ∙ c.pop_front.ensures.rest))) c.loop-session.invariant

pub returns-in_err-put_or_tell : goal.returns-in_err-put_or_tell
returns-in_err-put_or_tell g c =
    let within : c.loop-session.session-index < length c.args.sessions.now = omega arith in
    let handed = err_from_is_err_and c.from_residual.result c.from_residual.ensures.1 in
    rw (handed.1, handed.2)
    (session_unput _ _ c.loop-session.logs.items c.pop_front.new.self.items c.in-Some.place c.in-Some.ensures.items c.args.sessions.now c.loop-session.session-index c.session-item.result within c.session-item.is c.reflected_put-put.result c.reflected_put-put.ensures
    _ _ _ _ _ c.loop-session.invariant c.put_or_tell.new.files c.put_or_tell.new.out c.in_err-put_or_tell.field-0.0 c.in_err-put_or_tell.ensures.told)

pub loop-session-preserved : goal.loop-session-preserved
loop-session-preserved g c =
    let within : c.loop-session.session-index < length c.args.sessions.now = omega arith in
    session_next _ _ c.loop-session.logs.items c.pop_front.new.self.items c.in-Some.place c.in-Some.ensures.items c.args.sessions.now c.loop-session.session-index c.session-item.result within c.session-item.is c.reflected_put-put.result c.reflected_put-put.ensures
    _ _ _ _ _ c.loop-session.invariant c.put_or_tell.new.files c.put_or_tell.new.out c.in_ok-put_or_tell.ensures.quiet c.in_ok-put_or_tell.ensures.put

pub returns : goal.returns
returns g c =
    all_done _ _ _ _ _ _ _ _ (no_sessions (log_names c.loop-session.logs.items) (drop c.loop-session.session-index c.args.sessions.now) (drop_all _ _ c.loop-session-test.false)) c.loop-session.invariant
