use Rattle.std.proofs.Common.{ℕ, length}
use Rattle.command_host.specs.Hosting.{log_names}
use Rattle.commands.specs.Verdict.{hosted_verdict}
use Rattle.croquet.proofs.PostRuns.{ran_after_puts}
use Rattle.croquet.proofs.hosting.give_hosted.Goals as goal

pub returns-in-Ok : goal.returns-in-Ok
returns-in-Ok g c =
    let hosted = c.args.hosted.now in
    ran_after_puts _ _ c.args.places.logs c.args.places.prefix hosted.ids hosted.sessions c.args.files.now c.put_hosted.new.files c.give_text.new.files c.args.out.now c.put_hosted.new.out c.give_text.new.out c.len-listed.result c.len-listed.ensures
    (λ (listed : ℕ). hosted_verdict listed hosted.ids hosted.ends hosted.sessions hosted.stopped) c.give_text.result (rw (c.as_slice-ids.ensures, c.as_slice-sessions.ensures) at c.in-Ok.ensures) c.give_text.ensures

pub returns-in-Err : goal.returns-in-Err
returns-in-Err g c =
    let hosted = c.args.hosted.now in
    (rw (c.as_slice-ids.ensures, c.as_slice-sessions.ensures) at c.in-Err.ensures) (hosted_verdict (length (log_names c.args.places.logs)) hosted.ids hosted.ends hosted.sessions hosted.stopped)
