use Rattle.std.proofs.Common.{◌∙◌, ap, subst, sym}
use Rattle.std.specs.List.{AllByRecursion}
use Rattle.replica_plain.specs.Taking.{IsTimely}
use Rattle.join_sync.specs.Batches.{most_pulled, next_frames}
use Rattle.system_core.proofs.TimelyFrames.{pulled_timely}
use Rattle.system_core.proofs.connection.Connection.send.Goals as goal

pub put_down-requires : goal.put_down-requires
put_down-requires c =
    let replied = ap (λ outcome. next_frames c.args.cursor outcome.reply) c.in_ok-reply.ensures.ok in
    subst (AllByRecursion IsTimely) (sym (c.into_vec.ensures ∙ c.in_ok-frames.ensures.frames ∙ replied))
    (pulled_timely c.args.session.now.plain c.args.cursor c.after.result most_pulled c.requires.sound)
