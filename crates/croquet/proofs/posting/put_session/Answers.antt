use Rattle.command_reflect.specs.ReflectedSteps.{reflected_put}
use Rattle.commands.specs.Verdict.{Coming, Free, Only, reflected_on_verdict}
use Rattle.croquet.proofs.ReflectorRuns.{ran_put, ran_unput}
use Rattle.croquet.proofs.posting.put_session.Goals as goal

pub returns-in-Ok : goal.returns-in-Ok
returns-in-Ok g c =
    let session = c.args.reflected.now.session.plain in
    let next : Coming = Only (reflected_on_verdict c.args.reflected.now.posts session c.args.unkept) in
    ran_put _ _ (reflected_put c.args.place.name session) (Free next) c.args.files.now c.put_or_tell.new.files c.give_posts_ends.new.files c.args.out.now c.put_or_tell.new.out c.give_posts_ends.new.out c.give_posts_ends.result
    c.in-Ok.ensures.quiet (rw c.reflected_put-put.ensures at c.in-Ok.ensures.put) c.give_posts_ends.ensures

pub returns : goal.returns
returns g c =
    let session = c.args.reflected.now.session.plain in
    let next : Coming = Only (reflected_on_verdict c.args.reflected.now.posts session c.args.unkept) in
    ran_unput _ _ (reflected_put c.args.place.name session) next c.args.files.now c.put_or_tell.new.files c.args.out.now c.put_or_tell.new.out c.in-Err.status (rw c.reflected_put-put.ensures at c.in-Err.ensures.told)
