use Rattle.std.proofs.Common.{false}
use Rattle.command_outcome.specs.Outcome.{steps_of}
use Rattle.command_host.specs.HostedSteps.{posts_text}
use Rattle.command_posts.specs.PostsEnded.{posts_fault}
use Rattle.croquet.proofs.ReflectorRuns.{ran_cut, ran_told}
use Rattle.croquet.proofs.Runs.{ran_wanting}
use Rattle.croquet.proofs.hosting.give_posts_text.Goals as goal

pub returns-in_default : goal.returns-in_default
returns-in_default g c = ran_wanting _ _ _ c.args.files.now c.args.out.now c.tell_want_of_memory.new.out c.tell_want_of_memory.result c.tell_want_of_memory.ensures

pub returns-in-Ok-give : goal.returns-in-Ok-give
returns-in-Ok-give g c =
    let hosted = c.args.hosted.now in
    ran_told _ _ (posts_text c.args.listed hosted.ids hosted.posts hosted.sessions) false (posts_fault hosted.posts) (steps_of c.in-Ok.outcome.files c.in-Ok.outcome.text) c.in-Ok.ensures
    c.args.files.now c.give.new.files c.args.out.now c.give.new.out c.tell_end.new.out c.tell_end.result c.in-Ok-give.ensures (rw (c.posts_fault.ensures, c.as_slice.ensures) at c.tell_end.ensures)

pub returns : goal.returns
returns g c =
    let hosted = c.args.hosted.now in
    ran_cut _ _ (posts_text c.args.listed hosted.ids hosted.posts hosted.sessions) false (posts_fault hosted.posts) (steps_of c.in-Ok.outcome.files c.in-Ok.outcome.text) c.in-Ok.ensures
    c.args.files.now c.give.new.files c.args.out.now c.give.new.out c.in-Err.status c.in-Err.ensures
