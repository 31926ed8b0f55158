use Rattle.view_shell.proofs.VoteEvents.{voted_event}
use Rattle.std.proofs.Common.{arith}
use Rattle.view_shell.proofs.Readiness.{heard_published}
use Rattle.view_shell.proofs.publishing.vote.Goals as goal

pub returns-clause-votes : goal.returns-clause-votes
returns-clause-votes c = voted_event c.args.watcher.now.replica c.put_event.new.watcher.replica _ _ c.put_event.result c.in_ok-vote.ensures.vote c.put_event.ensures.publishes

pub put_event-requires-clause-short : goal.put_event-requires-clause-short
put_event-requires-clause-short c = let long = c.in_ok-vote.ensures.length in omega (arith, long)

pub returns-clause-heard : goal.returns-clause-heard
returns-clause-heard c = heard_published c.args.watcher.now c.put_event.new.watcher c.put_event.ensures.kept c.put_event.ensures.knows c.requires.heard
