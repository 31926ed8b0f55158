use Rattle.view_shell.proofs.Readiness.{ready_published}
use Rattle.view_shell.proofs.Voting.{if_well}
use Rattle.view_shell.proofs.publishing.publish.Goals as goal

pub returns-clause-ready : goal.returns-clause-ready
returns-clause-ready c = if_well c.put_event.result (ready_published c.args.watcher.now c.put_event.new.watcher c.put_event.ensures.kept c.put_event.ensures.knows c.requires.ready)
