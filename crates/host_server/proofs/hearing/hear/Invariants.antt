use Rattle.connection.specs.Talk.{link_account}
use Rattle.host_server.specs.Hearing.{IsQuiet}
use Rattle.host_server.proofs.hearing.hear.Given as goal

abbrev pub invariant-loop-quiets : goal.invariant-loop-quiets
invariant-loop-quiets g l = IsQuiet l._quiets (link_account g.L.Link l.initial.link) (link_account g.L.Link l.link)
