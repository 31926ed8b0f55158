use Rattle.session_lock.specs.Passes.{PassState}
use Rattle.session_lock.specs.Keeping.{SomeShut}
use Rattle.connection.specs.Exchanges.{IsMadeSo}
use Rattle.connection.specs.Phases.{Opening, opening_row}
use Rattle.connection.specs.Talk.{TalksOn, account, link_account}
use Rattle.connection.proofs.opening.first_frame.Given as goal

-- so many Quiets came
abbrev pub invariant-loop-quiets : goal.invariant-loop-quiets
invariant-loop-quiets g l =
    (pass : PassState) → TalksOn (IsMadeSo (g.C.Clock.gives l.service.clock.now) (SomeShut g.K.Keeper.shut)) l.service.id (Opening 0) (opening_row l._quiets)
    (account pass (link_account g.L.Link l.initial.link)) (account pass (link_account g.L.Link l.link))
