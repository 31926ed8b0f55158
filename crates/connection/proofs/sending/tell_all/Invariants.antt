use Rattle.std.proofs.Common.{drop}
use Rattle.session_lock.specs.Passes.{PassState}
use Rattle.session_lock.specs.Keeping.{SomeShut}
use Rattle.connection.specs.Exchanges.{IsMadeSo}
use Rattle.connection.specs.Phases.{TalkPhase, telling_phase}
use Rattle.connection.specs.Talk.{TalksOn, account, link_account}
use Rattle.connection.proofs.sending.tell_all.Given as goal

-- the frames so far were sent
abbrev pub invariant-loop-frame : goal.invariant-loop-frame
invariant-loop-frame g l =
    (pass : PassState) (next : TalkPhase) → TalksOn (IsMadeSo (g.C.Clock.gives l.service.clock.now) (SomeShut g.K.Keeper.shut)) l.service.id
    (telling_phase l.cursor l.frames next) (telling_phase l.cursor (drop l.frame-index l.frames) next)
    (account pass (link_account g.L.Link l.fn.link)) (account pass (link_account g.L.Link l.link))
