use Rattle.std.proofs.Common.{◌≡◌, ◌<◌}
use Rattle.tea_io.specs.Links.{most_quiets}
use Rattle.session_lock.specs.History.{play_from}
use Rattle.session_lock.specs.Keeping.{SomeShut}
use Rattle.connection.specs.Exchanges.{IsMadeSo}
use Rattle.connection.specs.Phases.{Ticking}
use Rattle.connection.specs.Standing.{IsStanding}
use Rattle.connection.specs.Talk.{TalksOn, account, link_account}
use Rattle.connection.proofs.turns.converse.Given as goal

-- the turns so far
abbrev pub invariant-loop : goal.invariant-loop
invariant-loop g l = record {
  row : l.quiets < most_quiets;
  session : l.pass.session ≡ l.service.shared.now.session;
  standing : IsStanding (play_from l.pass.opening l.pass.seen) l.cursor;
  kept : l.pass ≡ record l.initial.pass { seen = l.pass.seen };
  talk : TalksOn (IsMadeSo (g.C.Clock.gives l.service.clock.now) (SomeShut g.K.Keeper.shut)) l.service.id (Ticking l.fn.first 0) (Ticking l.cursor l.quiets)
      (account l.initial.pass (link_account g.L.Link l.initial.link)) (account l.pass (link_account g.L.Link l.link));
}
