use Rattle.std.proofs.Common.{◌≡◌, ◌++◌, ℕ, List, subst}
use Rattle.tea_base.specs.declared.entry.SessionId.{SessionId}
use Rattle.tea_base.specs.Legal.{IsLegal}
use Rattle.model_solved.specs.Founding.{Founding}
use Rattle.reflector_core.specs.Play.{first_session}
use Rattle.reflector_core.specs.PlainSession.{PlainSession}
use Rattle.session_lock.specs.declared.knowledge.Item.{Item}
use Rattle.session_lock.specs.History.{play_from}
use Rattle.replica.specs.RealWorlds.{worlds}
use Rattle.replica_plain.specs.Following.{IsHonestBase}
use Rattle.replica_plain.specs.Worlds.{AreWorlds}
use Rattle.run_steps.specs.Outside.{LinksTell, links_tell}
use Rattle.view_follows.specs.AnyEnds.{AreRunsOfViews}
use Rattle.view_follows.specs.Sessions.{IsViewOf, ReflectorRun, SessionView, last_session}
use Rattle.view_follows.specs.SessionsReplay.{KeepHonest, ServesViews, last_log}
use Rattle.view_follows.specs.ViewsReplay.{IsServedVisit}
use Rattle.view_follows.proofs.Keeping.{kept_is_honest, view_is_served}
use Rattle.view_follows.proofs.LaterRuns.{each_lasts, last_sound}
use Rattle.view_follows.proofs.Lists.{all_so, each_place}
use Rattle.view_follows.proofs.laws.views_of_any_runs.Goals as goal

module _ {C L : Type 0} (gives : C → ℕ → Type 0) (links : LinksTell L) (founding : Founding) (id : SessionId) (runs : List (ReflectorRun C L)) (views : List (SessionView L)) (laws : AreWorlds (worlds founding id.0))
    (s : AreRunsOfViews gives id links founding runs views) where
  abbrev final : PlainSession
  final = last_session first_session runs

  legal : IsLegal final.log
  legal = (last_sound gives id links runs s.are_runs).legal

  keep : KeepHonest founding id runs views
  keep =
      each_place (λ (run : ReflectorRun C L). (front back : List Item) → front ++ back ≡ run.history → IsHonestBase (worlds founding id.0) (last_log runs) (play_from run.opening front).kept) runs
      (kept_is_honest gives id links founding runs views final laws legal (each_lasts gives id links runs s.are_runs) s.are_runs.follow s.each s.all)

  serves : ServesViews founding id runs views
  serves =
      all_so (IsViewOf founding id.0 runs) (λ (v : SessionView L). IsServedVisit founding id.0 v.view v.address v.lines (last_log runs) v.steps v.last)
      (λ v its. view_is_served gives id links founding runs views final laws legal (each_lasts gives id links runs s.are_runs) s.are_runs.follow s.each s.all v its s.program) views s.each

pub returns : goal.returns
returns g c =
    let links = links_tell g.L.Link in
    let gives = g.C.Clock.gives in
    record {
      honest = λ founding id runs views s. keep gives links founding id runs views (c.worlds_stand.ensures founding id.0 s.program) s;
      served = λ founding id runs views s. serves gives links founding id runs views (c.worlds_stand.ensures founding id.0 s.program) s;
      done = λ founding id runs views s.
          all_so _ _ (λ v visit is. c.views_replay.ensures.done founding id.0 v.view v.address v.lines (last_log runs) v.steps (subst (IsServedVisit founding id.0 v.view v.address v.lines (last_log runs) v.steps) is visit)) views
          (serves gives links founding id runs views (c.worlds_stand.ensures founding id.0 s.program) s);
    }
