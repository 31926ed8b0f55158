-- What the last run says of all, and runs that ended well among those that ended in any way.
use Rattle.std.proofs.Common.{◌≡◌, inl, ℕ, List, [], ◌∷◌, sym, ap, subst}
use Rattle.std.proofs.lemmas.List.{append-nil}
use Rattle.std.specs.List.{AllByRecursion}
use Rattle.tea_base.specs.declared.entry.SessionId.{SessionId}
use Rattle.tea_base.specs.Legal.{IsLegal}
use Rattle.reflector_core.specs.Growth.{GrowsTo}
use Rattle.reflector_core.specs.PlainSession.{IsSoundSession, PlainSession}
use Rattle.reflector_core.specs.Play.{first_session}
use Rattle.reflector_core.proofs.GrowthLaws.{GrowsTo-same}
use Rattle.session_lock.proofs.Histories.{sound_end}
use Rattle.connection.specs.TalkServed.{IsTalkServed, IsToldWithin}
use Rattle.reflect_server.specs.Connections.{AreServed, AreToldWithin, ServedConnection}
use Rattle.run_steps.specs.Outside.{LinksTell}
use Rattle.model_solved.specs.Founding.{Founding}
use Rattle.view_follows.specs.AnyEnds.{AreRunsOfViews, BeginAndFollow, FollowOn, HasRun, MayLeave, RunsLiveOn}
use Rattle.view_follows.specs.Sessions.{AreViewRuns, IsReflectorRun, ReflectorRun, SessionView, TakeUp, last_session}
use Rattle.view_follows.proofs.LaterRuns.{Lasts, TalksIn, all_talk, begin_on, each_lasts, last_sound, served_still, told_still}
use Rattle.view_follows.proofs.Lists.{all_so}

module _ {C L : Type 0} (gives : C → ℕ → Type 0) (links : LinksTell L) where
  -- ---- the last run

  served_all : (id : SessionId) (final : PlainSession) (legal : IsLegal final.log) (run : ReflectorRun C L) → HasRun gives id links run × Lasts run final → AreServed final.log run.connections
  served_all id final legal run fact =
      all_so (TalksIn gives id links final legal run fact.0 fact.1) (λ (one : ServedConnection L). IsTalkServed final.log one.heard one.sent) (served_still gives id links final legal run fact.0 fact.1) run.connections
      (all_talk gives id links final legal run fact.0 fact.1)

  told_all : (id : SessionId) (final : PlainSession) (legal : IsLegal final.log) (run : ReflectorRun C L) → HasRun gives id links run × Lasts run final → AreToldWithin final.horizon run.connections
  told_all id final legal run fact =
      all_so (TalksIn gives id links final legal run fact.0 fact.1) (λ (one : ServedConnection L). IsToldWithin final.horizon one.sent) (told_still gives id links final legal run fact.0 fact.1) run.connections
      (all_talk gives id links final legal run fact.0 fact.1)

  pub lives_on : RunsLiveOn gives links
  lives_on id runs are =
      let final = last_session first_session runs in
      let legal = (last_sound gives id links runs are).legal in
      let each = each_lasts gives id links runs are in
      record {
        begins = begin_on gives id links runs are;
        legal = legal;
        grows = all_so (λ (run : ReflectorRun C L). HasRun gives id links run × Lasts run final) (λ (run : ReflectorRun C L). GrowsTo run.session final) (λ run fact. fact.1.grows) runs each;
        served = all_so (λ (run : ReflectorRun C L). HasRun gives id links run × Lasts run final) (λ (run : ReflectorRun C L). AreServed final.log run.connections) (served_all id final legal) runs each;
        ticks = all_so (λ (run : ReflectorRun C L). HasRun gives id links run × Lasts run final) (λ (run : ReflectorRun C L). AreToldWithin final.horizon run.connections) (told_all id final legal) runs each;
      }

  -- ---- runs that ended well

  ran_so : (id : SessionId) (run : ReflectorRun C L) → IsReflectorRun gives id links run → HasRun gives id links run
  ran_so id run is = record { did = inl (record { opener = is.opener; talks = is.talks; sound = is.plays.sound }); play = is.plays.play }

  -- it may leave the session that it came to
  leaves_own : (id : SessionId) (run : ReflectorRun C L) (next : PlainSession) → IsReflectorRun gives id links run → next ≡ run.session → MayLeave run next
  leaves_own id run next is same =
      subst (MayLeave run) (sym same)
      (record {
        grows = GrowsTo-same run.session;
        sound = subst IsSoundSession (sym is.plays.play) (sound_end run.opening run.history is.plays.sound);
        kept = inl (record { beginning = run.history; rest = []; whole = append-nil run.history; at = ap (λ (s : PlainSession). s.kept) is.plays.play });
      })

  follow_on : (id : SessionId) (run : ReflectorRun C L) (runs : List (ReflectorRun C L)) → IsReflectorRun gives id links run → AllByRecursion (IsReflectorRun gives id links) runs → TakeUp run.session runs → FollowOn run runs
  follow_on id run [] is are take_up = tt
  follow_on id run (next ∷ runs) is are take_up = (leaves_own id run next.opening is take_up.0, follow_on id next runs are.0 are.1 take_up.1)

  begin_so : (id : SessionId) (runs : List (ReflectorRun C L)) → AllByRecursion (IsReflectorRun gives id links) runs → TakeUp first_session runs → BeginAndFollow runs
  begin_so id [] are take_up = tt
  begin_so id (run ∷ runs) are take_up = (take_up.0, follow_on id run runs are.0 are.1 take_up.1)

  pub runs_so : (founding : Founding) (id : SessionId) (runs : List (ReflectorRun C L)) (views : List (SessionView L)) → AreViewRuns gives id links founding runs views → AreRunsOfViews gives id links founding runs views
  runs_so founding id runs views are = record {
    program = are.program;
    are_runs = record { each_ran = all_so (IsReflectorRun gives id links) (HasRun gives id links) (ran_so id) runs are.reflected; follow = begin_so id runs are.reflected are.take_up };
    each = are.each;
    all = are.all;
  }
