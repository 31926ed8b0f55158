use Rattle.std.proofs.Common.{◌≡◌, ◌+◌, ◌≤◌, All, List, ℕ, length, vec_len, map, rules, refl, sym, ap, ◌∙◌, subst}
use Rattle.std.specs.Arc.{arc_value}
use Rattle.std.specs.List.{AllZip}
use Rattle.tea_base.specs.declared.entry.SessionId.{SessionId}
use Rattle.model_solved.specs.Founding.{CheckedView, founding_of}
use Rattle.reflector_core.specs.PlainSession.{PlainSession}
use Rattle.session_lock.specs.History.{IsSoundThrough, play_from}
use Rattle.session_lock.specs.Passes.{PassState, SharedState, numbers_held, own_calls}
use Rattle.replica.specs.View.{ReplicaView}
use Rattle.run_steps.specs.Limits.{most_drill_events, most_drill_views}
use Rattle.drill.specs.declared.drilling.Rested.{Rested}
use Rattle.drill.specs.declared.finished.Finished.{Finished}
use Rattle.drill.specs.declared.size.Size.{Size}
use Rattle.drill.specs.declared.trust.TrustReplay.{TrustReplay}
use Rattle.drill.specs.declared.worker.Worker.{Worker}
use Rattle.drill.specs.Drill.{HasDrilled}
use Rattle.drill.specs.Drilling.{ComesToEnd, GathersWorkers, HaveEnded, MayRest, numbers_from, rested_of, views_of_workers}
use Rattle.drill.specs.Ending.{HasReplay}
use Rattle.drill.specs.Program.{IsDrillProgram}
use Rattle.drill.specs.Reports.{Reports}
use Rattle.drill.proofs.Drillings.{IsClosed}
use Rattle.drill.proofs.Making.{all_held}
use Rattle.drill.proofs.Orders.{if_ok_weaker}
use Rattle.drill.proofs.Replicas.{all_replayed, few_replicas, has_drilled, may_rest, some_replica}
use Rattle.drill.proofs.drilling.drill.Goals as goal

-- the workers have ended, and their session is closed
closed_by : (gives : ℕ → Type 0) (size : Size) (shared : SharedState TrustReplay) (workers : List Worker) (ended : List Finished) (keeper : PassState) (s : PlainSession)
    → (1 ≤ size.views) × (size.views ≤ most_drill_views) × (size.events ≤ most_drill_events) → HaveEnded gives size shared workers ended → views_of_workers workers ≡ numbers_from 1 size.views → GathersWorkers shared ended keeper
    → s ≡ play_from keeper.opening keeper.seen → own_calls keeper ≡ keeper.seen → IsSoundThrough keeper.opening keeper.seen → IsClosed gives size shared ended keeper s
closed_by gives size shared workers ended keeper s fits told views gathers plays calls sound = record {
  fits = record { some = fits.0; views = fits.1; events = fits.2 };
  each = told.each;
  views = told.views ∙ views;
  gathers = gathers;
  plays = plays ∙ ap (λ (o : PlainSession). play_from o keeper.seen) gathers.opening;
  calls = calls;
  sound = subst (λ (o : PlainSession). IsSoundThrough o keeper.seen) gathers.opening sound;
}

-- the replicas that rest have come to its end
come_by : (s : PlainSession) (ended : List Finished) (rested : List Rested) (replicas : List ReplicaView) → rested ≡ map rested_of ended → AllZip (ComesToEnd s) rested replicas → AllZip (ComesToEnd s) (map rested_of ended) replicas
come_by s ended rested replicas is come = subst (λ (rs : List Rested). AllZip (ComesToEnd s) rs replicas) is come

pub close-session-requires-clause-whole : goal.close-session-requires-clause-whole
close-session-requires-clause-whole g c =
    let as_long : vec_len c.in_ok-ended.ended ≡ length c.in_ok-ended.ended.items = search rules in
    all_held c.in_ok-prepared.prepared.shared c.args.size.views (numbers_held c.merge_all.new.keeper) c.in_ok-ended.ended.items c.make_workers.new.keeper c.requires.1 c.in_ok-workers.ensures.keeper
    (c.in_ok-ended.ensures.views ∙ c.in_ok-workers.ensures.views) (c.in_ok-rested.ensures.numbers ∙ ap (λ (n : ℕ). numbers_held c.make_workers.new.keeper + n) as_long)

pub catch_up_all-requires : goal.catch_up_all-requires
catch_up_all-requires g c =
    let closed = (closed_by _ _ _ _ _ _ _ c.requires c.in_ok-ended.ensures c.in_ok-workers.ensures.views c.in_ok-rested.ensures.gathered c.close-session.ensures.play c.close-session.ensures.calls c.close-session.ensures.sound) in
    subst (All (MayRest c.close-session.result.plain)) (sym c.in_ok-rested.ensures.rested) (may_rest _ _ _ _ _ _ closed)

pub report-requires-clause-some : goal.report-requires-clause-some
report-requires-clause-some g c =
    let closed = (closed_by _ _ _ _ _ _ _ c.requires c.in_ok-ended.ensures c.in_ok-workers.ensures.views c.in_ok-rested.ensures.gathered c.close-session.ensures.play c.close-session.ensures.calls c.close-session.ensures.sound) in
    some_replica _ _ _ _ _ _ closed c.in_ok-replicas.replicas (come_by _ _ _ _ c.in_ok-rested.ensures.rested c.in_ok-replicas.ensures)

pub report-requires-clause-few : goal.report-requires-clause-few
report-requires-clause-few g c =
    let closed = (closed_by _ _ _ _ _ _ _ c.requires c.in_ok-ended.ensures c.in_ok-workers.ensures.views c.in_ok-rested.ensures.gathered c.close-session.ensures.play c.close-session.ensures.calls c.close-session.ensures.sound) in
    few_replicas _ _ _ _ _ _ closed c.in_ok-replicas.replicas (come_by _ _ _ _ c.in_ok-rested.ensures.rested c.in_ok-replicas.ensures)

pub report-requires-clause-ended : goal.report-requires-clause-ended
report-requires-clause-ended g c =
    let closed = (closed_by _ _ _ _ _ _ _ c.requires c.in_ok-ended.ensures c.in_ok-workers.ensures.views c.in_ok-rested.ensures.gathered c.close-session.ensures.play c.close-session.ensures.calls c.close-session.ensures.sound) in
    let prepared = c.in_ok-prepared.prepared in
    let s = c.close-session.result.plain in
    let told = c.in_ok-prepared.ensures.prepared in
    let program_is : arc_value prepared.shared.trust.program ≡ c.deref.result.now = told.trusts ∙ sym c.deref.ensures in
    let id_is : prepared.shared.id.0 ≡ prepared.id.0 = ap (λ (i : SessionId). i.0) told.same_id in
    subst (λ (i : List ℕ). All (HasReplay s (founding_of c.deref.result.now) i) c.in_ok-replicas.replicas) id_is
    (subst (λ (p : CheckedView). All (HasReplay s (founding_of p) prepared.shared.id.0) c.in_ok-replicas.replicas) program_is
    (all_replayed _ _ _ _ _ _ closed c.in_ok-replicas.replicas (come_by _ _ _ _ c.in_ok-rested.ensures.rested c.in_ok-replicas.ensures)))

pub returns : goal.returns
returns g c =
    let closed = (closed_by _ _ _ _ _ _ _ c.requires c.in_ok-ended.ensures c.in_ok-workers.ensures.views c.in_ok-rested.ensures.gathered c.close-session.ensures.play c.close-session.ensures.calls c.close-session.ensures.sound) in
    let prepared = c.in_ok-prepared.prepared in
    let told = c.in_ok-prepared.ensures.prepared in
    let program_is : arc_value prepared.shared.trust.program ≡ c.deref.result.now = told.trusts ∙ sym c.deref.ensures in
    let id_is : prepared.shared.id.0 ≡ prepared.id.0 = ap (λ (i : SessionId). i.0) told.same_id in
    let is_program : IsDrillProgram (founding_of c.deref.result.now) = subst (λ (p : CheckedView). IsDrillProgram (founding_of p)) (sym c.deref.ensures) told.tree in
    if_ok_weaker (Reports c.close-session.result c.deref.result.now prepared.id.0 c.in_ok-replicas.replicas) (HasDrilled (g.C.Clock.gives c.args.clock.now) c.args.size) c.report.result
    (λ report reports.
    has_drilled _ _ _ _ _ _ closed c.in_ok-replicas.replicas (come_by _ _ _ _ c.in_ok-rested.ensures.rested c.in_ok-replicas.ensures) c.deref.result.now prepared.id.0 c.close-session.result report refl program_is id_is is_program told.spelled reports)
    c.report.ensures
