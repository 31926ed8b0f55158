-- The replicas of a drill, at the end of its log.
use Rattle.std.proofs.Common.{◌≡◌, ℕ, zero, suc, ◌+◌, ◌≤◌, ◌<◌, Bool, true, false, List, [], ◌∷◌, length, map, All, refl, sym, ap, ◌∙◌, subst, arith}
use Rattle.std.specs.List.{AllByRecursion, AllZip}
use Rattle.std.proofs.lemmas.List.Elements.{All-from_recursion}
use Rattle.tea_base.specs.Limits.{end_of_time}
use Rattle.model_solved.specs.Founding.{CheckedView, Founding, founding_of}
use Rattle.world.specs.Worlds.{replay}
use Rattle.std.specs.Arc.{arc_value}
use Rattle.reflector_core.specs.PlainSession.{PlainSession}
use Rattle.reflector_core.specs.SessionState.{SessionState}
use Rattle.session_lock.specs.Passes.{PassState, SharedState}
use Rattle.replica.specs.View.{ReplicaView}
use Rattle.run_steps.specs.Limits.{most_drill_views}
use Rattle.drill.specs.declared.finished.Finished.{Finished}
use Rattle.drill.specs.declared.report.DrillReport.{DrillReport}
use Rattle.drill.specs.declared.size.Size.{Size}
use Rattle.drill.specs.declared.trust.TrustReplay.{TrustReplay}
use Rattle.drill.specs.Doing.{HasBase, loss_interval}
use Rattle.drill.specs.Drill.{AreBased, AreReplays, HasDrilled, drill_id}
use Rattle.drill.specs.Drilled.{Drilled}
use Rattle.drill.specs.Drilling.{ComesToEnd, MayRest, numbers_from, rested_of, views_of}
use Rattle.drill.specs.Ending.{HasReplay, root_total}
use Rattle.drill.specs.Program.{IsDrillProgram}
use Rattle.drill.specs.Reports.{Reports}
use Rattle.drill.proofs.Drillings.{HasLeft, IsClosed, all_called, all_drilled, all_left, first_view, rest_views, whole}

module _ (gives : ℕ → Type 0) (size : Size) (shared : SharedState TrustReplay) (s : PlainSession) where
  may_rest_all : (ended : List Finished) → AllByRecursion (HasLeft gives size shared s) ended → AllByRecursion (MayRest s) (map rested_of ended)
  may_rest_all [] left = tt
  may_rest_all (one ∷ rest) left = (record { catches = left.0.done.catches; counted = left.0.done.ends.counted }, may_rest_all rest left.1)

  -- one replica, by the one that has ended
  is_replayed : (one : Finished) (r : ReplicaView) → HasLeft gives size shared s one → ComesToEnd s (rested_of one) r → HasReplay s (founding_of (arc_value shared.trust.program)) shared.id.0 r
  is_replayed one r left comes =
      subst (λ (i : List ℕ). HasReplay s (founding_of (arc_value shared.trust.program)) i r) left.ended.worker.id
      (subst (λ (p : CheckedView). HasReplay s (founding_of p) one.worker.replica.id r) left.ended.worker.program comes.replays)

  -- below the end of time it has taken the Sync of its newest Join
  was_synced : (synced : Bool) → (synced ≡ false → end_of_time ≤ s.horizon) → s.horizon < end_of_time → synced ≡ true
  was_synced true late below = refl
  was_synced false late below = absurd (omega (arith, late refl, below))

  is_based : (one : Finished) (r : ReplicaView) (view : ℕ) → one.worker.view ≡ view → HasLeft gives size shared s one → ComesToEnd s (rested_of one) r → loss_interval ≤ size.events → s.horizon < end_of_time
      → HasBase s view size.events r.plain.base
  is_based one r view is left comes enough below =
      let synced = was_synced one.is_synced left.done.late below in
      let has : HasBase s one.worker.view size.events one.worker.replica.plain.base = left.done.ends.based enough below in
      subst (λ (v : ℕ). HasBase s v size.events r.plain.base) is (subst (HasBase s one.worker.view size.events) (sym (comes.base synced)) has)

  replayed_all : (ended : List Finished) (replicas : List ReplicaView) → AllByRecursion (HasLeft gives size shared s) ended → AllZip (ComesToEnd s) (map rested_of ended) replicas
      → AllByRecursion (HasReplay s (founding_of (arc_value shared.trust.program)) shared.id.0) replicas
  replayed_all [] [] left come = tt
  replayed_all [] (r ∷ rs) left come = absurd come
  replayed_all (one ∷ rest) [] left come = tt
  replayed_all (one ∷ rest) (r ∷ rs) left come = (is_replayed one r left.0 come.0, replayed_all rest rs left.1 come.1)

  are_replays : (ended : List Finished) (replicas : List ReplicaView) (first count : ℕ) → views_of ended ≡ numbers_from first count → AllByRecursion (HasLeft gives size shared s) ended
      → AllZip (ComesToEnd s) (map rested_of ended) replicas → AreReplays s (founding_of (arc_value shared.trust.program)) shared.id.0 first replicas
  are_replays [] [] first count views left come = tt
  are_replays [] (r ∷ rs) first count views left come = absurd come
  are_replays (one ∷ rest) [] first count views left come = tt
  are_replays (one ∷ rest) (r ∷ rs) first zero views left come = absurd (cc (views))
  are_replays (one ∷ rest) (r ∷ rs) first (suc count) views left come =
      let is : one.worker.view ≡ first = first_view one rest first count views in
      (come.0.kept.view ∙ left.0.ended.worker.view ∙ is, is_replayed one r left.0 come.0, are_replays rest rs (first + 1) count (rest_views one rest first count views) left.1 come.1)

  are_based : (ended : List Finished) (replicas : List ReplicaView) (first count : ℕ) → views_of ended ≡ numbers_from first count → AllByRecursion (HasLeft gives size shared s) ended
      → AllZip (ComesToEnd s) (map rested_of ended) replicas → loss_interval ≤ size.events → s.horizon < end_of_time → AreBased s size.events first replicas
  are_based [] [] first count views left come enough below = tt
  are_based [] (r ∷ rs) first count views left come enough below = absurd come
  are_based (one ∷ rest) [] first count views left come enough below = tt
  are_based (one ∷ rest) (r ∷ rs) first zero views left come enough below = absurd (cc (views))
  are_based (one ∷ rest) (r ∷ rs) first (suc count) views left come enough below = (
    is_based one r first (first_view one rest first count views) left.0 come.0 enough below,
    are_based rest rs (first + 1) count (rest_views one rest first count views) left.1 come.1 enough below,
  )

  as_many : (ended : List Finished) (replicas : List ReplicaView) (first count : ℕ) → views_of ended ≡ numbers_from first count → AllZip (ComesToEnd s) (map rested_of ended) replicas → length replicas ≡ count
  as_many [] [] first zero views come = refl
  as_many [] [] first (suc count) views come = absurd (cc (views))
  as_many [] (r ∷ rs) first count views come = absurd come
  as_many (one ∷ rest) [] first count views come = absurd come
  as_many (one ∷ rest) (r ∷ rs) first zero views come = absurd (cc (views))
  as_many (one ∷ rest) (r ∷ rs) first (suc count) views come = omega (arith, as_many rest rs (first + 1) count (rest_views one rest first count views) come.1)

module _ (gives : ℕ → Type 0) (size : Size) (shared : SharedState TrustReplay) (ended : List Finished) (keeper : PassState) (s : PlainSession) (closed : IsClosed gives size shared ended keeper s) where
  left : AllByRecursion (HasLeft gives size shared s) ended
  left = all_left gives size shared ended keeper s closed

  pub may_rest : All (MayRest s) (map rested_of ended)
  may_rest = All-from_recursion (MayRest s) (map rested_of ended) (may_rest_all gives size shared s ended left)

  module _ (replicas : List ReplicaView) (come : AllZip (ComesToEnd s) (map rested_of ended) replicas) where
    pub some_replica : 0 < length replicas
    some_replica = omega (arith, closed.fits.some, as_many gives size shared s ended replicas 1 size.views closed.views come)

    pub few_replicas : length replicas ≤ most_drill_views
    few_replicas = omega (arith, closed.fits.views, as_many gives size shared s ended replicas 1 size.views closed.views come)

    pub all_replayed : All (HasReplay s (founding_of (arc_value shared.trust.program)) shared.id.0) replicas
    all_replayed = All-from_recursion (HasReplay s (founding_of (arc_value shared.trust.program)) shared.id.0) replicas (replayed_all gives size shared s ended replicas left come)

    module _ (program : CheckedView) (id : List ℕ) (session : SessionState) (report : DrillReport) (closes : s ≡ session.plain) (same_program : arc_value shared.trust.program ≡ program)
        (same_id : shared.id.0 ≡ id) (is_program : IsDrillProgram (founding_of program)) (is_id : id ≡ drill_id) (told : Reports session program id replicas report) where
      abbrev founding : Founding
      founding = founding_of (arc_value shared.trust.program)

      as_told : s ≡ report.session.plain
      as_told = closes ∙ ap (λ (t : SessionState). t.plain) (sym told.same_session)

      pub has_drilled : HasDrilled gives size report
      has_drilled =
          let count = as_many gives size shared s ended replicas 1 size.views closed.views come in
          let replays : AreReplays s founding drill_id 1 replicas =
          subst (λ (i : List ℕ). AreReplays s founding i 1 replicas) (same_id ∙ is_id) (are_replays gives size shared s ended replicas 1 size.views closed.views left come) in
          record {
            founding = founding;
            is_program = subst (λ (p : CheckedView). IsDrillProgram (founding_of p)) (sym same_program) is_program;
            session = record {
              history = keeper.seen;
              play = sym as_told ∙ closed.plays;
              sound = closed.sound;
              asked = (whole gives size shared ended keeper s closed).asked;
              calls = all_called gives size shared ended keeper s closed;
            };
            drilled = subst (λ (t : PlainSession). Drilled size.seed size.views size.events t.log t.horizon) as_told (all_drilled gives size shared ended keeper s closed);
            replicas =
                subst (λ (rs : List ReplicaView). AreReplays report.session.plain founding drill_id 1 rs) (sym told.same_replicas)
                (subst (λ (t : PlainSession). AreReplays t founding drill_id 1 replicas) as_told replays);
            number = ap length told.same_replicas ∙ count;
            total =
                told.total
                ∙ ap (λ (t : PlainSession). root_total (replay (founding_of program) id t.log t.horizon).world) (sym closes ∙ as_told)
                ∙ ap (λ (i : List ℕ). root_total (replay (founding_of program) i report.session.plain.log report.session.plain.horizon).world) is_id
                ∙ ap (λ (p : CheckedView). root_total (replay (founding_of p) drill_id report.session.plain.log report.session.plain.horizon).world) (sym same_program);
            agree = told.agree ∙ count;
            based = λ enough below.
                subst (λ (rs : List ReplicaView). AreBased report.session.plain size.events 1 rs) (sym told.same_replicas)
                (subst (λ (t : PlainSession). AreBased t size.events 1 replicas) as_told
                (are_based gives size shared s ended replicas 1 size.views closed.views left come enough (subst (λ (t : PlainSession). t.horizon < end_of_time) (sym as_told) below)));
          }
