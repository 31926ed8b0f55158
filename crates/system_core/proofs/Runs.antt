-- What is so behind the steps of a schedule.
use Rattle.std.proofs.Common.{ℕ, ◌≡◌, false, List, [], ◌∷◌, ◌++◌, Some, zero, suc, take, slice_get, refl, sym, ap, ◌∙◌, subst}
use Rattle.tea_base.specs.declared.entry.Entry.{Entry}
use Rattle.tea_base.specs.Legal.{IsLegal}
use Rattle.model_solved.specs.Founding.{CheckedView, founding_of}
use Rattle.world.specs.Worlds.{replay}
use Rattle.replica_plain.specs.Worlds.{AreWorlds, replay_world}
use Rattle.replica_plain.specs.Following.{IsHonestBase}
use Rattle.replica.specs.RealWorlds.{worlds}
use Rattle.system_plain.specs.System.{first_system}
use Rattle.system_plain.specs.Steps.{SystemStep, after_step}
use Rattle.system_plain.specs.Schedule.{HasEventsOnce, IsSchedule, SpellsWorld, after_schedule, published_in}
use Rattle.system_plain.proofs.Promises.{acknowledged_after, events_after, follows_after, honest_after, replays_after, snapshots_after, sound_after}
use Rattle.system_plain.proofs.Schedules.{run_schedule-push}
use Rattle.system_plain.proofs.WholeSchedules.{schedule_agrees, schedule_expected, schedule_grows}
use Rattle.system_core.specs.Promises.{AreAcknowledged, EqualSnapshots, HaveNoSurprise, ReplicasFollow}
use Rattle.system_core.specs.Systems.{IsStep, SystemView, after_steps, first_view, system_worlds}

-- ---- a run

-- the system is what these steps make of the first one, and they are a schedule
pub record HasRun (classes : CheckedView) (name : List ℕ) (steps : List SystemStep) (s : SystemView) : Type 0 where
  pub fold : s ≡ after_steps (first_view classes name) steps
  pub schedule : IsSchedule (worlds (founding_of classes) name) steps

pub has-run-none : (classes : CheckedView) (name : List ℕ) → AreWorlds (worlds (founding_of classes) name) → HasRun classes name [] (first_view classes name)
has-run-none classes name stand = record { fold = refl; schedule = record { worlds = stand; typed = tt; spelled = tt } }

pub has-run-next : (classes : CheckedView) (name : List ℕ) (steps : List SystemStep) (step : SystemStep) (s new : SystemView) → HasRun classes name steps s
    → IsStep s new step → HasRun classes name (steps ++ step ∷ []) new
has-run-next classes name steps step s new run is =
    let m = worlds (founding_of classes) name in
    record {
      fold =
          is.plain ∙ ap (λ (old : SystemView). let x : SystemView = record old { plain = after_step (system_worlds old) old.plain step } in x) run.fold
          ∙ ap (λ plain. let x : SystemView = record { program = classes; id = name; plain = plain; spoilt = false } in x) (sym (run_schedule-push m first_system steps step));
      schedule = schedule_grows m steps step run.schedule is.typed (subst (λ (old : SystemView). SpellsWorld (system_worlds old) old.plain step) run.fold is.spelled);
    }

pub not-spoilt : (classes : CheckedView) (name : List ℕ) (steps : List SystemStep) (s : SystemView) → HasRun classes name steps s → s.spoilt ≡ false
not-spoilt classes name steps s run = ap (λ (x : SystemView). x.spoilt) run.fold

-- ---- the promises

-- what is promised of a system behind these steps
pub record Keeps (steps : List SystemStep) (s : SystemView) : Type 0 where
  pub legal : IsLegal s.plain.session.log
  pub follow : ReplicasFollow s
  pub equal : EqualSnapshots s
  pub honest : IsHonestBase (system_worlds s) s.plain.session.log s.plain.session.kept
  pub events : HasEventsOnce s.plain.session.log (published_in (system_worlds s) steps)
  pub acknowledged : AreAcknowledged s
  pub calm : HaveNoSurprise (system_worlds s) steps

keeps-first : (classes : CheckedView) (name : List ℕ) (steps : List SystemStep) → IsSchedule (worlds (founding_of classes) name) steps
    → ((log : List Entry) (t : ℕ) → (replay (founding_of classes) name log t).world ≡ replay_world (worlds (founding_of classes) name) log t)
    → Keeps steps (after_steps (first_view classes name) steps)
keeps-first classes name steps is replays =
    let m = worlds (founding_of classes) name in
    record {
      legal = (sound_after m steps is).legal;
      follow = record {
        follow = λ view client found. follows_after m steps view client is found;
        replay = λ view client found rests. replays_after m steps view client is found rests ∙ sym (replays (after_schedule m steps).session.log client.replica.world.time);
      };
      equal = λ view other one two found other_found rests other_rests same. snapshots_after m steps view other one two is found other_found rests other_rests same;
      honest = honest_after m steps is;
      events = events_after m steps is;
      acknowledged = λ view client found. acknowledged_after m steps view client is found;
      calm = record { faults = schedule_expected m steps is; replies = schedule_agrees m steps is };
    }

pub keeps-all : (classes : CheckedView) (name : List ℕ) (steps : List SystemStep) (s : SystemView) → HasRun classes name steps s
    → ((log : List Entry) (t : ℕ) → (replay (founding_of classes) name log t).world ≡ replay_world (worlds (founding_of classes) name) log t)
    → Keeps steps s
keeps-all classes name steps s run replays = subst (Keeps steps) (sym run.fold) (keeps-first classes name steps run.schedule replays)

-- ---- lists

pub take-next : {A : Type 0} (xs : List A) (k : ℕ) (x : A) → slice_get xs k ≡ Some x → take (suc k) xs ≡ take k xs ++ x ∷ []
take-next [] k x at = absurd cc
take-next (y ∷ ys) zero x at = let same : y ≡ x = cc in ap (λ z. z ∷ []) same
take-next (y ∷ ys) (suc k) x at = ap (λ zs. y ∷ zs) (take-next ys k x at)
