-- That the session of each run goes on in those behind it, whatever ended the run.
use Rattle.std.proofs.Common.{◌≡◌, ◌⊎◌, inl, inr, ℕ, zero, suc, true, ◌^◌, ◌<◌, List, [], ◌∷◌, Some, slice_get, refl, sym, ap, subst, ◌∙◌, arith}
use Rattle.std.proofs.lemmas.Option.{none-some, same_Some}
use Rattle.std.specs.List.{AllByRecursion}
use Rattle.tea_base.specs.Legal.{IsLegal}
use Rattle.tea_base.specs.Readings.{is_here}
use Rattle.tea_base.specs.declared.entry.SessionId.{SessionId}
use Rattle.wire_frames.proofs.Times.{MayFollow-at}
use Rattle.reflector_core.specs.Answer.{leave}
use Rattle.reflector_core.specs.Growth.{GrowsTo}
use Rattle.reflector_core.specs.PlainSession.{IsSoundSession, PlainSession}
use Rattle.reflector_core.specs.Play.{first_session}
use Rattle.reflector_core.specs.declared.request.Request.TheVariants.{Leave}
use Rattle.reflector_core.proofs.GrowthLaws.{GrowsTo-same, GrowsTo-then}
use Rattle.reflector_core.proofs.NextHereLaws.{named}
use Rattle.reflector_core.proofs.SessionLaws.{exit_is_sound}
use Rattle.reflector_core.proofs.SoundLaws.{IsSoundSession-first}
use Rattle.session_lock.specs.declared.knowledge.Item.{Item}
use Rattle.session_lock.specs.declared.knowledge.Item.TheVariants.{Did, Void, Unkept}
use Rattle.session_lock.specs.History.{IsSoundThrough, after_item}
use Rattle.session_lock.proofs.Histories.{history_grows, sound_end}
use Rattle.system_plain.proofs.Sessions.{Grows, Grows-legal}
use Rattle.connection.specs.TalkServed.{IsTalkServed, IsToldWithin}
use Rattle.connection.proofs.TalkLines.{talk_served, talk_told}
use Rattle.reflect_server.specs.Connections.{HasTalk, ServedConnection}
use Rattle.reflect_server.specs.Opening.{gives_later}
use Rattle.run_steps.specs.Outside.{LinksTell}
use Rattle.view_follows.specs.AnyEnds.{AreRuns, BeginAndFollow, BeginOn, FollowOn, HasRun, IsLeaveOrMiss, MayLeave}
use Rattle.view_follows.specs.Sessions.{ReflectorRun, last_session}
use Rattle.view_follows.proofs.ServesOn.{talk_on, told_on}

-- ---- opening Leaves

bounded : (s : PlainSession) (view : ℕ) → IsSoundSession s → is_here s.log view ≡ true → view < 2 ^ 32
bounded s view sound here =
    let n = named s.log view here in
    subst (λ (v : ℕ). v < 2 ^ 32) n.is (MayFollow-at s.log n.place n.entry sound.legal n.at).view_bound

leave_sound : (s : PlainSession) (view joined now : ℕ) → IsSoundSession s → IsSoundSession (leave s view joined now).session
leave_sound s view joined now sound =
    let exit : is_here s.log view ≡ true → IsSoundSession _ = λ here. exit_is_sound s now view sound (bounded s view sound here) here in
    grind arith

item_sound : (s : PlainSession) (item : Item) → IsSoundSession s → IsLeaveOrMiss item → IsSoundSession (after_item s item)
item_sound s (Did who (Leave view joined now)) sound is = leave_sound s view joined now sound
item_sound s (Void who) sound is = sound
item_sound s (Unkept who) sound is = sound
item_sound s (Did who other) sound is = absurd is

leaves_sound : (s : PlainSession) (items : List Item) → IsSoundSession s → AllByRecursion IsLeaveOrMiss items → IsSoundThrough s items
leaves_sound s [] sound are = sound
leaves_sound s (item ∷ items) sound are = (sound, leaves_sound (after_item s item) items (item_sound s item sound are.0) are.1)

-- ---- runs

-- the run was sound at each place, and the last session goes on from the one that it came to
pub record Lasts {C L : Type 0} (run : ReflectorRun C L) (final : PlainSession) : Type 0 where
  pub sound : IsSoundThrough run.opening run.history
  pub left : IsSoundSession run.session
  pub grows : GrowsTo run.session final

module _ {C L : Type 0} (gives : C → ℕ → Type 0) (id : SessionId) (links : LinksTell L) where
  abbrev Ran : ReflectorRun C L → Type 0
  Ran = HasRun gives id links

  run_sound : (run : ReflectorRun C L) → Ran run → IsSoundSession run.opening → IsSoundThrough run.opening run.history
  run_sound run is sound = elim is.did [
    | inl talked ↦ talked.sound
    | inr left ↦ leaves_sound run.opening run.history sound left.leaves
  ]

  left_sound : (run : ReflectorRun C L) → Ran run → IsSoundSession run.opening → IsSoundSession run.session
  left_sound run is sound = subst IsSoundSession (sym is.play) (sound_end run.opening run.history (run_sound run is sound))

  run_grows : (run : ReflectorRun C L) → Ran run → GrowsTo run.opening run.session
  run_grows run is = subst (GrowsTo run.opening) (sym is.play) (history_grows run.opening [] run.history)

  -- the last session is sound, and goes on from that of the first run
  last_after : (run : ReflectorRun C L) (runs : List (ReflectorRun C L)) → Ran run → IsSoundSession run.opening → AllByRecursion Ran runs → FollowOn run runs
      → IsSoundSession (last_session run.session runs) × GrowsTo run.session (last_session run.session runs)
  last_after run [] is sound are follow = (left_sound run is sound, GrowsTo-same run.session)
  last_after run (next ∷ runs) is sound are follow =
      let rest = last_after next runs are.0 follow.0.sound are.1 follow.1 in
      (rest.0, GrowsTo-then run.session next.session (last_session next.session runs) (GrowsTo-then run.session next.opening next.session follow.0.grows (run_grows next are.0)) rest.1)

  lasts : (run : ReflectorRun C L) (runs : List (ReflectorRun C L)) → Ran run → IsSoundSession run.opening → AllByRecursion Ran runs → FollowOn run runs → Lasts run (last_session run.session runs)
  lasts run runs is sound are follow = record { sound = run_sound run is sound; left = left_sound run is sound; grows = (last_after run runs is sound are follow).1 }

  each_after : (run : ReflectorRun C L) (runs : List (ReflectorRun C L)) → Ran run → IsSoundSession run.opening → AllByRecursion Ran runs → FollowOn run runs
      → AllByRecursion (λ (r : ReflectorRun C L). Ran r × Lasts r (last_session run.session runs)) (run ∷ runs)
  each_after run [] is sound are follow = ((is, lasts run [] is sound are follow), tt)
  each_after run (next ∷ runs) is sound are follow = ((is, lasts run (next ∷ runs) is sound are follow), each_after next runs are.0 follow.0.sound are.1 follow.1)

  first_sound : (run : ReflectorRun C L) → run.opening ≡ first_session → IsSoundSession run.opening
  first_sound run is = subst IsSoundSession (sym is) IsSoundSession-first

  pub each_lasts : (runs : List (ReflectorRun C L)) → AreRuns gives id links runs → AllByRecursion (λ (run : ReflectorRun C L). Ran run × Lasts run (last_session first_session runs)) runs
  each_lasts [] are = tt
  each_lasts (run ∷ runs) are = each_after run runs are.each_ran.0 (first_sound run are.follow.0) are.each_ran.1 are.follow.1

  -- ---- sessions that go on

  through : (s : PlainSession) (run : ReflectorRun C L) (runs : List (ReflectorRun C L)) → GrowsTo s run.session → AllByRecursion Ran runs → FollowOn run runs → AllByRecursion (λ (later : ReflectorRun C L). GrowsTo s later.opening) runs
  through s run [] grows are follow = tt
  through s run (next ∷ runs) grows are follow =
      let here = GrowsTo-then s run.session next.opening grows follow.0.grows in
      (here, through s next runs (GrowsTo-then s next.opening next.session here (run_grows next are.0)) are.1 follow.1)

  begin_after : (run : ReflectorRun C L) (runs : List (ReflectorRun C L)) → AllByRecursion Ran runs → FollowOn run runs → BeginOn (run ∷ runs)
  begin_after run [] are follow = (tt, tt)
  begin_after run (next ∷ runs) are follow = (through run.session run (next ∷ runs) (GrowsTo-same run.session) are follow, begin_after next runs are.1 follow.1)

  pub begin_on : (runs : List (ReflectorRun C L)) → AreRuns gives id links runs → BeginOn runs
  begin_on [] are = tt
  begin_on (run ∷ runs) are = begin_after run runs are.each_ran.1 are.follow.1

  -- the last session is sound
  pub last_sound : (runs : List (ReflectorRun C L)) → AreRuns gives id links runs → IsSoundSession (last_session first_session runs)
  last_sound [] are = IsSoundSession-first
  last_sound (run ∷ runs) are = (last_after run runs are.each_ran.0 (first_sound run are.follow.0) are.each_ran.1 are.follow.1).0

-- ---- where a run begins

-- a run of a lower number, which left the session that this one began with
pub record BeginsFrom {C L : Type 0} (runs : List (ReflectorRun C L)) (number : ℕ) (run : ReflectorRun C L) : Type 0 where
  pub place : ℕ
  pub before : ReflectorRun C L
  pub earlier : place < number
  pub at : slice_get runs place ≡ Some before
  pub left : MayLeave before run.opening

module _ {C L : Type 0} where
  follows : (first : ReflectorRun C L) (runs : List (ReflectorRun C L)) (number : ℕ) (run : ReflectorRun C L) → FollowOn first runs → slice_get runs number ≡ Some run → BeginsFrom (first ∷ runs) (suc number) run
  follows first [] number run follow at = absurd (none-some run at)
  follows first (next ∷ runs) zero run follow at =
      record { place = zero; before = first; earlier = omega arith; at = refl; left = subst (λ (r : ReflectorRun C L). MayLeave first r.opening) (same_Some next run at) follow.0 }
  follows first (next ∷ runs) (suc number) run follow at =
      let from = follows next runs number run follow.1 at in
      record { place = suc from.place; before = from.before; earlier = omega (arith, from.earlier); at = from.at; left = from.left }

  pub begins_from : (runs : List (ReflectorRun C L)) (number : ℕ) (run : ReflectorRun C L) → BeginAndFollow runs → slice_get runs number ≡ Some run → (run.opening ≡ first_session) ⊎ BeginsFrom runs number run
  begins_from [] number run follow at = absurd (none-some run at)
  begins_from (first ∷ runs) zero run follow at = inl (ap (λ (r : ReflectorRun C L). r.opening) (sym (same_Some first run at)) ∙ follow.0)
  begins_from (first ∷ runs) (suc number) run follow at = inr (follows first runs number run follow.1 at)

-- ---- what a connection was sent

module _ {C L : Type 0} (gives : C → ℕ → Type 0) (id : SessionId) (links : LinksTell L) (final : PlainSession) (legal : IsLegal final.log) (run : ReflectorRun C L) (ran : HasRun gives id links run) (lasts : Lasts run final) where
  abbrev pub TalksIn : ServedConnection L → Type 0
  TalksIn one = HasTalk (gives_later (gives run.clock) run.opening.horizon) id run.opening links run.history one

  pub all_talk : AllByRecursion TalksIn run.connections
  all_talk = elim ran.did [
    | inl talked ↦ talked.talks.talks
    | inr left ↦ subst (AllByRecursion TalksIn) (sym left.none) tt
  ]

  grown : Grows run.session final
  grown = Grows-legal run.session final lasts.grows legal

  told_then : (one : ServedConnection L) → TalksIn one → IsToldWithin run.session.horizon one.sent
  told_then one has =
      subst (λ (s : PlainSession). IsToldWithin s.horizon one.sent) (sym ran.play)
      (talk_told (gives_later (gives run.clock) run.opening.horizon) id run.opening run.history one.caller one.heard one.sent one.ended lasts.sound has.talk)

  -- the last log serves it
  pub served_still : (one : ServedConnection L) → TalksIn one → IsTalkServed final.log one.heard one.sent
  served_still one has =
      let then_ = talk_served (gives_later (gives run.clock) run.opening.horizon) id run.opening run.history one.caller one.heard one.sent one.ended lasts.sound has.talk in
      talk_on run.session final lasts.left grown one.heard one.sent (subst (λ (s : PlainSession). IsTalkServed s.log one.heard one.sent) (sym ran.play) then_) (told_then one has)

  pub told_still : (one : ServedConnection L) → TalksIn one → IsToldWithin final.horizon one.sent
  told_still one has = told_on run.session final lasts.left grown one.sent (told_then one has)
