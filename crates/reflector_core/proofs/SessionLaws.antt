-- What stays true of a session.
use Rattle.std.proofs.Common.{ℕ, ◌+◌, ◌^◌, ◌≡◌, ◌≢◌, ◌≤◌, ◌<◌, max, true, false, List, [], ◌∷◌, ◌++◌, Option, Some, None, length, length-append, refl, arith, subst}
use Rattle.tea_base.specs.declared.entry.Entry.{Entry}
use Rattle.tea_base.specs.declared.entry.What.{What}
use Rattle.tea_base.specs.declared.entry.What.TheVariants.{Join, Exit, Event}
use Rattle.tea_base.specs.Readings.{is_here, last_number, here_count, payload_bytes}
use Rattle.tea_base.specs.Legal.{IsLegal, MayFollow}
use Rattle.tea_base.specs.Limits.{time_limit, most_here, most_entries, most_open_entries, most_payload, most_bytes, end_of_time}
use Rattle.tea_base.proofs.LogLaws.{IsLegal-push, last_time-push, here_count-push, here_count-positive, is_here-zero}
use Rattle.session_log.specs.LogState.{next_entry}
use Rattle.wire_frames.specs.declared.start.Base.{Base}
use Rattle.reflector_core.specs.PlainSession.{PlainSession, IsSoundSession, IsKeptBy}
use Rattle.reflector_core.specs.Answer.{stamp, append_entry}

pub IsKeptBy-grows : (a b : ℕ) (kept : Option Base) → a ≤ b → IsKeptBy a kept → IsKeptBy b kept
IsKeptBy-grows a b None le within = tt
IsKeptBy-grows a b (Some base) le within = (omega (arith, within.0), within.1)

-- a later horizon that is not past the end of time
pub IsSoundSession-later : (s : PlainSession) (horizon : ℕ) → IsSoundSession s → s.horizon ≤ horizon → horizon ≤ max s.horizon end_of_time → IsSoundSession (record { log = s.log; horizon = horizon; kept = s.kept })
IsSoundSession-later s horizon sound later bound = record {
  legal = sound.legal;
  latest = omega arith;
  here = sound.here;
  room = sound.room;
  bounded = omega arith;
  kept = IsKeptBy-grows s.horizon horizon s.kept later sound.kept;
}

abbrev next_here_count : PlainSession → ℕ → ℕ → What → ℕ
next_here_count s time view what = here_count (s.log ++ next_entry s.log time view what ∷ [])

IsSoundSession-append : (s : PlainSession) (time view : ℕ) (what : What) → IsSoundSession s → MayFollow s.log (next_entry s.log time view what) → s.horizon < time → time + next_here_count s time view what < time_limit → next_here_count s time view what ≤ most_here → length s.log + 1 + next_here_count s time view what ≤ most_entries → IsSoundSession (append_entry s time view what)
IsSoundSession-append s time view what sound may later bounded here room = record {
  legal = IsLegal-push s.log (next_entry s.log time view what) sound.legal may;
  latest = omega (arith, last_time-push s.log (next_entry s.log time view what));
  here = here;
  room = omega (arith, length-append s.log (next_entry s.log time view what ∷ []));
  bounded = bounded;
  kept = IsKeptBy-grows s.horizon time s.kept (omega arith) sound.kept;
}

-- whoever is here has a name
is_here-named : (log : List Entry) (view : ℕ) → IsLegal log → is_here log view ≡ true → view ≢ 0
is_here-named log view legal here zero_is = let P : ℕ → Type 0 = λ v. is_here log v ≡ true in let here_zero = subst P zero_is here in let none = is_here-zero log legal in cc

-- an Exit of a view that is here may always follow
pub exit_may_follow : (s : PlainSession) (now view : ℕ) → IsSoundSession s → view < 2 ^ 32 → is_here s.log view ≡ true → MayFollow s.log (next_entry s.log (stamp s.horizon now) view Exit)
exit_may_follow s now view sound bound here =
    let positive = here_count-positive s.log view here in
    record {
      seq = refl;
      later = omega (arith, sound.latest);
      time_bound = omega (arith, sound.bounded);
      view_bound = bound;
      named = is_here-named s.log view sound.legal here;
      allowed = (here, omega (arith, sound.room));
    }

pub exit_is_sound : (s : PlainSession) (now view : ℕ) → IsSoundSession s → view < 2 ^ 32 → is_here s.log view ≡ true → IsSoundSession (append_entry s (stamp s.horizon now) view Exit)
exit_is_sound s now view sound bound here =
    let count = here_count-push s.log (next_entry s.log (stamp s.horizon now) view Exit) in
    let falls : next_here_count s (stamp s.horizon now) view Exit + 1 ≡ here_count s.log = grind (arith, count, here) in
    IsSoundSession-append s (stamp s.horizon now) view Exit sound (exit_may_follow s now view sound bound here) (omega arith) (omega (arith, sound.bounded, sound.here)) (omega (arith, sound.here)) (omega (arith, sound.room))

pub event_may_follow : (s : PlainSession) (now view number : ℕ) (payload : List ℕ) → IsSoundSession s → view < 2 ^ 32 → is_here s.log view ≡ true → number ≡ last_number s.log view + 1 → length payload ≤ most_payload → payload_bytes s.log + length payload ≤ most_bytes → length s.log < most_open_entries → s.horizon < end_of_time → MayFollow s.log (next_entry s.log (stamp s.horizon now) view (Event number payload))
event_may_follow s now view number payload sound bound here next short fits still_open before_end = record {
  seq = refl;
  later = omega (arith, sound.latest);
  time_bound = omega arith;
  view_bound = bound;
  named = is_here-named s.log view sound.legal here;
  allowed = (here, next, short, fits, still_open);
}

pub event_is_sound : (s : PlainSession) (now view : ℕ) (number : ℕ) (payload : List ℕ) → IsSoundSession s → MayFollow s.log (next_entry s.log (stamp s.horizon now) view (Event number payload)) → s.horizon < end_of_time → IsSoundSession (append_entry s (stamp s.horizon now) view (Event number payload))
event_is_sound s now view number payload sound may before_end =
    let count = here_count-push s.log (next_entry s.log (stamp s.horizon now) view (Event number payload)) in
    let same : next_here_count s (stamp s.horizon now) view (Event number payload) ≡ here_count s.log = omega (arith, count) in
    let still_open = may.allowed in
    IsSoundSession-append s (stamp s.horizon now) view (Event number payload) sound may (omega arith) (omega (arith, sound.here)) (omega (arith, sound.here)) (omega (arith, sound.here, still_open))

pub join_may_follow : (s : PlainSession) (now view : ℕ) → IsSoundSession s → view < 2 ^ 32 → view ≢ 0 → (is_here s.log view ≡ false → here_count s.log < most_here) → length s.log < most_open_entries → s.horizon < end_of_time → MayFollow s.log (next_entry s.log (stamp s.horizon now) view Join)
join_may_follow s now view sound bound named room still_open before_end = record {
  seq = refl;
  later = omega (arith, sound.latest);
  time_bound = omega arith;
  view_bound = bound;
  named = named;
  allowed = (room, still_open);
}

pub join_is_sound : (s : PlainSession) (now view : ℕ) → IsSoundSession s → MayFollow s.log (next_entry s.log (stamp s.horizon now) view Join) → s.horizon < end_of_time → IsSoundSession (append_entry s (stamp s.horizon now) view Join)
join_is_sound s now view sound may before_end =
    let count = here_count-push s.log (next_entry s.log (stamp s.horizon now) view Join) in
    let here : next_here_count s (stamp s.horizon now) view Join ≤ most_here = grind (arith, count, may.allowed.0, sound.here) in
    IsSoundSession-append s (stamp s.horizon now) view Join sound may (omega arith) (omega arith) here (omega (arith, may.allowed))
