-- What is held goes on with the session that it covers.
use Rattle.std.proofs.Common.{ℕ, ◌≡◌, inl, inr, ◌≤◌, max, min, Bool, true, List, length, refl, sym, ap, subst, arith}
use Rattle.tea_base.specs.declared.entry.Entry.{Entry}
use Rattle.tea_base.specs.declared.entry.What.{What}
use Rattle.tea_base.specs.Legal.{MayFollow}
use Rattle.tea_base.specs.Limits.{end_of_time, most_snapshot}
use Rattle.tea_base.specs.Readings.{here_count}
use Rattle.session_log.specs.LogState.{next_entry, with_next}
use Rattle.reflector_core.specs.PlainSession.{PlainSession, IsSoundSession}
use Rattle.reflector_core.specs.Answer.{stamp, append_entry, tick}
use Rattle.reflector_core.specs.Keeping.{with_entry, with_snapshot, Covers, HoldsEntry, HoldsReached, HoldsTick, HoldsSnapshot, HoldsStill, ShutsByFault, KeepsPace}
use Rattle.reflector_core.proofs.SessionLaws.{IsKeptBy-grows, IsSoundSession-later}

-- ---- one more entry

covered_entry : (s held : PlainSession) (now view : ℕ) (what : What) → IsSoundSession s → Covers s held → IsSoundSession (append_entry s (stamp s.horizon now) view what)
    → IsSoundSession (with_entry held (stamp s.horizon now) view what)
covered_entry s held now view what sound covers after =
    let time = stamp s.horizon now in
    let same : with_next held.log time view what ≡ with_next s.log time view what = ap (λ (log : List Entry). with_next log time view what) covers.log in
    let P : List Entry → Type 0 = λ log. IsSoundSession (record { log = log; horizon = max held.horizon time; kept = held.kept }) in
    subst P (sym same) (record {
      legal = after.legal;
      latest = omega (arith, after.latest);
      here = after.here;
      room = after.room;
      bounded = omega (arith, after.bounded, after.here, covers.within);
      kept = IsKeptBy-grows held.horizon (max held.horizon time) held.kept (omega arith) covers.sound.kept;
    })

covers_entry : (s held : PlainSession) (now view : ℕ) (what : What) → IsSoundSession s → Covers s held → IsSoundSession (append_entry s (stamp s.horizon now) view what)
    → Covers (append_entry s (stamp s.horizon now) view what) (with_entry held (stamp s.horizon now) view what)
covers_entry s held now view what sound covers after = record {
  log = ap (λ (log : List Entry). with_next log (stamp s.horizon now) view what) covers.log;
  ahead = omega arith;
  within = omega (arith, covers.within);
  sound = covered_entry s held now view what sound covers after;
}

module _ {K : Type 0} (holds writes : K → PlainSession → Type 0) (settled : K → Bool) (shut : K → Type 0) (faults : K → ℕ) where
  -- ---- nothing changed

  pub unshut : (k : K) → ShutsByFault (shut k) (shut k) (faults k) (faults k)
  unshut k = record { later = omega arith; stays = λ is. is; shuts = λ is. inl is }

  pub stays : (k : K) (s : PlainSession) → KeepsPace holds writes settled shut faults k k s s
  stays k s = record {
    written = λ held is covers free. record { held = held; is_held = is; covers = covers; kept = inl refl };
    held = inl (λ held is. is);
    kept = inl refl;
    shuts = unshut k;
    still = λ _. refl;
  }

  pub not_kept : (old new : K) (s : PlainSession) → HoldsStill (holds old) (holds new) → shut new → ShutsByFault (shut old) (shut new) (faults old) (faults new) → KeepsPace holds writes settled shut faults old new s s
  not_kept old new s still is_shut shuts = record {
    written = λ held is covers free. absurd (free is_shut);
    held = inl still;
    kept = inl refl;
    shuts = shuts;
    still = λ _. refl;
  }

  -- ---- something changed

  pub entry_kept : (old new : K) (s : PlainSession) (now view : ℕ) (what : What) → IsSoundSession s → MayFollow s.log (next_entry s.log (stamp s.horizon now) view what)
      → IsSoundSession (append_entry s (stamp s.horizon now) view what) → HoldsEntry (writes old) (writes new) (stamp s.horizon now) view what → HoldsStill (holds old) (holds new) → (shut old → ⊥)
      → ShutsByFault (shut old) (shut new) (faults old) (faults new) → KeepsPace holds writes settled shut faults old new s (append_entry s (stamp s.horizon now) view what)
  entry_kept old new s now view what sound follows after written still open_still shuts = record {
    written = λ held is covers free.
        let may : MayFollow held.log (next_entry held.log (stamp s.horizon now) view what) =
        subst (λ (log : List Entry). MayFollow log (next_entry log (stamp s.horizon now) view what)) (sym covers.log) follows in
        record {
          held = with_entry held (stamp s.horizon now) view what;
          is_held = written held is covers.sound may (covered_entry s held now view what sound covers after);
          covers = covers_entry s held now view what sound covers after;
          kept = inl refl;
        };
    held = inl still;
    kept = inl refl;
    shuts = shuts;
    still = λ is. absurd (open_still is);
  }

  pub tick_kept : (old new : K) (s : PlainSession) (now : ℕ) → IsSoundSession s → HoldsTick (writes old) (writes new) (max s.horizon (min now end_of_time)) → HoldsStill (holds old) (holds new) → (shut old → ⊥)
      → ShutsByFault (shut old) (shut new) (faults old) (faults new) → KeepsPace holds writes settled shut faults old new s (tick s now).session
  tick_kept old new s now sound written still open_still shuts = record {
    written = λ held is covers free.
        let time = max s.horizon (min now end_of_time) in
        let counts : here_count held.log ≡ here_count s.log = ap here_count covers.log in
        let r : HoldsReached (writes new) held time = written held is covers.sound (omega (arith, counts, sound.bounded, sound.here)) in
        record {
          held = record { log = held.log; horizon = r.horizon; kept = held.kept };
          is_held = r.holds;
          covers = record {
            log = covers.log;
            ahead = omega (arith, r.reaches);
            within = omega (arith, r.within, covers.within);
            sound = IsSoundSession-later held r.horizon covers.sound (omega (arith, r.reaches)) (omega (arith, r.within, covers.ahead));
          };
          kept = inl refl;
        };
    held = inl still;
    kept = inl refl;
    shuts = shuts;
    still = λ is. absurd (open_still is);
  }

  pub snapshot_kept : (old new : K) (s : PlainSession) (time : ℕ) (bytes : List ℕ) → time ≤ s.horizon → length bytes ≤ most_snapshot → HoldsSnapshot (writes old) (writes new) time bytes → settled new ≡ true → (shut old → ⊥)
      → ShutsByFault (shut old) (shut new) (faults old) (faults new) → KeepsPace holds writes settled shut faults old new s (with_snapshot s time bytes)
  snapshot_kept old new s time bytes past short written all open_still shuts = record {
    written = λ held is covers free.
        let later : time ≤ held.horizon = omega (arith, covers.ahead, past) in
        let covers_now : Covers (with_snapshot s time bytes) held = record { log = covers.log; ahead = covers.ahead; within = covers.within; sound = covers.sound } in
        elim (written held is covers.sound later) [
          | inl without ↦ record { held = held; is_held = without; covers = covers_now; kept = inl refl }
          | inr with_it ↦
              record {
                held = with_snapshot held time bytes;
                is_held = with_it;
                covers = record {
                  log = covers.log;
                  ahead = covers.ahead;
                  within = covers.within;
                  sound = record { legal = covers.sound.legal; latest = covers.sound.latest; here = covers.sound.here; room = covers.sound.room; bounded = covers.sound.bounded; kept = (later, short) };
                };
                kept = inr refl;
              }
        ];
    held = inr (all, open_still);
    kept = inr (all, open_still);
    shuts = shuts;
    still = λ is. absurd (open_still is);
  }

-- a session covers itself
pub covers_itself : (s : PlainSession) → IsSoundSession s → Covers s s
covers_itself s sound = record { log = refl; ahead = omega arith; within = omega arith; sound = sound }
