-- The journal's session goes on as the session does.
use Rattle.std.proofs.Common.{◌≡◌, inl, inr, ℕ, ◌+◌, ◌≤◌, ◌<◌, max, nat_le, nat_lt, Bool, true, false, cond, ◌&&◌, List, length, Result, Ok, Err, OnOk, OnErr, refl, sym, ap, ◌∙◌, subst, arith}
use Rattle.std.proofs.lemmas.Bool.Decides.{nat_tests}
use Rattle.std.proofs.lemmas.List.Sums.{length-filter, count_by-le-length}
use Rattle.tea_io.specs.Told.{Rose}
use Rattle.tea_base.specs.declared.entry.Entry.{Entry}
use Rattle.tea_base.specs.declared.entry.What.{What}
use Rattle.tea_base.specs.declared.entry.What.TheVariants as what
use Rattle.tea_base.specs.Legal.{MayFollow}
use Rattle.tea_base.specs.Limits.{time_limit, end_of_time, most_payload, most_snapshot}
use Rattle.tea_base.specs.Readings.{here_count, payload_len, is_event_of}
use Rattle.entry_fields.specs.Spelling.{FitsWhat, IsTypedWhat}
use Rattle.session_log.specs.LogState.{next_entry, with_next}
use Rattle.session_log.specs.Legality.{may_follow}
use Rattle.session_log.specs.Stored.{PlainStored, plain_of}
use Rattle.session_log.proofs.LegalityLaws.{may_follow-Decides}
use Rattle.session_journal.specs.declared.change.Change.{Change}
use Rattle.session_journal.specs.declared.change.Change.TheVariants.{Came, Reached, Kept}
use Rattle.session_journal.specs.declared.keeper.Journal.{Journal}
use Rattle.session_journal.specs.State.{after_change, has_room, may_come}
use Rattle.session_journal.specs.Heads.{payload_of, record_len}
use Rattle.session_journal.specs.Journal.{most_journal}
use Rattle.session_journal.specs.Keeper.{lease, reached_to}
use Rattle.session_journal.proofs.HeadLaws.{body_len}
use Rattle.reflector_core.specs.PlainSession.{PlainSession, IsSoundSession}
use Rattle.reflector_core.specs.Stored.{session_of}
use Rattle.reflector_core.specs.Keeping.{HoldsSnapshot, HoldsStill, KeepCause, ShutsByFault, with_entry, with_snapshot}
use Rattle.reflector_core.specs.declared.keeper.Unkept.{Unkept}
use Rattle.session_keeper.specs.Keeping.{is_nearly_full}

tested_lt : (a b : ℕ) → a < b → nat_lt a b ≡ true
tested_lt a b lt = grind (arith, nat_tests)

tested_le : (a b : ℕ) → a ≤ b → nat_le a b ≡ true
tested_le a b le = grind (arith, nat_tests)

both_true : (a b : Bool) → a ≡ true → b ≡ true → (a && b) ≡ true
both_true true b first second = second
both_true false b first second = absurd cc

-- ---- what a change is made of has its type

pub typed_what : (s : PlainSession) (time view : ℕ) (recorded : What) → IsSoundSession s → MayFollow s.log (next_entry s.log time view recorded) → payload_len recorded ≤ most_payload → FitsWhat recorded × IsTypedWhat recorded
typed_what s time view what.Join sound follows short = (tt, tt)
typed_what s time view what.Exit sound follows short = (tt, tt)
typed_what s time view (what.Event number payload) sound follows short =
    let sent = length-filter (is_event_of view) s.log in
    let most = count_by-le-length (is_event_of view) s.log in
    let next = follows.allowed.1 in
    (omega (arith, short), omega (arith, sent, most, next, sound.room))

-- ---- what may come

pub entry_may_come : (state : PlainStored) (s : PlainSession) (time view : ℕ) (recorded : What) → session_of state ≡ s → MayFollow s.log (next_entry s.log time view recorded) → IsSoundSession (with_entry s time view recorded)
    → may_come state (Came time view recorded) ≡ true
entry_may_come state s time view recorded same follows sound =
    let log_is : s.log ≡ state.log = sym (ap (λ (t : PlainSession). t.log) same) in
    let follows_here : MayFollow state.log (next_entry state.log time view recorded) = subst (λ (log : List Entry). MayFollow log (next_entry log time view recorded)) log_is follows in
    let bounded : max state.horizon time + here_count (with_next state.log time view recorded) < time_limit =
    subst (λ (t : PlainSession). max t.horizon time + here_count (with_next t.log time view recorded) < time_limit) (sym same) sound.bounded in
    both_true (may_follow state.log (next_entry state.log time view recorded)) (has_room (after_change state (Came time view recorded)))
    ((may_follow-Decides state.log (next_entry state.log time view recorded) refl follows_here.view_bound).1 follows_here)
    (tested_lt (max state.horizon time + here_count (with_next state.log time view recorded)) time_limit bounded)

pub lease_has_room : (state : PlainStored) (s : PlainSession) (time : ℕ) → session_of state ≡ s → IsSoundSession s → time + here_count s.log < time_limit → has_room (plain_of state.log (lease time) state.kept) ≡ true
lease_has_room state s time same sound room =
    let counts : here_count state.log ≡ here_count s.log = ap (λ (t : PlainSession). here_count t.log) same in
    tested_lt (lease time + here_count state.log) time_limit (omega (arith, counts, room, sound.here))

pub snapshot_may_come : (state : PlainStored) (s : PlainSession) (time : ℕ) (bytes : List ℕ) → session_of state ≡ s → IsSoundSession s → time ≤ s.horizon → length bytes ≤ most_snapshot → may_come state (Kept time bytes) ≡ true
snapshot_may_come state s time bytes same sound past short =
    let horizon_is : state.horizon ≡ s.horizon = ap (λ (t : PlainSession). t.horizon) same in
    let counts : here_count state.log ≡ here_count s.log = ap (λ (t : PlainSession). here_count t.log) same in
    both_true (nat_le time state.horizon && nat_le (length bytes) most_snapshot) (has_room (after_change state (Kept time bytes)))
    (both_true (nat_le time state.horizon) (nat_le (length bytes) most_snapshot) (tested_le time state.horizon (omega (arith, horizon_is, past))) (tested_le (length bytes) most_snapshot short))
    (tested_lt (state.horizon + here_count state.log) time_limit (omega (arith, horizon_is, counts, sound.bounded)))

-- ---- how far a journal is written ahead

reached_if : (b : Bool) (state : PlainStored) (time : ℕ) → nat_le time state.horizon ≡ b → (max state.horizon time ≤ (cond b state (plain_of state.log (lease time) state.kept)).horizon)
    × ((cond b state (plain_of state.log (lease time) state.kept)).horizon ≤ max (max state.horizon time) end_of_time)
reached_if true state time is = (let le : time ≤ state.horizon = grind (arith, nat_tests) in omega (arith, le), omega arith)
reached_if false state time is = (let lt : state.horizon < time = grind (arith, nat_tests) in omega (arith, lt), omega arith)

pub reached_far : (state : PlainStored) (s : PlainSession) (time : ℕ) → session_of state ≡ s → (max s.horizon time ≤ (reached_to time state).horizon) × ((reached_to time state).horizon ≤ max (max s.horizon time) end_of_time)
reached_far state s time same =
    subst (λ (t : PlainSession). (max t.horizon time ≤ (reached_to time state).horizon) × ((reached_to time state).horizon ≤ max (max t.horizon time) end_of_time)) same
    (reached_if (nat_le time state.horizon) state time refl)

reached_if_session : (b : Bool) (state : PlainStored) (time : ℕ)
    → session_of (cond b state (plain_of state.log (lease time) state.kept)) ≡ record (session_of state) { horizon = (cond b state (plain_of state.log (lease time) state.kept)).horizon }
reached_if_session true state time = refl
reached_if_session false state time = refl

pub reached_session : (state : PlainStored) (s : PlainSession) (time : ℕ) → session_of state ≡ s → session_of (reached_to time state) ≡ record { log = s.log; horizon = (reached_to time state).horizon; kept = s.kept }
reached_session state s time same =
    reached_if_session (nat_le time state.horizon) state time ∙ ap (λ (t : PlainSession). record t { horizon = (reached_to time state).horizon }) same

-- ---- a journal that is full

nearly_full : (len : ℕ) (c : Change) → length (payload_of c) ≤ most_payload → most_journal < len + record_len c → is_nearly_full len ≡ true
nearly_full len c short full = tested_lt most_journal (len + (26 + most_payload + 8)) (omega (arith, short, full, body_len c))

pub full_for_entry : (len time view : ℕ) (recorded : What) → payload_len recorded ≤ most_payload → most_journal < len + record_len (Came time view recorded) → is_nearly_full len ≡ true
full_for_entry len time view recorded short full = nearly_full len (Came time view recorded) short full

pub full_for_tick : (len time : ℕ) → most_journal < len + record_len (Reached time) → is_nearly_full len ≡ true
full_for_tick len time full = nearly_full len (Reached time) (omega arith) full

pub full_still : {S : Type 0} (old new : Journal S) → new ≡ old → is_nearly_full old.len ≡ true → is_nearly_full new.len ≡ true
full_still old new same full = subst (λ (journal : Journal _). is_nearly_full journal.len ≡ true) (sym same) full

-- ---- one call after another

-- a snapshot was written, and then all was settled
pub snapshot_then : {T E : Type 0} (result : Result T E) (before mid after : PlainSession → Type 0) (time : ℕ) (bytes : List ℕ) → HoldsSnapshot before mid time bytes → OnOk result (HoldsStill mid after) → OnOk result (HoldsSnapshot before after time bytes)
snapshot_then (Ok value) before mid after time bytes put still =
    λ held is sound past. elim (put held is sound past) [ inl without ↦ inl (still held without) | inr with_it ↦ inr (still (with_snapshot held time bytes) with_it) ]
snapshot_then (Err fault) before mid after time bytes put still = tt

pub held_then : {T E : Type 0} (result : Result T E) (before mid after : PlainSession → Type 0) → HoldsStill before mid → OnErr result (HoldsStill mid after) → OnErr result (HoldsStill before after)
held_then (Ok value) before mid after first still = tt
held_then (Err fault) before mid after first still = λ held is. still held (first held is)

on_ok : {T E : Type 0} (result : Result T E) (P : Type 0) → P → OnOk result P
on_ok (Ok value) P fact = fact
on_ok (Err fault) P fact = tt

rose_later : (f g h : ℕ) → Rose f g → g ≤ h → Rose f h
rose_later f g h rose le = omega (arith, rose, le)

rose_behind : (f g h : ℕ) → f ≤ g → Rose g h → Rose f h
rose_behind f g h le rose = omega (arith, le, rose)

shuts_then : (shut_old shut_mid shut_new : Type 0) (f g h : ℕ) → ShutsByFault shut_old shut_mid f g → ShutsByFault shut_mid shut_new g h → ShutsByFault shut_old shut_new f h
shuts_then shut_old shut_mid shut_new f g h first next = record {
  later = omega (arith, first.later, next.later);
  stays = λ is. next.stays (first.stays is);
  shuts = λ is.
      elim (next.shuts is) [
        | inl mid ↦ elim (first.shuts mid) [ inl old ↦ inl old | inr rose ↦ inr (rose_later f g h rose next.later) ]
        | inr rose ↦ inr (rose_behind f g h first.later rose)
      ];
}

pub cause_then : {T : Type 0} (result : Result T Unkept) (shut_old shut_mid shut_new : Type 0) (f g h : ℕ) → (shut_old → ⊥) → ShutsByFault shut_old shut_mid f g → KeepCause shut_mid shut_new g h result → KeepCause shut_old shut_new f h result
cause_then result shut_old shut_mid shut_new f g h free first next =
    record { kept = on_ok result (shut_old → ⊥) free; unkept = next.unkept; shuts = shuts_then shut_old shut_mid shut_new f g h first next.shuts }
