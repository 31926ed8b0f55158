-- What a journal is founded with is read as the session that it was made from.
use Rattle.std.proofs.Common.{◌≡◌, ℕ, zero, suc, ◌+◌, ◌-◌, ◌<◌, ◌≤◌, max, Bool, true, false, cond, nat_lt, nat_le, ◌&&◌, List, [], ◌∷◌, ◌++◌, length, map, take, Option, Some, None, Result, Ok, Err, OnOk, slice_get, refl, sym, ap, subst, ◌∙◌, append_assoc, append-nil, arith}
use Rattle.std.proofs.lemmas.Bool.Decides.{nat_tests}
use Rattle.std.proofs.lemmas.List.Sums.{length-filter, count_by-le-length}
use Rattle.tea_base.specs.declared.entry.Entry.{Entry}
use Rattle.tea_base.specs.declared.entry.What.{What}
use Rattle.tea_base.specs.declared.entry.What.TheVariants as what
use Rattle.tea_base.specs.Legal.{IsLegal, IsLegalAfter, LogAllows, MayFollow}
use Rattle.tea_base.specs.Limits.{time_limit, most_payload, most_snapshot}
use Rattle.tea_base.specs.Readings.{here_count, last_time, payload_len, is_event_of}
use Rattle.tea_base.proofs.LogLaws.{last_time-push, here_count-push}
use Rattle.entry_fields.specs.Spelling.{FitsWhat, IsTypedWhat}
use Rattle.byte_fields.specs.Fields.{FitsBlob}
use Rattle.session_log.specs.LogState.{next_entry}
use Rattle.session_log.specs.Legality.{may_follow}
use Rattle.session_log.specs.declared.stored.Kept.{Kept}
use Rattle.session_log.specs.Stored.{PlainStored, plain_of, IsStored, MayBeKept}
use Rattle.session_log.proofs.LegalityLaws.{may_follow-Decides}
use Rattle.session_journal.specs.declared.change.Change.{Change}
use Rattle.session_journal.specs.declared.change.Change.TheVariants as change
use Rattle.session_journal.specs.declared.founding.Draft.{Draft}
use Rattle.session_journal.specs.Changes.{IsTypedChange, change_spelling}
use Rattle.session_journal.specs.Frames.{Place, frame_at, frames_spelling, last_check, read_on}
use Rattle.session_journal.specs.Heads.{payload_of}
use Rattle.session_journal.specs.State.{after_change, journal_after, has_room, may_add, may_come, GoesOn, body_step, founded}
use Rattle.session_journal.specs.Journal.{first_check, record_check, records_spelling, journal_check, read_records}
use Rattle.session_journal.specs.Founding.{Adds, FoundsSession, came_of, founding_changes, kept_after, reached_after}
use Rattle.session_journal.proofs.FrameLaws.{own_first, as_long, stays, step_ends}
use Rattle.session_journal.proofs.HeadLaws.{body_len}
use Rattle.session_journal.proofs.JournalLaws.{after_both, after_header, check_both, spelled_both, taken_of}

-- ---- there is room after each entry, since there is after the last

falls : (a b : Bool) (after before : ℕ) → after + cond a 1 0 ≡ before + cond b 1 0 → before ≤ after + 1
falls true true after before e = omega (arith, e)
falls true false after before e = omega (arith, e)
falls false true after before e = omega (arith, e)
falls false false after before e = omega (arith, e)

one_before : (last here time after limit : ℕ) → last < time → here ≤ after + 1 → time + after < limit → last + here < limit
one_before last here time after limit later fell room = omega (arith, later, fell, room)

room_before : (before rest : List Entry) → IsLegalAfter before rest → last_time (before ++ rest) + here_count (before ++ rest) < time_limit → last_time before + here_count before < time_limit
room_before before [] legal room = subst (λ (log : List Entry). last_time log + here_count log < time_limit) (append-nil before) room
room_before before (entry ∷ rest) legal room =
    let with_entry : List Entry = before ++ entry ∷ [] in
    let later : last_time with_entry + here_count with_entry < time_limit =
    room_before with_entry rest legal.1 (subst (λ (log : List Entry). last_time log + here_count log < time_limit) (sym (append_assoc before (entry ∷ []) rest)) room) in
    let last : last_time with_entry ≡ entry.time = last_time-push before entry in
    one_before (last_time before) (here_count before) entry.time (here_count with_entry) time_limit legal.0.later
    (falls _ _ (here_count with_entry) (here_count before) (here_count-push before entry)) (subst (λ (time : ℕ). time + here_count with_entry < time_limit) last later)

-- ---- an entry that may follow may come

both_true : (a b : Bool) → a ≡ true → b ≡ true → (a && b) ≡ true
both_true true b first second = second
both_true false b first second = absurd cc

tested_lt : (a b : ℕ) → a < b → nat_lt a b ≡ true
tested_lt a b lt = grind (arith, nat_tests)

tested_le : (a b : ℕ) → a ≤ b → nat_le a b ≡ true
tested_le a b le = grind (arith, nat_tests)

typed_what : (log : List Entry) (view : ℕ) (recorded : What) → LogAllows log view recorded → FitsWhat recorded × IsTypedWhat recorded
typed_what log view what.Join allowed = (tt, tt)
typed_what log view what.Exit allowed = (tt, tt)
typed_what log view (what.Event number payload) allowed =
    let sent = length-filter (is_event_of view) log in
    let most = count_by-le-length (is_event_of view) log in
    (omega (arith, allowed.2), omega (arith, sent, most, allowed.1, allowed.4))

payload_few : (log : List Entry) (view : ℕ) (recorded : What) → LogAllows log view recorded → payload_len recorded ≤ most_payload
payload_few log view what.Join allowed = omega arith
payload_few log view what.Exit allowed = omega arith
payload_few log view (what.Event number payload) allowed = allowed.2

typed_entry : (log : List Entry) (entry : Entry) → MayFollow log entry → IsTypedChange (came_of entry)
typed_entry log entry may = (omega (arith, may.time_bound), (may.view_bound, typed_what log entry.view entry.what may.allowed))

-- the log with one entry more
same_entry : (log : List Entry) (entry : Entry) → MayFollow log entry → next_entry log entry.time entry.view entry.what ≡ entry
same_entry log entry may = ap (λ (seq : ℕ). record { seq = seq; time = entry.time; view = entry.view; what = entry.what }) (sym may.seq)

abbrev entries_state : List Entry → PlainStored
entries_state log = plain_of log (last_time log) None

later_is : (a b : ℕ) → a < b → max a b ≡ b
later_is a b lt = omega (arith, lt)

entry_after : (log : List Entry) (entry : Entry) → MayFollow log entry → after_change (entries_state log) (came_of entry) ≡ entries_state (log ++ entry ∷ [])
entry_after log entry may =
    ap (λ (e : Entry). plain_of (log ++ e ∷ []) (max (last_time log) entry.time) None) (same_entry log entry may)
    ∙ ap (λ (time : ℕ). plain_of (log ++ entry ∷ []) time None) (later_is (last_time log) entry.time may.later ∙ sym (last_time-push log entry))

follows : (log : List Entry) (entry : Entry) → MayFollow log entry → may_follow log (next_entry log entry.time entry.view entry.what) ≡ true
follows log entry may =
    let here : MayFollow log (next_entry log entry.time entry.view entry.what) = subst (MayFollow log) (sym (same_entry log entry may)) may in
    (may_follow-Decides log (next_entry log entry.time entry.view entry.what) refl here.view_bound).1 here

entry_may : (log : List Entry) (entry : Entry) → MayFollow log entry → last_time (log ++ entry ∷ []) + here_count (log ++ entry ∷ []) < time_limit → may_come (entries_state log) (came_of entry) ≡ true
entry_may log entry may room =
    both_true (may_add (entries_state log) (came_of entry)) (has_room (after_change (entries_state log) (came_of entry))) (follows log entry may)
    (subst (λ (s : PlainStored). has_room s ≡ true) (sym (entry_after log entry may)) (tested_lt (last_time (log ++ entry ∷ []) + here_count (log ++ entry ∷ [])) time_limit room))

-- ---- all entries

record EntriesGo (before rest : List Entry) : Type 0 where
  pub goes : GoesOn (entries_state before) (map came_of rest)
  pub after : journal_after (entries_state before) (map came_of rest) ≡ entries_state (before ++ rest)

entries_go : (before rest : List Entry) → IsLegalAfter before rest → last_time (before ++ rest) + here_count (before ++ rest) < time_limit → EntriesGo before rest
entries_go before [] legal room = record { goes = tt; after = ap entries_state (sym (append-nil before)) }
entries_go before (entry ∷ rest) legal room =
    let with_entry : List Entry = before ++ entry ∷ [] in
    let whole : with_entry ++ rest ≡ before ++ entry ∷ rest = append_assoc before (entry ∷ []) rest in
    let room_then : last_time (with_entry ++ rest) + here_count (with_entry ++ rest) < time_limit = subst (λ (log : List Entry). last_time log + here_count log < time_limit) (sym whole) room in
    let then_ : EntriesGo with_entry rest = entries_go with_entry rest legal.1 room_then in
    let same : after_change (entries_state before) (came_of entry) ≡ entries_state with_entry = entry_after before entry legal.0 in
    record {
      goes = (
        (typed_entry before entry legal.0, entry_may before entry legal.0 (room_before with_entry rest legal.1 room_then)),
        subst (λ (s : PlainStored). GoesOn s (map came_of rest)) (sym same) then_.goes,
      );
      after = ap (λ (s : PlainStored). journal_after s (map came_of rest)) same ∙ then_.after ∙ ap entries_state whole;
    }

-- ---- the horizon, and what is kept

goes_both : (s : PlainStored) (first second : List Change) → GoesOn s first → GoesOn (journal_after s first) second → GoesOn s (first ++ second)
goes_both s [] second goes then_ = then_
goes_both s (c ∷ rest) second goes then_ = (goes.0, goes_both (after_change s c) rest second goes.1 then_)

record GoesTo (from : PlainStored) (changes : List Change) (to : PlainStored) : Type 0 where
  pub goes : GoesOn from changes
  pub after : journal_after from changes ≡ to

go_both : (from mid to : PlainStored) (first second : List Change) → GoesTo from first mid → GoesTo mid second to → GoesTo from (first ++ second) to
go_both from mid to first second one two = record {
  goes = goes_both from first second one.goes (subst (λ (s : PlainStored). GoesOn s second) (sym one.after) two.goes);
  after = after_both from first second ∙ ap (λ (s : PlainStored). journal_after s second) one.after ∙ two.after;
}

not_later : (last horizon : ℕ) → nat_lt last horizon ≡ false → last ≤ horizon → last ≡ horizon
not_later last horizon e le = grind (arith, nat_tests)

is_later : (last horizon : ℕ) → nat_lt last horizon ≡ true → last < horizon
is_later last horizon e = grind (arith, nat_tests)

horizon_goes : (b : Bool) (log : List Entry) (horizon : ℕ) → nat_lt (last_time log) horizon ≡ b → last_time log ≤ horizon → horizon + here_count log < time_limit
    → GoesTo (entries_state log) (cond b (change.Reached horizon ∷ []) []) (plain_of log horizon None)
horizon_goes true log horizon e latest room = record {
  goes = ((omega (arith, room), both_true (nat_lt (last_time log) horizon) (has_room (plain_of log horizon None)) e (tested_lt (horizon + here_count log) time_limit room)), tt);
  after = refl;
}
horizon_goes false log horizon e latest room = record { goes = tt; after = ap (λ (time : ℕ). plain_of log time None) (not_later (last_time log) horizon e latest) }

kept_goes : (log : List Entry) (horizon : ℕ) (kept : Option Kept) → horizon + here_count log < time_limit → MayBeKept horizon kept → GoesTo (plain_of log horizon None) (kept_after kept) (plain_of log horizon kept)
kept_goes log horizon None room may = record { goes = tt; after = refl }
kept_goes log horizon (Some kept) room may = record {
  goes = (
    (
      (omega (arith, room, may.0), omega (arith, may.1)),
      both_true (nat_le kept.time horizon && nat_le (length kept.bytes) most_snapshot) (has_room (plain_of log horizon (Some kept)))
          (both_true (nat_le kept.time horizon) (nat_le (length kept.bytes) most_snapshot) (tested_le kept.time horizon may.0) (tested_le (length kept.bytes) most_snapshot may.1))
          (tested_lt (horizon + here_count log) time_limit room),
    ),
    tt,
  );
  after = refl;
}

log_goes : (s : PlainStored) → IsStored s → GoesTo founded (map came_of s.log) (entries_state s.log)
log_goes s is =
    let room : last_time s.log + here_count s.log < time_limit = omega (arith, is.latest, is.bounded) in
    let all = entries_go [] s.log is.legal room in
    record { goes = all.goes; after = all.after }

founding_goes : (s : PlainStored) → IsStored s → GoesTo founded (founding_changes s) s
founding_goes s is =
    go_both founded (entries_state s.log) s (map came_of s.log) (reached_after (last_time s.log) s.horizon ++ kept_after s.kept) (log_goes s is)
    (go_both (entries_state s.log) (plain_of s.log s.horizon None) s (reached_after (last_time s.log) s.horizon) (kept_after s.kept)
    (horizon_goes (nat_lt (last_time s.log) s.horizon) s.log s.horizon refl is.latest is.bounded) (kept_goes s.log s.horizon s.kept is.bounded is.kept))

-- ---- it is read

no_frame : (before : List ℕ) → frame_at record_check before [] ≡ None
unfolding frame_at
no_frame before = refl

room_is : (all few : ℕ) → few ≤ all → all ≡ few + (all - few)
room_is all few le = omega (arith, le)

records_read : (id : List ℕ) (changes : List Change) (to : PlainStored) → GoesTo founded changes to
    → read_records (first_check id) (records_spelling (first_check id) changes) ≡ record { state = to; check = journal_check id changes; rest = [] }
records_read id changes to goes =
    let before : List ℕ = first_check id in
    let bodies : List (List ℕ) = map change_spelling changes in
    let own : List ℕ = frames_spelling record_check before bodies in
    let room : ℕ = length own - length bodies in
    let count : length own ≡ length bodies + room = room_is (length own) (length bodies) (as_long record_check before bodies) in
    let end : Place PlainStored = record { state = journal_after founded changes; check = journal_check id changes; rest = [] } in
    ap (λ (k : ℕ). read_on record_check body_step k (record { state = founded; check = before; rest = own })) count
    ∙ ap (λ (xs : List ℕ). read_on record_check body_step (length bodies + room) (record { state = founded; check = before; rest = xs })) (sym (append-nil own))
    ∙ own_first record_check body_step room founded before bodies (journal_after founded changes) [] (taken_of founded changes goes.goes)
    ∙ stays record_check body_step room end (step_ends record_check body_step end (no_frame (journal_check id changes)))
    ∙ ap (λ (s : PlainStored). record { state = s; check = journal_check id changes; rest = [] }) goes.after

pub founding_is_read : (id : List ℕ) (s : PlainStored) → IsStored s → FoundsSession id s
founding_is_read id s is = after_header id (records_spelling (first_check id) (founding_changes s)) _ (records_read id (founding_changes s) s (founding_goes s is))

-- ---- it is written

fits_entry : (log : List Entry) (entry : Entry) → MayFollow log entry → FitsBlob (change_spelling (came_of entry))
fits_entry log entry may =
    let few : payload_len entry.what ≤ most_payload = payload_few log entry.view entry.what may.allowed in
    let long : length (change_spelling (came_of entry)) ≤ length (payload_of (came_of entry)) + 22 = body_len (came_of entry) in
    omega (arith, few, long)

fits_after : (before rest : List Entry) (place : ℕ) (entry : Entry) → IsLegalAfter before rest → slice_get rest place ≡ Some entry → FitsBlob (change_spelling (came_of entry))
fits_after before [] place entry legal at = absurd cc
fits_after before (first ∷ rest) zero entry legal at =
    let same : first ≡ entry = cc in
    subst (λ (e : Entry). FitsBlob (change_spelling (came_of e))) same (fits_entry before first legal.0)
fits_after before (first ∷ rest) (suc place) entry legal at = fits_after (before ++ first ∷ []) rest place entry legal.1 at

pub fits_at : (log : List Entry) (place : ℕ) (entry : Entry) → IsLegal log → slice_get log place ≡ Some entry → FitsBlob (change_spelling (came_of entry))
fits_at log place entry legal at = fits_after [] log place entry legal at

pub fits_kept : (time : ℕ) (bytes : List ℕ) → length bytes ≤ most_snapshot → FitsBlob (change_spelling (change.Kept time bytes))
fits_kept time bytes few = let long = body_len (change.Kept time bytes) in omega (arith, few, long)

take_next : {A : Type 0} (xs : List A) (k : ℕ) (x : A) → slice_get xs k ≡ Some x → take (k + 1) xs ≡ take k xs ++ x ∷ []
take_next [] k x at = absurd cc
take_next (y ∷ ys) zero x at = cc
take_next (y ∷ ys) (suc k) x at =
    let next : suc k + 1 ≡ suc (k + 1) = omega arith in
    rw next (ap (λ zs. y ∷ zs) (take_next ys k x at))

map_both : (first second : List Entry) → map came_of (first ++ second) ≡ map came_of first ++ map came_of second
map_both [] second = refl
map_both (e ∷ rest) second = ap (λ (cs : List Change). came_of e ∷ cs) (map_both rest second)

pub adds_nothing : (draft : Draft) → Adds draft draft []
adds_nothing draft = record { out = sym (append-nil draft.out); check = refl }

pub adds_both : (old mid new : Draft) (first second : List Change) → Adds old mid first → Adds mid new second → Adds old new (first ++ second)
adds_both old mid new first second one two = record {
  out = two.out ∙ ap (λ (xs : List ℕ). xs ++ records_spelling mid.check second) one.out ∙ append_assoc old.out (records_spelling old.check first) (records_spelling mid.check second)
      ∙ ap (λ (k : List ℕ). old.out ++ (records_spelling old.check first ++ records_spelling k second)) one.check
      ∙ ap (λ (xs : List ℕ). old.out ++ xs) (sym (spelled_both old.check first second));
  check = two.check ∙ ap (λ (k : List ℕ). last_check record_check k (map change_spelling second)) one.check ∙ sym (check_both old.check first second);
}

pub adds_next : (old mid new : Draft) (log : List Entry) (place : ℕ) (entry : Entry) → slice_get log place ≡ Some entry → Adds old mid (map came_of (take place log)) → Adds mid new (came_of entry ∷ [])
    → Adds old new (map came_of (take (place + 1) log))
adds_next old mid new log place entry at one two =
    subst (λ (cs : List Change). Adds old new cs) (sym (ap (map came_of) (take_next log place entry at) ∙ map_both (take place log) (entry ∷ [])))
    (adds_both old mid new (map came_of (take place log)) (came_of entry ∷ []) one two)

-- all that is stored, where its last part was added
pub adds_all
    : {T E : Type 0} (old first second new : Draft) (s : PlainStored) (result : Result T E) → Adds old first (map came_of s.log) → Adds first second (reached_after (last_time s.log) s.horizon)
    → OnOk result (Adds second new (kept_after s.kept)) → OnOk result (Adds old new (founding_changes s))
adds_all old first second new s (Ok value) one two three =
    adds_both old first new (map came_of s.log) (reached_after (last_time s.log) s.horizon ++ kept_after s.kept) one
    (adds_both first second new (reached_after (last_time s.log) s.horizon) (kept_after s.kept) two three)
adds_all old first second new s (Err fault) one two three = tt
