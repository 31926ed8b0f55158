-- What a log says after one more entry.
use Rattle.std.proofs.Common.{ℕ, ◌+◌, ◌-◌, ◌≡◌, ◌≤◌, ◌<◌, Bool, true, false, cond, eqb, ◌&&◌, ◌||◌, ◌==◌, not, List, [], ◌∷◌, ◌++◌, Option, Some, None, length, length-append, zero, suc, get_or, take, slice_get, filter, ap, if◌then◌else◌, unwrap_or, is_some, ◌∙◌, refl, sym, arith, subst}
use Rattle.std.specs.List.{list_any}
use Rattle.std.proofs.lemmas.List.{append-nil, append_assoc}
use Rattle.std.proofs.lemmas.List.Elements.{filter-append}
use Rattle.std.proofs.lemmas.List.Folds.{list_any-append}
use Rattle.std.proofs.lemmas.List.Sums.{sum_by-append}
use Rattle.std.proofs.lemmas.Bool.Decides.{nat_tests}
use Rattle.tea_base.specs.declared.entry.Entry.{Entry}
use Rattle.tea_base.specs.declared.entry.What.{What}
use Rattle.tea_base.specs.declared.entry.What.TheVariants.{Join, Exit, Event}
use Rattle.tea_base.specs.Readings.{last_entry, time_or_zero, is_some_join, is_join, is_exit, is_event, is_presence_of, is_event_of, presence, view_events, is_here, payload_bytes, payload_len, last_time, last_number, here_count, view_event, events}
use Rattle.tea_base.specs.Legal.{IsLegal, IsLegalAfter, MayFollow, LogAllows, TimesRise, TimesRiseAfter, HasNumber, AreNumberedFrom, EachCountsItsEvents}
use Rattle.tea_base.specs.Limits.{most_entries, most_bytes}

pub last_entry-push : (log : List Entry) (entry : Entry) → last_entry (log ++ entry ∷ []) ≡ Some entry
last_entry-push [] entry = refl
last_entry-push (first ∷ rest) entry = rw (last_entry-push rest entry) refl

pub last_entry-push_if : (b : Bool) (log : List Entry) (entry : Entry) → last_entry (log ++ cond b (entry ∷ []) []) ≡ cond b (Some entry) (last_entry log)
last_entry-push_if true log entry = last_entry-push log entry
last_entry-push_if false log entry = ap last_entry (append-nil log)

pub last_presence-push : (log : List Entry) (entry : Entry) (view : ℕ) → last_entry (presence (log ++ entry ∷ []) view) ≡ cond (is_presence_of view entry) (Some entry) (last_entry (presence log view))
last_presence-push log entry view =
    ap last_entry (filter-append (is_presence_of view) log (entry ∷ [])) ∙ last_entry-push_if (is_presence_of view entry) (presence log view) entry

pub sent-push : (log : List Entry) (entry : Entry) (view : ℕ) → view_events (log ++ entry ∷ []) view ≡ view_events log view ++ cond (is_event_of view entry) (entry ∷ []) []
sent-push log entry view = filter-append (is_event_of view) log (entry ∷ [])

pub last_time-push : (log : List Entry) (entry : Entry) → last_time (log ++ entry ∷ []) ≡ entry.time
last_time-push log entry = ap time_or_zero (last_entry-push log entry)

pub payload_bytes-push : (log : List Entry) (entry : Entry) → payload_bytes (log ++ entry ∷ []) ≡ payload_bytes log + payload_len entry.what
payload_bytes-push log entry = omega (arith, sum_by-append (λ (e : Entry). payload_len e.what) log (entry ∷ []))

-- a legal log with an entry that may follow is legal
IsLegalAfter-push : (before log : List Entry) (entry : Entry) → IsLegalAfter before log → MayFollow (before ++ log) entry → IsLegalAfter before (log ++ entry ∷ [])
IsLegalAfter-push before [] entry legal may = (rw append-nil at may, tt)
IsLegalAfter-push before (first ∷ rest) entry legal may = (legal.0, IsLegalAfter-push (before ++ first ∷ []) rest entry legal.1 (rw append_assoc may))

pub IsLegal-push : (log : List Entry) (entry : Entry) → IsLegal log → MayFollow log entry → IsLegal (log ++ entry ∷ [])
IsLegal-push log entry legal may = IsLegalAfter-push [] log entry legal may

-- a filter has a last entry exactly where some entry passes
is_some-last_entry-filter : (p : Entry → Bool) (log : List Entry) → is_some (last_entry (filter p log)) ≡ list_any p log
is_some-last_entry-filter p [] = refl
is_some-last_entry-filter p (first ∷ rest) = grind (arith, is_some-last_entry-filter p rest)

is_some_join_cases : (b : Bool) (first : Entry) (last_of_rest : Option Entry) → (cond b (is_join (unwrap_or last_of_rest first).what) (is_some_join last_of_rest)) ≡ cond (is_some last_of_rest) (is_some_join last_of_rest) (b && is_join first.what)
is_some_join_cases true first None = refl
is_some_join_cases true first (Some entry) = refl
is_some_join_cases false first None = refl
is_some_join_cases false first (Some entry) = refl

is_some_join-cons_if : (b : Bool) (first : Entry) (rest : List Entry) → is_some_join (last_entry (cond b (first ∷ rest) rest)) ≡ cond (is_some (last_entry rest)) (is_some_join (last_entry rest)) (b && is_join first.what)
is_some_join-cons_if true first rest = is_some_join_cases true first (last_entry rest)
is_some_join-cons_if false first rest = is_some_join_cases false first (last_entry rest)

-- whether a view is here, by the first entry and the rest
is_here-cons : (first : Entry) (rest : List Entry) (view : ℕ) → is_here (first ∷ rest) view ≡ cond (list_any (is_presence_of view) rest) (is_here rest view) (is_presence_of view first && is_join first.what)
is_here-cons first rest view =
    let e = is_some-last_entry-filter (is_presence_of view) rest in
    let h = is_some_join-cons_if (is_presence_of view first) first (presence rest view) in
    rw e at h

is_here-none : (log : List Entry) (view : ℕ) → list_any (is_presence_of view) log ≡ false → is_here log view ≡ false
is_here-none [] view none = refl
is_here-none (first ∷ rest) view none = rw (is_here-cons first rest view) (grind (arith, is_here-none rest view))

pub here_count-le-length : (log : List Entry) → here_count log ≤ length log
here_count-le-length [] = omega arith
here_count-le-length (first ∷ rest) = grind (arith, here_count-le-length rest)

-- one for true
abbrev one_if : Bool → ℕ
one_if b = if b then 1 else 0

-- the step of the count, over the tests that it makes: of the first entry and of the new one
here_count_step : (first_join first_exit any_of_first any_of_new same new_presence new_here : Bool) (count count_after new_join : ℕ)
    → (same ≡ true → any_of_new ≡ any_of_first) → (any_of_new ≡ false → new_here ≡ false)
    → count_after + one_if (new_presence && new_here) ≡ count + new_join
    → one_if (first_join && not (any_of_first || ((same && new_presence) || false))) + count_after + one_if (new_presence && cond any_of_new new_here ((same && (first_join || first_exit)) && first_join)) ≡ one_if (first_join && not any_of_first) + count + new_join
here_count_step first_join first_exit any_of_first any_of_new same new_presence new_here count count_after new_join p q r = grind arith

eqb_sym : (a b : ℕ) → eqb a b ≡ eqb b a
eqb_sym a b = grind (arith, nat_tests)

same_view : (first : List Entry) (a b : ℕ) → eqb a b ≡ true → list_any (is_presence_of a) first ≡ list_any (is_presence_of b) first
same_view rest a b same = let e : a ≡ b = grind (arith, nat_tests) in rw e refl

-- how the count of views that are here changes: it falls by the view that was here, and rises by the Join
pub here_count-push : (log : List Entry) (entry : Entry) → here_count (log ++ entry ∷ []) + one_if ((is_join entry.what || is_exit entry.what) && is_here log entry.view) ≡ here_count log + one_if (is_join entry.what)
here_count-push [] entry = grind arith
here_count-push (first ∷ rest) entry =
    rw (is_here-cons first rest entry.view, list_any-append (is_presence_of first.view) rest (entry ∷ []), eqb_sym first.view entry.view)
    (here_count_step (is_join first.what) (is_exit first.what) (list_any (is_presence_of first.view) rest) (list_any (is_presence_of entry.view) rest) (eqb entry.view first.view)
    (is_join entry.what || is_exit entry.what) (is_here rest entry.view) (here_count rest) (here_count (rest ++ entry ∷ [])) (one_if (is_join entry.what))
    (same_view rest entry.view first.view) (is_here-none rest entry.view) (here_count-push rest entry))

-- no log with an entry after it has the most entries that there may be
Allows-short : (log : List Entry) (view : ℕ) (what : What) → LogAllows log view what → length log < most_entries
Allows-short log view Join allowed = omega arith
Allows-short log view Exit allowed = allowed.1
Allows-short log view (Event number payload) allowed = omega arith

pub MayFollow-short : (log : List Entry) (entry : Entry) → MayFollow log entry → length log < most_entries
MayFollow-short log entry may = Allows-short log entry.view entry.what may.allowed

slice_get-filter_if : (b : Bool) (first : Entry) (rest front : List Entry) (found : Option Entry) → slice_get rest (length front) ≡ found → slice_get (cond b (first ∷ rest) rest) (length (cond b (first ∷ front) front)) ≡ found
slice_get-filter_if true first rest front found h = h
slice_get-filter_if false first rest front found h = h

-- an entry that passes stands in the filtered log after those before it that pass
pub slice_get-filter : (p : Entry → Bool) (log : List Entry) (i : ℕ) (none : Entry) → i < length log → p (get_or log i none) ≡ true → slice_get (filter p log) (length (filter p (take i log))) ≡ Some (get_or log i none)
slice_get-filter p [] i none below passes = absurd (omega arith)
slice_get-filter p (first ∷ rest) zero none below passes = rw passes refl
slice_get-filter p (first ∷ rest) (suc i) none below passes =
    slice_get-filter_if (p first) first (filter p rest) (filter p (take i rest)) (Some (get_or rest i none)) (slice_get-filter p rest i none (omega arith) passes)

here_count-positive_step : (first_join presence same any any_here here : Bool) (count : ℕ) → (presence ≡ true → any ≡ any_here) → cond any here (presence && first_join) ≡ true → (here ≡ true → 0 < count) → (any ≡ false → here ≡ false) → 0 < one_if (first_join && not any_here) + count
here_count-positive_step first_join presence same any any_here here count p q r n = grind arith

same_presence : (first : Entry) (rest : List Entry) (view : ℕ) → is_presence_of view first ≡ true → list_any (is_presence_of view) rest ≡ list_any (is_presence_of first.view) rest
same_presence first rest view presence = let e : view ≡ first.view = grind (arith, nat_tests) in rw e refl

-- where a view is here, some view is
pub here_count-positive : (log : List Entry) (view : ℕ) → is_here log view ≡ true → 0 < here_count log
here_count-positive [] view here = cc
here_count-positive (first ∷ rest) view here =
    here_count-positive_step (is_join first.what) (is_presence_of view first) true (list_any (is_presence_of view) rest) (list_any (is_presence_of first.view) rest) (is_here rest view) (here_count rest)
    (same_presence first rest view) (rw (is_here-cons first rest view) at here) (here_count-positive rest view) (is_here-none rest view)

-- the view 0 is never here
is_here-zero_after : (before log : List Entry) → IsLegalAfter before log → list_any (is_presence_of 0) log ≡ false
is_here-zero_after before [] legal = refl
is_here-zero_after before (first ∷ rest) legal =
    let named = legal.0.named in
    let none = is_here-zero_after (before ++ first ∷ []) rest legal.1 in
    grind (arith, nat_tests)

pub is_here-zero : (log : List Entry) → IsLegal log → is_here log 0 ≡ false
is_here-zero log legal = is_here-none log 0 (is_here-zero_after [] log legal)

-- an entry stands in a part of a log, after as many entries as are before the part, at the place that its seq says
pub record StandsAfter (before : ℕ) (log : List Entry) (entry : Entry) : Type 0 where
  pub above : before < entry.seq
  pub within : entry.seq ≤ before + length log
  pub at : slice_get log (entry.seq - 1 - before) ≡ Some entry

StandsAfter-first : (before : ℕ) (rest : List Entry) (first : Entry) → first.seq ≡ before + 1 → StandsAfter before (first ∷ rest) first
StandsAfter-first before rest first seq =
    let place : first.seq - 1 - before ≡ 0 = omega arith in
    record { above = omega arith; within = omega arith; at = rw place refl }

StandsAfter-cons : (before : ℕ) (first : Entry) (rest : List Entry) (entry : Entry) → StandsAfter (before + 1) rest entry → StandsAfter before (first ∷ rest) entry
StandsAfter-cons before first rest entry stands =
    let above = stands.above in
    let within = stands.within in
    let place : entry.seq - 1 - before ≡ suc (entry.seq - 1 - (before + 1)) = omega arith in
    record { above = omega arith; within = omega arith; at = rw place stands.at }

filtered_stands_if : (b : Bool) (p : Entry → Bool) (before : List Entry) (first : Entry) (rest : List Entry) (k : ℕ) (entry : Entry) → p first ≡ b → first.seq ≡ length before + 1 → ((j : ℕ) → slice_get (filter p rest) j ≡ Some entry → StandsAfter (length before + 1) rest entry × p entry ≡ true) → slice_get (cond b (first ∷ filter p rest) (filter p rest)) k ≡ Some entry → StandsAfter (length before) (first ∷ rest) entry × p entry ≡ true
filtered_stands_if true p before first rest zero entry passes seq later found =
    let same : first ≡ entry = cc in
    let P : Entry → Type 0 = λ e. StandsAfter (length before) (first ∷ rest) e × p e ≡ true in
    subst P same (StandsAfter-first (length before) rest first seq, passes)
filtered_stands_if true p before first rest (suc k) entry passes seq later found =
    (StandsAfter-cons (length before) first rest entry (later k found).0, (later k found).1)
filtered_stands_if false p before first rest k entry passes seq later found =
    (StandsAfter-cons (length before) first rest entry (later k found).0, (later k found).1)

filtered_stands : (p : Entry → Bool) (before log : List Entry) (k : ℕ) (entry : Entry) → IsLegalAfter before log → slice_get (filter p log) k ≡ Some entry → StandsAfter (length before) log entry × p entry ≡ true
filtered_stands p before [] k entry legal found = absurd cc
filtered_stands p before (first ∷ rest) k entry legal found =
    filtered_stands_if (p first) p before first rest k entry refl legal.0.seq (λ j h. rw length-append at (filtered_stands p (before ++ first ∷ []) rest j entry legal.1 h)) found

some_of_cond : (b : Bool) (found : Option Entry) (entry : Entry) → cond b None found ≡ Some entry → found ≡ Some entry
some_of_cond true found entry is = absurd cc
some_of_cond false found entry is = is

-- the Event that is found stands in the log at its seq
pub event_stands : (log : List Entry) (view number : ℕ) (entry : Entry) → IsLegal log → view_event log view number ≡ Some entry → StandsAfter 0 log entry × is_event_of view entry ≡ true
event_stands log view number entry legal found =
    filtered_stands (is_event_of view) [] log (number - 1) entry legal (some_of_cond (number == 0) (slice_get (view_events log view) (number - 1)) entry found)

-- where a number is counted, its Event is the one at its place
pub event-counted : (log : List Entry) (view number : ℕ) → 0 < number → view_event log view number ≡ slice_get (view_events log view) (number - 1)
event-counted log view number counted = grind (arith, nat_tests)

Allows-bytes : (log : List Entry) (view : ℕ) (what : What) → LogAllows log view what → payload_bytes log ≤ most_bytes → payload_bytes log + payload_len what ≤ most_bytes
Allows-bytes log view Join allowed bound = omega arith
Allows-bytes log view Exit allowed bound = omega arith
Allows-bytes log view (Event number payload) allowed bound = allowed.3

payload_bytes-legal_after : (before log : List Entry) → IsLegalAfter before log → payload_bytes before ≤ most_bytes → payload_bytes (before ++ log) ≤ most_bytes
payload_bytes-legal_after before [] legal bound = rw append-nil bound
payload_bytes-legal_after before (first ∷ rest) legal bound =
    let push = payload_bytes-push before first in
    let one = Allows-bytes before first.view first.what legal.0.allowed bound in
    rw append_assoc at (payload_bytes-legal_after (before ++ first ∷ []) rest legal.1 (omega arith))

-- the payloads of a legal log have at most so many bytes
pub payload_bytes-legal : (log : List Entry) → IsLegal log → payload_bytes log ≤ most_bytes
payload_bytes-legal log legal = payload_bytes-legal_after [] log legal (omega arith)

pub events-push : (log : List Entry) (entry : Entry) → events (log ++ entry ∷ []) ≡ events log ++ cond (is_event entry.what) (entry ∷ []) []
events-push log entry = filter-append (λ (e : Entry). is_event e.what) log (entry ∷ [])

TimesRiseAfter-legal_after : (before log : List Entry) → IsLegalAfter before log → TimesRiseAfter (last_time before) log
TimesRiseAfter-legal_after before [] legal = tt
TimesRiseAfter-legal_after before (first ∷ rest) legal =
    (legal.0.later, rw last_time-push at (TimesRiseAfter-legal_after (before ++ first ∷ []) rest legal.1))

-- the times of a legal log rise
pub TimesRise-legal : (log : List Entry) → IsLegal log → TimesRise log
TimesRise-legal log legal = TimesRiseAfter-legal_after [] log legal

-- the Events of a view are those of all that are its own
sent-events_if : (of_view is_event_too : Bool) (first : Entry) (rest : List Entry) (sent_rest : List Entry)
    → sent_rest ≡ rest → cond (of_view && is_event_too) (first ∷ sent_rest) sent_rest ≡ cond is_event_too (cond of_view (first ∷ rest) rest) rest
sent-events_if true true first rest sent_rest same = ap (λ es. first ∷ es) same
sent-events_if true false first rest sent_rest same = same
sent-events_if false true first rest sent_rest same = same
sent-events_if false false first rest sent_rest same = same

filter-cond : (p : Entry → Bool) (b : Bool) (first : Entry) (rest : List Entry) → filter p (cond b (first ∷ rest) rest) ≡ cond b (cond (p first) (first ∷ filter p rest) (filter p rest)) (filter p rest)
filter-cond p true first rest = refl
filter-cond p false first rest = refl

pub sent-events : (log : List Entry) (view : ℕ) → view_events log view ≡ filter (λ entry. entry.view == view) (events log)
sent-events [] view = refl
sent-events (first ∷ rest) view =
    sent-events_if (first.view == view) (is_event first.what) first (filter (λ entry. entry.view == view) (events rest)) (view_events rest view) (sent-events rest view)
    ∙ sym (filter-cond (λ entry. entry.view == view) (is_event first.what) first (events rest))

-- an Event that may follow has the next number of its view
HasNumber-allowed : (log : List Entry) (view : ℕ) (what : What) → LogAllows log view what → is_event what ≡ true → HasNumber (last_number log view + 1) what
HasNumber-allowed log view Join allowed is = absurd cc
HasNumber-allowed log view Exit allowed is = absurd cc
HasNumber-allowed log view (Event number payload) allowed is = allowed.1

AreNumberedFrom-first : (b : Bool) (before : List Entry) (first : Entry) (later : List Entry) (view : ℕ)
    → is_event_of view first ≡ b → LogAllows before first.view first.what → AreNumberedFrom (last_number (before ++ first ∷ []) view + 1) later → AreNumberedFrom (last_number before view + 1) (cond b (first ∷ later) later)
AreNumberedFrom-first true before first later view is allowed more =
    let own : view ≡ first.view = grind (arith, nat_tests) in
    let event_too : is_event first.what ≡ true = grind arith in
    let count : last_number (before ++ first ∷ []) view ≡ last_number before view + 1 = rw (sent-push before first view, is) (omega (arith, length-append (view_events before view) (first ∷ []))) in
    (rw own (HasNumber-allowed before first.view first.what allowed event_too), rw count at more)
AreNumberedFrom-first false before first later view is allowed more =
    let count : last_number (before ++ first ∷ []) view ≡ last_number before view = rw (sent-push before first view, is) (ap length (append-nil (view_events before view))) in
    rw count at more

AreNumberedFrom-legal_after : (before log : List Entry) (view : ℕ) → IsLegalAfter before log → AreNumberedFrom (last_number before view + 1) (view_events log view)
AreNumberedFrom-legal_after before [] view legal = tt
AreNumberedFrom-legal_after before (first ∷ rest) view legal =
    AreNumberedFrom-first (is_event_of view first) before first (view_events rest view) view refl legal.0.allowed (AreNumberedFrom-legal_after (before ++ first ∷ []) rest view legal.1)

-- in a legal log the Events of each view are numbered 1, 2, 3 and so on
pub EachCountsItsEvents-legal : (log : List Entry) → IsLegal log → EachCountsItsEvents log
EachCountsItsEvents-legal log legal view = AreNumberedFrom-legal_after [] log view legal
