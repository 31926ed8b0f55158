-- The readings of a log after one more entry, and what a table tells of them.
use Rattle.std.proofs.Common.{ℕ, ◌+◌, ◌-◌, ◌<◌, ◌≤◌, ◌≡◌, Bool, true, false, cond, eqb, nat_eq, ◌&&◌, ◌||◌, List, [], ◌∷◌, ◌++◌, Option, Some, None, option_map, unwrap_or, length, length-append, slice_get, zero, suc, refl, sym, ap, ◌∙◌, arith}
use Rattle.std.proofs.lemmas.Bool.{eqb-true, eq-eqb}
use Rattle.indexmap.specs.IndexMap.{get}
use Rattle.std.proofs.lemmas.Bool.Decides.{nat_tests}
use Rattle.std.proofs.lemmas.List.{append-nil}
use Rattle.std.proofs.lemmas.List.Sums.{length-filter, count_by-le-length}
use Rattle.tea_base.specs.declared.entry.Entry.{Entry}
use Rattle.tea_base.specs.declared.entry.What.{What}
use Rattle.tea_base.specs.declared.entry.What.TheVariants as what
use Rattle.tea_base.specs.Readings.{current, is_here, last_number, here_count, view_event, view_events, is_presence_of, is_event_of, is_join, is_exit, is_event, is_some_join, seq_or_zero, last_entry, presence}
use Rattle.tea_base.specs.Limits.{most_entries}
use Rattle.tea_base.proofs.LogLaws.{last_presence-push, sent-push, here_count-push, here_count-le-length}
use Rattle.resend_table.specs.declared.stand.Kind.{Kind}
use Rattle.resend_table.specs.declared.stand.Kind.TheVariants.{Join, Exit, Event}
use Rattle.resend_table.specs.declared.stand.Stand.{Stand}
use Rattle.resend_table.specs.declared.table.Resend.{Resend}
use Rattle.resend_table.specs.Stands.{entry_kind, is_event_kind, absent_stand, stand_of, stand_after, here_count_after, here_count_before, seq_in, IsNotedAs}
use Rattle.resend_table.specs.Noted.{HasNoted, stand_at}

-- ---- how a view stands

current_if : (b : Bool) (entry : Entry) (last : Option Entry) → seq_or_zero (cond b (Some entry) last) ≡ cond b entry.seq (seq_or_zero last)
current_if true entry last = refl
current_if false entry last = refl

current-push : (log : List Entry) (entry : Entry) (view : ℕ) → current (log ++ entry ∷ []) view ≡ cond (is_presence_of view entry) entry.seq (current log view)
current-push log entry view = ap seq_or_zero (last_presence-push log entry view) ∙ current_if (is_presence_of view entry) entry (last_entry (presence log view))

is_here_if : (b : Bool) (entry : Entry) (last : Option Entry) → is_some_join (cond b (Some entry) last) ≡ cond b (is_join entry.what) (is_some_join last)
is_here_if true entry last = refl
is_here_if false entry last = refl

is_here-push : (log : List Entry) (entry : Entry) (view : ℕ) → is_here (log ++ entry ∷ []) view ≡ cond (is_presence_of view entry) (is_join entry.what) (is_here log view)
is_here-push log entry view = ap is_some_join (last_presence-push log entry view) ∙ is_here_if (is_presence_of view entry) entry (last_entry (presence log view))

length-push_if : (b : Bool) (log : List Entry) (entry : Entry) → length (log ++ cond b (entry ∷ []) []) ≡ length log + cond b 1 0
length-push_if true log entry = omega (arith, length-append log (entry ∷ []))
length-push_if false log entry = omega (arith, length-append log [])

last_number-push : (log : List Entry) (entry : Entry) (view : ℕ) → last_number (log ++ entry ∷ []) view ≡ last_number log view + cond (is_event_of view entry) 1 0
last_number-push log entry view = ap length (sent-push log entry view) ∙ length-push_if (is_event_of view entry) (view_events log view) entry

abbrev made_stand : ℕ → Bool → ℕ → Stand
made_stand current here last = record { current = current; here = here; last = last }

stood_by : (same : Bool) (what : What) (seq current : ℕ) (here : Bool) (last : ℕ)
    → cond same (stand_after (made_stand current here last) seq (entry_kind what)) (made_stand current here last)
    ≡ made_stand (cond (same && (is_join what || is_exit what)) seq current) (cond (same && (is_join what || is_exit what)) (is_join what) here) (last + cond (same && is_event what) 1 0)
stood_by true what.Join seq current here last = let e : last ≡ last + 0 = omega arith in ap (made_stand seq true) e
stood_by true what.Exit seq current here last = let e : last ≡ last + 0 = omega arith in ap (made_stand seq false) e
stood_by true (what.Event number payload) seq current here last = refl
stood_by false what seq current here last = let e : last ≡ last + 0 = omega arith in ap (made_stand current here) e

pub stand-push : (log : List Entry) (entry : Entry) (view : ℕ) → stand_of (log ++ entry ∷ []) view ≡ cond (eqb entry.view view) (stand_after (stand_of log view) entry.seq (entry_kind entry.what)) (stand_of log view)
stand-push log entry view =
    rw (current-push log entry view, is_here-push log entry view, last_number-push log entry view)
    (sym (stood_by (eqb entry.view view) entry.what entry.seq (current log view) (is_here log view) (last_number log view)))

last_number-le : (log : List Entry) (view : ℕ) → last_number log view ≤ length log
last_number-le log view = omega (arith, length-filter (is_event_of view) log, count_by-le-length (is_event_of view) log)

-- ---- the Events of a view

zero_apart : (n : ℕ) → eqb 0 (suc n) ≡ false
zero_apart n = grind (arith, nat_tests)

apart_zero : (n : ℕ) → eqb (suc n) 0 ≡ false
apart_zero n = grind (arith, nat_tests)

eqb-suc : (a b : ℕ) → eqb (suc a) (suc b) ≡ eqb a b
eqb-suc a b = grind (arith, nat_tests)

slice_get-push : (log : List Entry) (entry : Entry) (i : ℕ) → slice_get (log ++ entry ∷ []) i ≡ cond (eqb (length log) i) (Some entry) (slice_get log i)
slice_get-push [] entry zero = refl
slice_get-push [] entry (suc i) = rw (zero_apart i) refl
slice_get-push (first ∷ rest) entry zero = rw (apart_zero (length rest)) refl
slice_get-push (first ∷ rest) entry (suc i) = rw (eqb-suc (length rest) i) (slice_get-push rest entry i)

abbrev seq_at : List Entry → ℕ → Option ℕ
seq_at sent number = option_map (λ (e : Entry). e.seq) (cond (eqb number 0) None (slice_get sent (number - 1)))

seq_of_cond : (b : Bool) (entry : Entry) (found : Option Entry) → option_map (λ (e : Entry). e.seq) (cond b (Some entry) found) ≡ cond b (Some entry.seq) (option_map (λ (e : Entry). e.seq) found)
seq_of_cond true entry found = refl
seq_of_cond false entry found = refl

seq_at-push : (sent : List Entry) (entry : Entry) (number : ℕ) → seq_at (sent ++ entry ∷ []) number ≡ cond (eqb (length sent + 1) number) (Some entry.seq) (seq_at sent number)
seq_at-push sent entry zero = let e : eqb (length sent + 1) 0 ≡ false = grind (arith, nat_tests) in rw e refl
seq_at-push sent entry (suc i) =
    let place : suc i - 1 ≡ i = omega arith in
    let next : eqb (length sent + 1) (suc i) ≡ eqb (length sent) i = grind (arith, nat_tests) in
    rw (apart_zero i, place, next)
    (ap (option_map (λ (e : Entry). e.seq)) (slice_get-push sent entry i) ∙ seq_of_cond (eqb (length sent) i) entry (slice_get sent i))

seq_at_if : (same event : Bool) (sent : List Entry) (entry : Entry) (number : ℕ)
    → seq_at (sent ++ cond (same && event) (entry ∷ []) []) number ≡ cond (event && (same && eqb (length sent + 1) number)) (Some entry.seq) (seq_at sent number)
seq_at_if true true sent entry number = seq_at-push sent entry number
seq_at_if true false sent entry number = ap (λ (es : List Entry). seq_at es number) (append-nil sent)
seq_at_if false true sent entry number = ap (λ (es : List Entry). seq_at es number) (append-nil sent)
seq_at_if false false sent entry number = ap (λ (es : List Entry). seq_at es number) (append-nil sent)

is_event-kind : (what : What) → is_event_kind (entry_kind what) ≡ is_event what
is_event-kind what.Join = refl
is_event-kind what.Exit = refl
is_event-kind (what.Event number payload) = refl

event-push : (log : List Entry) (entry : Entry) (view number : ℕ)
    → option_map (λ (e : Entry). e.seq) (view_event (log ++ entry ∷ []) view number)
    ≡ cond (is_event_kind (entry_kind entry.what) && (eqb entry.view view && eqb (last_number log view + 1) number)) (Some entry.seq) (option_map (λ (e : Entry). e.seq) (view_event log view number))
event-push log entry view number =
    ap (λ (es : List Entry). seq_at es number) (sent-push log entry view)
    ∙ seq_at_if (eqb entry.view view) (is_event entry.what) (view_events log view) entry number
    ∙ ap (λ (b : Bool). cond (b && (eqb entry.view view && eqb (last_number log view + 1) number)) (Some entry.seq) (option_map (λ (e : Entry). e.seq) (view_event log view number))) (sym (is_event-kind entry.what))

-- ---- how many are here

here_step : (what : What) (here : Bool) (before after : ℕ) → after + cond ((is_join what || is_exit what) && here) 1 0 ≡ before + cond (is_join what) 1 0 → here_count_after before here (entry_kind what) ≡ after
here_step what.Join true before after e = omega arith
here_step what.Join false before after e = omega arith
here_step what.Exit true before after e = omega arith
here_step what.Exit false before after e = omega arith
here_step (what.Event number payload) here before after e = omega arith

here-push : (log : List Entry) (entry : Entry) → here_count_after (here_count log) (is_here log entry.view) (entry_kind entry.what) ≡ here_count (log ++ entry ∷ [])
here-push log entry = here_step entry.what (is_here log entry.view) (here_count log) (here_count (log ++ entry ∷ [])) (here_count-push log entry)

-- ---- one more entry is noted

same_view_if : (b : Bool) (log : List Entry) (seq : ℕ) (kind : Kind) (at other : ℕ) (kept : Stand) → eqb at other ≡ b → cond b (stand_after (stand_of log at) seq kind) kept ≡ cond b (stand_after (stand_of log other) seq kind) kept
same_view_if true log seq kind at other kept e = let same : at ≡ other = eqb-true at other e in rw same refl
same_view_if false log seq kind at other kept e = refl

same_number_if : (b event : Bool) (log : List Entry) (at other number : ℕ) (seq kept : Option ℕ) → eqb at other ≡ b
    → cond (event && (b && eqb (last_number log at + 1) number)) seq kept ≡ cond (event && (b && eqb (last_number log other + 1) number)) seq kept
same_number_if true event log at other number seq kept e = let same : at ≡ other = eqb-true at other e in rw same refl
same_number_if false event log at other number seq kept e = refl

-- an entry is noted by its seq, its view and its kind alone
stand_as : (entry : Entry) (seq view : ℕ) (kind : Kind) (v : ℕ) (stand kept : Stand) → IsNotedAs seq view kind entry
    → cond (eqb view v) (stand_after stand seq kind) kept ≡ cond (eqb entry.view v) (stand_after stand entry.seq (entry_kind entry.what)) kept
stand_as entry seq view kind v stand kept is = rw (is.0, is.1, is.2) refl

seq_as : (entry : Entry) (seq view : ℕ) (kind : Kind) (v number last : ℕ) (kept : Option ℕ) → IsNotedAs seq view kind entry
    → cond (is_event_kind kind && (eqb view v && eqb last number)) (Some seq) kept ≡ cond (is_event_kind (entry_kind entry.what) && (eqb entry.view v && eqb last number)) (Some entry.seq) kept
seq_as entry seq view kind v number last kept is = rw (is.0, is.1, is.2) refl

here_as : (entry : Entry) (seq view : ℕ) (kind : Kind) (log : List Entry) → IsNotedAs seq view kind entry
    → here_count_after (here_count log) (is_here log view) kind ≡ here_count_after (here_count log) (is_here log entry.view) (entry_kind entry.what)
here_as entry seq view kind log is = rw (is.1, is.2) refl

-- where each part of the table took note of the entry
module _ (before after : Resend) (log : List Entry) (entry : Entry) (seq view : ℕ) (kind : Kind) (stand : Stand) (told : HasNoted before log) (is : IsNotedAs seq view kind entry) (stood : stand ≡ stand_at before view) where
  at : stand ≡ stand_of log view
  at = stood ∙ told.stands view

  noted_stand : (v : ℕ) → stand_at after v ≡ cond (eqb view v) (stand_after stand seq kind) (stand_at before v) → stand_at after v ≡ stand_of (log ++ entry ∷ []) v
  noted_stand v step =
      step
      ∙ ap (λ (s : Stand). cond (eqb view v) (stand_after s seq kind) (stand_at before v)) at
      ∙ ap (λ (s : Stand). cond (eqb view v) (stand_after (stand_of log view) seq kind) s) (told.stands v)
      ∙ same_view_if (eqb view v) log seq kind view v (stand_of log v) refl
      ∙ stand_as entry seq view kind v (stand_of log v) (stand_of log v) is
      ∙ sym (stand-push log entry v)

  noted_seq : (v number : ℕ) → seq_in after.seqs v number ≡ cond (is_event_kind kind && (eqb view v && eqb (stand.last + 1) number)) (Some seq) (seq_in before.seqs v number)
      → seq_in after.seqs v number ≡ option_map (λ (e : Entry). e.seq) (view_event (log ++ entry ∷ []) v number)
  noted_seq v number step =
      step
      ∙ ap (λ (s : Stand). cond (is_event_kind kind && (eqb view v && eqb (s.last + 1) number)) (Some seq) (seq_in before.seqs v number)) at
      ∙ ap (λ (o : Option ℕ). cond (is_event_kind kind && (eqb view v && eqb (last_number log view + 1) number)) (Some seq) o) (told.seqs v number)
      ∙ same_number_if (eqb view v) (is_event_kind kind) log view v number (Some seq) (option_map (λ (e : Entry). e.seq) (view_event log v number)) refl
      ∙ seq_as entry seq view kind v number (last_number log v + 1) (option_map (λ (e : Entry). e.seq) (view_event log v number)) is
      ∙ sym (event-push log entry v number)

  noted_here : after.here_count ≡ here_count_after before.here_count stand.here kind → after.here_count ≡ here_count (log ++ entry ∷ [])
  noted_here step =
      step
      ∙ ap (λ (n : ℕ). here_count_after n stand.here kind) told.here
      ∙ ap (λ (s : Stand). here_count_after (here_count log) s.here kind) at
      ∙ here_as entry seq view kind log is
      ∙ here-push log entry

  pub noted : ((v : ℕ) → stand_at after v ≡ cond (eqb view v) (stand_after stand seq kind) (stand_at before v))
      → ((v number : ℕ) → seq_in after.seqs v number ≡ cond (is_event_kind kind && (eqb view v && eqb (stand.last + 1) number)) (Some seq) (seq_in before.seqs v number))
      → after.here_count ≡ here_count_after before.here_count stand.here kind
      → HasNoted after (log ++ entry ∷ [])
  noted stands seqs here = record {
    stands = λ v. noted_stand v (stands v);
    seqs = λ v number. noted_seq v number (seqs v number);
    here = noted_here here;
  }

-- the stand of the view is put, and all others stay
pub stand_put : (b : Bool) (stand : Stand) (kept : Option Stand) → unwrap_or (cond b (Some stand) kept) absent_stand ≡ cond b stand (unwrap_or kept absent_stand)
stand_put true stand kept = refl
stand_put false stand kept = refl

-- ---- bounds

pub last_told : (table : Resend) (view : ℕ) (stand : Stand) → stand ≡ stand_at table view → (log : List Entry) → HasNoted table log → stand.last ≤ length log
last_told table view stand is log told =
    let e : stand.last ≡ last_number log view = ap (λ (s : Stand). s.last) (is ∙ told.stands view) in
    omega (arith, last_number-le log view)

pub few_here : (table : Resend) (log : List Entry) → HasNoted table log → length log < most_entries → table.here_count < most_entries
few_here table log told short = omega (arith, told.here, here_count-le-length log, short)

pub few_sent : (table : Resend) (view : ℕ) (stand : Stand) → stand ≡ stand_at table view → (log : List Entry) → HasNoted table log → length log < most_entries → stand.last < most_entries
few_sent table view stand is log told short = omega (arith, last_told table view stand is log told, short)

-- ---- the last entry is forgotten

here_back : (what : What) (here : Bool) (before after : ℕ) → after + cond ((is_join what || is_exit what) && here) 1 0 ≡ before + cond (is_join what) 1 0 → here_count_before after here (entry_kind what) ≡ before
here_back what.Join true before after e = omega arith
here_back what.Join false before after e = omega arith
here_back what.Exit true before after e = omega arith
here_back what.Exit false before after e = omega arith
here_back (what.Event number payload) here before after e = omega arith

here-pop : (log : List Entry) (entry : Entry) → here_count_before (here_count (log ++ entry ∷ [])) (is_here log entry.view) (entry_kind entry.what) ≡ here_count log
here-pop log entry = here_back entry.what (is_here log entry.view) (here_count log) (here_count (log ++ entry ∷ [])) (here_count-push log entry)

here_before_as : (entry : Entry) (seq view : ℕ) (kind : Kind) (log : List Entry) (count : ℕ) → IsNotedAs seq view kind entry
    → here_count_before count (is_here log view) kind ≡ here_count_before count (is_here log entry.view) (entry_kind entry.what)
here_before_as entry seq view kind log count is = rw (is.1, is.2) refl

slice_get-behind : (log : List Entry) → slice_get log (length log) ≡ None
slice_get-behind [] = refl
slice_get-behind (first ∷ rest) = slice_get-behind rest

-- a view has no Event with the number after its last one
no_next : (log : List Entry) (view : ℕ) → option_map (λ (e : Entry). e.seq) (view_event log view (last_number log view + 1)) ≡ None
no_next log view =
    let counted : eqb (last_number log view + 1) 0 ≡ false = grind (arith, nat_tests) in
    let place : last_number log view + 1 - 1 ≡ length (view_events log view) = omega arith in
    rw (counted, place) (ap (option_map (λ (e : Entry). e.seq)) (slice_get-behind (view_events log view)))

-- the stand of the entry's view is what it was, and so are all others
back_stand_if : (b : Bool) (log : List Entry) (own other seq : ℕ) (kind : Kind) → eqb own other ≡ b
    → cond b (stand_of log own) (cond b (stand_after (stand_of log other) seq kind) (stand_of log other)) ≡ stand_of log other
back_stand_if true log own other seq kind e = let same : own ≡ other = eqb-true own other e in ap (stand_of log) same
back_stand_if false log own other seq kind e = refl

-- the Event's seq is gone, and all others stay
back_seq_if : (same next event : Bool) (log : List Entry) (own other number : ℕ) (seq : ℕ) → eqb own other ≡ same → eqb (last_number log own + 1) number ≡ next
    → cond (event && (same && next)) None (cond (event && (same && eqb (last_number log other + 1) number)) (Some seq) (option_map (λ (e : Entry). e.seq) (view_event log other number)))
    ≡ option_map (λ (e : Entry). e.seq) (view_event log other number)
back_seq_if true true true log own other number seq e n =
    let here : own ≡ other = eqb-true own other e in
    let next : last_number log own + 1 ≡ number = eqb-true (last_number log own + 1) number n in
    sym (no_next log other) ∙ ap (λ (k : ℕ). option_map (λ (t : Entry). t.seq) (view_event log other k)) (sym (ap (λ (v : ℕ). last_number log v + 1) here) ∙ next)
back_seq_if true false true log own other number seq e n =
    let here : own ≡ other = eqb-true own other e in
    let apart : eqb (last_number log other + 1) number ≡ false = sym (ap (λ (v : ℕ). eqb (last_number log v + 1) number) here) ∙ n in
    rw apart refl
back_seq_if false next true log own other number seq e n = refl
back_seq_if same next false log own other number seq e n = refl

-- where each part of the table forgot the entry
module _ (before after : Resend) (log : List Entry) (entry : Entry) (seq view : ℕ) (kind : Kind) (stand : Stand) (told : HasNoted before (log ++ entry ∷ [])) (is : IsNotedAs seq view kind entry) (stood : stand ≡ stand_of log view) where
  back_stand : (v : ℕ) → stand_at after v ≡ cond (eqb view v) stand (stand_at before v) → stand_at after v ≡ stand_of log v
  back_stand v step =
      step
      ∙ ap (λ (s : Stand). cond (eqb view v) s (stand_at before v)) stood
      ∙ ap (λ (s : Stand). cond (eqb view v) (stand_of log view) s) (told.stands v)
      ∙ ap (λ (s : Stand). cond (eqb view v) (stand_of log view) s) (stand-push log entry v)
      ∙ ap (λ (s : Stand). cond (eqb view v) (stand_of log view) s) (sym (stand_as entry seq view kind v (stand_of log v) (stand_of log v) is))
      ∙ back_stand_if (eqb view v) log view v seq kind refl

  back_seq : (v number : ℕ) → seq_in after.seqs v number ≡ cond (is_event_kind kind && (eqb view v && eqb (stand.last + 1) number)) None (seq_in before.seqs v number)
      → seq_in after.seqs v number ≡ option_map (λ (e : Entry). e.seq) (view_event log v number)
  back_seq v number step =
      step
      ∙ ap (λ (s : Stand). cond (is_event_kind kind && (eqb view v && eqb (s.last + 1) number)) None (seq_in before.seqs v number)) stood
      ∙ ap (λ (o : Option ℕ). cond (is_event_kind kind && (eqb view v && eqb (last_number log view + 1) number)) None o) (told.seqs v number ∙ event-push log entry v number)
      ∙ ap (λ (o : Option ℕ). cond (is_event_kind kind && (eqb view v && eqb (last_number log view + 1) number)) None o)
      (sym (seq_as entry seq view kind v number (last_number log v + 1) (option_map (λ (e : Entry). e.seq) (view_event log v number)) is))
      ∙ back_seq_if (eqb view v) (eqb (last_number log view + 1) number) (is_event_kind kind) log view v number seq refl refl

  back_here : after.here_count ≡ here_count_before before.here_count stand.here kind → after.here_count ≡ here_count log
  back_here step =
      step
      ∙ ap (λ (n : ℕ). here_count_before n stand.here kind) told.here
      ∙ ap (λ (s : Stand). here_count_before (here_count (log ++ entry ∷ [])) s.here kind) stood
      ∙ here_before_as entry seq view kind log (here_count (log ++ entry ∷ [])) is
      ∙ here-pop log entry

  pub forgotten : ((v : ℕ) → stand_at after v ≡ cond (eqb view v) stand (stand_at before v))
      → ((v number : ℕ) → seq_in after.seqs v number ≡ cond (is_event_kind kind && (eqb view v && eqb (stand.last + 1) number)) None (seq_in before.seqs v number))
      → after.here_count ≡ here_count_before before.here_count stand.here kind
      → HasNoted after log
  forgotten stands seqs here = record {
    stands = λ v. back_stand v (stands v);
    seqs = λ v number. back_seq v number (seqs v number);
    here = back_here here;
  }

-- no entry leaves its view as one that no entry names
some_stand : (stand : Stand) (seq : ℕ) (kind : Kind) → 0 < seq → stand_after stand seq kind ≡ absent_stand → ⊥
some_stand stand seq Join counted e = let here : true ≡ false = ap (λ (s : Stand). s.here) e in cc
some_stand stand seq Exit counted e = let none : seq ≡ 0 = ap (λ (s : Stand). s.current) e in omega (arith, none, counted)
some_stand stand seq Event counted e = let none : stand.last + 1 ≡ 0 = ap (λ (s : Stand). s.last) e in omega (arith, none)

-- so the table has it
pub is_there : (table : Resend) (log : List Entry) (entry : Entry) (seq view : ℕ) (kind : Kind) → 0 < seq → HasNoted table (log ++ entry ∷ []) → IsNotedAs seq view kind entry → get nat_eq table.stands view ≡ None → ⊥
is_there table log entry seq view kind counted told is none =
    let at : stand_at table view ≡ absent_stand = ap (λ (o : Option Stand). unwrap_or o absent_stand) none in
    let pushed : stand_of (log ++ entry ∷ []) view ≡ stand_after (stand_of log view) seq kind =
    stand-push log entry view ∙ sym (stand_as entry seq view kind view (stand_of log view) (stand_of log view) is) ∙ ap (λ (b : Bool). cond b (stand_after (stand_of log view) seq kind) (stand_of log view)) (eq-eqb view view refl) in
    some_stand (stand_of log view) seq kind counted (sym pushed ∙ sym (told.stands view) ∙ at)

pub few_after : (table : Resend) (log : List Entry) (entry : Entry) → HasNoted table (log ++ entry ∷ []) → length log < most_entries → table.here_count ≤ most_entries
few_after table log entry told short = omega (arith, told.here, here_count-le-length (log ++ entry ∷ []), length-append log (entry ∷ []), short)

pub few_before : (log : List Entry) (view : ℕ) (stand : Stand) → stand ≡ stand_of log view → length log < most_entries → stand.last < most_entries
few_before log view stand is short = let e : stand.last ≡ last_number log view = ap (λ (s : Stand). s.last) is in omega (arith, e, last_number-le log view, short)
