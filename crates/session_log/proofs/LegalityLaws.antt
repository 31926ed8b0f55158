-- The test of legality decides it, and how the stand of a view changes.
use Rattle.std.proofs.Common.{ℕ, Option, Some, ◌+◌, ◌^◌, ◌<◌, ◌≤◌, ◌≡◌, Bool, true, false, cond, ◌&&◌, ◌||◌, List, [], ◌∷◌, ◌++◌, length, length-append, append_assoc, append-nil, eqb, refl, sym, ap, ◌∙◌, arith}
use Rattle.std.specs.Bool.{Decides}
use Rattle.std.proofs.lemmas.List.Sums.{length-filter, count_by-le-length}
use Rattle.std.proofs.lemmas.Bool.Decides.{nat_tests, Decides-and, Decides-like, Decides-not, Decides-eqb, Decides-ltb}
use Rattle.tea_base.specs.declared.entry.Entry.{Entry}
use Rattle.tea_base.specs.declared.entry.What.{What}
use Rattle.tea_base.specs.declared.entry.What.TheVariants.{Join, Exit, Event}
use Rattle.tea_base.specs.Readings.{is_here, last_number, last_time, is_presence_of, is_event_of, is_join, is_exit, is_event, is_some_join, last_entry, presence}
use Rattle.tea_base.specs.Limits.{time_limit, most_entries}
use Rattle.tea_base.specs.Legal.{LogAllows, MayFollow, IsLegalAfter, IsLegal}
use Rattle.tea_base.proofs.LogLaws.{last_presence-push, MayFollow-short}
use Rattle.session_log.specs.declared.legality.ViewState.{ViewState}
use Rattle.session_log.specs.Legality.{log_counts, view_state, log_allows, may_follow, view_state_after}
use Rattle.session_log.proofs.HeadLaws.{last_number-push}

allows-Decides : (log : List Entry) (view : ℕ) (what : What) → Decides (log_allows (log_counts log) (view_state log view) what) (LogAllows log view what)
allows-Decides log view Join = (λ h. grind (arith, nat_tests), λ h. let a = h.0 in let b = h.1 in grind (arith, nat_tests))
allows-Decides log view Exit = (λ h. grind (arith, nat_tests), λ h. let a = h.0 in let b = h.1 in grind (arith, nat_tests))
allows-Decides log view (Event number payload) =
    (λ h. grind (arith, nat_tests), λ h. let a = h.0 in let b = h.1 in let c = h.2 in let d = h.3 in let e = h.4 in grind (arith, nat_tests))

-- what is left to test of an entry with the next seq and a view of 32 bits
abbrev Facts : List Entry → Entry → Type 0
Facts log entry = (last_time log < entry.time) × ((entry.time < time_limit) × ((entry.view ≡ 0 → ⊥) × LogAllows log entry.view entry.what))

pub may_follow-Decides : (log : List Entry) (entry : Entry) → entry.seq ≡ length log + 1 → entry.view < 2 ^ 32 → Decides (may_follow log entry) (MayFollow log entry)
may_follow-Decides log entry seq bound =
    let from : Facts log entry → MayFollow log entry = λ f. record { seq = seq; later = f.0; time_bound = f.1.0; named = f.1.1.0; view_bound = bound; allowed = f.1.1.1 } in
    let to : MayFollow log entry → Facts log entry = λ may. (may.later, (may.time_bound, (may.named, may.allowed))) in
    let facts : Decides (may_follow log entry) (Facts log entry) =
    Decides-and _ _ (Decides-ltb (last_time log) entry.time) (Decides-and _ _ (Decides-ltb entry.time (time_limit))
    (Decides-and _ _ (Decides-not _ (Decides-eqb entry.view 0)) (allows-Decides log entry.view entry.what))) in
    Decides-like (may_follow log entry) from to facts

-- ---- the stand of a view

is_here_if : (b : Bool) (entry : Entry) (last : Option Entry) → is_some_join (cond b (Some entry) last) ≡ cond b (is_join entry.what) (is_some_join last)
is_here_if true entry last = refl
is_here_if false entry last = refl

is_here-push : (log : List Entry) (entry : Entry) (view : ℕ) → is_here (log ++ entry ∷ []) view ≡ cond (is_presence_of view entry) (is_join entry.what) (is_here log view)
is_here-push log entry view = ap is_some_join (last_presence-push log entry view) ∙ is_here_if (is_presence_of view entry) entry (last_entry (presence log view))

abbrev made_stand : Bool → ℕ → ViewState
made_stand here number = record { here = here; number = number }

stood_by : (same : Bool) (here : Bool) (number : ℕ) (what : What) → cond same (view_state_after (made_stand here number) what) (made_stand here number)
    ≡ made_stand (cond (same && (is_join what || is_exit what)) (is_join what) here) (number + cond (same && is_event what) 1 0)
stood_by true here number Join = let e : number ≡ number + 0 = omega arith in ap (made_stand true) e
stood_by true here number Exit = let e : number ≡ number + 0 = omega arith in ap (made_stand false) e
stood_by true here number (Event n payload) = refl
stood_by false here number what = let e : number ≡ number + 0 = omega arith in ap (made_stand here) e

pub stand-push : (log : List Entry) (entry : Entry) (view : ℕ) → view_state (log ++ entry ∷ []) view ≡ cond (eqb entry.view view) (view_state_after (view_state log view) entry.what) (view_state log view)
stand-push log entry view =
    rw (is_here-push log entry view, last_number-push log entry view) (sym (stood_by (eqb entry.view view) (is_here log view) (last_number log view) entry.what))

-- ---- bounds of a legal log

length-legal_after : (before log : List Entry) → IsLegalAfter before log → length before ≤ most_entries → length (before ++ log) ≤ most_entries
length-legal_after before [] legal bound = rw append-nil bound
length-legal_after before (first ∷ rest) legal bound =
    let short = MayFollow-short before first legal.0 in
    rw append_assoc at (length-legal_after (before ++ first ∷ []) rest legal.1 (omega (arith, length-append before (first ∷ []))))

-- a legal log has at most so many entries
pub length-legal : (log : List Entry) → IsLegal log → length log ≤ most_entries
length-legal log legal = length-legal_after [] log legal (omega arith)

pub last_number-le : (log : List Entry) (view : ℕ) → last_number log view ≤ length log
last_number-le log view = omega (arith, length-filter (is_event_of view) log, count_by-le-length (is_event_of view) log)
