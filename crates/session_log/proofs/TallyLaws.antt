-- What the tally tells after one more entry.
use Rattle.std.proofs.Common.{◌≡◌, ℕ, ◌+◌, ◌<◌, ◌≤◌, Bool, true, false, cond, eqb, ◌&&◌, ◌||◌, Result, Ok, Err, List, [], ◌∷◌, ◌++◌, length, refl, sym, ap, ◌∙◌, arith}
use Rattle.std.specs.Prelude.{OnOk, OnErr}
use Rattle.std.proofs.lemmas.Bool.{eqb-true}
use Rattle.tea_base.specs.declared.entry.Entry.{Entry}
use Rattle.tea_base.specs.declared.entry.What.{What}
use Rattle.tea_base.specs.declared.entry.What.TheVariants.{Join, Exit, Event}
use Rattle.tea_base.specs.Readings.{here_count, is_here, last_number, payload_bytes, is_join, is_exit}
use Rattle.tea_base.specs.Legal.{MayFollow, LogAllows}
use Rattle.tea_base.specs.Limits.{most_entries}
use Rattle.tea_base.proofs.LogLaws.{here_count-push, here_count-positive, here_count-le-length, last_time-push, MayFollow-short}
use Rattle.session_log.specs.declared.legality.ViewState.{ViewState}
use Rattle.session_log.specs.declared.tally.Tally.{Tally}
use Rattle.session_log.specs.Legality.{view_state, view_state_after, may_go_on, may_follow}
use Rattle.session_log.specs.Tally.{TellsLog, TellsTheSame, view_state_in, here_after}
use Rattle.session_log.proofs.LegalityLaws.{stand-push, last_number-le}

exit_here : (log : List Entry) (view : ℕ) (what : What) → LogAllows log view what → what ≡ Exit → is_here log view ≡ true
exit_here log view Join allowed e = absurd cc
exit_here log view Exit allowed e = allowed.0
exit_here log view (Event number payload) allowed e = absurd cc

-- the count of views that are here
here_step : (what : What) (here : Bool) (before after number : ℕ) → (what ≡ Exit → here ≡ true) → after + cond ((is_join what || is_exit what) && here) 1 0 ≡ before + cond (is_join what) 1 0
    → here_after before (record { here = here; number = number }) what ≡ after
here_step Join true before after number exit e = omega arith
here_step Join false before after number exit e = omega arith
here_step Exit true before after number exit e = omega arith
here_step Exit false before after number exit e = let h : false ≡ true = exit refl in absurd cc
here_step (Event k payload) here before after number exit e = omega arith

here_told : (log : List Entry) (entry : Entry) → MayFollow log entry → here_after (here_count log) (view_state log entry.view) entry.what ≡ here_count (log ++ entry ∷ [])
here_told log entry may =
    here_step entry.what (is_here log entry.view) (here_count log) (here_count (log ++ entry ∷ [])) (last_number log entry.view) (exit_here log entry.view entry.what may.allowed) (here_count-push log entry)

-- ---- bounds

pub number_told : (tally : Tally) (log : List Entry) (view : ℕ) (found : ViewState) → TellsLog tally log → length log ≤ most_entries → found ≡ view_state_in tally.stands view → found.number ≤ most_entries
number_told tally log view found tells short e =
    let number : found.number ≡ last_number log view = ap (λ (s : ViewState). s.number) (e ∙ tells.stands view) in
    omega (arith, last_number-le log view)

pub few_told : (tally : Tally) (log : List Entry) → TellsLog tally log → length log ≤ most_entries → tally.views_here ≤ most_entries
few_told tally log tells short = let e = tells.views_here in omega (arith, here_count-le-length log)

pub some_told : (tally : Tally) (log : List Entry) (entry : Entry) → TellsLog tally log → MayFollow log entry → entry.what ≡ Exit → 0 < tally.views_here
some_told tally log entry tells may e =
    let count = tells.views_here in
    let positive = here_count-positive log entry.view (exit_here log entry.view entry.what may.allowed e) in
    omega arith

pub short_told : (log : List Entry) (entry : Entry) → MayFollow log entry → length log ≤ most_entries
short_told log entry may = let h = MayFollow-short log entry may in omega arith

-- ---- the test

-- the test over what the tally tells is the test over the log
pub may_follow_told : (tally : Tally) (log : List Entry) (entry : Entry) (entries bytes : ℕ) (found : ViewState) → TellsLog tally log → entries ≡ length log → bytes ≡ payload_bytes log → found ≡ view_state_in tally.stands entry.view
    → may_go_on (record { entries = entries; payload_bytes = bytes; views_here = tally.views_here; time = tally.time }) found entry ≡ may_follow log entry
may_follow_told tally log entry entries bytes found tells len payload is =
    rw (len, payload, tells.views_here, tells.time, is, tells.stands entry.view) refl

-- ---- one more entry

same_view_if : (b : Bool) (log : List Entry) (what : What) (at other : ℕ) (kept : ViewState) → eqb at other ≡ b → cond b (view_state_after (view_state log at) what) kept ≡ cond b (view_state_after (view_state log other) what) kept
same_view_if true log what at other kept e = let same : at ≡ other = eqb-true at other e in rw same refl
same_view_if false log what at other kept e = refl

learned : (before after : Tally) (log : List Entry) (entry : Entry) (found : ViewState) → TellsLog before log → MayFollow log entry → found ≡ view_state_in before.stands entry.view
    → after.time ≡ entry.time → after.views_here ≡ here_after before.views_here found entry.what
    → ((other : ℕ) → view_state_in after.stands other ≡ cond (eqb entry.view other) (view_state_after found entry.what) (view_state_in before.stands other)) → TellsLog after (log ++ entry ∷ [])
learned before after log entry found tells may is time here stands =
    let same : found ≡ view_state log entry.view = is ∙ tells.stands entry.view in
    record {
      time = time ∙ sym (last_time-push log entry);
      views_here = here ∙ ap (λ (n : ℕ). here_after n found entry.what) tells.views_here ∙ ap (λ (s : ViewState). here_after (here_count log) s entry.what) same ∙ here_told log entry may;
      stands = λ other.
          stands other ∙ ap (λ (s : ViewState). cond (eqb entry.view other) (view_state_after s entry.what) (view_state_in before.stands other)) same
          ∙ ap (λ (s : ViewState). cond (eqb entry.view other) (view_state_after (view_state log entry.view) entry.what) s) (tells.stands other)
          ∙ same_view_if (eqb entry.view other) log entry.what entry.view other (view_state log other) refl
          ∙ sym (stand-push log entry other);
    }

pub learned_ok : {X E : Type 0} (r : Result X E) (before after : Tally) (log : List Entry) (entry : Entry) (found : ViewState) → TellsLog before log → MayFollow log entry → found ≡ view_state_in before.stands entry.view
    → OnOk r (after.time ≡ entry.time) → OnOk r (after.views_here ≡ here_after before.views_here found entry.what)
    → OnOk r ((other : ℕ) → view_state_in after.stands other ≡ cond (eqb entry.view other) (view_state_after found entry.what) (view_state_in before.stands other)) → OnOk r (TellsLog after (log ++ entry ∷ []))
learned_ok (Ok x) before after log entry found tells may is time here stands = learned before after log entry found tells may is time here stands
learned_ok (Err e) before after log entry found tells may is time here stands = tt

-- ---- no more

pub kept_told : (before after : Tally) (log : List Entry) → TellsLog before log → TellsTheSame before after → TellsLog after log
kept_told before after log tells same = record {
  time = same.time ∙ tells.time;
  views_here = same.views_here ∙ tells.views_here;
  stands = λ view. same.stands view ∙ tells.stands view;
}

pub learned_err : {X E : Type 0} (r : Result X E) (before after : Tally) (log : List Entry) → TellsLog before log → OnErr r (TellsTheSame before after) → OnErr r (TellsLog after log)
learned_err (Ok value) before after log tells same = tt
learned_err (Err fault) before after log tells same = kept_told before after log tells same
