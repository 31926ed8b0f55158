-- A view's readings of a log are those of its own entries.
use Rattle.std.proofs.Common.{ℕ, ◌+◌, ◌-◌, ◌≡◌, Bool, true, false, cond, ◌&&◌, ◌||◌, ◌==◌, List, [], ◌∷◌, ◌++◌, Some, None, zero, suc, slice_get, filter, map, length, length-append, ap, ◌∙◌, refl, sym, if◌then◌else◌}
use Rattle.std.proofs.lemmas.List.{append-nil, map-append}
use Rattle.std.proofs.lemmas.List.Elements.{filter-append}
use Rattle.tea_base.specs.declared.entry.Entry.{Entry}
use Rattle.tea_base.specs.Readings.{is_join, is_exit, is_event, is_event_of, is_presence_of, last_entry, last_number, presence, view_event, view_events}
use Rattle.tea_base.proofs.LogLaws.{last_presence-push, sent-push}
use Rattle.drill.specs.Drilled.{done_by, entries_by}

-- one filter behind the other
pass_if : (first second : Bool) (entry : Entry) (rest inner : List Entry) (p : Entry → Bool) → p entry ≡ second → filter p inner ≡ rest
    → cond (first && second) (entry ∷ rest) rest ≡ filter p (cond first (entry ∷ inner) inner)
pass_if true second entry rest inner p is more = ap (λ (b : Bool). cond b (entry ∷ rest) rest) (sym is) ∙ ap (λ (l : List Entry). cond (p entry) (entry ∷ l) l) (sym more)
pass_if false second entry rest inner p is more = sym more

pub events_of_entries : (log : List Entry) (view : ℕ) → view_events log view ≡ filter (λ entry. is_event entry.what) (entries_by view log)
events_of_entries [] view = refl
events_of_entries (first ∷ rest) view =
    pass_if (first.view == view) (is_event first.what) first (view_events rest view) (entries_by view rest) (λ entry. is_event entry.what) refl (sym (events_of_entries rest view))

pub presence_of_entries : (log : List Entry) (view : ℕ) → presence log view ≡ filter (λ entry. is_join entry.what || is_exit entry.what) (entries_by view log)
presence_of_entries [] view = refl
presence_of_entries (first ∷ rest) view =
    pass_if (first.view == view) (is_join first.what || is_exit first.what) first (presence rest view) (entries_by view rest) (λ entry. is_join entry.what || is_exit entry.what) refl
    (sym (presence_of_entries rest view))

module _ (log new : List Entry) (view : ℕ) (same : entries_by view new ≡ entries_by view log) where
  pub events_same : view_events new view ≡ view_events log view
  events_same = events_of_entries new view ∙ ap (filter (λ (entry : Entry). is_event entry.what)) same ∙ sym (events_of_entries log view)

  pub presence_same : presence new view ≡ presence log view
  presence_same = presence_of_entries new view ∙ ap (filter (λ (entry : Entry). is_join entry.what || is_exit entry.what)) same ∙ sym (presence_of_entries log view)

  pub view_event_same : (number : ℕ) → view_event new view number ≡ view_event log view number
  view_event_same number = ap (λ (l : List Entry). if number == 0 then None else slice_get l (number - 1)) events_same

-- ---- one more entry

pub entries_push : (log : List Entry) (entry : Entry) (view : ℕ) → entries_by view (log ++ entry ∷ []) ≡ entries_by view log ++ cond (entry.view == view) (entry ∷ []) []
entries_push log entry view = filter-append (λ (e : Entry). e.view == view) log (entry ∷ [])

-- of another view
pub entries_push_other : (log : List Entry) (entry : Entry) (view : ℕ) → (entry.view == view) ≡ false → entries_by view (log ++ entry ∷ []) ≡ entries_by view log
entries_push_other log entry view other =
    entries_push log entry view ∙ ap (λ (b : Bool). entries_by view log ++ cond b (entry ∷ []) []) other ∙ append-nil (entries_by view log)

-- of the view itself
pub done_push_own : (log : List Entry) (entry : Entry) (view : ℕ) → (entry.view == view) ≡ true → done_by view (log ++ entry ∷ []) ≡ done_by view log ++ entry.what ∷ []
done_push_own log entry view own =
    ap (map (λ (e : Entry). e.what)) (entries_push log entry view ∙ ap (λ (b : Bool). entries_by view log ++ cond b (entry ∷ []) []) own)
    ∙ map-append (λ (e : Entry). e.what) (entries_by view log) (entry ∷ [])

-- no Event leaves the number of the last one, and an Event stands behind those before it
pub number_push_none : (log : List Entry) (entry : Entry) (view : ℕ) → is_event_of view entry ≡ false → last_number (log ++ entry ∷ []) view ≡ last_number log view
number_push_none log entry view none =
    ap length (sent-push log entry view ∙ ap (λ (b : Bool). view_events log view ++ cond b (entry ∷ []) []) none ∙ append-nil (view_events log view))

pub events_push_own : (log : List Entry) (entry : Entry) (view : ℕ) → is_event_of view entry ≡ true → view_events (log ++ entry ∷ []) view ≡ view_events log view ++ entry ∷ []
events_push_own log entry view own = sent-push log entry view ∙ ap (λ (b : Bool). view_events log view ++ cond b (entry ∷ []) []) own

pub number_push_own : (log : List Entry) (entry : Entry) (view : ℕ) → is_event_of view entry ≡ true → last_number (log ++ entry ∷ []) view ≡ last_number log view + 1
number_push_own log entry view own = ap length (events_push_own log entry view own) ∙ length-append (view_events log view) (entry ∷ [])

-- a Join or an Exit is the last one of its view, and an Event leaves it
pub last_push_own : (log : List Entry) (entry : Entry) (view : ℕ) → is_presence_of view entry ≡ true → last_entry (presence (log ++ entry ∷ []) view) ≡ Some entry
last_push_own log entry view own = last_presence-push log entry view ∙ ap (λ (b : Bool). cond b (Some entry) (last_entry (presence log view))) own

pub last_push_none : (log : List Entry) (entry : Entry) (view : ℕ) → is_presence_of view entry ≡ false → last_entry (presence (log ++ entry ∷ []) view) ≡ last_entry (presence log view)
last_push_none log entry view none = last_presence-push log entry view ∙ ap (λ (b : Bool). cond b (Some entry) (last_entry (presence log view))) none

-- ---- what stands in a list stays

pub slice_get_grown : (xs ys : List Entry) (i : ℕ) (x : Entry) → slice_get xs i ≡ Some x → slice_get (xs ++ ys) i ≡ Some x
slice_get_grown [] ys i x at = absurd cc
slice_get_grown (first ∷ xs) ys zero x at = at
slice_get_grown (first ∷ xs) ys (suc i) x at = slice_get_grown xs ys i x at

pub slice_get_push : (xs : List Entry) (x : Entry) → slice_get (xs ++ x ∷ []) (length xs) ≡ Some x
slice_get_push [] x = refl
slice_get_push (first ∷ xs) x = slice_get_push xs x

grown_if : (b : Bool) (xs ys : List Entry) (i : ℕ) (entry : Entry) → (if b then None else slice_get xs i) ≡ Some entry → (if b then None else slice_get (xs ++ ys) i) ≡ Some entry
grown_if true xs ys i entry at = absurd cc
grown_if false xs ys i entry at = slice_get_grown xs ys i entry at

pub view_event_grown : (log rest : List Entry) (view number : ℕ) (entry : Entry) → view_event log view number ≡ Some entry → view_event (log ++ rest) view number ≡ Some entry
view_event_grown log rest view number entry at =
    ap (λ (l : List Entry). if number == 0 then None else slice_get l (number - 1)) (filter-append (is_event_of view) log rest)
    ∙ grown_if (number == 0) (view_events log view) (view_events rest view) (number - 1) entry at
