-- Histories of a drill, and what is read of a view alone.
use Rattle.std.proofs.Common.{ℕ, ◌+◌, ◌≡◌, ◌≤◌, ◌<◌, Bool, true, false, eqb, ◌||◌, List, [], ◌∷◌, ◌++◌, Option, Some, None, length, map, ap, ◌∙◌, refl, sym, subst, arith, if◌then◌else◌, nat_lt}
use Rattle.std.specs.List.{AllByRecursion}
use Rattle.std.proofs.lemmas.Bool.Decides.{nat_tests}
use Rattle.tea_base.specs.declared.entry.Entry.{Entry}
use Rattle.tea_base.specs.declared.entry.What.{What}
use Rattle.tea_base.specs.declared.entry.What.TheVariants as what
use Rattle.tea_base.specs.Readings.{here_count, is_some_join, last_entry, payload_bytes, seq_or_zero}
use Rattle.tea_base.specs.Limits.{most_here, most_open_entries, most_bytes, most_snapshot}
use Rattle.session_log.specs.LogState.{next_entry, with_next}
use Rattle.wire_frames.specs.declared.start.Base.{Base}
use Rattle.reflector_core.specs.PlainSession.{PlainSession}
use Rattle.reflector_core.specs.Answer.{SessionOutcome, answer, is_older, is_stale}
use Rattle.reflector_core.specs.Play.{first_session}
use Rattle.reflector_core.specs.declared.request.Request.{Request}
use Rattle.reflector_core.specs.declared.request.Request.TheVariants.{Join, Send, Tick, Leave, Offer, Pull}
use Rattle.reflector_core.proofs.GrowthLaws.{kept-others}
use Rattle.session_lock.specs.declared.knowledge.Item.{Item}
use Rattle.session_lock.specs.declared.knowledge.Item.TheVariants.{Did, Void, Unkept}
use Rattle.session_lock.specs.History.{after_item, calls_of, caller_of, has, play, play_from}
use Rattle.session_lock.proofs.Histories.{none_behind, play_from_append}
use Rattle.run_steps.specs.Limits.{most_drill_views}
use Rattle.drill.specs.Asking.{IsAskedBy, IsAskedInDrill, IsDrillHistory, entries_used_by, most_asked_by_all, most_short}
use Rattle.drill.specs.Doing.{HasDone, HasSent, IsHereBy, KeepsFrom, WasSentBy}
use Rattle.drill.specs.Drilled.{entries_by}
use Rattle.drill.proofs.Outcomes.{OnAdded, if_is, log_after}
use Rattle.drill.proofs.Readings.{entries_push_other, events_same, presence_same, view_event_same, view_event_grown}
use Rattle.drill.proofs.Rooms.{here_few, small_from}

-- ---- beginnings

pub all_first : {A : Type 0} (P : A → Type 0) (xs ys : List A) → AllByRecursion P (xs ++ ys) → AllByRecursion P xs
all_first P [] ys all = tt
all_first P (x ∷ xs) ys all = (all.0, all_first P xs ys all.1)

pub all_rest : {A : Type 0} (P : A → Type 0) (xs ys : List A) → AllByRecursion P (xs ++ ys) → AllByRecursion P ys
all_rest P [] ys all = all
all_rest P (x ∷ xs) ys all = all_rest P xs ys all.1

asked_grows : (beginning rest : List Item) → entries_used_by beginning ≤ entries_used_by (beginning ++ rest)
asked_grows [] rest = omega arith
asked_grows (Did caller request ∷ xs) rest = omega (arith, asked_grows xs rest)
asked_grows (Void caller ∷ xs) rest = asked_grows xs rest
asked_grows (Unkept caller ∷ xs) rest = asked_grows xs rest

pub history_first : (gives : ℕ → Type 0) (views : ℕ) (beginning rest : List Item) → IsDrillHistory gives views (beginning ++ rest) → IsDrillHistory gives views beginning
history_first gives views beginning rest whole = record {
  asked = all_first (IsAskedInDrill gives views) beginning rest whole.asked;
  few = omega (arith, whole.few, asked_grows beginning rest);
}

-- ---- a view's own caller

apart_request : (gives : ℕ → Type 0) (view caller : ℕ) (s : PlainSession) (request : Request) → IsAskedBy gives caller request → eqb caller view ≡ false
    → entries_by view (answer s request).session.log ≡ entries_by view s.log
apart_request gives view caller s request asked other = log_after (λ log. entries_by view log ≡ entries_by view s.log) s request refl (by request asked)
  where
    another : (own : ℕ) (added : What) → own ≡ caller → (time : ℕ) → entries_by view (with_next s.log time own added) ≡ entries_by view s.log
    another own added same time = entries_push_other s.log (next_entry s.log time own added) view (ap (λ (n : ℕ). eqb n view) same ∙ other)

    by : (asking : Request) → IsAskedBy gives caller asking → OnAdded (λ own added. (time : ℕ) → entries_by view (with_next s.log time own added) ≡ entries_by view s.log) asking
    by (Join own now want) asks = another own what.Join asks.0
    by (Send own joined number payload now) asks = another own (what.Event number payload) asks.0
    by (Tick now) asks = tt
    by (Leave own joined now) asks = another own what.Exit asks.0
    by (Offer own joined time bytes) asks = tt
    by (Pull after limit) asks = tt

is_another : (b : Bool) (x : Item) (xs : List Item) → (if b || false then x ∷ xs else xs) ≡ [] → b ≡ false
is_another true x xs none = absurd cc
is_another false x xs none = refl

apart_item : (gives : ℕ → Type 0) (views view : ℕ) (s : PlainSession) (x : Item) → IsAskedInDrill gives views x → eqb (caller_of x) view ≡ false
    → entries_by view (after_item s x).log ≡ entries_by view s.log
apart_item gives views view s (Did caller request) asked other = apart_request gives view caller s request asked.2 other
apart_item gives views view s (Void caller) asked other = refl
apart_item gives views view s (Unkept caller) asked other = refl

apart_from : (gives : ℕ → Type 0) (views view : ℕ) (s : PlainSession) (rest : List Item) → AllByRecursion (IsAskedInDrill gives views) rest → calls_of (view ∷ []) rest ≡ []
    → entries_by view (play_from s rest).log ≡ entries_by view s.log
apart_from gives views view s [] asked none = refl
apart_from gives views view s (x ∷ xs) asked none =
    apart_from gives views view (after_item s x) xs asked.1 (none_behind (has (caller_of x) (view ∷ [])) x (calls_of (view ∷ []) xs) none)
    ∙ apart_item gives views view s x asked.0 (is_another (eqb (caller_of x) view) x (calls_of (view ∷ []) xs) none)

-- nobody but the view's own caller does anything of the view
pub apart : (gives : ℕ → Type 0) (views view : ℕ) (beginning rest : List Item) → IsDrillHistory gives views (beginning ++ rest) → calls_of (view ∷ []) rest ≡ []
    → entries_by view (play (beginning ++ rest)).log ≡ entries_by view (play beginning).log
apart gives views view beginning rest whole none =
    ap (λ (s : PlainSession). entries_by view s.log) (play_from_append first_session beginning rest)
    ∙ apart_from gives views view (play beginning) rest (all_rest (IsAskedInDrill gives views) beginning rest whole.asked) none

-- ---- what is kept

keeps_later : (time new : ℕ) (kept : Option Base) → KeepsFrom time kept → is_older new kept ≡ false → time ≤ new
keeps_later time new None keeps newer = absurd keeps
keeps_later time new (Some base) keeps newer = grind (arith, nat_tests)

keeps_request : (time : ℕ) (s : PlainSession) (request : Request) → KeepsFrom time s.kept → KeepsFrom time (answer s request).session.kept
keeps_request time s (Join view now want) keeps = subst (KeepsFrom time) (sym (kept-others s (Join view now want) refl)) keeps
keeps_request time s (Send view joined number payload now) keeps = subst (KeepsFrom time) (sym (kept-others s (Send view joined number payload now) refl)) keeps
keeps_request time s (Tick now) keeps = keeps
keeps_request time s (Leave view joined now) keeps = subst (KeepsFrom time) (sym (kept-others s (Leave view joined now) refl)) keeps
keeps_request time s (Offer view joined new bytes) keeps =
    let Q : SessionOutcome → Type 0 = λ o. KeepsFrom time o.session.kept in
    if_is Q (is_stale s.log view joined) (λ _. keeps) (λ _.
    if_is Q (nat_lt most_snapshot (length bytes)) (λ _. keeps) (λ _.
    if_is Q (nat_lt s.horizon new) (λ _. keeps) (λ _.
    if_is Q (is_older new s.kept) (λ _. keeps) (λ newer. keeps_later time new s.kept keeps newer))))
keeps_request time s (Pull after limit) keeps = subst (KeepsFrom time) (sym (kept-others s (Pull after limit) refl)) keeps

keeps_from : (time : ℕ) (s : PlainSession) (rest : List Item) → KeepsFrom time s.kept → KeepsFrom time (play_from s rest).kept
keeps_from time s [] keeps = keeps
keeps_from time s (Did caller request ∷ xs) keeps = keeps_from time (answer s request).session xs (keeps_request time s request keeps)
keeps_from time s (Void caller ∷ xs) keeps = keeps_from time s xs keeps
keeps_from time s (Unkept caller ∷ xs) keeps = keeps_from time s xs keeps

pub kept_on : (time : ℕ) (beginning rest : List Item) → KeepsFrom time (play beginning).kept → KeepsFrom time (play (beginning ++ rest)).kept
kept_on time beginning rest keeps =
    subst (λ (s : PlainSession). KeepsFrom time s.kept) (sym (play_from_append first_session beginning rest)) (keeps_from time (play beginning) rest keeps)

-- ---- room

-- the log has room for more
pub record HasRoom (s : PlainSession) : Type 0 where
  pub here : here_count s.log < most_here
  pub entries : length s.log < most_open_entries
  pub bytes : payload_bytes s.log + most_short ≤ most_bytes

pub has_room : (gives : ℕ → Type 0) (views : ℕ) (history : List Item) → views ≤ most_drill_views → IsDrillHistory gives views history → HasRoom (play history)
has_room gives views history le whole =
    let small = small_from gives views 0 most_asked_by_all first_session history whole.asked (omega (arith, whole.few)) (record { named = tt; few = omega arith; short = omega arith }) in
    record {
      here = omega (arith, le, here_few views (play history).log small.named);
      entries = omega (arith, small.few);
      bytes = omega (arith, small.few, small.short);
    }

-- ---- what is read of the entries of a view alone

pub done_same : (log new : List Entry) (view number : ℕ) (left whole : List What) → entries_by view new ≡ entries_by view log → HasDone log view number left whole
    → HasDone new view number left whole
done_same log new view number left whole same done = record {
  sent = ap length (events_same log new view same) ∙ done.sent;
  done = ap (λ (es : List Entry). map (λ (e : Entry). e.what) es ++ left) same ∙ done.done;
}

pub here_same : (log new : List Entry) (view joined : ℕ) → entries_by view new ≡ entries_by view log → IsHereBy log view joined → IsHereBy new view joined
here_same log new view joined same by = record {
  here = ap (λ (es : List Entry). is_some_join (last_entry es)) (presence_same log new view same) ∙ by.here;
  current = ap (λ (es : List Entry). seq_or_zero (last_entry es)) (presence_same log new view same) ∙ by.current;
}

pub sent_same : (log new : List Entry) (view number : ℕ) (payload : List ℕ) → entries_by view new ≡ entries_by view log → HasSent log view number payload
    → HasSent new view number payload
sent_same log new view number payload same sent = record { entry = sent.entry; at = view_event_same log new view same number ∙ sent.at; carries = sent.carries }

pub by_same : (log new : List Entry) (view number time : ℕ) → entries_by view new ≡ entries_by view log → WasSentBy log view number time → WasSentBy new view number time
by_same log new view number time same sent = record { entry = sent.entry; at = view_event_same log new view same number ∙ sent.at; early = sent.early }

-- a view's entries are those of what it has done: nothing done yet
pub nothing_done : (log : List Entry) (view : ℕ) (whole : List What) → entries_by view log ≡ [] → HasDone log view 0 whole whole
nothing_done log view whole none = done_same [] log view 0 whole whole none (record { sent = refl; done = refl })

-- an event that stands in the log stays
pub sent_grown : (log rest : List Entry) (view number : ℕ) (payload : List ℕ) → HasSent log view number payload → HasSent (log ++ rest) view number payload
sent_grown log rest view number payload sent = record { entry = sent.entry; at = view_event_grown log rest view number sent.entry sent.at; carries = sent.carries }

pub by_grown : (log rest : List Entry) (view number time : ℕ) → WasSentBy log view number time → WasSentBy (log ++ rest) view number time
by_grown log rest view number time sent = record { entry = sent.entry; at = view_event_grown log rest view number sent.entry sent.at; early = sent.early }
