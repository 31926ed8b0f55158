-- Where a session stands among those that are held.
use Rattle.std.proofs.Common.{◌≡◌, ℕ, suc, ◌+◌, ◌<◌, ◌≤◌, Bool, true, false, cond, not, List, [], ◌∷◌, ◌++◌, length, map, slice_index_or, slice_set, Option, Some, None, refl, sym, ap, ◌∙◌, arith}
use Rattle.std.specs.Prelude.{nat_le, nat_lt, ◌&&◌, is_some, Result, Ok, Err, OnErr}
use Rattle.std.specs.List.{position, prefix_len}
use Rattle.std.proofs.lemmas.Bool.Decides.{nat_tests}
use Rattle.reflector_core.specs.Answer.{SessionOutcome, answer}
use Rattle.reflector_core.specs.PlainSession.{PlainSession}
use Rattle.reflector_core.specs.Play.{first_session}
use Rattle.reflector_core.specs.SessionState.{SessionState}
use Rattle.reflector_core.specs.declared.request.Request.{Request}
use Rattle.session_hub.specs.declared.hub.Held.{Held}
use Rattle.session_hub.specs.Held.{has_id, plain_held, plain_hub}
use Rattle.session_hub.specs.PlainHub.{HeldSession, HubMayWantMemory, MayWantSession, PlainHub, has_answered, hub_answer, is_full, is_of, most_sessions, session_in, with_session}

-- how many stand before the first of this id
abbrev held_before : List ℕ → List Held → ℕ
held_before id hs = prefix_len (λ h. not (has_id id h)) hs

abbrev with_state : Held → SessionState → Held
with_state h state = record { id = h.id; session = state }

place-Some : (m n i : ℕ) → cond (nat_lt m n) (Some m) None ≡ Some i → (m < n) × (i ≡ m)
place-Some m n i e = grind (arith, nat_tests)

place-None : (m n : ℕ) → cond (nat_lt m n) (Some m) None ≡ None → n ≤ m
place-None m n e = grind (arith, nat_tests)

-- ---- one that was found

at_if : (b : Bool) (h : Held) (hs : List Held) (id : List ℕ) (n : ℕ) (d : Held) → is_of id (plain_held h) ≡ b
    → (n < length hs → session_in (plain_hub hs) id ≡ Some (slice_index_or hs n d).session.plain) → cond (not b) (1 + n) 0 < length (h ∷ hs)
    → session_in (plain_hub (h ∷ hs)) id ≡ Some (slice_index_or (h ∷ hs) (cond (not b) (1 + n) 0) d).session.plain
at_if true h hs id n d is next inside = rw is refl
at_if false h hs id n d is next inside = let more : 1 + n ≡ suc n = omega arith in rw (is, more) (next (omega arith))

at : (hs : List Held) (id : List ℕ) (d : Held) → held_before id hs < length hs → session_in (plain_hub hs) id ≡ Some (slice_index_or hs (held_before id hs) d).session.plain
at [] id d inside = absurd (omega arith)
at (h ∷ hs) id d inside = at_if (has_id id h) h hs id (held_before id hs) d refl (at hs id d) inside

put_if : (b : Bool) (h : Held) (hs : List Held) (id : List ℕ) (n : ℕ) (d : Held) (state : SessionState) → is_of id (plain_held h) ≡ b
    → (n < length hs → with_session (plain_hub hs) id state.plain ≡ plain_hub (slice_set hs n (with_state (slice_index_or hs n d) state))) → cond (not b) (1 + n) 0 < length (h ∷ hs)
    → with_session (plain_hub (h ∷ hs)) id state.plain ≡ plain_hub (slice_set (h ∷ hs) (cond (not b) (1 + n) 0) (with_state (slice_index_or (h ∷ hs) (cond (not b) (1 + n) 0) d) state))
put_if true h hs id n d state is next inside = rw is refl
put_if false h hs id n d state is next inside =
    let more : 1 + n ≡ suc n = omega arith in rw (is, more) (ap (λ (rest : PlainHub). plain_held h ∷ rest) (next (omega arith)))

put : (hs : List Held) (id : List ℕ) (d : Held) (state : SessionState) → held_before id hs < length hs
    → with_session (plain_hub hs) id state.plain ≡ plain_hub (slice_set hs (held_before id hs) (with_state (slice_index_or hs (held_before id hs) d) state))
put [] id d state inside = absurd (omega arith)
put (h ∷ hs) id d state inside = put_if (has_id id h) h hs id (held_before id hs) d state refl (put hs id d state) inside

pub found-session : (id : List ℕ) (hs : List Held) (i : ℕ) (t : Held) → position (has_id id) hs ≡ Some i → t ≡ slice_index_or hs i t → session_in (plain_hub hs) id ≡ Some t.session.plain
found-session id hs i t found stands =
    let place = place-Some (held_before id hs) (length hs) i found in
    at hs id t place.0 ∙ ap (λ (n : ℕ). Some (slice_index_or hs n t).session.plain) (sym place.1) ∙ ap (λ (u : Held). Some u.session.plain) (sym stands)

pub found-put : (id : List ℕ) (hs : List Held) (i : ℕ) (t : Held) (state : SessionState) → position (has_id id) hs ≡ Some i → t ≡ slice_index_or hs i t
    → plain_hub (slice_set hs i (with_state t state)) ≡ with_session (plain_hub hs) id state.plain
found-put id hs i t state found stands =
    let place = place-Some (held_before id hs) (length hs) i found in
    ap (λ (u : Held). plain_hub (slice_set hs i (with_state u state))) stands
    ∙ ap (λ (n : ℕ). plain_hub (slice_set hs n (with_state (slice_index_or hs n t) state))) place.1
    ∙ sym (put hs id t state place.0)

-- ---- one that was not

none_if : (b : Bool) (h : Held) (hs : List Held) (id : List ℕ) (n : ℕ) → is_of id (plain_held h) ≡ b → (length hs ≤ n → session_in (plain_hub hs) id ≡ None)
    → length (h ∷ hs) ≤ cond (not b) (1 + n) 0 → session_in (plain_hub (h ∷ hs)) id ≡ None
none_if true h hs id n is next outside = absurd (omega arith)
none_if false h hs id n is next outside = rw is (next (omega arith))

none : (hs : List Held) (id : List ℕ) → length hs ≤ held_before id hs → session_in (plain_hub hs) id ≡ None
none [] id outside = refl
none (h ∷ hs) id outside = none_if (has_id id h) h hs id (held_before id hs) refl (none hs id) outside

pub none-session : (id : List ℕ) (hs : List Held) → position (has_id id) hs ≡ None → session_in (plain_hub hs) id ≡ None
none-session id hs absent = none hs id (place-None (held_before id hs) (length hs) absent)

last_if : (b : Bool) (h : Held) (hs : List Held) (new : Held) → is_of new.id.0 (plain_held h) ≡ b → session_in (plain_hub (h ∷ hs)) new.id.0 ≡ None
    → (session_in (plain_hub hs) new.id.0 ≡ None → plain_hub (hs ++ new ∷ []) ≡ with_session (plain_hub hs) new.id.0 new.session.plain)
    → plain_hub (h ∷ (hs ++ new ∷ [])) ≡ with_session (plain_hub (h ∷ hs)) new.id.0 new.session.plain
last_if true h hs new is absent next = absurd (cc)
last_if false h hs new is absent next = rw is (ap (λ (rest : PlainHub). plain_held h ∷ rest) (next (rw is at absent)))

-- a session that was not made stands last
pub last-put : (hs : List Held) (new : Held) → session_in (plain_hub hs) new.id.0 ≡ None → plain_hub (hs ++ new ∷ []) ≡ with_session (plain_hub hs) new.id.0 new.session.plain
last-put [] new absent = refl
last-put (h ∷ hs) new absent = last_if (has_id new.id.0 h) h hs new refl absent (last-put hs new)

-- ---- the answer

pub answer-found : (hub : PlainHub) (id : List ℕ) (request : Request) (s : PlainSession) → session_in hub id ≡ Some s → hub_answer hub id request ≡ has_answered hub id (answer s request)
answer-found hub id request s is = rw is refl

pub answer-new : (hub : PlainHub) (id : List ℕ) (request : Request) → session_in hub id ≡ None → length hub < most_sessions → hub_answer hub id request ≡ has_answered hub id (answer first_session request)
answer-new hub id request absent few = let room : nat_le most_sessions (length hub) ≡ false = grind (arith, nat_tests) in rw (absent, room) refl

pub may_want-found : (hub : PlainHub) (id : List ℕ) (request : Request) (s : PlainSession) → session_in hub id ≡ Some s → MayWantSession (Some s) request → HubMayWantMemory hub id request
may_want-found hub id request s is may = rw is (refl, may)

pub may_want-new : (hub : PlainHub) (id : List ℕ) (request : Request) → session_in hub id ≡ None → length hub < most_sessions → HubMayWantMemory hub id request
may_want-new hub id request absent few = let room : nat_le most_sessions (length hub) ≡ false = grind (arith, nat_tests) in rw (absent, room) (refl, tt)

-- a session that is put in its own place changes nothing
same_if : (b : Bool) (held : HeldSession) (rest : PlainHub) (id : List ℕ) (s : PlainSession) → is_of id held ≡ b → session_in (held ∷ rest) id ≡ Some s
    → (session_in rest id ≡ Some s → with_session rest id s ≡ rest) → with_session (held ∷ rest) id s ≡ held ∷ rest
same_if true held rest id s is has next = let own : held.session ≡ s = cc (rw is at has) in rw is (ap (λ (t : PlainSession). record { id = held.id; session = t } ∷ rest) (sym own))
same_if false held rest id s is has next = rw is (ap (λ (more : PlainHub). held ∷ more) (next (rw is at has)))

pub same-put : (hub : PlainHub) (id : List ℕ) (s : PlainSession) → session_in hub id ≡ Some s → with_session hub id s ≡ hub
same-put [] id s has = absurd cc
same-put (held ∷ rest) id s has = same_if (is_of id held) held rest id s refl has (same-put rest id s)

pub on_err : {T E : Type 0} (r : Result T E) (P : Type 0) → P → OnErr r P
on_err (Ok value) P is = tt
on_err (Err error) P is = is
