-- What is pulled behind a cursor.
use Rattle.std.proofs.Common.{ℕ, ◌+◌, ◌-◌, ◌≡◌, ◌≤◌, ◌<◌, min, Bool, true, false, if◌then◌else◌, List, [], ◌∷◌, ◌++◌, Option, Some, None, length, length-take, length-drop, unwrap_or, slice_get, take, drop, zero, suc, nat_le, nat_lt, refl, sym, ap, ◌∙◌, subst, arith}
use Rattle.std.proofs.lemmas.Bool.Decides.{nat_tests}
use Rattle.tea_base.specs.declared.entry.Entry.{Entry}
use Rattle.tea_base.specs.Legal.{IsLegal}
use Rattle.tea_base.specs.Readings.{count_until}
use Rattle.tea_base.specs.Limits.{time_limit}
use Rattle.tea_base.proofs.LogLaws.{TimesRise-legal}
use Rattle.reflector_core.specs.PlainSession.{PlainSession, IsSoundSession}
use Rattle.reflector_core.specs.Answer.{SessionOutcome, pull, with_reply}
use Rattle.reflector_core.specs.declared.request.Reply.{Reply}
use Rattle.reflector_core.specs.declared.request.Reply.TheVariants.{Batch}
use Rattle.wire_frames.specs.declared.frame.ServerFrame.{ServerFrame}
use Rattle.wire_frames.specs.Served.{Place, Streams, place_after, place_after_all}
use Rattle.wire_frames.proofs.Streams.{Streams-append}
use Rattle.wire_frames.proofs.Times.{all_until, seq_at}
use Rattle.join_sync.specs.declared.cursor.Cursor.{Cursor}
use Rattle.join_sync.specs.Batches.{ComeAfter, IsBatchAfter, entry_frames, newer_tick, next_cursor, next_frames, tick_frames}
use Rattle.join_sync.specs.Standing.{StandsAt}

-- ---- the entries behind a place

first_of_rest : {A : Type 0} (k : ℕ) (xs : List A) (x : A) (rest : List A) → drop k xs ≡ x ∷ rest → (slice_get xs k ≡ Some x) × (drop (k + 1) xs ≡ rest)
first_of_rest zero [] x rest is = absurd cc
first_of_rest (suc k) [] x rest is = absurd cc
first_of_rest zero (y ∷ xs) x rest is = (cc, cc)
first_of_rest (suc k) (y ∷ xs) x rest is =
    let more = first_of_rest k xs x rest is in
    let next : suc k + 1 ≡ suc (k + 1) = omega arith in
    (more.0, rw next more.1)

come_after : (log : List Entry) (after limit : ℕ) (rest : List Entry) → IsLegal log → drop after log ≡ rest → ComeAfter after (take limit rest)
come_after log after zero rest legal is = tt
come_after log after (suc limit) [] legal is = tt
come_after log after (suc limit) (entry ∷ rest) legal is =
    let next = first_of_rest after log entry rest is in
    (seq_at log after entry legal next.0, come_after log (after + 1) limit rest legal next.1)

-- ---- the batch of a pull

abbrev batch_of : PlainSession → ℕ → ℕ → Reply
batch_of s after limit = Batch (take limit (drop after s.log)) (if nat_le (length s.log) (after + limit) then Some s.horizon else None)

-- where the log has the seq, a pull is answered by a batch
pull_is_batch : (s : PlainSession) (after limit : ℕ) → after ≤ length s.log → batch_of s after limit ≡ (pull s after limit).reply
pull_is_batch s after limit within =
    let there : nat_lt (length s.log) after ≡ false = grind (arith, nat_tests) in
    rw there refl

pub batch_comes_after : (s : PlainSession) (after limit : ℕ) → IsLegal s.log → after ≤ length s.log → IsBatchAfter after (pull s after limit).reply
batch_comes_after s after limit legal within =
    subst (IsBatchAfter after) (pull_is_batch s after limit within) (come_after s.log after limit (drop after s.log) legal refl)

-- a reply that is a batch has the entries behind this seq
abbrev ComesBehind : ℕ → Reply → Type 0
ComesBehind seq (Batch entries tick) = ComeAfter seq entries
ComesBehind seq other = Unit {0}

comes_if : (seq : ℕ) (test : Bool) (a b : SessionOutcome) → ComesBehind seq a.reply → ComesBehind seq b.reply → ComesBehind seq (if test then a else b).reply
comes_if seq true a b held fell = held
comes_if seq false a b held fell = fell

-- wherever a batch is the reply
pub batch_has_come : (s : PlainSession) (after limit : ℕ) (entries : List Entry) (tick : Option ℕ) → IsLegal s.log → (pull s after limit).reply ≡ Batch entries tick → ComeAfter after entries
batch_has_come s after limit entries tick legal is =
    subst (ComesBehind after) is (comes_if after (nat_lt (length s.log) after) _ _ tt (come_after s.log after limit (drop after s.log) legal refl))

-- ---- their frames

place_after_all-append : (place : Place) (front rest : List ServerFrame) → place_after_all place (front ++ rest) ≡ place_after_all (place_after_all place front) rest
place_after_all-append place [] rest = refl
place_after_all-append place (frame ∷ front) rest = place_after_all-append (place_after place frame) front rest

-- each entry comes in its place
entries_stream : (log : List Entry) (place : Place) (limit : ℕ) (rest : List Entry) → drop place.seen log ≡ rest → Streams log place (entry_frames (take limit rest))
entries_stream log place zero rest is = tt
entries_stream log place (suc limit) [] is = tt
entries_stream log place (suc limit) (entry ∷ rest) is =
    let next = first_of_rest place.seen log entry rest is in
    (next.0, entries_stream log (record { seen = place.seen + 1; least = place.least }) limit rest next.1)

place_after_entries : (place : Place) (entries : List Entry) → place_after_all place (entry_frames entries) ≡ record { seen = place.seen + length entries; least = place.least }
place_after_entries place [] = ap (λ (k : ℕ). record { seen = k; least = place.least }) (omega arith)
place_after_entries place (entry ∷ rest) =
    place_after_entries (record { seen = place.seen + 1; least = place.least }) rest ∙ ap (λ (k : ℕ). record { seen = k; least = place.least }) (omega arith)

-- what is so of a connection once frames were sent
record GoesOn (s : PlainSession) (place : Place) (frames : List ServerFrame) (cursor : Cursor) : Type 0 where
  streams : Streams s.log place frames
  stands : StandsAt s (place_after_all place frames) cursor

-- the tick, if there is one and it is newer, comes behind all entries
tick_goes_on : (s : PlainSession) (place : Place) (cursor : Cursor) (whole newer : Bool) → (whole ≡ true → count_until s.log s.horizon ≡ place.seen) → nat_lt cursor.last_tick s.horizon ≡ newer → s.horizon < time_limit → StandsAt s place cursor
    → GoesOn s place (tick_frames (newer_tick cursor.last_tick (if whole then Some s.horizon else None)))
    (record cursor { last_tick = unwrap_or (newer_tick cursor.last_tick (if whole then Some s.horizon else None)) cursor.last_tick })
tick_goes_on s place cursor false newer counted is bound stands = record { streams = tt; stands = stands }
tick_goes_on s place cursor true false counted is bound stands = rw is (record { streams = tt; stands = stands })
tick_goes_on s place cursor true true counted is bound stands =
    let above : cursor.last_tick < s.horizon = grind (arith, nat_tests) in
    rw is (record {
      streams = ((stands.least s.horizon (omega arith) above, bound, counted refl), tt);
      stands = record { within = stands.within; seen = stands.seen; least = λ time over later. omega arith };
    })

batch_goes_on : (s : PlainSession) (place : Place) (cursor : Cursor) (limit : ℕ) → IsSoundSession s → StandsAt s place cursor
    → GoesOn s place (next_frames cursor (batch_of s cursor.after limit)) (next_cursor cursor (batch_of s cursor.after limit))
batch_goes_on s place cursor limit sound stands =
    let entries = take limit (drop cursor.after s.log) in
    let whole = nat_le (length s.log) (cursor.after + limit) in
    let seen = stands.seen in
    let within = stands.within in
    let first = entries_stream s.log place limit (drop cursor.after s.log) (ap (λ (k : ℕ). drop k s.log) seen) in
    let moved = place_after_entries place entries in
    let behind : Place = record { seen = place.seen + length entries; least = place.least } in
    let long : length entries ≡ min limit (length s.log - cursor.after) = length-take limit (drop cursor.after s.log) ∙ ap (min limit) (length-drop cursor.after s.log) in
    let all = all_until 0 s.horizon s.log (TimesRise-legal s.log sound.legal) sound.latest in
    let at : StandsAt s behind (record cursor { after = cursor.after + length entries }) = record { within = omega arith; seen = omega arith; least = stands.least } in
    let last = tick_goes_on s behind (record cursor { after = cursor.after + length entries }) whole (nat_lt cursor.last_tick s.horizon)
    (λ reached. let end : length s.log ≤ cursor.after + limit = grind (arith, nat_tests) in omega arith) refl (omega (arith, sound.bounded)) at in
    let ticks = tick_frames (newer_tick cursor.last_tick (if whole then Some s.horizon else None)) in
    record {
      streams = Streams-append s.log place (entry_frames entries) ticks first (rw moved last.streams);
      stands = rw (place_after_all-append place (entry_frames entries) ticks, moved) last.stands;
    }

pub batch_streams : (s : PlainSession) (place : Place) (cursor : Cursor) (limit : ℕ) → IsSoundSession s → StandsAt s place cursor → Streams s.log place (next_frames cursor (pull s cursor.after limit).reply)
batch_streams s place cursor limit sound stands =
    subst (λ (r : Reply). Streams s.log place (next_frames cursor r)) (pull_is_batch s cursor.after limit stands.within) (batch_goes_on s place cursor limit sound stands).streams

pub batch_stands : (s : PlainSession) (place : Place) (cursor : Cursor) (limit : ℕ) → IsSoundSession s → StandsAt s place cursor
    → StandsAt s (place_after_all place (next_frames cursor (pull s cursor.after limit).reply)) (next_cursor cursor (pull s cursor.after limit).reply)
batch_stands s place cursor limit sound stands =
    subst (λ (r : Reply). StandsAt s (place_after_all place (next_frames cursor r)) (next_cursor cursor r)) (pull_is_batch s cursor.after limit stands.within) (batch_goes_on s place cursor limit sound stands).stands

-- ---- what a call told

pub told_batch : (s new : PlainSession) (after limit : ℕ) (given : Reply) → IsLegal s.log → after ≤ length s.log → with_reply new given ≡ pull s after limit → IsBatchAfter after given
told_batch s new after limit given legal within told =
    subst (IsBatchAfter after) (sym (ap (λ (o : SessionOutcome). o.reply) told)) (batch_comes_after s after limit legal within)
