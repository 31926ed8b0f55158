-- What a worker keeps while others call, and at a pull.
use Rattle.std.proofs.Common.{◌⊎◌, inl, inr, Option, is_some, unwrap_or, length-take, length-drop, if◌then◌else◌, ◌≡◌, ◌≤◌, ◌<◌, ◌+◌, ℕ, Bool, true, false, List, [], ◌∷◌, ◌++◌, length, length-append, take, drop, nat_le, nat_lt, Some, None, slice_get, refl, sym, ap, ◌∙◌, subst, arith}
use Rattle.std.proofs.lemmas.Bool.Decides.{nat_tests}
use Rattle.std.proofs.lemmas.List.{append-nil}
use Rattle.tea_base.specs.Legal.{TimesRiseAfter}
use Rattle.tea_base.specs.declared.entry.Entry.{Entry}
use Rattle.tea_base.specs.Readings.{count_until}
use Rattle.tea_base.proofs.LogLaws.{TimesRise-legal}
use Rattle.wire_frames.proofs.Times.{early_as_last}
use Rattle.wire_frames.specs.declared.frame.ServerFrame.{ServerFrame}
use Rattle.wire_frames.specs.declared.frame.ServerFrame.TheVariants.{Sync, Recv, Tick, Done, Snapped, Refused, Alive}
use Rattle.wire_frames.specs.Served.{Place, place_after, place_after_all, ComesAt, Streams}
use Rattle.reflector_core.specs.PlainSession.{PlainSession, IsSoundSession}
use Rattle.reflector_core.specs.Answer.{pull}
use Rattle.reflector_core.specs.declared.request.Reply.{Reply}
use Rattle.reflector_core.specs.declared.request.Reply.TheVariants.{Batch}
use Rattle.join_sync.specs.Batches.{entry_frames, most_pulled, newer_tick, next_cursor, next_frames, tick_frames}
use Rattle.join_sync.specs.declared.cursor.Cursor.{Cursor}
use Rattle.join_sync.specs.Standing as at
use Rattle.join_sync.proofs.Pulls.{batch_streams, batch_stands}
use Rattle.replica_plain.specs.Worlds.{AreWorlds}
use Rattle.replica_plain.specs.Taking.{taken, IsTimely}
use Rattle.replica_plain.specs.Following.{IsReadFrame}
use Rattle.model_solved.specs.Founding.{founding_of, IsFounding}
use Rattle.replica_plain.proofs.FrameSteps.{StandsAt, behind_frame, tick_rests}
use Rattle.replica.specs.RealWorlds.{is_at_rest}
use Rattle.replica.specs.View.{ReplicaView, with_plain, worlds_of}
use Rattle.system_plain.proofs.FactsGrow.{count_stays, follows_log_grows}
use Rattle.system_plain.proofs.Sessions.{Grows}
use Rattle.drill.specs.Taking.{AreFine, IsFine, after_frame, after_frames}
use Rattle.drill.specs.Working.{IsCaughtUp, ReplicaWorks}
use Rattle.drill.specs.Turns.{HasCome}
use Rattle.drill.specs.ViewCalls.{has_tick}
use Rattle.drill.proofs.Catching.{takes_entry, tick_time}
use Rattle.drill.proofs.ViewsKept.{SameView, same_at_entry, same_at_tick, same_first, same_then}

-- what is sent of a batch: entries, and ticks of at most the horizon
abbrev pub IsNews : PlainSession → ServerFrame → Type 0
IsNews s (Sync joined last from base) = ⊥
IsNews s (Recv entry) = Unit {0}
IsNews s (Tick time) = time ≤ s.horizon
IsNews s (Done number seq time) = ⊥
IsNews s (Snapped time) = ⊥
IsNews s (Refused about code kept more) = ⊥
IsNews s Alive = ⊥

abbrev pub AreNews : PlainSession → List ServerFrame → Type 0
AreNews s [] = Unit {0}
AreNews s (frame ∷ rest) = IsNews s frame × AreNews s rest

fine_frame : (s : PlainSession) (r : ReplicaView) (frame : ServerFrame) → IsNews s frame → IsReadFrame frame (taken (worlds_of r) r.plain frame).fault → IsFine r frame
fine_frame s r (Sync joined last from base) news read = absurd news
fine_frame s r (Recv entry) news read = record { none = read }
fine_frame s r (Tick time) news read = record { none = read }
fine_frame s r (Done number seq time) news read = absurd news
fine_frame s r (Snapped time) news read = absurd news
fine_frame s r (Refused about code kept more) news read = absurd news
fine_frame s r Alive news read = absurd news

timely_frame : (s : PlainSession) (place : Place) (frame : ServerFrame) → IsSoundSession s → IsNews s frame → ComesAt s.log place frame → IsTimely frame
timely_frame s place (Sync joined last from base) sound news comes = absurd news
timely_frame s place (Recv entry) sound news comes =
    let early = early_as_last 0 s.log place.seen entry (TimesRise-legal s.log sound.legal) comes in
    omega (arith, sound.latest, sound.bounded)
timely_frame s place (Tick time) sound news comes = comes.1
timely_frame s place (Done number seq time) sound news comes = absurd news
timely_frame s place (Snapped time) sound news comes = absurd news
timely_frame s place (Refused about code kept more) sound news comes = absurd news
timely_frame s place Alive sound news comes = absurd news

-- the replica does not come past the horizon
within_frame
    : (s : PlainSession) (place : Place) (r : ReplicaView) (frame : ServerFrame) → IsFounding (founding_of r.program) → AreWorlds (worlds_of r) → IsSoundSession s → IsNews s frame → ComesAt s.log place frame
    → StandsAt (worlds_of r) s.log place r.plain → r.plain.world.time ≤ s.horizon → IsFine r frame → (after_frame r frame).plain.world.time ≤ s.horizon
within_frame s place r (Sync joined last from base) program laws sound news comes stands within fine = absurd news
within_frame s place r (Recv entry) program laws sound news comes stands within fine =
    let at : slice_get s.log r.plain.seen ≡ Some entry = subst (λ (k : ℕ). slice_get s.log k ≡ Some entry) stands.placed comes in
    let early : entry.time ≤ s.horizon = omega (arith, sound.latest, early_as_last 0 s.log r.plain.seen entry (TimesRise-legal s.log sound.legal) at) in
    (takes_entry s r entry laws sound (record { program = program; follows = stands.follows; synced = stands.synced; within = within }) at early).catches.within
within_frame s place r (Tick time) program laws sound news comes stands within fine =
    let timed = tick_time (worlds_of r) laws r.plain time stands.follows.valid stands.synced fine.none in
    subst (λ (t : ℕ). t ≤ s.horizon) (sym timed) news
within_frame s place r (Done number seq time) program laws sound news comes stands within fine = absurd news
within_frame s place r (Snapped time) program laws sound news comes stands within fine = absurd news
within_frame s place r (Refused about code kept more) program laws sound news comes stands within fine = absurd news
within_frame s place r Alive program laws sound news comes stands within fine = absurd news

same_frame : (s : PlainSession) (r : ReplicaView) (frame : ServerFrame) → IsNews s frame → SameView r.plain (after_frame r frame).plain
same_frame s r (Sync joined last from base) news = absurd news
same_frame s r (Recv entry) news = same_at_entry (worlds_of r) r.plain entry
same_frame s r (Tick time) news = same_at_tick (worlds_of r) r.plain time
same_frame s r (Done number seq time) news = absurd news
same_frame s r (Snapped time) news = absurd news
same_frame s r (Refused about code kept more) news = absurd news
same_frame s r Alive news = absurd news

pub record TakesNews (s : PlainSession) (place : Place) (r : ReplicaView) (frames : List ServerFrame) : Type 0 where
  pub fine : AreFine r frames
  pub stands : StandsAt (worlds_of r) s.log (place_after_all place frames) (after_frames r frames).plain
  pub within : (after_frames r frames).plain.world.time ≤ s.horizon
  pub kept : after_frames r frames ≡ with_plain r (after_frames r frames).plain
  pub same : SameView r.plain (after_frames r frames).plain

-- what comes of the log is taken
pub takes_news
    : (s : PlainSession) (place : Place) (r : ReplicaView) (frames : List ServerFrame) → IsFounding (founding_of r.program) → AreWorlds (worlds_of r) → IsSoundSession s → AreNews s frames → Streams s.log place frames
    → StandsAt (worlds_of r) s.log place r.plain → r.plain.world.time ≤ s.horizon → TakesNews s place r frames
takes_news s place r [] program laws sound news streams stands within = record { fine = tt; stands = stands; within = within; kept = refl; same = same_first r.plain }
takes_news s place r (frame ∷ rest) program laws sound news streams stands within =
    let behind = behind_frame (worlds_of r) laws s.log place r.plain frame sound.legal stands streams.0 in
    let fine = fine_frame s r frame news.0 behind.read in
    let more = takes_news s (place_after place frame) (after_frame r frame) rest program laws sound news.1 streams.1 behind.stands (within_frame s place r frame program laws sound news.0 streams.0 stands within fine) in
    record { fine = (fine, timely_frame s place frame sound news.0 streams.0, more.fine); stands = more.stands; within = more.within; kept = more.kept; same = same_then r.plain (after_frame r frame).plain (after_frames (after_frame r frame) rest).plain (same_frame s r frame news.0) more.same }

-- the replica as the rows of a plain replica say where it stands
pub stands_of : (s : PlainSession) (r : ReplicaView) (cursor : Cursor) → (works : ReplicaWorks s r cursor) → StandsAt (worlds_of r) s.log works.place r.plain
stands_of s r cursor works = record { follows = works.follows; placed = works.placed; ahead = works.ahead; synced = works.synced }

-- ---- a pull

entries_news : (s : PlainSession) (entries : List Entry) (rest : List ServerFrame) → AreNews s rest → AreNews s (entry_frames entries ++ rest)
entries_news s [] rest news = news
entries_news s (entry ∷ entries) rest news = (tt, entries_news s entries rest news)

tick_news_if : (s : PlainSession) (newer : Bool) → AreNews s (tick_frames (if newer then Some s.horizon else None))
tick_news_if s true = (omega arith, tt)
tick_news_if s false = tt

tick_news : (s : PlainSession) (last : ℕ) (whole : Bool) → AreNews s (tick_frames (newer_tick last (if whole then Some s.horizon else None)))
tick_news s last true = tick_news_if s (nat_lt last s.horizon)
tick_news s last false = tt

is_batch : (s : PlainSession) (after limit : ℕ) → after ≤ length s.log → Batch (take limit (drop after s.log)) (if nat_le (length s.log) (after + limit) then Some s.horizon else None) ≡ (pull s after limit).reply
is_batch s after limit within =
    let there : nat_lt (length s.log) after ≡ false = grind (arith, nat_tests) in
    rw there refl

not_newer : (last horizon : ℕ) → nat_lt last horizon ≡ false → last < horizon → ⊥
not_newer last horizon fell later = grind (arith, nat_tests)

no_length : {A : Type 0} (xs : List A) → length xs ≡ 0 → xs ≡ []
no_length [] none = refl
no_length (x ∷ xs) none = absurd cc

get_behind : {A : Type 0} (xs : List A) (x : A) (rest : List A) → slice_get (xs ++ x ∷ rest) (length xs) ≡ Some x
get_behind [] x rest = refl
get_behind (y ∷ xs) x rest = get_behind xs x rest

-- ---- the tick behind it

pub record TicksOn (r : ReplicaView) (t : ℕ) : Type 0 where
  pub rests : is_at_rest r.plain.world ≡ true
  pub time : r.plain.world.time ≡ t

-- the last of the frames is a tick
tick_last
    : (s : PlainSession) (place : Place) (r : ReplicaView) (front : List ServerFrame) (t : ℕ) → AreWorlds (worlds_of r) → IsSoundSession s → Streams s.log place (front ++ Tick t ∷ [])
    → StandsAt (worlds_of r) s.log place r.plain → AreFine r (front ++ Tick t ∷ []) → TicksOn (after_frames r (front ++ Tick t ∷ [])) t
tick_last s place r [] t laws sound streams stands fine = record {
  rests = tick_rests (worlds_of r) laws r.plain t stands.follows.valid streams.0.1 stands.synced fine.0.none;
  time = tick_time (worlds_of r) laws r.plain t stands.follows.valid stands.synced fine.0.none;
}
tick_last s place r (frame ∷ front) t laws sound streams stands fine =
    let behind = behind_frame (worlds_of r) laws s.log place r.plain frame sound.legal stands streams.0 in
    tick_last s (place_after place frame) (after_frame r frame) front t laws sound streams.1 behind.stands fine.2

-- where the replica stands behind a batch
pub record Comes (s : PlainSession) (r : ReplicaView) (cursor : Cursor) (entries : List Entry) (tick : Option ℕ) : Type 0 where
  pub ticked : (next_cursor cursor (Batch entries tick)).last_tick ≤ s.horizon
  pub next : ((next_cursor cursor (Batch entries tick)).last_tick < s.horizon) ⊎ IsCaughtUp s (after_frames r (next_frames cursor (Batch entries tick)))
  pub come : HasCome s (after_frames r (next_frames cursor (Batch entries tick))) cursor (next_cursor cursor (Batch entries tick)) (is_some tick)

pulled_long : (s : PlainSession) (after : ℕ) → after ≤ length s.log → nat_le (length s.log) (after + most_pulled) ≡ true → after + length (take most_pulled (drop after s.log)) ≡ length s.log
pulled_long s after within whole =
    let few : length s.log ≤ after + most_pulled = grind (arith, nat_tests) in
    let taken = length-take most_pulled (drop after s.log) in
    let left = length-drop after s.log in
    omega (arith, within)

pulled_short : (s : PlainSession) (after : ℕ) → nat_le (length s.log) (after + most_pulled) ≡ false → (after + most_pulled < length s.log) × (length (take most_pulled (drop after s.log)) ≡ most_pulled)
pulled_short s after whole =
    let more : after + most_pulled < length s.log = grind (arith, nat_tests) in
    let taken = length-take most_pulled (drop after s.log) in
    let left = length-drop after s.log in
    (more, omega arith)

module _ (s : PlainSession) (r : ReplicaView) (cursor : Cursor) (laws : AreWorlds (worlds_of r)) (sound : IsSoundSession s) (works : ReplicaWorks s r cursor) where
  caught_is_whole : IsCaughtUp s r → cursor.after ≡ length s.log
  caught_is_whole caught = sym works.sent.seen ∙ works.placed ∙ caught.seen

  abbrev pub entries : List Entry
  entries = take most_pulled (drop cursor.after s.log)

  comes_more : nat_le (length s.log) (cursor.after + most_pulled) ≡ false → Comes s r cursor entries None
  comes_more whole =
      let more = pulled_short s cursor.after whole in
      record {
        ticked = works.ticked;
        next = still works.next;
        come = (more.0, ap (λ (n : ℕ). cursor.after + n) more.1);
      }
    where
      still : (cursor.last_tick < s.horizon) ⊎ IsCaughtUp s r → (cursor.last_tick < s.horizon) ⊎ IsCaughtUp s (after_frames r (next_frames cursor (Batch entries None)))
      still (inl later) = inl later
      still (inr caught) = absurd (let all = caught_is_whole caught in let more = pulled_short s cursor.after whole in omega arith)

  comes_ticked
      : nat_le (length s.log) (cursor.after + most_pulled) ≡ true → (newer : Bool) → nat_lt cursor.last_tick s.horizon ≡ newer
      → Streams s.log works.place (entry_frames entries ++ tick_frames (if newer then Some s.horizon else None)) → AreFine r (entry_frames entries ++ tick_frames (if newer then Some s.horizon else None))
      → (after_frames r (entry_frames entries ++ tick_frames (if newer then Some s.horizon else None))).plain.seen ≡ cursor.after + length entries
      → (unwrap_or (if newer then Some s.horizon else None) cursor.last_tick ≤ s.horizon) × IsCaughtUp s (after_frames r (entry_frames entries ++ tick_frames (if newer then Some s.horizon else None)))
  comes_ticked whole true newer streams fine seen =
      let ticks = tick_last s works.place r (entry_frames entries) s.horizon laws sound streams (record { follows = works.follows; placed = works.placed; ahead = works.ahead; synced = works.synced }) fine in
      (omega arith, record { rests = ticks.rests; seen = seen ∙ pulled_long s cursor.after works.sent.within whole; time = ticks.time })
  comes_ticked whole false newer streams fine seen = (works.ticked, stays works.next)
    where
      stays : (cursor.last_tick < s.horizon) ⊎ IsCaughtUp s r → IsCaughtUp s (after_frames r (entry_frames entries ++ []))
      stays (inl later) = absurd (not_newer cursor.last_tick s.horizon newer later)
      stays (inr caught) =
          let none : entries ≡ [] = no_length entries (let long = pulled_long s cursor.after works.sent.within whole in let all = caught_is_whole caught in omega arith) in
          subst (λ (es : List Entry). IsCaughtUp s (after_frames r (entry_frames es ++ []))) (sym none) caught

  comes_whole : nat_le (length s.log) (cursor.after + most_pulled) ≡ true → (newer : Bool) → nat_lt cursor.last_tick s.horizon ≡ newer
      → Streams s.log works.place (next_frames cursor (Batch entries (Some s.horizon))) → AreFine r (next_frames cursor (Batch entries (Some s.horizon)))
      → (after_frames r (next_frames cursor (Batch entries (Some s.horizon)))).plain.seen ≡ cursor.after + length entries
      → Comes s r cursor entries (Some s.horizon)
  comes_whole whole newer is streams fine seen =
      let ends = comes_ticked whole (nat_lt cursor.last_tick s.horizon) refl streams fine seen in
      record { ticked = ends.0; next = inr ends.1; come = ends.1 }

  comes_if : (whole : Bool) → nat_le (length s.log) (cursor.after + most_pulled) ≡ whole
      → Streams s.log works.place (next_frames cursor (Batch entries (if whole then Some s.horizon else None))) → AreFine r (next_frames cursor (Batch entries (if whole then Some s.horizon else None)))
      → (after_frames r (next_frames cursor (Batch entries (if whole then Some s.horizon else None)))).plain.seen ≡ cursor.after + length entries
      → Comes s r cursor entries (if whole then Some s.horizon else None)
  comes_if true is streams fine seen = comes_whole is (nat_lt cursor.last_tick s.horizon) refl streams fine seen
  comes_if false is streams fine seen = comes_more is

  -- the batch of the session
  abbrev pub batch : Reply
  batch = Batch entries (if nat_le (length s.log) (cursor.after + most_pulled) then Some s.horizon else None)

  takes : TakesNews s works.place r (next_frames cursor batch)
  takes =
      takes_news s works.place r (next_frames cursor batch) works.program laws sound
      (entries_news s entries _ (tick_news s cursor.last_tick (nat_le (length s.log) (cursor.after + most_pulled))))
      (subst (λ (reply : Reply). Streams s.log works.place (next_frames cursor reply)) (sym (is_batch s cursor.after most_pulled works.sent.within)) (batch_streams s works.place cursor most_pulled sound works.sent))
      (stands_of s r cursor works) works.within

  stands : at.StandsAt s (place_after_all works.place (next_frames cursor batch)) (next_cursor cursor batch)
  stands =
      subst (λ (reply : Reply). at.StandsAt s (place_after_all works.place (next_frames cursor reply)) (next_cursor cursor reply)) (sym (is_batch s cursor.after most_pulled works.sent.within))
      (batch_stands s works.place cursor most_pulled sound works.sent)

  comes : Comes s r cursor entries (if nat_le (length s.log) (cursor.after + most_pulled) then Some s.horizon else None)
  comes =
      comes_if (nat_le (length s.log) (cursor.after + most_pulled)) refl
      (subst (λ (reply : Reply). Streams s.log works.place (next_frames cursor reply)) (sym (is_batch s cursor.after most_pulled works.sent.within)) (batch_streams s works.place cursor most_pulled sound works.sent))
      takes.fine (sym takes.stands.placed ∙ stands.seen)

-- what a pull comes to
pub record TakesPull (s : PlainSession) (r : ReplicaView) (cursor : Cursor) (reply : Reply) : Type 0 where
  pub fine : AreFine r (next_frames cursor reply)
  pub works : ReplicaWorks s (after_frames r (next_frames cursor reply)) (next_cursor cursor reply)
  pub come : HasCome s (after_frames r (next_frames cursor reply)) cursor (next_cursor cursor reply) (has_tick reply)
  pub kept : after_frames r (next_frames cursor reply) ≡ with_plain r (after_frames r (next_frames cursor reply)).plain
  pub same : SameView r.plain (after_frames r (next_frames cursor reply)).plain

pub pulled : (s : PlainSession) (r : ReplicaView) (cursor : Cursor) → AreWorlds (worlds_of r) → IsSoundSession s → ReplicaWorks s r cursor → TakesPull s r cursor (pull s cursor.after most_pulled).reply
pulled s r cursor laws sound works =
    let taken = takes s r cursor laws sound works in
    let stood = stands s r cursor laws sound works in
    let come = comes s r cursor laws sound works in
    subst (TakesPull s r cursor) (is_batch s cursor.after most_pulled works.sent.within)
    (record {
      fine = taken.fine;
      works = subst (λ (new : ReplicaView). ReplicaWorks s new (next_cursor cursor (batch s r cursor laws sound works))) (sym taken.kept) (record {
        program = works.program;
        follows = taken.stands.follows;
        synced = taken.stands.synced;
        within = taken.within;
        place = place_after_all works.place (next_frames cursor (batch s r cursor laws sound works));
        placed = taken.stands.placed;
        ahead = taken.stands.ahead;
        sent = stood;
        ticked = come.ticked;
        next = subst (λ (new : ReplicaView). ((next_cursor cursor (batch s r cursor laws sound works)).last_tick < s.horizon) ⊎ IsCaughtUp s new) taken.kept come.next;
      });
      come = come.come;
      kept = taken.kept;
      same = taken.same;
    })

-- ---- others call

ahead_grown
    : (s new : PlainSession) (seen time t : ℕ) (early : Bool) → nat_le t s.horizon ≡ early → Grows s new → time ≤ s.horizon → (count_until s.log t ≡ seen → time ≤ t) → count_until new.log t ≡ seen → time ≤ t
ahead_grown s new seen time t true is grows within ahead counted =
    let before : t ≤ s.horizon = grind (arith, nat_tests) in
    ahead (sym (count_stays s new t grows before) ∙ counted)
ahead_grown s new seen time t false is grows within ahead counted =
    let behind : s.horizon < t = grind (arith, nat_tests) in
    omega (arith, within)

sent_grow : (s new : PlainSession) (place : Place) (cursor : Cursor) → Grows s new → at.StandsAt s place cursor → at.StandsAt new place cursor
sent_grow s new place cursor grows sent =
    let long : length new.log ≡ length s.log + length grows.rest = ap length grows.log ∙ length-append s.log grows.rest in
    record {
      within = omega (arith, sent.within);
      seen = sent.seen;
      least = λ t above later. sent.least t (omega (arith, grows.horizon)) later;
    }

-- entries that come later raise the horizon
none_later : (s new : PlainSession) (rest : List Entry) → new.log ≡ s.log ++ rest → TimesRiseAfter s.horizon rest → IsSoundSession new → new.horizon ≤ s.horizon → rest ≡ []
none_later s new [] log later sound same = refl
none_later s new (entry ∷ rest) log later sound same =
    let at : slice_get new.log (length s.log) ≡ Some entry = subst (λ (log : List Entry). slice_get log (length s.log) ≡ Some entry) (sym log) (get_behind s.log entry rest) in
    let early = early_as_last 0 new.log (length s.log) entry (TimesRise-legal new.log sound.legal) at in
    absurd (omega (arith, later.0, sound.latest))

caught_grows : (s new : PlainSession) (r : ReplicaView) → Grows s new → IsSoundSession new → IsCaughtUp s r → (same : Bool) → nat_le new.horizon s.horizon ≡ same → (s.horizon < new.horizon) ⊎ IsCaughtUp new r
caught_grows s new r grows sound caught false is = inl (grind (arith, nat_tests))
caught_grows s new r grows sound caught true is =
    let same : new.horizon ≤ s.horizon = grind (arith, nat_tests) in
    let none = none_later s new grows.rest grows.log grows.later sound same in
    let log : new.log ≡ s.log = grows.log ∙ ap (λ (rest : List Entry). s.log ++ rest) none ∙ append-nil s.log in
    inr (record { rests = caught.rests; seen = caught.seen ∙ ap (λ (log : List Entry). length log) (sym log); time = omega (arith, grows.horizon, caught.time) })

later_or_caught : (low : ℕ) (s new : PlainSession) (r : ReplicaView) → low ≤ s.horizon → (s.horizon < new.horizon) ⊎ IsCaughtUp new r → (low < new.horizon) ⊎ IsCaughtUp new r
later_or_caught low s new r few (inl later) = inl (omega (arith, few))
later_or_caught low s new r few (inr caught) = inr caught

next_grows : (s new : PlainSession) (r : ReplicaView) (cursor : Cursor) → Grows s new → IsSoundSession new → cursor.last_tick ≤ s.horizon → (cursor.last_tick < s.horizon) ⊎ IsCaughtUp s r → (cursor.last_tick < new.horizon) ⊎ IsCaughtUp new r
next_grows s new r cursor grows sound ticked (inl later) = inl (omega (arith, grows.horizon))
next_grows s new r cursor grows sound ticked (inr caught) = later_or_caught cursor.last_tick s new r ticked (caught_grows s new r grows sound caught (nat_le new.horizon s.horizon) refl)

pub works_grow : (s new : PlainSession) (r : ReplicaView) (cursor : Cursor) → Grows s new → IsSoundSession new → ReplicaWorks s r cursor → ReplicaWorks new r cursor
works_grow s new r cursor grows sound works = record {
  program = works.program;
  follows = follows_log_grows (worlds_of r) s new r.plain grows works.within works.follows;
  synced = works.synced;
  within = omega (arith, works.within, grows.horizon);
  place = works.place;
  placed = works.placed;
  ahead = λ t least counted. ahead_grown s new works.place.seen r.plain.world.time t (nat_le t s.horizon) refl grows works.within (works.ahead t least) counted;
  sent = sent_grow s new works.place cursor grows works.sent;
  ticked = omega (arith, works.ticked, grows.horizon);
  next = next_grows s new r cursor grows sound works.ticked works.next;
}
