-- The run of a reflector that keeps a journal.
use Rattle.std.proofs.Common.{◌≡◌, ◌⊎◌, inl, inr, ℕ, Bool, true, false, List, Option, Some, None, is_some, Result, Ok, Err, IfOk, refl, sym, ap, subst, ◌∙◌}
use Rattle.std.specs.Prelude.{⊤}
use Rattle.run_steps.specs.Steps.{Step}
use Rattle.run_steps.specs.Outside.{FilesTell, LinksTell, NetTells, Outside, OutputTells, files_side, files_side_tells, outside, outside_tells}
use Rattle.store_io.specs.declared.store.StoreFault.{StoreFault}
use Rattle.store_io.specs.declared.store.StoreFault.TheVariants as store_fault
use Rattle.store_io.specs.declared.stores.Opened.{Opened}
use Rattle.store_io.specs.declared.stores.Opened.TheVariants as opened
use Rattle.journal_store.specs.declared.opening.OpeningFault.{OpeningFault}
use Rattle.journal_store.specs.declared.opening.OpeningFault.TheVariants as opening_fault
use Rattle.store_io.specs.Stores.{IsOpened, TellsOnly}
use Rattle.session_journal.specs.Journal.{most_journal}
use Rattle.journal_store.specs.Opening.{OpensThen, opening_answer}
use Rattle.journal_store.specs.Stores.{OpensFile, StoresTell, TakesStore}
use Rattle.host_posts.specs.Shares.{SharesTell}
use Rattle.reflect_server.specs.declared.reflection.Opening.{Opening}
use Rattle.reflector_core.specs.PlainSession.{PlainSession}
use Rattle.session_journal.specs.Journal.{Found, NoJournal, OtherSession, read_journal}
use Rattle.session_journal.specs.declared.reading.JournalFault.{JournalFault}
use Rattle.session_journal.specs.declared.reading.JournalFault.TheVariants as journal_fault
use Rattle.session_keeper.specs.declared.keeper.JournalKeeper.{JournalKeeper}
use Rattle.session_log.specs.Stored.{PlainStored}
use Rattle.session_log.specs.declared.stored.Stored.{Stored}
use Rattle.session_journal.specs.State.{founded}
use Rattle.command_outcome.specs.Outcome.{steps_of}
use Rattle.command_outcome.specs.declared.outcome.Input.TheVariants as input
use Rattle.command_outcome.specs.declared.outcome.CommandRefusal.TheVariants as refusal
use Rattle.command_reflect.specs.declared.keeping.GoingOn.{GoingOn}
use Rattle.command_reflect.specs.declared.keeping.Keeping.{Keeping}
use Rattle.command_reflect.specs.KeptSteps.{GoesOnFrom, kept_place}
use Rattle.commands.specs.Keeping.{OfAbsent, OfBytes, OfFound, OfFounding, OfFoundingLog, founded_with, no_journal}
use Rattle.commands.specs.Verdict.{ByDrill, ByGoingOn, ByHosting, ByKeeping, ByLive, ByReadFault, ByReflecting, ByRefusal, ByVisit, ByWant, ByWriteFault, Closing, Coming, Free, OfGiven, OfLog, OfRight, names_no_other, Only, PlainKeeping, Verdict, at_once}
use Rattle.commands.specs.Work.{IsBoundedKeeping, plain_keeping, plain_opening}
use Rattle.croquet.specs.declared.keeping.Stopped.{Stopped}
use Rattle.croquet.specs.declared.keeping.There.{There}
use Rattle.croquet.specs.declared.status.Status.{Status}
use Rattle.croquet.specs.declared.top.Turn.{Turn}
use Rattle.croquet.specs.declared.top.Turn.TheVariants as turn
use Rattle.croquet.specs.Calls.{Completes, IsBoundedTurn, ungone_ending, unread_ending}
use Rattle.croquet.specs.Keeps.{EndsUnopened, FoundsOrEnds, GoesOnReady, IsKeepingTurn, OpensKeeping, OpensOrEnds, PreparesNone, PreparesOk, Prepares, ReadsJournal, ResumesOrTells, ResumesThere, ServedAs, TellsUnopened, answer_there, turn_of}
use Rattle.croquet.specs.Run.{EndsRead, KeepsFor, KeepsOn, OfAnswer, OfOpened, OfUngone, OpensAs, OutOfMemory, RanAsKeeper, Reaches, StopsAtBytes, TellsEnding, on_read_fault, on_write_fault, refusal_ending}
use Rattle.croquet.proofs.Runs.{RanSo, TurnsSo, ran_closed, ran_leading, ran_wanting}
use Rattle.croquet.proofs.VisitRuns.{beside, does_beside, reaches_beside, steps_beside}

-- ---- what is told

module _ {F W : Type 0} (files : FilesTell F) (out : OutputTells W) (f : F) (w w' : W) (result : Status) where
  -- why a journal was not opened
  pub told_unopened : {S : Type 0} (keeping : PlainKeeping) (answer : Result (Opened S) OpeningFault) → TellsUnopened out answer w w' result → RanSo files out (OfOpened keeping answer) f w f w' result
  told_unopened keeping (Ok opened.Absent) never = absurd never
  told_unopened keeping (Ok (opened.There store bytes)) never = absurd never
  told_unopened keeping (Ok (opened.TooLarge len)) told = ran_closed files out no_journal (refusal_ending (refusal.Input input.Journal)) f w w' result (refl, refl) told
  told_unopened keeping (Err opening_fault.Unfounded) told = ran_closed files out ByWriteFault on_write_fault f w w' result (refl, refl) told
  told_unopened keeping (Err opening_fault.Unopened) told = ran_closed files out ByReadFault on_read_fault f w w' result (refl, refl) told
  told_unopened keeping (Err opening_fault.WantOfMemory) told = ran_closed files out ByWant OutOfMemory f w w' result (refl, refl) told

  -- that a journal is not there which was founded just now
  pub told_gone : (stored : PlainStored) (keeping : PlainKeeping) → TellsEnding out on_read_fault w w' result → RanSo files out (OfAbsent (Some stored) keeping) f w f w' result
  told_gone stored keeping told = ran_closed files out ByReadFault on_read_fault f w w' result (refl, refl) told

  -- why a session does not go on
  pub told_ungone : (fault : StoreFault) → TellsEnding out (ungone_ending fault) w w' result → RanSo files out (OfUngone fault) f w f w' result
  told_ungone store_fault.Failed told = ran_closed files out ByWriteFault on_write_fault f w w' result (refl, refl) told
  told_ungone store_fault.WantOfMemory told = ran_closed files out ByWant OutOfMemory f w w' result (refl, refl) told

  no_journal_told : (keeping : PlainKeeping) (bytes : List ℕ) (found : Found) → read_journal keeping.id bytes ≡ found → ((verdict : Verdict) → Only (at_once no_journal) verdict → OfFound keeping found verdict)
      → TellsEnding out (refusal_ending (refusal.Input input.Journal)) w w' result → RanSo files out (OfBytes keeping bytes) f w f w' result
  no_journal_told keeping bytes found is leads told =
      ran_leading files out (Only (at_once no_journal)) (OfBytes keeping bytes) f f w w' result (λ verdict comes. inr (subst (λ (x : Found). OfFound keeping x verdict) (sym is) (leads verdict comes)))
      (ran_closed files out no_journal (refusal_ending (refusal.Input input.Journal)) f w w' result (refl, refl) told)

  -- why the bytes of a journal were not read
  pub told_unread : (keeping : PlainKeeping) (bytes : List ℕ) (fault : JournalFault) → (fault ≡ journal_fault.NoJournal → read_journal keeping.id bytes ≡ NoJournal) → (fault ≡ journal_fault.OtherSession → read_journal keeping.id bytes ≡ OtherSession)
      → TellsEnding out (unread_ending fault) w w' result → RanSo files out (OfBytes keeping bytes) f w f w' result
  told_unread keeping bytes journal_fault.NoJournal none other told = no_journal_told keeping bytes NoJournal (none refl) (λ verdict comes. comes) told
  told_unread keeping bytes journal_fault.OtherSession none other told = no_journal_told keeping bytes OtherSession (other refl) (λ verdict comes. comes) told
  told_unread keeping bytes journal_fault.WantOfMemory none other told = ran_wanting files out (OfFound keeping (read_journal keeping.id bytes)) f w w' result told

-- ---- what is put and printed before a journal goes on

-- it comes of its bytes
going_comes : (keeping : Keeping) (bytes : List ℕ) (going : GoingOn) → GoesOnFrom keeping bytes going
    → OfBytes (plain_keeping keeping) bytes (record { steps = steps_of going.outcome.files going.outcome.text; closing = ByGoingOn (plain_keeping keeping) (kept_place going) })
going_comes keeping bytes going from =
    inr (subst (λ (x : Found). OfFound (plain_keeping keeping) x (record { steps = steps_of going.outcome.files going.outcome.text; closing = ByGoingOn (plain_keeping keeping) (kept_place going) })) (sym from.read)
    (ap (λ (steps : List Step). record { steps = steps; closing = ByGoingOn (plain_keeping keeping) (kept_place going) }) from.steps))

module _ {F W S : Type 0} (files : FilesTell F) (out : OutputTells W) (told : S → Option (List ℕ)) (safe faults : S → ℕ) (keeping : Keeping) (store : S) (going : GoingOn) (bytes : List ℕ) (from : GoesOnFrom keeping bytes going) where
  -- it is done
  going_reached : (f mid : F) (w next : W) → Completes (files_side_tells files out) (steps_of going.outcome.files going.outcome.text) (Ok tt) (files_side f w) (files_side mid next)
      → Reaches (files_side_tells files out) (OfBytes (plain_keeping keeping) bytes) (ByGoingOn (plain_keeping keeping) (kept_place going)) (files_side f w) (files_side mid next)
  going_reached f mid w next acts = record { steps = steps_of going.outcome.files going.outcome.text; comes = going_comes keeping bytes going from; acts = acts }

  -- it is cut
  pub going_cut : (f f' : F) (w w' : W) (result : Status) → Completes (files_side_tells files out) (steps_of going.outcome.files going.outcome.text) (Err result) (files_side f w) (files_side f' w')
      → ReadsJournal (files_side_tells files out) told safe faults (plain_keeping keeping) store bytes (Err (record { store = store; status = result })) (files_side f w) (files_side f' w')
  going_cut f f' w w' result does =
      inr (inl (kept_place going, record { steps = steps_of going.outcome.files going.outcome.text; comes = going_comes keeping bytes going from; does = does }, refl))

  -- it is done, and the session goes on or does not
  pub going_done : (answer : Result (Opening (JournalKeeper S)) (Stopped S)) (f mid : F) (w next w' : W) → Completes (files_side_tells files out) (steps_of going.outcome.files going.outcome.text) (Ok tt) (files_side f w) (files_side mid next)
      → ResumesOrTells out told safe faults store (kept_place going) answer next w' → ReadsJournal (files_side_tells files out) told safe faults (plain_keeping keeping) store bytes answer (files_side f w) (files_side mid w')
  going_done (Ok ready) f mid w next w' acts resumes = record {
    place = kept_place going;
    reaches = subst (λ (o : W). Reaches (files_side_tells files out) (OfBytes (plain_keeping keeping) bytes) (ByGoingOn (plain_keeping keeping) (kept_place going)) (files_side f w) (files_side mid o)) (sym resumes.0) (going_reached f mid w next acts);
    session = resumes.1;
    goes_on = resumes.2;
  }
  going_done (Err stopped) f mid w next w' acts resumes =
      inr (inr (record {
        place = kept_place going;
        ready = files_side mid next;
        reaches = going_reached f mid w next acts;
        fault = resumes.0;
        rose = resumes.1;
        steps = told_ungone files out mid next w' stopped.status resumes.0 resumes.2;
      }))

-- ---- beside a net

module _ {F W N L T S : Type 0} (files : FilesTell F) (out : OutputTells W) (net : NetTells N L) (links : LinksTell L) (held : N) (stores : StoresTell T S) where
  opens_beside : (first keeping : PlainKeeping) (answer : Result (Opened S) OpeningFault) (old new : Outside F W ⊤ ⊤) (s t : T) → OpensAs (files_side_tells files out) stores first keeping answer old new s t
      → OpensAs (outside_tells files out net links) stores first keeping answer (beside held old) (beside held new) s t
  opens_beside first keeping answer old new s t (inl (same, still, opens)) = inl (same, ap (λ (o : Outside F W ⊤ ⊤). beside {F = F} {W = W} {N = N} {L = L} held o) still, opens)
  opens_beside first keeping answer old new s t (inr (mid, absent, reached, opens)) =
      inr (mid, absent, reaches_beside files out net links held (OfAbsent first.opening first) (ByKeeping keeping) old new reached, opens)

  stops_beside : (keeping : PlainKeeping) (store : S) (bytes : List ℕ) (left : S) (old new : Outside F W ⊤ ⊤) (result : Status) → StopsAtBytes (files_side_tells files out) stores.store_faults keeping store bytes left old new result
      → StopsAtBytes (outside_tells files out net links) stores.store_faults keeping store bytes left (beside held old) (beside held new) result
  stops_beside keeping store bytes left old new result (inl (ran, same)) = inl (steps_beside files out net links held (OfBytes keeping bytes) old new result ran, same)
  stops_beside keeping store bytes left old new result (inr (inl (place, ends, same))) =
      inr (inl (place, record { steps = ends.steps; comes = ends.comes; does = λ ending. does_beside files out net links held ends.steps ending old new result (ends.does ending) }, same))
  stops_beside keeping store bytes left old new result (inr (inr ends)) =
      inr (inr (record {
        place = ends.place;
        ready = beside held ends.ready;
        reaches = reaches_beside files out net links held (OfBytes keeping bytes) (ByGoingOn keeping ends.place) old ends.ready ends.reaches;
        fault = ends.fault;
        rose = ends.rose;
        steps = steps_beside files out net links held (OfUngone ends.fault) ends.ready new result ends.steps;
      }))

  answer_beside
      : {P : Type 0} (gives : ℕ → Type 0) (may : Option (List ℕ) → Type 0) (parts : SharesTell N P L) (keeping : PlainKeeping) (answer : Result (Opened S) OpeningFault) (old new : Outside F W ⊤ ⊤) (s t : T) (result : Status)
      → OfAnswer (files_side_tells files out) keeping answer (λ store bytes. EndsRead (files_side_tells files out) stores keeping store bytes old new s t result) old new s t result
      → OfAnswer (outside_tells files out net links) keeping answer (λ store bytes. EndsRead (outside_tells files out net links) stores keeping store bytes (beside held old) (beside held new) s t result
      ⊎ KeepsOn gives may (outside_tells files out net links) parts stores keeping bytes (beside held old) (beside held new) s t result) (beside held old) (beside held new) s t result
  answer_beside gives may parts keeping (Ok (opened.There store bytes)) old new s t result ends =
      inl (record { left = ends.left; stops = stops_beside keeping store bytes ends.left old new result ends.stops; back = ends.back })
  answer_beside gives may parts keeping (Ok opened.Absent) old new s t result (ran, same) = (steps_beside files out net links held (OfOpened {S = S} keeping (Ok opened.Absent)) old new result ran, same)
  answer_beside gives may parts keeping (Ok (opened.TooLarge len)) old new s t result (ran, same) = (steps_beside files out net links held (OfOpened {S = S} keeping (Ok (opened.TooLarge len))) old new result ran, same)
  answer_beside gives may parts keeping (Err fault) old new s t result (ran, same) = (steps_beside files out net links held (OfOpened {S = S} keeping (Err fault)) old new result ran, same)

  -- a command whose journal does not go on
  pub ran_unkept
      : {P : Type 0} (gives : ℕ → Type 0) (may : Option (List ℕ) → Type 0) (parts : SharesTell N P L) (coming : Coming) (first : PlainKeeping) (f mid f' : F) (w next w' : W) (s t : T) (result : Status) → Reaches (files_side_tells files out) coming (ByKeeping first) (files_side f w) (files_side mid next)
      → PreparesNone (files_side_tells files out) stores first (files_side mid next) (files_side f' w') s t result
      → RanAsKeeper gives may (outside_tells files out net links) parts stores coming (outside f w held None) (outside f' w' held None) s t result
  ran_unkept gives may parts coming first f mid f' w next w' s t result reached ends = record {
    first = first;
    asked = outside mid next held None;
    reaches = reaches_beside files out net links held coming (ByKeeping first) (files_side f w) (files_side mid next) reached;
    keeping = ends.keeping;
    answer = ends.answer;
    told = beside held ends.told;
    held = ends.held;
    opens = opens_beside first ends.keeping ends.answer (files_side mid next) ends.told s ends.held ends.opens;
    behind = answer_beside gives may parts ends.keeping ends.answer ends.told (files_side f' w') ends.held t result ends.ends;
  }

  -- a command whose journal goes on, and is served
  pub ran_kept
      : {P : Type 0} (gives : ℕ → Type 0) (may : Option (List ℕ) → Type 0) (parts : SharesTell N P L) (coming : Coming) (first keeping : PlainKeeping) (opening : Opening (JournalKeeper S)) (f mid ready f' : F) (w next said w' : W) (n' : N) (s mid_s t : T) (result : Status)
      → Reaches (files_side_tells files out) coming (ByKeeping first) (files_side f w) (files_side mid next)
      → PreparesOk (files_side_tells files out) stores first keeping opening (files_side mid next) (files_side ready said) s mid_s
      → ServedAs gives may (outside_tells files out net links) parts stores keeping opening (outside ready said held None) (outside f' w' n' None) mid_s t result
      → RanAsKeeper gives may (outside_tells files out net links) parts stores coming (outside f w held None) (outside f' w' n' None) s t result
  ran_kept gives may parts coming first keeping opening f mid ready f' w next said w' n' s mid_s t result reached ok served = record {
    first = first;
    asked = outside mid next held None;
    reaches = reaches_beside files out net links held coming (ByKeeping first) (files_side f w) (files_side mid next) reached;
    keeping = keeping;
    answer = Ok (opened.There ok.store ok.bytes);
    told = beside held ok.told;
    held = mid_s;
    opens = opens_beside first keeping (Ok (opened.There ok.store ok.bytes)) (files_side mid next) ok.told s mid_s ok.opens;
    behind = inr (record {
      place = ok.goes.place;
      ready = outside ready said held None;
      reaches = reaches_beside files out net links held (OfBytes keeping ok.bytes) (ByGoingOn keeping ok.goes.place) ok.told (files_side ready said) ok.goes.reaches;
      first = opening.keeper;
      goes_on = ok.goes.goes_on;
      keeper = served.keeper;
      serves = subst (λ (session : PlainSession). KeepsFor keeping.span gives may (outside_tells files out net links) parts stores keeping session opening.keeper served.keeper (outside ready said held None) (outside f' w' n' None) result) ok.goes.session served.serves;
      back = served.back;
    });
  }

-- ---- with what a journal is founded

some_plain : (opening : Option Stored) → is_some (plain_opening opening) ≡ is_some opening
some_plain None = refl
some_plain (Some stored) = refl

module _ {F W : Type 0} (files : FilesTell F) (out : OutputTells W) (first : Keeping) where
  abbrev first_plain : PlainKeeping
  first_plain = plain_keeping first

  gone_if : (opening : Option PlainStored) (f : F) (w w' : W) (result : Status) → is_some opening ≡ true → TellsEnding out on_read_fault w w' result → RanSo files out (OfAbsent opening first_plain) f w f w' result
  gone_if None f w w' result is told = absurd cc
  gone_if (Some stored) f w w' result is told = told_gone files out f w w' result stored first_plain told

  -- it was founded just now
  pub founded_gone : (f : F) (w w' : W) (result : Status) → is_some first.opening ≡ true → TellsEnding out on_read_fault w w' result → FoundsOrEnds (files_side_tells files out) first_plain (Err result) (files_side f w) (files_side f w')
  founded_gone f w w' result is told = gone_if (plain_opening first.opening) f w w' result (some_plain first.opening ∙ is) told

  founding_of_none : (opening : Option PlainStored) (verdict : Verdict) → is_some opening ≡ false → OfFounding first_plain.from first_plain verdict → OfAbsent opening first_plain verdict
  founding_of_none None verdict is comes = comes
  founding_of_none (Some stored) verdict is comes = absurd cc

  -- the turn that came of it
  pub founds_by
      : (coming : Coming) (result : Result Keeping Status) (came : Turn) (f f' : F) (w w' : W) → turn_of result ≡ came → is_some first.opening ≡ false → ((verdict : Verdict) → coming verdict → OfFounding first_plain.from first_plain verdict)
      → TurnsSo files out came coming f w f' w' → FoundsOrEnds (files_side_tells files out) first_plain result (files_side f w) (files_side f' w')
  founds_by coming (Ok keeping) came f f' w w' is none leads turns =
      let reached : Reaches (files_side_tells files out) coming (ByKeeping (plain_keeping keeping)) (files_side f w) (files_side f' w') = subst (λ (t : Turn). TurnsSo files out t coming f w f' w') (sym is) turns in
      record {
        steps = reached.steps;
        comes = founding_of_none (plain_opening first.opening) _ (some_plain first.opening ∙ none) (leads _ reached.comes);
        acts = reached.acts;
      }
  founds_by coming (Err result) came f f' w w' is none leads turns =
      ran_leading files out coming (OfAbsent (plain_opening first.opening) first_plain) f f' w w' result
      (λ verdict comes. founding_of_none (plain_opening first.opening) verdict (some_plain first.opening ∙ none) (leads verdict comes))
      (subst (λ (t : Turn). TurnsSo files out t coming f w f' w') (sym is) turns)

-- a run of steps alone, or a journal that is to be opened, and it is known with what it is founded
abbrev IsKeptClosing : Closing → Type 0
IsKeptClosing (ByKeeping keeping) = is_some keeping.opening ≡ true
IsKeptClosing (ByVisit visit) = ⊥
IsKeptClosing (ByLive live) = ⊥
IsKeptClosing (ByReflecting reflection) = ⊥
IsKeptClosing (ByHosting hosting) = ⊥
IsKeptClosing (ByDrill request) = ⊥
IsKeptClosing closing = ⊤

only_kept : (made verdict : Verdict) → IsKeptClosing made.closing → Only made verdict → IsKeptClosing verdict.closing
only_kept made verdict kept is = subst (λ (v : Verdict). IsKeptClosing v.closing) (sym is) kept

own_kept : (is : Bool) (keeping : PlainKeeping) (stored : PlainStored) (verdict : Verdict) → OfRight input.Journal is (Only (at_once (ByKeeping (founded_with keeping stored)))) verdict → IsKeptClosing verdict.closing
own_kept true keeping stored verdict comes = only_kept (at_once (ByKeeping (founded_with keeping stored))) verdict refl comes
own_kept false keeping stored verdict comes = only_kept (at_once (ByRefusal (refusal.Input input.Journal))) verdict tt comes

log_kept : (keeping : PlainKeeping) (bytes : List ℕ) (verdict : Verdict) → OfLog (OfFoundingLog keeping) bytes verdict → IsKeptClosing verdict.closing
log_kept keeping bytes verdict (inl (source, is, comes)) = own_kept (names_no_other source.named keeping.id) keeping source.stored verdict comes
log_kept keeping bytes verdict (inr (none, comes)) = only_kept (at_once (ByRefusal (refusal.Input input.Log))) verdict tt comes

given_kept : (keeping : PlainKeeping) (given : Option (List ℕ)) (verdict : Verdict) → Free (OfGiven input.Log given (OfLog (OfFoundingLog keeping))) verdict → IsKeptClosing verdict.closing
given_kept keeping given verdict (inl want) = only_kept (at_once ByWant) verdict tt want
given_kept keeping None verdict (inr comes) = only_kept (at_once (ByRefusal (refusal.Input input.Log))) verdict tt comes
given_kept keeping (Some bytes) verdict (inr comes) = log_kept keeping bytes verdict comes

founding_kept : (from : Option (List ℕ)) (keeping : PlainKeeping) (verdict : Verdict) → OfFounding from keeping verdict → IsKeptClosing verdict.closing
founding_kept None keeping verdict comes = only_kept (at_once (ByKeeping (founded_with keeping founded))) verdict refl comes
founding_kept (Some from) keeping verdict (given, (rest, is, comes)) = subst (λ (v : Verdict). IsKeptClosing v.closing) (sym is) (given_kept keeping given rest comes)

absent_kept : (opening : Option PlainStored) (keeping : PlainKeeping) (verdict : Verdict) → OfAbsent opening keeping verdict → IsKeptClosing verdict.closing
absent_kept None keeping verdict comes = founding_kept keeping.from keeping verdict comes
absent_kept (Some stored) keeping verdict comes = only_kept (at_once ByReadFault) verdict tt comes

-- what comes of a founding is the turn of a keeping, or of an end
pub founding_turns
    : {F W : Type 0} (files : FilesTell F) (out : OutputTells W) (coming : Coming) (keeping : PlainKeeping) (came : Turn) (f f' : F) (w w' : W) → ((verdict : Verdict) → coming verdict → OfFounding keeping.from keeping verdict)
    → TurnsSo files out came coming f w f' w' → IsKeepingTurn came
founding_turns files out coming keeping (turn.Over result) f f' w w' leads turns = tt
founding_turns files out coming keeping (turn.Keeps next) f f' w w' leads turns = tt
founding_turns files out coming keeping (turn.Visits request) f f' w w' leads reached = absurd (founding_kept keeping.from keeping _ (leads _ reached.comes))
founding_turns files out coming keeping (turn.Lives start) f f' w w' leads reached = absurd (founding_kept keeping.from keeping _ (leads _ reached.comes))
founding_turns files out coming keeping (turn.Reflects reflection) f f' w w' leads reached = absurd (founding_kept keeping.from keeping _ (leads _ reached.comes))
founding_turns files out coming keeping (turn.Hosts hosting) f f' w w' leads reached = absurd (founding_kept keeping.from keeping _ (leads _ reached.comes))
founding_turns files out coming keeping (turn.Drills request) f f' w w' leads reached = absurd (founding_kept keeping.from keeping _ (leads _ reached.comes))

pub bounded_keeping : (result : Result Keeping Status) (came : Turn) → turn_of result ≡ came → IsBoundedTurn came → IfOk result IsBoundedKeeping
bounded_keeping (Ok keeping) came is bounded = subst IsBoundedTurn (sym is) bounded
bounded_keeping (Err result) came is bounded = tt

-- ---- a journal is opened, or founded and opened again

module _ {F W T S : Type 0} (files : FilesTell F) (out : OutputTells W) (stores : StoresTell T S) (first : PlainKeeping) where
  -- it is there at once
  pub opened_there : (keeping : Keeping) (there : There S) (f : F) (w w' : W) (s t : T) → first ≡ plain_keeping keeping → (w' ≡ w) × OpensKeeping stores first (answer_there there) s t
      → OpensOrEnds (files_side_tells files out) stores first (Ok (keeping, there)) (files_side f w) (files_side f w') s t
  opened_there keeping there f w w' s t same (quiet, opens) = inl (sym same, ap (files_side f) quiet, opens)

  -- it is not opened, at once or once it was founded
  ends_if : (keeping : PlainKeeping) (answer : Result (Opened S) OpeningFault) (mid : F) (next w' : W) (t : T) (result : Status) → TellsUnopened out answer next w' result
      → OfAnswer (files_side_tells files out) keeping answer (λ store bytes. ⊥) (files_side mid next) (files_side mid w') t t result
  ends_if keeping (Ok opened.Absent) mid next w' t result never = absurd never
  ends_if keeping (Ok (opened.There store bytes)) mid next w' t result never = absurd never
  ends_if keeping (Ok (opened.TooLarge len)) mid next w' t result told = (told_unopened files out mid next w' result {S = S} keeping (Ok (opened.TooLarge len)) told, refl)
  ends_if keeping (Err fault) mid next w' t result told = (told_unopened files out mid next w' result {S = S} keeping (Err fault) told, refl)

  ends_not : (keeping : PlainKeeping) (answer : Result (Opened S) OpeningFault) (f mid : F) (w next w' : W) (s t : T) (result : Status) → OpensAs (files_side_tells files out) stores first keeping answer (files_side f w) (files_side mid next) s t
      → TellsUnopened out answer next w' result → EndsUnopened (files_side_tells files out) stores first (files_side f w) (files_side mid w') s t result
  ends_not keeping answer f mid w next w' s t result opens told =
      record { keeping = keeping; answer = answer; told = files_side mid next; opens = opens; ends = ends_if keeping answer mid next w' t result told }

  pub opened_not : (f : F) (w w' : W) (s t : T) (result : Status) → (answer : Result (Opened S) OpeningFault) × OpensKeeping stores first answer s t × TellsUnopened out answer w w' result
      → OpensOrEnds (files_side_tells files out) stores first (Err result) (files_side f w) (files_side f w') s t
  opened_not f w w' s t result (answer, opens, told) = ends_not first answer f f w w w' s t result (inl (refl, refl, opens)) told

  -- ---- it is not there

  module _ (s mid_s : T) (absent : OpensKeeping stores first (Ok opened.Absent) s mid_s) where
    -- nothing was told of that
    pub absent_then : (result : Result (Keeping × There S) Status) (f : F) (w said : W) (new : Outside F W ⊤ ⊤) (t : T) → said ≡ w → OpensOrEnds (files_side_tells files out) stores first result (files_side f said) new s t
        → OpensOrEnds (files_side_tells files out) stores first result (files_side f w) new s t
    absent_then result f w said new t quiet ends = subst (λ (o : W). OpensOrEnds (files_side_tells files out) stores first result (files_side f o) new s t) quiet ends

    -- and it is not known with what it is founded
    pub absent_ends : (f f' : F) (w w' : W) (result : Status) → FoundsOrEnds (files_side_tells files out) first (Err result) (files_side f w) (files_side f' w') → OpensOrEnds (files_side_tells files out) stores first (Err result) (files_side f w) (files_side f' w') s mid_s
    absent_ends f f' w w' result ran =
        record { keeping = first; answer = Ok opened.Absent; told = files_side f w; opens = inl (refl, refl, absent); ends = (ran, refl) }

    module _ (keeping : Keeping) (f mid : F) (w next : W) (reached : FoundsOrEnds (files_side_tells files out) first (Ok keeping) (files_side f w) (files_side mid next)) where
      -- it was founded, and is there
      pub founded_there : (there : There S) (w' : W) (t : T) → (w' ≡ next) × OpensKeeping stores (plain_keeping keeping) (answer_there there) mid_s t
          → OpensOrEnds (files_side_tells files out) stores first (Ok (keeping, there)) (files_side f w) (files_side mid w') s t
      founded_there there w' t (quiet, opens) =
          inr (mid_s, absent, subst (λ (o : W). Reaches (files_side_tells files out) (OfAbsent first.opening first) (ByKeeping (plain_keeping keeping)) (files_side f w) (files_side mid o)) (sym quiet) reached, opens)

      -- it was not founded, or not opened then
      pub founded_not : (w' : W) (t : T) (result : Status) → (answer : Result (Opened S) OpeningFault) × OpensKeeping stores (plain_keeping keeping) answer mid_s t × TellsUnopened out answer next w' result
          → OpensOrEnds (files_side_tells files out) stores first (Err result) (files_side f w) (files_side mid w') s t
      founded_not w' t result (answer, opens, told) = ends_not (plain_keeping keeping) answer f mid w next w' s t result (inr (mid_s, absent, reached, opens)) told

      -- it was founded, and is not there
      pub founded_absent : (said w' : W) (t : T) (result : Status) → (said ≡ next) × OpensKeeping stores (plain_keeping keeping) (Ok opened.Absent) mid_s t → TellsEnding out on_read_fault said w' result
          → OpensOrEnds (files_side_tells files out) stores first (Err result) (files_side f w) (files_side mid w') s t
      founded_absent said w' t result (quiet, opens) told = record {
        keeping = plain_keeping keeping;
        answer = Ok opened.Absent;
        told = files_side mid said;
        opens = inr (mid_s, absent, subst (λ (o : W). Reaches (files_side_tells files out) (OfAbsent first.opening first) (ByKeeping (plain_keeping keeping)) (files_side f w) (files_side mid o)) (sym quiet) reached, opens);
        ends = (gone_if files out keeping (plain_opening keeping.opening) mid said w' result (absent_kept first.opening first _ reached.comes) told, refl);
      }

-- a store that was opened tells only its bytes
opened_tells : {T S : Type 0} (stores : StoresTell T S) (name : List ℕ) (store : S) (bytes : List ℕ) (old new : T) (result : Result (Opened S) StoreFault) → OpensFile stores name most_journal result old new
    → Ok (opened.There store bytes) ≡ opening_answer result → TellsOnly (stores.told store) bytes
opened_tells stores name store bytes old new (Ok found) file is =
    let same : opened.There store bytes ≡ found = cc in
    let given = subst (λ o. IsOpened stores.told stores.safe (stores.held old name) most_journal o) (sym same) file.given in
    given.1.1.0
opened_tells stores name store bytes old new (Err store_fault.Failed) file is = absurd cc
opened_tells stores name store bytes old new (Err store_fault.WantOfMemory) file is = absurd cc

then_tells : {T S : Type 0} (stores : StoresTell T S) (name : List ℕ) (founded : Result ⊤ StoreFault) (store : S) (bytes : List ℕ) (old new : T) → OpensThen stores name founded (Ok (opened.There store bytes)) old new → TellsOnly (stores.told store) bytes
then_tells stores name (Ok done) store bytes old new (result, file, is) = opened_tells stores name store bytes old new result file is
then_tells stores name (Err store_fault.Failed) store bytes old new (never, same) = absurd cc
then_tells stores name (Err store_fault.WantOfMemory) store bytes old new (never, same) = absurd cc

pub there_tells : {F W T S : Type 0} (files : FilesTell F) (out : OutputTells W) (stores : StoresTell T S) (first keeping : PlainKeeping) (there : There S) (old new : Outside F W ⊤ ⊤) (s t : T) → OpensAs (files_side_tells files out) stores first keeping (answer_there there) old new s t
    → TellsOnly (stores.told there.store) there.bytes
there_tells files out stores first keeping there old new s t (inl (same, still, opens)) = then_tells stores first.journal opens.founded there.store there.bytes opens.mid t opens.opens
there_tells files out stores first keeping there old new s t (inr (mid, absent, reached, opens)) = then_tells stores keeping.journal opens.founded there.store there.bytes opens.mid t opens.opens

-- ---- from a keeping to its session

module _ {F W T S : Type 0} (files : FilesTell F) (out : OutputTells W) (stores : StoresTell T S) (first : PlainKeeping) where
  unopened_answer : (keeping : PlainKeeping) (answer : Result (Opened S) OpeningFault) (There : S → List ℕ → Type 0) (old new : Outside F W ⊤ ⊤) (t : T) (result : Status)
      → OfAnswer (files_side_tells files out) keeping answer (λ store bytes. ⊥) old new t t result → OfAnswer (files_side_tells files out) keeping answer There old new t t result
  unopened_answer keeping (Ok (opened.There store bytes)) There old new t result never = absurd never
  unopened_answer keeping (Ok opened.Absent) There old new t result ends = ends
  unopened_answer keeping (Ok (opened.TooLarge len)) There old new t result ends = ends
  unopened_answer keeping (Err fault) There old new t result ends = ends

  -- no journal is there
  pub prepares_unopened : (old new : Outside F W ⊤ ⊤) (s t : T) (result : Status) → EndsUnopened (files_side_tells files out) stores first old new s t result → Prepares (files_side_tells files out) stores first (Err result) old new s t
  prepares_unopened old new s t result ends = record {
    keeping = ends.keeping;
    answer = ends.answer;
    told = ends.told;
    held = t;
    opens = ends.opens;
    ends = unopened_answer ends.keeping ends.answer (λ store bytes. EndsRead (files_side_tells files out) stores ends.keeping store bytes ends.told new t t result) ends.told new t result ends.ends;
  }

  module _ (keeping : Keeping) (there : There S) (old told : Outside F W ⊤ ⊤) (s held : T) (opens : OpensAs (files_side_tells files out) stores first (plain_keeping keeping) (answer_there there) old told s held) where
    -- its session goes on, or does not
    pub prepares_there : (result : Result (Keeping × Opening (JournalKeeper S)) Status) (new : Outside F W ⊤ ⊤) (t : T) → ResumesThere (files_side_tells files out) stores keeping there result told new held t
        → Prepares (files_side_tells files out) stores first result old new s t
    prepares_there (Ok ready) new t (same, still, goes) = record {
      store = there.store;
      bytes = there.bytes;
      told = told;
      opens = subst (λ (k : Keeping). OpensAs (files_side_tells files out) stores first (plain_keeping k) (answer_there there) old told s t) (sym same)
          (subst (λ (x : T). OpensAs (files_side_tells files out) stores first (plain_keeping keeping) (answer_there there) old told s x) (sym still) opens);
      goes = subst (λ (k : Keeping). GoesOnReady (files_side_tells files out) stores.told stores.safe (plain_keeping k) there.bytes ready.1 told new) (sym same) goes;
    }
    prepares_there (Err result) new t ends =
        record { keeping = plain_keeping keeping; answer = answer_there there; told = told; held = held; opens = opens; ends = ends }

-- what comes of a journal that is there
module _ {F W T S : Type 0} (files : FilesTell F) (out : OutputTells W) (stores : StoresTell T S) (keeping : Keeping) (there : There S) (bytes : List ℕ) (same : bytes ≡ there.bytes) where
  pub resumes_ok : (opening : Opening (JournalKeeper S)) (old new : Outside F W ⊤ ⊤) (s : T) → ReadsJournal (files_side_tells files out) stores.told stores.safe stores.store_faults (plain_keeping keeping) there.store bytes (Ok opening) old new
      → ResumesThere (files_side_tells files out) stores keeping there (Ok (keeping, opening)) old new s s
  resumes_ok opening old new s goes = (refl, refl, subst (λ (b : List ℕ). GoesOnReady (files_side_tells files out) stores.told stores.safe (plain_keeping keeping) b opening old new) same goes)

  pub resumes_not : (stopped : Stopped S) (old new : Outside F W ⊤ ⊤) (s t : T) → ReadsJournal (files_side_tells files out) stores.told stores.safe stores.store_faults (plain_keeping keeping) there.store bytes (Err stopped) old new
      → TakesStore stores keeping.journal stopped.store s t → ResumesThere (files_side_tells files out) stores keeping there (Err stopped.status) old new s t
  resumes_not stopped old new s t stops back =
      record { left = stopped.store; stops = subst (λ (b : List ℕ). StopsAtBytes (files_side_tells files out) stores.store_faults (plain_keeping keeping) there.store b stopped.store old new stopped.status) same stops; back = back }
