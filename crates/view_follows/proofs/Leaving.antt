-- What a journal leaves of a run, and the runs of which answers tell.
use Rattle.std.proofs.Common.{◌≡◌, ◌⊎◌, inl, inr, ℕ, ◌<◌, ◌≤◌, Bool, true, ◌&&◌, nat_lt, List, [], ◌∷◌, ◌++◌, map, take, drop, Option, Some, sym, ap, subst, ◌∙◌, arith, append_assoc, append-nil}
use Rattle.std.proofs.lemmas.Bool.Decides.{nat_tests}
use Rattle.std.proofs.lemmas.List.{take-append-drop, take_at}
use Rattle.std.specs.List.{AllByRecursion}
use Rattle.tea_base.specs.declared.entry.Entry.{Entry}
use Rattle.tea_base.specs.declared.entry.SessionId.{SessionId}
use Rattle.store_io.specs.Store.{MayBeTorn}
use Rattle.session_log.specs.LogState.{next_entry}
use Rattle.session_log.specs.Stored.{IsStored, PlainStored}
use Rattle.reflector_core.specs.Growth.{AreLater, GrowsTo}
use Rattle.reflector_core.specs.PlainSession.{PlainSession}
use Rattle.reflector_core.specs.Stored.{session_of, stored_of}
use Rattle.reflector_core.proofs.StoredLaws.{sound_session, stored_again, stored_session}
use Rattle.session_journal.specs.declared.change.Change.{Change}
use Rattle.session_journal.specs.declared.change.Change.TheVariants.{Came, Kept, Reached}
use Rattle.session_journal.specs.Journal.{AreBytes, Goes, ReadsFirst, journal_check, journal_spelling, read_journal}
use Rattle.session_journal.specs.Frames.{Place}
use Rattle.session_journal.specs.Keeper.{Keeps}
use Rattle.session_journal.specs.State.{GoesOn, after_change, founded, has_room, journal_after}
use Rattle.session_journal.proofs.FrameLaws.{IsBytes-after}
use Rattle.session_journal.proofs.JournalLaws.{after_both}
use Rattle.session_journal.proofs.StoredLaws.{stored_after}
use Rattle.session_keeper.specs.declared.keeper.JournalKeeper.{JournalKeeper}
use Rattle.session_lock.specs.History.{play_from}
use Rattle.journal_store.specs.Safe.{ReadsAs}
use Rattle.run_steps.specs.Outside.{LinksTell}
use Rattle.view_follows.specs.AnyEnds.{AreRuns, BeginAndFollow, FollowOn, HasRun, MayLeave, WasKept, WasOffered}
use Rattle.view_follows.specs.Journals.{BeginOnJournals, BeginsOn, IsHeldBy, IsLeft, IsUntold, JournalRun, JournalRunsFollow, JournalsLeave, KeepOneJournal, LeavesJournal, SafeBytesLeave, SafeIsLeft}
use Rattle.view_follows.specs.Sessions.{ReflectorRun}

abbrev pub RecordsFirst : Type 0
RecordsFirst = (id : List ℕ) (changes : List Change) (tail : List ℕ) → GoesOn founded changes → AreBytes tail → ReadsFirst id changes tail

abbrev pub SafeRead : Type 0
SafeRead = (id bytes : List ℕ) (safe : ℕ) (state : PlainStored) → Keeps id (Some bytes) safe state → ReadsAs id (take safe bytes) state

-- ---- records behind those that were safe

later_more : (low : ℕ) (xs : List Entry) (entry : Entry) → AreLater low xs → low < entry.time → AreLater low (xs ++ entry ∷ [])
later_more low [] entry later above = (above, tt)
later_more low (first ∷ xs) entry later above = (later.0, later_more low xs entry later.1 above)

-- what is stored goes on from the run, and its snapshot is of it
record ComesOf {C L : Type 0} (run : ReflectorRun C L) (s : PlainStored) : Type 0 where
  grows : GrowsTo run.session (session_of s)
  kept : WasKept run (session_of s).kept ⊎ WasOffered run (session_of s).kept

rises : (a b : ℕ) (room : Bool) → (nat_lt a b && room) ≡ true → a ≤ b
rises a b room may = grind (arith, nat_tests)

comes_next : {C L : Type 0} (run : ReflectorRun C L) (s : PlainStored) (change : Change) → GoesOn s (change ∷ []) → IsUntold run change → ComesOf run s → ComesOf run (after_change s change)
comes_next run s (Came time view what) goes untold comes = record {
  grows = record {
    rest = comes.grows.rest ++ next_entry s.log time view what ∷ [];
    log = ap (λ (l : List Entry). l ++ next_entry s.log time view what ∷ []) comes.grows.log ∙ append_assoc run.session.log comes.grows.rest (next_entry s.log time view what ∷ []);
    later = later_more run.session.horizon comes.grows.rest (next_entry s.log time view what) comes.grows.later untold;
    horizon = let h = comes.grows.horizon in omega (arith, h);
  };
  kept = comes.kept;
}
comes_next run s (Reached time) goes untold comes = record {
  grows = record {
    rest = comes.grows.rest;
    log = comes.grows.log;
    later = comes.grows.later;
    horizon = let h = comes.grows.horizon in omega (arith, h, rises s.horizon time (has_room (after_change s (Reached time))) goes.0.1);
  };
  kept = comes.kept;
}
comes_next run s (Kept time bytes) goes untold comes = record {
  grows = record { rest = comes.grows.rest; log = comes.grows.log; later = comes.grows.later; horizon = comes.grows.horizon };
  kept = inr untold;
}

comes_all : {C L : Type 0} (run : ReflectorRun C L) (s : PlainStored) (more : List Change) → GoesOn s more → AllByRecursion (IsUntold run) more → ComesOf run s → ComesOf run (journal_after s more)
comes_all run s [] goes untold comes = comes
comes_all run s (change ∷ more) goes untold comes = comes_all run (after_change s change) more goes.1 untold.1 (comes_next run s change (goes.0, tt) untold.0 comes)

may_leave : {C L : Type 0} (run : ReflectorRun C L) (s : PlainStored) → IsStored s → ComesOf run s → MayLeave run (session_of s)
may_leave run s stored comes = record { grows = comes.grows; sound = sound_session s stored; kept = comes.kept }

-- ---- the safe records

module _ {C L S : Type 0} (told : S → Option (List ℕ)) (safe : S → ℕ) (run : ReflectorRun C L) (keeper : JournalKeeper S) (bytes : List ℕ) (held : IsHeldBy told safe keeper run) (tells : told keeper.journal.store ≡ Some bytes) where
  abbrev id : List ℕ
  id = keeper.id.0

  abbrev count : ℕ
  count = safe keeper.journal.store

  abbrev state : PlainStored
  state = held.holds.is_held.state

  keeps : Keeps id (Some bytes) count state
  keeps = subst (λ (b : Option (List ℕ)). Keeps id b count state) tells held.holds.is_held.is_kept

  spelled : take count bytes ≡ journal_spelling id keeps.changes
  spelled = ap (take count) keeps.safe_are.1 ∙ take_at (journal_spelling id keeps.changes) keeps.safe_are.0 count (sym keeps.safe_are.2)

  -- what is held goes on from the run
  held_grows : GrowsTo run.session held.holds.held
  held_grows = subst (λ (s : PlainSession). GrowsTo s held.holds.held) (sym held.play) (record {
    rest = [];
    log = held.holds.covers.log ∙ sym (append-nil (play_from run.opening run.history).log);
    later = tt;
    horizon = held.holds.covers.ahead;
  })

  held_comes : ComesOf run state
  held_comes = record {
    grows = subst (GrowsTo run.session) (sym held.holds.is_held.same) held_grows;
    kept = inl (record { beginning = held.holds.beginning; rest = held.holds.rest; whole = held.holds.whole; at = ap (λ (s : PlainSession). s.kept) held.holds.is_held.same ∙ held.holds.kept });
  }

  held_stored : IsStored state
  held_stored = subst IsStored (ap stored_of (sym held.holds.is_held.same) ∙ stored_again state) (stored_session held.holds.held held.holds.covers.sound)

  pub any_left : RecordsFirst → (left : List ℕ) → AreBytes left → MayBeTorn (Some bytes) count left → IsLeft id (take count bytes) left run
  any_left first left fits torn =
      let tail : List ℕ = drop count left in
      let split : left ≡ journal_spelling id keeps.changes ++ tail = sym (take-append-drop count left) ∙ ap (λ (xs : List ℕ). xs ++ tail) (torn ∙ spelled) in
      let r = first id keeps.changes tail keeps.goes (IsBytes-after left (journal_spelling id keeps.changes) tail split fits) in
      let after : journal_after founded (keeps.changes ++ r.more) ≡ journal_after state r.more = after_both founded keeps.changes r.more ∙ ap (λ (s : PlainStored). journal_after s r.more) keeps.state_is in
      let goes : GoesOn state r.more = subst (λ (s : PlainStored). GoesOn s r.more) keeps.state_is r.goes in
      record {
        place = record { state = journal_after founded (keeps.changes ++ r.more); check = journal_check id (keeps.changes ++ r.more); rest = r.torn };
        read = ap (read_journal id) split ∙ r.read;
        own = keeps.changes;
        safe_are = spelled;
        more = r.more;
        left_are = split ∙ r.spelled;
        leaves = λ untold.
            subst (λ (s : PlainStored). MayLeave run (session_of s)) (sym after)
            (may_leave run (journal_after state r.more) (stored_after state r.more held_stored goes) (comes_all run state r.more goes untold held_comes));
      }

  pub safe_left : SafeRead → SafeIsLeft id (take count bytes) run
  safe_left read =
      let r = read id bytes count state keeps in
      record { place = record { state = state; check = r.0; rest = [] }; read = r.1; leaves = may_leave run state held_stored held_comes }

pub journals_leave : {C L S : Type 0} (told : S → Option (List ℕ)) (safe : S → ℕ) → RecordsFirst → JournalsLeave C L told safe
journals_leave told safe first run keeper bytes left held tells fits torn = any_left told safe run keeper bytes held tells first left fits torn

pub safe_bytes_leave : {C L S : Type 0} (told : S → Option (List ℕ)) (safe : S → ℕ) → SafeRead → SafeBytesLeave C L told safe
safe_bytes_leave told safe read run keeper bytes held tells = safe_left told safe run keeper bytes held tells read

-- ---- runs on one journal

module _ {C L S : Type 0} (gives : C → ℕ → Type 0) (links : LinksTell L) (told : S → Option (List ℕ)) (safe : S → ℕ) (first : RecordsFirst) (id : SessionId) where
  same_goes : (one other : Place PlainStored) → Goes one ≡ Goes other → one ≡ other
  same_goes one other is = cc

  may_follow : (one : JournalRun C L S) (next : ReflectorRun C L) → LeavesJournal told safe id one → BeginsOn id one.found next → MayLeave one.run next.opening
  may_follow one next leaves begins =
      let named : one.keeper.id.0 ≡ id.0 = ap (λ (i : SessionId). i.0) leaves.of_session in
      let left = subst (λ (i : List ℕ). IsLeft i (take (safe one.keeper.journal.store) leaves.bytes) one.found one.run) named
      (any_left told safe one.run one.keeper leaves.bytes leaves.held leaves.tells first one.found leaves.are leaves.begins) in
      let same = same_goes left.place begins.0 (sym left.read ∙ begins.1) in
      subst (MayLeave one.run) (ap (λ (p : Place PlainStored). session_of p.state) same ∙ sym begins.2) (left.leaves (leaves.untold left.own left.more left.place.rest left.safe_are left.left_are))

  follow_journals : (one : JournalRun C L S) (rest : List (JournalRun C L S)) → BeginOnJournals told safe id one rest → FollowOn one.run (map (λ (r : JournalRun C L S). r.run) rest)
  follow_journals one [] begin = tt
  follow_journals one (next ∷ rest) begin = (may_follow one next.run begin.0 begin.1, follow_journals next rest begin.2)

  begin_journals : (runs : List (JournalRun C L S)) → KeepOneJournal told safe id runs → BeginAndFollow (map (λ (r : JournalRun C L S). r.run) runs)
  begin_journals [] keep = tt
  begin_journals (one ∷ rest) keep = (keep.0, follow_journals one rest keep.1)

  each_ran : (runs : List (JournalRun C L S)) → AllByRecursion (λ (one : JournalRun C L S). HasRun gives id links one.run) runs → AllByRecursion (HasRun gives id links) (map (λ (r : JournalRun C L S). r.run) runs)
  each_ran [] ran = tt
  each_ran (one ∷ rest) ran = (ran.0, each_ran rest ran.1)

  pub journal_runs : (runs : List (JournalRun C L S)) → AllByRecursion (λ (one : JournalRun C L S). HasRun gives id links one.run) runs → KeepOneJournal told safe id runs → AreRuns gives id links (map (λ (r : JournalRun C L S). r.run) runs)
  journal_runs runs ran keep = record { each_ran = each_ran runs ran; follow = begin_journals runs keep }

pub journal_runs_follow : {C L S : Type 0} (gives : C → ℕ → Type 0) (links : LinksTell L) (told : S → Option (List ℕ)) (safe : S → ℕ) → RecordsFirst → JournalRunsFollow gives links told safe
journal_runs_follow gives links told safe first id runs ran keep = journal_runs gives links told safe first id runs ran keep
