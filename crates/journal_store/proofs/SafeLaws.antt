-- The safe bytes of a store that keeps a session are read as it.
use Rattle.std.proofs.Common.{◌≡◌, ℕ, ◌+◌, ◌<◌, ◌≤◌, List, [], ◌∷◌, ◌++◌, length, take, map, Option, Some, refl, sym, ap, subst, ◌∙◌, append_assoc, append-nil, arith}
use Rattle.std.proofs.lemmas.List.{length-append, take_at}
use Rattle.reflector_core.specs.PlainSession.{PlainSession}
use Rattle.reflector_core.specs.Keeping.{Covers}
use Rattle.session_log.specs.Stored.{PlainStored}
use Rattle.session_journal.specs.declared.change.Change.{Change}
use Rattle.session_journal.specs.Frames.{last_check}
use Rattle.session_journal.specs.Changes.{change_spelling}
use Rattle.session_journal.specs.State.{GoesOn, founded, journal_after}
use Rattle.session_journal.specs.Journal.{Goes, ReadsWhole, first_check, header, journal_check, journal_spelling, read_journal, record_check, records_spelling}
use Rattle.session_journal.specs.Keeper.{Keeps}
use Rattle.session_journal.proofs.JournalLaws.{spelled_both}
use Rattle.session_keeper.specs.Keeping.{IsJournalOf}
use Rattle.session_keeper.specs.declared.keeper.JournalKeeper.{JournalKeeper}
use Rattle.journal_store.specs.Safe.{IsSafelyKept, ReadsAs}

abbrev pub FrontsRead : Type 0
FrontsRead = (id : List ℕ) (changes : List Change) (n : ℕ) → GoesOn founded changes → ReadsWhole id changes n

all_taken : (xs : List ℕ) → take (length xs) xs ≡ xs
all_taken xs = ap (take (length xs)) (sym (append-nil xs)) ∙ take_at xs [] (length xs) refl

-- the records of more changes are no fewer bytes
no_fewer : (before : List ℕ) (first : List Change) (next : Change) (rest : List Change) → length (records_spelling before (first ++ next ∷ [])) ≤ length (records_spelling before (first ++ next ∷ rest))
no_fewer before first next rest =
    let whole : (first ++ next ∷ []) ++ rest ≡ first ++ next ∷ rest = append_assoc first (next ∷ []) rest in
    let split : length (records_spelling before (first ++ next ∷ rest)) ≡ length (records_spelling before (first ++ next ∷ [])) + length (records_spelling (last_check record_check before (map change_spelling (first ++ next ∷ []))) rest) =
    ap (λ (cs : List Change). length (records_spelling before cs)) (sym whole) ∙ ap length (spelled_both before (first ++ next ∷ []) rest)
    ∙ length-append (records_spelling before (first ++ next ∷ [])) (records_spelling (last_check record_check before (map change_spelling (first ++ next ∷ []))) rest) in
    omega (arith, split)

-- nothing is cut off where all bytes are there
none_cut : (before : List ℕ) (whole cut : List Change) (torn : List ℕ)
    → ((next : Change) (rest : List Change) → cut ≡ next ∷ rest → length (records_spelling before whole ++ torn) < length (records_spelling before (whole ++ next ∷ [])))
    → records_spelling before (whole ++ cut) ≡ records_spelling before whole ++ torn → cut ≡ []
none_cut before whole [] torn short spelled = refl
none_cut before whole (next ∷ rest) torn short spelled =
    let long : length (records_spelling before (whole ++ next ∷ rest)) ≡ length (records_spelling before whole ++ torn) = ap length spelled in
    absurd (omega (arith, short next rest refl, long, no_fewer before whole next rest))

whole_read : FrontsRead → (id : List ℕ) (changes : List Change) → GoesOn founded changes → ReadsAs id (journal_spelling id changes) (journal_after founded changes)
whole_read fronts id changes goes =
    let records : List ℕ = records_spelling (first_check id) changes in
    let r = fronts id changes (length records) goes in
    let all : take (length records) records ≡ records = all_taken records in
    let cut : r.cut ≡ [] =
    none_cut (first_check id) r.whole r.cut r.torn r.short (ap (records_spelling (first_check id)) (sym r.all) ∙ sym all ∙ r.spelled) in
    let whole : changes ≡ r.whole = r.all ∙ ap (λ (cs : List Change). r.whole ++ cs) cut ∙ append-nil r.whole in (
      journal_check id r.whole,
      ap (λ (xs : List ℕ). read_journal id (header id ++ xs)) (sym all) ∙ r.read
          ∙ ap (λ (xs : List ℕ). Goes (record { state = journal_after founded r.whole; check = journal_check id r.whole; rest = xs })) (r.none cut)
          ∙ ap (λ (cs : List Change). Goes (record { state = journal_after founded cs; check = journal_check id r.whole; rest = [] })) (sym whole),
    )

pub safe_read : FrontsRead → (id bytes : List ℕ) (safe : ℕ) (state : PlainStored) → Keeps id (Some bytes) safe state → ReadsAs id (take safe bytes) state
safe_read fronts id bytes safe state keeps =
    let spelled : List ℕ = journal_spelling id keeps.changes in
    let told = keeps.safe_are in
    let front : take safe bytes ≡ spelled = ap (take safe) told.1 ∙ take_at spelled told.0 safe (sym told.2) in
    let r = whole_read fronts id keeps.changes keeps.goes in
    (r.0, ap (read_journal id) front ∙ r.1 ∙ ap (λ (s : PlainStored). Goes (record { state = s; check = r.0; rest = [] })) keeps.state_is)

abbrev pub SafeRead : Type 0
SafeRead = (id bytes : List ℕ) (safe : ℕ) (state : PlainStored) → Keeps id (Some bytes) safe state → ReadsAs id (take safe bytes) state

-- a session that is covered is safely kept
pub safely_kept : {S : Type 0} → SafeRead → (told : S → Option (List ℕ)) (safe : S → ℕ) (keeper : JournalKeeper S) (s held : PlainSession) → IsJournalOf told safe keeper held → Covers s held → IsSafelyKept told safe keeper s
safely_kept read told safe keeper s held is covers bytes tells =
    let keeps = subst (λ (b : Option (List ℕ)). Keeps keeper.id.0 b (safe keeper.journal.store) is.state) tells is.is_kept in
    record {
      state = is.state;
      reads = read keeper.id.0 bytes (safe keeper.journal.store) is.state keeps;
      log = ap (λ (x : PlainSession). x.log) is.same ∙ covers.log;
      horizon = subst (λ (x : PlainSession). s.horizon ≤ x.horizon) (sym is.same) covers.ahead;
    }
