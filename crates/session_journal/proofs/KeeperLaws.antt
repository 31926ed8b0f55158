-- What a call of the store leaves of what it keeps.
use Rattle.std.proofs.Common.{◌≡◌, ℕ, ◌+◌, ◌-◌, ◌≤◌, Bool, true, false, List, [], ◌∷◌, ◌++◌, length, take, drop, Option, Some, None, Result, Ok, Err, OnOk, OnErr, refl, sym, ap, subst, ◌∙◌, append_assoc, append-nil, arith}
use Rattle.std.specs.Prelude.{not}
use Rattle.std.proofs.lemmas.List.{take_at, take-append-drop, length-append}
use Rattle.tea_io.specs.Told.{with_more}
use Rattle.tea_io.specs.Sink.{GrowsWithin}
use Rattle.store_io.specs.Store.{IsAllSafe, MayBeTorn, cut_to}
use Rattle.store_io.specs.Stores.{TellsOnly}
use Rattle.session_log.specs.Stored.{PlainStored, IsStored}
use Rattle.session_journal.specs.declared.change.Change.{Change}
use Rattle.session_journal.specs.declared.change.Change.TheVariants.{Came, Reached, Kept}
use Rattle.session_journal.specs.Changes.{change_spelling, IsTypedChange}
use Rattle.session_journal.specs.Frames.{Place}
use Rattle.session_journal.specs.State.{after_change, horizon_after, journal_after, may_come, GoesOn, founded}
use Rattle.session_journal.specs.Journal.{header, first_check, record_check, records_spelling, journal_spelling, journal_check, AreBytes, read_journal, Goes}
use Rattle.session_journal.specs.Keeper.{AreSafe, KeeperState, Keeps, Writes, first_keeper, lease, GoesOnFrom}
use Rattle.session_journal.proofs.JournalLaws.{after_both, spelled_both, check_both, reads_first, is_spelled}
use Rattle.session_journal.proofs.StoredLaws.{stored_after, stored_founded}
use Rattle.session_journal.proofs.FrameLaws.{IsBytes-after}

-- ---- pieces that are written one after the other

-- a first part of a piece is a first part of it with more after it
pub within_first : (old new : Option (List ℕ)) (piece more : List ℕ) → GrowsWithin old new piece → GrowsWithin old new (piece ++ more)
within_first old new piece more grows =
    let front : List ℕ = grows.1.front in
    (grows.0 ++ more, record { front = front; whole = sym (append_assoc front grows.0 more) ∙ ap (λ (xs : List ℕ). xs ++ more) grows.1.whole; written = grows.1.written })

pub more_twice : (old : Option (List ℕ)) (first second : List ℕ) → with_more (with_more old first) second ≡ with_more old (first ++ second)
more_twice None first second = refl
more_twice (Some bytes) first second = ap Some (append_assoc bytes first second)

-- after a whole piece, a first part of the next
pub within_then : (old then_ new : Option (List ℕ)) (piece more : List ℕ) → then_ ≡ with_more old piece → GrowsWithin then_ new more → GrowsWithin old new (piece ++ more)
within_then old then_ new piece more is grows =
    let front : List ℕ = grows.1.front in (
      grows.0,
      record {
        front = piece ++ front;
        whole = append_assoc piece front grows.0 ∙ ap (λ (xs : List ℕ). piece ++ xs) grows.1.whole;
        written = grows.1.written ∙ ap (λ (b : Option (List ℕ)). with_more b front) is ∙ more_twice old piece front;
      },
    )

pub all_written : (old new : Option (List ℕ)) (piece : List ℕ) → new ≡ with_more old piece → GrowsWithin old new piece
all_written old new piece is = ([], record { front = piece; whole = append-nil piece; written = is })

-- after two whole pieces, a first part of the last one where it fails
pub last_part : {T E : Type 0} (result : Result T E) (old first second new : Option (List ℕ)) (a b c : List ℕ) → first ≡ with_more old a → second ≡ with_more first b → OnErr result (GrowsWithin second new c)
    → OnErr result (GrowsWithin old new (a ++ (b ++ c)))
last_part (Ok value) old first second new a b c is is_second part = tt
last_part (Err fault) old first second new a b c is is_second part = within_then old first new a (b ++ c) is (within_then first second new b c is_second part)

-- ---- one more record

goes_more : (s : PlainStored) (changes : List Change) (c : Change) → GoesOn s changes → IsTypedChange c → may_come (journal_after s changes) c ≡ true → GoesOn s (changes ++ c ∷ [])
goes_more s [] c goes typed may = ((typed, may), tt)
goes_more s (first ∷ rest) c goes typed may = (goes.0, goes_more (after_change s first) rest c goes.1 typed may)

-- a record after those of a journal
spelled_more : (id : List ℕ) (changes : List Change) (c : Change) (check : List ℕ) → check ≡ journal_check id changes
    → journal_spelling id changes ++ records_spelling check (c ∷ []) ≡ journal_spelling id (changes ++ c ∷ [])
spelled_more id changes c check e =
    append_assoc (header id) (records_spelling (first_check id) changes) (records_spelling check (c ∷ []))
    ∙ ap (λ (k : List ℕ). header id ++ (records_spelling (first_check id) changes ++ records_spelling k (c ∷ []))) e
    ∙ ap (λ (xs : List ℕ). header id ++ xs) (sym (spelled_both (first_check id) changes (c ∷ [])))

told_more : (spelled piece all : List ℕ) (old new : Option (List ℕ)) → spelled ++ piece ≡ all → TellsOnly old spelled → new ≡ with_more old piece → TellsOnly new all
told_more spelled piece all None new e told is = subst (λ (b : Option (List ℕ)). TellsOnly b all) (sym is) tt
told_more spelled piece all (Some bytes) new e told is = subst (λ (b : Option (List ℕ)). TellsOnly b all) (sym is) (ap (λ (xs : List ℕ). xs ++ piece) told ∙ e)

-- more bytes after those that are safe
safe_still : (spelled piece : List ℕ) (old new : Option (List ℕ)) (safe safe_after : ℕ) → AreSafe spelled old safe → GrowsWithin old new piece → safe_after ≡ safe → AreSafe spelled new safe_after
safe_still spelled piece None new safe safe_after told grows same = subst (λ (b : Option (List ℕ)). AreSafe spelled b safe_after) (sym grows.1.written) tt
safe_still spelled piece (Some bytes) new safe safe_after told grows same =
    let front : List ℕ = grows.1.front in
    let whole : bytes ++ front ≡ spelled ++ (told.0 ++ front) = ap (λ (xs : List ℕ). xs ++ front) told.1 ∙ append_assoc spelled told.0 front in
    subst (λ (b : Option (List ℕ)). AreSafe spelled b safe_after) (sym grows.1.written) (told.0 ++ front, whole, same ∙ told.2)

-- all that is told is safe
safe_now : (spelled : List ℕ) (told : Option (List ℕ)) (safe : ℕ) → TellsOnly told spelled → IsAllSafe told safe → AreSafe spelled told safe
safe_now spelled None safe tells all = tt
safe_now spelled (Some bytes) safe tells all = ([], tells ∙ sym (append-nil spelled), all ∙ ap length tells)

horizon_is : (s : PlainStored) (c : Change) → horizon_after s.horizon c ≡ (after_change s c).horizon
horizon_is s (Came time view what) = refl
horizon_is s (Reached time) = refl
horizon_is s (Kept time bytes) = refl

-- a whole record
pub writes_more : (id : List ℕ) (old new : Option (List ℕ)) (safe safe_after : ℕ) (before after : KeeperState) (c : Change) (s : PlainStored) → Writes id old safe before s → before.shut ≡ false
    → IsTypedChange c → may_come s c ≡ true → new ≡ with_more old (records_spelling before.check (c ∷ []))
    → after.check ≡ record_check before.check (change_spelling c) → after.len ≡ before.len + length (records_spelling before.check (c ∷ [])) → after.horizon ≡ horizon_after s.horizon c → after.dirty ≡ true
    → Writes id new safe_after after (after_change s c)
writes_more id old new safe safe_after before after c s writes unshut typed may is checked counted reached dirty =
    let changes : List Change = writes.changes in
    let piece : List ℕ = records_spelling before.check (c ∷ []) in
    let may_then : may_come (journal_after founded changes) c ≡ true = ap (λ (t : PlainStored). may_come t c) writes.state_is ∙ may in
    let all : journal_spelling id changes ++ piece ≡ journal_spelling id (changes ++ c ∷ []) = spelled_more id changes c before.check writes.check_is in
    record {
      changes = changes ++ c ∷ [];
      goes = goes_more founded changes c writes.goes typed may_then;
      state_is = after_both founded changes (c ∷ []) ∙ ap (λ (t : PlainStored). after_change t c) writes.state_is;
      check_is = checked ∙ ap (λ (k : List ℕ). record_check k (change_spelling c)) writes.check_is ∙ sym (check_both (first_check id) changes (c ∷ []));
      len_is = counted ∙ ap (λ (n : ℕ). n + length piece) writes.len_is ∙ sym (length-append (journal_spelling id changes) piece) ∙ ap length all;
      horizon_is = reached ∙ horizon_is s c;
      told_are = λ _. told_more (journal_spelling id changes) piece (journal_spelling id (changes ++ c ∷ [])) old new all (writes.told_are unshut) is;
      all_safe = λ _ clean. absurd (let e : true ≡ false = sym dirty ∙ clean in cc);
    }

-- what is safe, after more bytes or a part of them
pub keeps_still : (id : List ℕ) (old new : Option (List ℕ)) (safe safe_after : ℕ) (piece : List ℕ) (s : PlainStored) → Keeps id old safe s → GrowsWithin old new piece → safe_after ≡ safe → Keeps id new safe_after s
keeps_still id old new safe safe_after piece s keeps grows same =
    record { changes = keeps.changes; goes = keeps.goes; state_is = keeps.state_is; safe_are = safe_still (journal_spelling id keeps.changes) piece old new safe safe_after keeps.safe_are grows same }

-- the same after all of them
pub keeps_behind : (id : List ℕ) (old new : Option (List ℕ)) (safe safe_after : ℕ) (piece : List ℕ) (s : PlainStored) → Keeps id old safe s → new ≡ with_more old piece → safe_after ≡ safe → Keeps id new safe_after s
keeps_behind id old new safe safe_after piece s keeps is same = keeps_still id old new safe safe_after piece s keeps (all_written old new piece is) same

-- after a sync, or after none where the bytes are the same and no fewer are safe
pub keeps_same : (id : List ℕ) (old new : Option (List ℕ)) (safe safe_after : ℕ) (s : PlainStored) → Keeps id old safe s → new ≡ old → safe_after ≡ safe → Keeps id new safe_after s
keeps_same id old new safe safe_after s keeps is same = subst (λ (t : Option (List ℕ) × ℕ). Keeps id t.0 t.1 s) (λ i. (sym is i, sym same i)) keeps

-- all that is written is safe
pub keeps_written : (id : List ℕ) (told : Option (List ℕ)) (safe : ℕ) (before : KeeperState) (s : PlainStored) → Writes id told safe before s → before.shut ≡ false → IsAllSafe told safe → Keeps id told safe s
keeps_written id told safe before s writes unshut all =
    record { changes = writes.changes; goes = writes.goes; state_is = writes.state_is; safe_are = safe_now (journal_spelling id writes.changes) told safe (writes.told_are unshut) all }

pub keeps_synced : (id : List ℕ) (old new : Option (List ℕ)) (safe safe_after : ℕ) (before : KeeperState) (s : PlainStored) → Writes id old safe before s → before.shut ≡ false → new ≡ old → IsAllSafe new safe_after → Keeps id new safe_after s
keeps_synced id old new safe safe_after before s writes unshut is all =
    subst (λ (b : Option (List ℕ)). Keeps id b safe_after s) (sym is)
    (record { changes = writes.changes; goes = writes.goes; state_is = writes.state_is; safe_are = safe_now (journal_spelling id writes.changes) old safe_after (writes.told_are unshut) (subst (λ (b : Option (List ℕ)). IsAllSafe b safe_after) is all) })

pub writes_synced : (id : List ℕ) (old new : Option (List ℕ)) (safe safe_after : ℕ) (before after : KeeperState) (s : PlainStored) → Writes id old safe before s → before.shut ≡ false → new ≡ old → IsAllSafe new safe_after
    → after.check ≡ before.check → after.len ≡ before.len → after.horizon ≡ before.horizon → Writes id new safe_after after s
writes_synced id old new safe safe_after before after s writes unshut is all checked counted reached = record {
  changes = writes.changes;
  goes = writes.goes;
  state_is = writes.state_is;
  check_is = checked ∙ writes.check_is;
  len_is = counted ∙ writes.len_is;
  horizon_is = reached ∙ writes.horizon_is;
  told_are = λ _. subst (λ (b : Option (List ℕ)). TellsOnly b (journal_spelling id writes.changes)) (sym is) (writes.told_are unshut);
  all_safe = λ _ _. all;
}

-- ---- what is left, what is opened, and what is founded

-- whatever is left that begins with what was safe
pub goes_on_from : (id bytes : List ℕ) (safe : ℕ) (s : PlainStored) (left : List ℕ) → Keeps id (Some bytes) safe s → AreBytes left → MayBeTorn (Some bytes) safe left → GoesOnFrom id s left
goes_on_from id bytes safe s left keeps fits same =
    let spelled : List ℕ = journal_spelling id keeps.changes in
    let tail : List ℕ = drop safe left in
    let front : take safe left ≡ spelled = same ∙ ap (take safe) keeps.safe_are.1 ∙ take_at spelled keeps.safe_are.0 safe (sym keeps.safe_are.2) in
    let split : left ≡ spelled ++ tail = sym (take-append-drop safe left) ∙ ap (λ (xs : List ℕ). xs ++ tail) front in
    let r = reads_first id keeps.changes tail keeps.goes (IsBytes-after left spelled tail split fits) in
    record {
      more = r.more;
      check = journal_check id (keeps.changes ++ r.more);
      torn = r.torn;
      goes = subst (λ (t : PlainStored). GoesOn t r.more) keeps.state_is r.goes;
      read = ap (read_journal id) split ∙ r.read
          ∙ ap (λ (t : PlainStored). Goes (record { state = t; check = journal_check id (keeps.changes ++ r.more); rest = r.torn }))
          (after_both founded keeps.changes r.more ∙ ap (λ (t : PlainStored). journal_after t r.more) keeps.state_is);
    }

cut_tells : (spelled torn bytes : List ℕ) (told new : Option (List ℕ)) (good : ℕ) → bytes ≡ spelled ++ torn → good ≡ length spelled → TellsOnly told bytes → new ≡ cut_to good told → TellsOnly new spelled
cut_tells spelled torn bytes None new good whole count tells is = subst (λ (b : Option (List ℕ)). TellsOnly b spelled) (sym is) tt
cut_tells spelled torn bytes (Some told) new good whole count tells is =
    let left : take good told ≡ spelled = ap (take good) (tells ∙ whole) ∙ take_at spelled torn good (sym count) in
    subst (λ (b : Option (List ℕ)). TellsOnly b spelled) (sym is) left

good_is : (all good spelled torn : ℕ) → all ≡ spelled + torn → good ≡ all - torn → good ≡ spelled
good_is all good spelled torn a b = omega arith

-- a store that was read and then cut to its good bytes
pub writes_opened : (id bytes : List ℕ) (told new : Option (List ℕ)) (safe good : ℕ) (read : Place PlainStored) → TellsOnly told bytes → AreBytes bytes → read_journal id bytes ≡ Goes read → good ≡ length bytes - length read.rest
    → new ≡ cut_to good told → IsAllSafe new safe → Writes id new safe (record { check = read.check; len = good; horizon = read.state.horizon; dirty = false; shut = false }) read.state
writes_opened id bytes told new safe good read tells fits is count cut safe_is =
    let r = is_spelled id bytes fits read is in
    let spelled : List ℕ = journal_spelling id r.changes in
    let long : good ≡ length spelled = good_is (length bytes) good (length spelled) (length read.rest) (ap length r.spelled ∙ length-append spelled read.rest) count in
    record {
      changes = r.changes;
      goes = r.goes;
      state_is = sym r.state;
      check_is = r.check;
      len_is = long;
      horizon_is = refl;
      told_are = λ _. cut_tells spelled read.rest bytes told new good r.spelled long tells cut;
      all_safe = λ _ _. safe_is;
    }

pub keeps_opened : (id bytes : List ℕ) (told new : Option (List ℕ)) (safe good : ℕ) (read : Place PlainStored) → TellsOnly told bytes → AreBytes bytes → read_journal id bytes ≡ Goes read → good ≡ length bytes - length read.rest
    → new ≡ cut_to good told → IsAllSafe new safe → Keeps id new safe read.state
keeps_opened id bytes told new safe good read tells fits is count cut safe_is =
    keeps_written id new safe (record { check = read.check; len = good; horizon = read.state.horizon; dirty = false; shut = false }) read.state (writes_opened id bytes told new safe good read tells fits is count cut safe_is) refl safe_is

-- a journal that has just been founded keeps the session that has
pub writes_founded : (id : List ℕ) → Writes id (Some (header id)) (length (header id)) (first_keeper id) founded
writes_founded id =
    let whole : journal_spelling id [] ≡ header id = append-nil (header id) in
    record {
      changes = [];
      goes = tt;
      state_is = refl;
      check_is = refl;
      len_is = ap length (sym whole);
      horizon_is = refl;
      told_are = λ _. sym whole;
      all_safe = λ _ _. refl;
    }

pub keeps_founded : (id : List ℕ) → Keeps id (Some (header id)) (length (header id)) founded
keeps_founded id = keeps_written id (Some (header id)) (length (header id)) (first_keeper id) founded (writes_founded id) refl refl

-- what is read may be opened
pub read_stored : (id bytes : List ℕ) → AreBytes bytes → (read : Place PlainStored) → read_journal id bytes ≡ Goes read → IsStored read.state
read_stored id bytes fits read is =
    let r = is_spelled id bytes fits read is in
    subst IsStored (sym r.state) (stored_after founded r.changes stored_founded r.goes)

-- a lease is no lower than its tick
pub lease_reaches : {T E : Type 0} (result : Result T E) (time horizon : ℕ) → OnOk result (horizon ≡ lease time) → OnOk result (time ≤ horizon)
lease_reaches (Ok value) time horizon is = omega arith
lease_reaches (Err fault) time horizon is = tt

-- what is not is false
pub is_false : (b : Bool) → not b ≡ true → b ≡ false
is_false true is = absurd (cc (is))
is_false false is = refl
