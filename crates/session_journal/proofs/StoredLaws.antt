-- After changes that may come a session is one that can be stored, and so opened again.
use Rattle.std.proofs.Common.{◌≡◌, ℕ, ◌+◌, ◌^◌, ◌<◌, ◌≤◌, max, Bool, true, false, ◌&&◌, List, [], ◌∷◌, length, Option, Some, None, refl, arith}
use Rattle.std.proofs.lemmas.Bool.Decides.{nat_tests}
use Rattle.tea_base.specs.declared.entry.What.{What}
use Rattle.tea_base.specs.Legal.{MayFollow}
use Rattle.tea_base.specs.Limits.{time_limit, most_snapshot}
use Rattle.tea_base.specs.Readings.{here_count, last_time}
use Rattle.tea_base.proofs.LogLaws.{last_time-push, IsLegal-push}
use Rattle.session_log.specs.LogState.{next_entry, with_next}
use Rattle.session_log.specs.Legality.{may_follow}
use Rattle.session_log.specs.Stored.{PlainStored, plain_of, MayBeKept, IsStored}
use Rattle.session_log.specs.declared.stored.Kept.{Kept}
use Rattle.session_log.proofs.LegalityLaws.{may_follow-Decides}
use Rattle.session_journal.specs.declared.change.Change.{Change}
use Rattle.session_journal.specs.declared.change.Change.TheVariants as change
use Rattle.session_journal.specs.Changes.{IsTypedChange}
use Rattle.session_journal.specs.State.{founded, after_change, journal_after, has_room, may_add, may_come, GoesOn}

kept_later : (low high : ℕ) (kept : Option Kept) → low ≤ high → MayBeKept low kept → MayBeKept high kept
kept_later low high None le may = tt
kept_later low high (Some kept) le may = (omega (arith, may.0), may.1)

both : (a b : Bool) → (a && b) ≡ true → (a ≡ true) × (b ≡ true)
both true true e = (refl, refl)
both true false e = absurd cc
both false b e = absurd cc

room_is : (s : PlainStored) → has_room s ≡ true → s.horizon + here_count s.log < time_limit
room_is s e = grind (arith, nat_tests)

stored_entry : (s : PlainStored) (time view : ℕ) (what : What) → IsStored s → view < 2 ^ 32 → may_follow s.log (next_entry s.log time view what) ≡ true
    → has_room (plain_of (with_next s.log time view what) (max s.horizon time) s.kept) ≡ true → IsStored (plain_of (with_next s.log time view what) (max s.horizon time) s.kept)
stored_entry s time view what is bound follows room =
    let may : MayFollow s.log (next_entry s.log time view what) = (may_follow-Decides s.log (next_entry s.log time view what) refl bound).0 follows in
    let last : last_time (with_next s.log time view what) ≡ time = last_time-push s.log (next_entry s.log time view what) in
    record {
      legal = IsLegal-push s.log (next_entry s.log time view what) is.legal may;
      latest = omega (arith, last);
      bounded = room_is (plain_of (with_next s.log time view what) (max s.horizon time) s.kept) room;
      kept = kept_later s.horizon (max s.horizon time) s.kept (omega arith) is.kept;
    }

stored_step : (s : PlainStored) (c : Change) → IsStored s → IsTypedChange c → may_come s c ≡ true → IsStored (after_change s c)
stored_step s (change.Came time view what) is typed may =
    let b = both (may_add s (change.Came time view what)) (has_room (after_change s (change.Came time view what))) may in
    stored_entry s time view what is typed.1.0 b.0 b.1
stored_step s (change.Reached time) is typed may =
    let b = both (may_add s (change.Reached time)) (has_room (after_change s (change.Reached time))) may in
    let rises : s.horizon < time = grind (arith, nat_tests) in
    record {
      legal = is.legal;
      latest = omega (arith, is.latest);
      bounded = room_is (plain_of s.log time s.kept) b.1;
      kept = kept_later s.horizon time s.kept (omega arith) is.kept;
    }
stored_step s (change.Kept time bytes) is typed may =
    let b = both (may_add s (change.Kept time bytes)) (has_room (after_change s (change.Kept time bytes))) may in
    let past : time ≤ s.horizon = grind (arith, nat_tests) in
    let short : length bytes ≤ most_snapshot = grind (arith, nat_tests) in
    record { legal = is.legal; latest = is.latest; bounded = is.bounded; kept = (past, short) }

pub stored_after : (s : PlainStored) (changes : List Change) → IsStored s → GoesOn s changes → IsStored (journal_after s changes)
stored_after s [] is goes = is
stored_after s (c ∷ rest) is goes = stored_after (after_change s c) rest (stored_step s c is goes.0.0 goes.0.1) goes.1

pub stored_founded : IsStored founded
stored_founded = record { legal = tt; latest = omega arith; bounded = omega arith; kept = tt }
