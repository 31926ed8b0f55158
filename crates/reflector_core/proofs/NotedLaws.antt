-- The table of a log that goes on.
use Rattle.std.proofs.Common.{ℕ, ◌+◌, ◌<◌, ◌≡◌, List, [], ◌∷◌, ◌++◌, length, refl, sym}
use Rattle.tea_base.specs.declared.entry.Entry.{Entry}
use Rattle.tea_base.specs.declared.entry.What.{What}
use Rattle.tea_base.specs.Limits.{most_entries}
use Rattle.session_log.specs.LogState.{next_entry, with_next}
use Rattle.resend_table.specs.declared.stand.Kind.{Kind}
use Rattle.resend_table.specs.declared.table.Resend.{Resend}
use Rattle.resend_table.specs.Stands.{entry_kind, IsNotedAs}
use Rattle.resend_table.specs.Noted.{HasNoted}

-- where the entry that was appended is noted, by the seq that the log gave it
pub noted_append : (before after : Resend) (log old new : List Entry) (seq time view : ℕ) (what : What) (kind : Kind) → HasNoted before log → old ≡ log → length log < most_entries → seq ≡ length old + 1 → new ≡ with_next old time view what → entry_kind what ≡ kind
    → ((l : List Entry) → (entry : Entry) → HasNoted before l → length l < most_entries → IsNotedAs seq view kind entry → HasNoted after (l ++ entry ∷ []))
    → HasNoted after new
noted_append before after log old new seq time view what kind told same short numbered pushed is notes =
    rw (pushed, same) (notes log (next_entry log time view what) told short (sym (rw same at numbered), refl, is))
