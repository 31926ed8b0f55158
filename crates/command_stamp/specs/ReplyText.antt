-- The text of replies.
use Rattle.std.specs.Prelude.{ℕ, List, [], ◌∷◌, ◌++◌, length, Option, Some, None, codes}
use Rattle.text_lines.specs.Lines.{spell_numbers}
use Rattle.wire_frames.specs.declared.start.Base.{Base}
use Rattle.reflector_core.specs.declared.request.Reply.{Reply}
use Rattle.reflector_core.specs.declared.request.Reply.TheVariants.{Joined, Stamped, Again, Ticked, Left, Kept, Batch, Refused}
use Rattle.reflector_core.specs.declared.request.Refusal.{Refusal}
use Rattle.reflector_core.specs.declared.request.Refusal.TheVariants.{Stale, TooLong, Differs, Gap, LogFull, TimeEnd, ViewsFull, BadView, Ahead, Older, NoSuchSeq}

-- what a base adds to the line of a Join
abbrev pub base_part : Option Base → List ℕ
base_part None = []
base_part (Some base) = spell_numbers (codes " base") (base.time ∷ [])

-- what a tick adds to the line of a Batch
abbrev pub tick_part : Option ℕ → List ℕ
tick_part None = codes " more"
tick_part (Some time) = spell_numbers (codes " tick") (time ∷ [])

-- what a refusal says, and the value that it carries
abbrev pub refusal_part : Refusal → List ℕ
refusal_part (Stale current) = spell_numbers (codes " stale") (current ∷ [])
refusal_part (TooLong len) = spell_numbers (codes " too-long") (len ∷ [])
refusal_part (Differs seq) = spell_numbers (codes " differs") (seq ∷ [])
refusal_part (Gap expected) = spell_numbers (codes " gap") (expected ∷ [])
refusal_part (LogFull entries bytes) = spell_numbers (codes " log-full") (entries ∷ bytes ∷ [])
refusal_part (TimeEnd horizon) = spell_numbers (codes " time-end") (horizon ∷ [])
refusal_part (ViewsFull here) = spell_numbers (codes " views-full") (here ∷ [])
refusal_part BadView = codes " bad-view"
refusal_part (Ahead horizon) = spell_numbers (codes " ahead") (horizon ∷ [])
refusal_part (Older kept) = spell_numbers (codes " older") (kept ∷ [])
refusal_part (NoSuchSeq len) = spell_numbers (codes " no-such-seq") (len ∷ [])

-- what a reply says: one row for each
abbrev pub said_of : Reply → List ℕ
said_of (Joined seq time last from base) =
    spell_numbers (codes "joined") (seq ∷ time ∷ last ∷ from ∷ []) ++ base_part base
said_of (Stamped seq time) = spell_numbers (codes "stamped") (seq ∷ time ∷ [])
said_of (Again seq time) = spell_numbers (codes "again") (seq ∷ time ∷ [])
said_of (Ticked time) = spell_numbers (codes "ticked") (time ∷ [])
said_of (Left seq time) = spell_numbers (codes "left") (seq ∷ time ∷ [])
said_of Kept = codes "kept"
said_of (Batch entries tick) = spell_numbers (codes "batch") (length entries ∷ []) ++ tick_part tick
said_of (Refused refusal) = codes "refused" ++ refusal_part refusal

-- the line of a reply
abbrev pub reply_line : Reply → List ℕ
reply_line reply = said_of reply ++ codes "\n"

-- the lines of replies
abbrev pub text_of : List Reply → List ℕ
text_of [] = []
text_of (reply ∷ replies) = reply_line reply ++ text_of replies
